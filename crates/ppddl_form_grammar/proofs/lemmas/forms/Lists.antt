-- Typed lists of variables: what is accepted is derived, and what is derived is accepted.
use Rattle.std.proofs.Common.{◌≡◌, ◌≢◌, ◌⊎◌, inl, inr, ℕ, ◌-◌, List, [], ◌∷◌, ◌++◌, length, map, get_or, Bool, true, false, ◌==◌, Result, Ok, All, refl, sym, ap, subst, ◌∙◌, arith, append_assoc, length-append, true≢false}
use Rattle.std.specs.Prelude.{replicate}
use Rattle.std.specs.List.{list_any}
use Rattle.std.proofs.lemmas.List.{append-nil, length-replicate}
use Rattle.std.proofs.lemmas.List.Folds.{list_any_at, list_any_none}
use Rattle.std.proofs.lemmas.List.Quantifiers.{all_pairs_push}
use Rattle.std.proofs.lemmas.Bool.{eq-eqb, ne_eqb, false_from_ne_true}
use Rattle.std.proofs.lemmas.Grind.{common_steps}
use Rattle.plain_list.specs.Results.{◌>>=◌}
use Rattle.plain_list.proofs.Results.{bind_ok, ok_is, test_passes, test_fails}
use Rattle.ppddl_lex.specs.declared.keywords.TheConstants.{EITHER}
use Rattle.ppddl_lex.specs.Words.{is_variable}
use Rattle.ppddl_model.specs.declared.tree.Param.{Param}
use Rattle.ppddl_model.specs.WellFormed.{is_type}
use Rattle.ppddl_forms.specs.names.Declarations.{Declared}
use Rattle.ppddl_cursor.specs.declared.place.Place.{Place}
use Rattle.ppddl_cursor.specs.Ahead.{same}
use Rattle.ppddl_cursor.specs.Forms.{Form, Forms, lone, group, none, more}
use Rattle.ppddl_cursor.specs.Reading.{Fault, fails}
use Rattle.ppddl_cursor.specs.Sequences.{of_word, word_or_group, in_group, group_with, one_then, each, adding, checking, keyword}
use Rattle.ppddl_forms.specs.declared.symbols.TheConstants.{DASH, OBJECT}
use Rattle.ppddl_forms.specs.Sequences.{or_word, many_behind, each_to}
use Rattle.ppddl_forms.specs.Words.{name, variable}
use Rattle.ppddl_forms.specs.Variables.{seen_type, type_name, one_type, type_names, either_type, types_of, Listed, all_typed, with_types, at_dash, new_variable, other_variable, with_names, listed_by, listed, params_of, all_listed, variables, variable_list}
use Rattle.ppddl_form_grammar.specs.forms.Words as word
use Rattle.ppddl_form_grammar.specs.forms.Words.{Each, IsVariable, headed}
use Rattle.ppddl_form_grammar.specs.forms.Lists as by
use Rattle.ppddl_form_grammar.specs.forms.Lists.{param_of, AreDistinct, names_of, IsType, AreTypes, Typed, Behind, IsVariableList}
use Rattle.ppddl_form_grammar.proofs.lemmas.forms.Parts.{by_test, on_true, on_false, same_word, is_same, name_is, keyword_ok, group_ok, variable_derived, variable_accepted}

-- ---- lists of forms of one kind

module _ {A : Type 0} (read : Form → Result A Fault) (Spells : Form → A → Type 0) where
  pub each_derived : ((f : Form) (x : A) → read f ≡ Ok x → Spells f x) → (fs : Forms) (b : Place) (seen all : List A)
      → each (adding (λ _. read)) seen fs b ≡ Ok all → (xs : List A) × (seen ++ xs ≡ all) × Each Spells fs xs
  unfolding each adding
  each_derived spelled none b seen all is = ([], append-nil seen ∙ cc, word.no_form)
  each_derived spelled (more f fs) b seen all is =
      let r = bind_ok (read f >>= λ x. Ok (seen ++ x ∷ [])) (λ t. each (adding (λ _. read)) t fs b) all is in
      let q = bind_ok (read f) (λ x. Ok (seen ++ x ∷ [])) r.0 r.1 in
      let e : seen ++ q.0 ∷ [] ≡ r.0 = cc q.2 in
      let rest = each_derived spelled fs b r.0 all r.2 in
      (q.0 ∷ rest.0, sym (append_assoc seen (q.0 ∷ []) rest.0) ∙ ap (λ xs. xs ++ rest.0) e ∙ rest.1, word.one_more (spelled f q.0 q.1) rest.2)

  pub each_accepted : ((f : Form) (x : A) → Spells f x → read f ≡ Ok x) → (fs : Forms) (xs : List A) → Each Spells fs xs → (b : Place) (seen : List A)
      → each (adding (λ _. read)) seen fs b ≡ Ok (seen ++ xs)
  unfolding each adding
  each_accepted reads fs xs word.no_form b seen = ap (λ (ys : List A). Ok ys) (sym (append-nil seen))
  each_accepted reads fs xs (word.one_more {f = f} {fs = gs} {x = x} {xs = ys} is others) b seen =
      rw (reads f x is) (each_accepted reads gs ys others b (seen ++ x ∷ []) ∙ ap (λ (zs : List A). Ok zs) (append_assoc seen (x ∷ []) ys))

module _ (d : Declared) where
  same_as : (v w : List ℕ) → w ≡ v → same v w ≡ true
  same_as v w is = subst (λ u. same v u ≡ true) (sym is) (is_same v)

  -- ---- types

  type_derived : (f : Form) (w : List ℕ) → type_name d f ≡ Ok w → IsType d f w
  unfolding type_name checking
  type_derived f w is =
      let r = bind_ok (name f) (seen_type d) w is in
      name_is (λ g n. seen_type d n ≡ Ok w → IsType d g w)
      (λ v a named seen. let t = test_passes (is_type d.types v) v _ w seen in subst (λ u. IsType d (lone v a) u) t.1 (by.known (word.name named) t.0))
      f r.0 r.1 r.2

  type_accepted : (f : Form) (w : List ℕ) → IsType d f w → type_name d f ≡ Ok w
  unfolding type_name checking name of_word
  type_accepted f w (by.known (word.name named) known) = rw (named, known) refl

  types_derived : (f : Form) (kinds : List (List ℕ)) → types_of d f ≡ Ok kinds → AreTypes d f kinds
  unfolding types_of word_or_group one_type either_type group_with in_group one_then checking type_names many_behind
  types_derived (lone w a) kinds is =
      let r = bind_ok (type_name d (lone w a)) (λ kind. Ok (kind ∷ [])) kinds is in
      subst (AreTypes d (lone w a)) (cc r.2) (by.one (type_derived (lone w a) r.0 r.1))
  types_derived (group a none b) kinds is = absurd cc
  types_derived (group a (more f none) b) kinds is = let r = bind_ok (keyword EITHER.now f) (λ u. fails _ b) kinds is in absurd (let bad = r.2 in cc)
  types_derived (group a (more f (more g fs)) b) kinds is =
      let r = bind_ok (keyword EITHER.now f) (λ u. type_name d g >>= λ kind. type_names d (kind ∷ []) fs b) kinds is in
      let q = bind_ok (type_name d g) (λ kind. type_names d (kind ∷ []) fs b) kinds r.2 in
      let s = each_derived (type_name d) (IsType d) type_derived fs b (q.0 ∷ []) kinds q.2 in
      keyword_ok EITHER.now (λ h. AreTypes d (group a (more h (more g fs)) b) kinds)
      (λ c. subst (λ ks. AreTypes d (headed a c EITHER.now (more g fs) b) ks) s.1 (by.either (word.one_more (type_derived g q.0 q.1) s.2)))
      f r.0 r.1

  types_accepted : (f : Form) (kinds : List (List ℕ)) → AreTypes d f kinds → types_of d f ≡ Ok kinds
  unfolding types_of word_or_group one_type either_type group_with in_group one_then checking type_names many_behind keyword
  types_accepted f kinds (by.one {kind = kind} (by.known (word.name {w = w} {a = a} named) known)) = rw (type_accepted (lone w a) w (by.known (word.name named) known)) refl
  types_accepted f kinds (by.either {b = b} {kind = kind} {kinds = others} (word.one_more {f = g} {fs = gs} is rest)) =
      rw (type_accepted g kind is) (each_accepted (type_name d) (IsType d) type_accepted gs others rest b (kind ∷ []))

  -- ---- variables

  abbrev so : List (List ℕ) → List (List (List ℕ)) → Bool → Listed
  so names kinds is_typing = record { names = names; kinds = kinds; is_typing = is_typing }

  abbrev Run : Listed → Forms → Place → Result (List Param) Fault
  Run s = each_to (listed d) all_listed s

  abbrev all_of : List (List ℕ) → List (List ℕ) → List Param
  all_of ws kinds = map (λ v. param_of v kinds) ws

  repeated : (ws : List (List ℕ)) (kinds : List (List ℕ)) → params_of ws (replicate (length ws) kinds) ≡ all_of ws kinds
  repeated [] kinds = refl
  repeated (w ∷ ws) kinds = ap (λ ps. param_of w kinds ∷ ps) (repeated ws kinds)

  filled : (ns ws : List (List ℕ)) (ks : List (List (List ℕ))) (kinds : List (List ℕ)) → length ks ≡ length ns
      → params_of (ns ++ ws) (ks ++ replicate (length ws) kinds) ≡ params_of ns ks ++ all_of ws kinds
  filled [] ws [] kinds count = repeated ws kinds
  filled [] ws (k ∷ ks) kinds count = absurd (omega (arith, count))
  filled (n ∷ ns) ws [] kinds count = absurd (omega (arith, count))
  filled (n ∷ ns) ws (k ∷ ks) kinds count = ap (λ ps. param_of n k ∷ ps) (filled ns ws ks kinds (omega (arith, count)))

  -- those that wait
  waiting : (ns ws : List (List ℕ)) (ks : List (List (List ℕ))) → length ks ≡ length ns → length (ns ++ ws) - length ks ≡ length ws
  waiting ns ws ks count = omega (arith, count, length-append ns ws)

  names_filled : (ns : List (List ℕ)) (ks : List (List (List ℕ))) → length ks ≡ length ns → names_of (params_of ns ks) ≡ ns
  names_filled [] [] count = refl
  names_filled [] (k ∷ ks) count = refl
  names_filled (n ∷ ns) [] count = absurd (omega (arith, count))
  names_filled (n ∷ ns) (k ∷ ks) count = ap (λ ps. n ∷ ps) (names_filled ns ks (omega (arith, count)))

  apart_from_unseen : (seen : List (List ℕ)) (v : List ℕ) → list_any (same v) seen ≡ false → All (λ w. w ≢ v) seen
  apart_from_unseen seen v unseen k x lt is = true≢false (sym (list_any_at (same v) seen k x lt (same_as v _ is)) ∙ unseen)

  unseen_from_apart : (seen : List (List ℕ)) (v : List ℕ) → All (λ w. w ≢ v) seen → list_any (same v) seen ≡ false
  unseen_from_apart seen v apart = list_any_none (same v) seen (λ k x lt. false_from_ne_true _ (λ is. apart k x lt (sym (same_word v _ is))))

  -- one variable more
  other_ok : (seen : List (List ℕ)) (f : Form) (grown : List (List ℕ)) → adding other_variable seen f ≡ Ok grown
      → (v : List ℕ) × IsVariable f v × (list_any (same v) seen ≡ false) × (seen ++ v ∷ [] ≡ grown)
  unfolding adding other_variable checking
  other_ok seen f grown is =
      let r = bind_ok (variable f >>= new_variable seen) (λ x. Ok (seen ++ x ∷ [])) grown is in
      let q = bind_ok (variable f) (new_variable seen) r.0 r.1 in
      let t = test_fails (list_any (same q.0.text) seen) _ (Ok q.0.text) r.0 q.2 in
      let e : q.0.text ≡ r.0 = ok_is {E = Fault} q.0.text r.0 t.1 in
      (q.0.text, variable_derived f q.0 q.1, t.0, ap (λ v. seen ++ v ∷ []) e ∙ ok_is {E = Fault} (seen ++ r.0 ∷ []) grown r.2)

  other_accepted : (seen : List (List ℕ)) (f : Form) (v : List ℕ) → IsVariable f v → list_any (same v) seen ≡ false → adding other_variable seen f ≡ Ok (seen ++ v ∷ [])
  unfolding adding other_variable checking
  other_accepted seen f v is unseen =
      let n = variable_accepted f v is in
      let e : list_any (same n.0.text) seen ≡ false = ap (λ w. list_any (same w) seen) n.2 ∙ unseen in
      rw (n.1, e) (ap (λ w. Ok (seen ++ w ∷ [])) n.2)

  -- a variable is no dash
  no_dash : (w : List ℕ) → is_variable w ≡ true → same w DASH.now ≡ false
  no_dash w is = by_test (same w DASH.now)
      (λ yes. absurd (let bad : is_variable DASH.now ≡ true = subst (λ v. is_variable v ≡ true) (same_word w DASH.now yes) is in cc))
      (λ no. no)

  -- what is read of one form where no types are next
  abbrev Next : List (List ℕ) → List (List (List ℕ)) → Form → Listed → Type 0
  Next names ks f s =
      ((length ks ≢ length names) × ((a : Place) × (f ≡ lone DASH.now a)) × (so names ks true ≡ s))
      ⊎ ((v : List ℕ) × IsVariable f v × (list_any (same v) names ≡ false) × (so (names ++ v ∷ []) ks false ≡ s))

  at_other : (names : List (List ℕ)) (ks : List (List (List ℕ))) (f : Form) (s : Listed)
      → checking (λ vs. Ok (with_names (so names ks false) vs)) (adding other_variable names) f ≡ Ok s → Next names ks f s
  unfolding checking
  at_other names ks f s is =
      let r = bind_ok (adding other_variable names f) (λ vs. Ok (with_names (so names ks false) vs)) s is in
      let o = other_ok names f r.0 r.1 in
      inr (o.0, o.1, o.2, ap (λ vs. so vs ks false) o.3 ∙ ok_is {E = Fault} (so r.0 ks false) s r.2)

  next_ok : (names : List (List ℕ)) (ks : List (List (List ℕ))) (f : Form) (s : Listed) → listed d (so names ks false) f ≡ Ok s → Next names ks f s
  unfolding listed listed_by or_word
  next_ok names ks (lone w a) s is = by_test (same w DASH.now)
      (λ yes.
      let t = test_fails (length ks == length names) _ (Ok (so names ks true)) s (on_true (same w DASH.now) (at_dash (so names ks false) a) _ (Ok s) yes is) in
      inl ((λ e. true≢false (sym (eq-eqb (length ks) (length names) e) ∙ t.0)), (a, ap (λ v. lone v a) (same_word w DASH.now yes)), ok_is {E = Fault} (so names ks true) s t.1))
      (λ no. at_other names ks (lone w a) s (on_false (same w DASH.now) (at_dash (so names ks false) a) _ (Ok s) no is))
  next_ok names ks (group a gs b) s is = at_other names ks (group a gs b) s is

  -- ---- what is accepted is derived: where no variable waits, where some do, and behind a `-`

  abbrev Whole : List (List ℕ) → List (List (List ℕ)) → List Param → List Param → Type 0
  Whole ns ks ps all = (params_of ns ks ++ ps ≡ all) × AreDistinct (names_of all)

  distinct_push : (names : List (List ℕ)) (v : List ℕ) → AreDistinct names → list_any (same v) names ≡ false → AreDistinct (names ++ v ∷ [])
  distinct_push names v distinct unseen = all_pairs_push (λ u w. u ≢ w) names v distinct (apart_from_unseen names v unseen)

  names_all : (ns ws : List (List ℕ)) (ks : List (List (List ℕ))) (kinds : List (List ℕ)) → length ks ≡ length ns → names_of (params_of ns ks ++ all_of ws kinds) ≡ ns ++ ws
  names_all [] [] [] kinds count = refl
  names_all [] (w ∷ ws) [] kinds count = ap (λ vs. w ∷ vs) (names_all [] ws [] kinds refl)
  names_all [] ws (k ∷ ks) kinds count = absurd (omega (arith, count))
  names_all (n ∷ ns) ws [] kinds count = absurd (omega (arith, count))
  names_all (n ∷ ns) ws (k ∷ ks) kinds count = ap (λ vs. n ∷ vs) (names_all ns ws ks kinds (omega (arith, count)))

  all_of_push : (vs : List (List ℕ)) (u : List ℕ) (kinds : List (List ℕ)) (ps : List Param) → all_of (vs ++ u ∷ []) kinds ++ ps ≡ all_of vs kinds ++ param_of u kinds ∷ ps
  all_of_push [] u kinds ps = refl
  all_of_push (v ∷ vs) u kinds ps = ap (λ qs. param_of v kinds ∷ qs) (all_of_push vs u kinds ps)

  -- those that wait get these types
  typed_now : (ns ws : List (List ℕ)) (ks : List (List (List ℕ))) (kinds : List (List ℕ)) → length ks ≡ length ns
      → params_of (ns ++ ws) (all_typed (so (ns ++ ws) ks false) kinds) ≡ params_of ns ks ++ all_of ws kinds
  typed_now ns ws ks kinds count = ap (λ n. params_of (ns ++ ws) (ks ++ replicate n kinds)) (waiting ns ws ks count) ∙ filled ns ws ks kinds count

  typed_count : (ns ws : List (List ℕ)) (ks : List (List (List ℕ))) (kinds : List (List ℕ)) → length ks ≡ length ns
      → length (all_typed (so (ns ++ ws) ks false) kinds) ≡ length (ns ++ ws)
  typed_count ns ws ks kinds count =
      omega (arith, length-append ks (replicate (length (ns ++ ws) - length ks) kinds), length-replicate (length (ns ++ ws) - length ks) kinds, length-append ns ws, count)

  mutual
    unfolding each_to listed listed_by checking

    none_waits : (fs : Forms) (b : Place) (ns : List (List ℕ)) (ks : List (List (List ℕ))) (all : List Param) → length ks ≡ length ns → AreDistinct ns
        → Run (so ns ks false) fs b ≡ Ok all → (ps : List Param) × Typed d fs ps × Whole ns ks ps all
    none_waits none b ns ks all count distinct is =
        let e : params_of ns (all_typed (so ns ks false) (OBJECT.now ∷ [])) ≡ all = ok_is {E = Fault} _ all is in
        let same_names = append-nil ns in
        let here : params_of ns (all_typed (so ns ks false) (OBJECT.now ∷ [])) ≡ params_of ns ks ++ []
        = subst (λ vs. params_of vs (all_typed (so vs ks false) (OBJECT.now ∷ [])) ≡ params_of ns ks ++ []) same_names (typed_now ns [] ks (OBJECT.now ∷ []) count) in
        ([], by.no_variable, (sym here ∙ e, subst (λ ps. AreDistinct (names_of ps)) (sym (append-nil (params_of ns ks)) ∙ sym here ∙ e) (subst AreDistinct (sym (names_filled ns ks count)) distinct)))
    none_waits (more f fs) b ns ks all count distinct is =
        let r = bind_ok (listed d (so ns ks false) f) (λ t. Run t fs b) all is in
        elim (next_ok ns ks f r.0 r.1) [
          | inl dash ↦ absurd (dash.0 count)
          | inr v ↦
              let on : Run (so (ns ++ v.0 ∷ []) ks false) fs b ≡ Ok all = ap (λ t. Run t fs b) v.3 ∙ r.2 in
              let w = some_wait fs b ns [] v.0 ks all count (distinct_push ns v.0 distinct v.2) on in
              (param_of v.0 w.0 ∷ w.1, by.first v.1 w.2, w.3)
        ]

    -- the variables ws and v wait
    some_wait : (fs : Forms) (b : Place) (ns ws : List (List ℕ)) (v : List ℕ) (ks : List (List (List ℕ))) (all : List Param) → length ks ≡ length ns → AreDistinct (ns ++ (ws ++ v ∷ []))
        → Run (so (ns ++ (ws ++ v ∷ [])) ks false) fs b ≡ Ok all
        → (kinds : List (List ℕ)) × (ps : List Param) × Behind d kinds fs ps × Whole ns ks (all_of (ws ++ v ∷ []) kinds ++ ps) all
    some_wait none b ns ws v ks all count distinct is =
        let vs = ws ++ v ∷ [] in
        let kinds = OBJECT.now ∷ [] in
        let e : params_of (ns ++ vs) (all_typed (so (ns ++ vs) ks false) kinds) ≡ all = ok_is {E = Fault} _ all is in
        let here : params_of ns ks ++ all_of vs kinds ≡ all = sym (typed_now ns vs ks kinds count) ∙ e in (
          kinds,
          [],
          by.untyped,
          (
            ap (λ ps. params_of ns ks ++ ps) (append-nil (all_of vs kinds)) ∙ here,
            subst (λ ps. AreDistinct (names_of ps)) here (subst AreDistinct (sym (names_all ns vs ks kinds count)) distinct),
          ),
        )
    some_wait (more f fs) b ns ws v ks all count distinct is =
        let vs = ws ++ v ∷ [] in
        let r = bind_ok (listed d (so (ns ++ vs) ks false) f) (λ t. Run t fs b) all is in
        elim (next_ok (ns ++ vs) ks f r.0 r.1) [
          | inl dash ↦
              let on : Run (so (ns ++ vs) ks true) fs b ≡ Ok all = ap (λ t. Run t fs b) dash.2 ∙ r.2 in
              let t = typing fs b ns vs ks all count distinct on in
              (t.0, t.1, subst (λ g. Behind d t.0 (more g fs) t.1) (sym dash.1.1) (t.2 dash.1.0), t.3)
          | inr u ↦
              let same_names : (ns ++ vs) ++ u.0 ∷ [] ≡ ns ++ (vs ++ u.0 ∷ []) = append_assoc ns vs (u.0 ∷ []) in
              let on : Run (so (ns ++ (vs ++ u.0 ∷ [])) ks false) fs b ≡ Ok all = ap (λ ms. Run (so ms ks false) fs b) (sym same_names) ∙ ap (λ t. Run t fs b) u.3 ∙ r.2 in
              let w = some_wait fs b ns vs u.0 ks all count (subst AreDistinct same_names (distinct_push (ns ++ vs) u.0 distinct u.2)) on in
              let parted : all_of (vs ++ u.0 ∷ []) w.0 ++ w.1 ≡ all_of vs w.0 ++ param_of u.0 w.0 ∷ w.1 = all_of_push vs u.0 w.0 w.1 in
              (w.0, param_of u.0 w.0 ∷ w.1, by.another u.1 w.2, (ap (λ ps. params_of ns ks ++ ps) (sym parted) ∙ w.3.0, w.3.1))
        ]

    -- the types of the variables vs are next
    typing : (fs : Forms) (b : Place) (ns vs : List (List ℕ)) (ks : List (List (List ℕ))) (all : List Param) → length ks ≡ length ns → AreDistinct (ns ++ vs)
        → Run (so (ns ++ vs) ks true) fs b ≡ Ok all
        → (kinds : List (List ℕ)) × (ps : List Param) × ((a : Place) → Behind d kinds (more (lone DASH.now a) fs) ps) × Whole ns ks (all_of vs kinds ++ ps) all
    typing none b ns vs ks all count distinct is = absurd cc
    typing (more f fs) b ns vs ks all count distinct is =
        let r = bind_ok (types_of d f >>= λ kinds. Ok (with_types (so (ns ++ vs) ks true) kinds)) (λ t. Run t fs b) all is in
        let q = bind_ok (types_of d f) (λ kinds. Ok (with_types (so (ns ++ vs) ks true) kinds)) r.0 r.1 in
        let ks' : List (List (List ℕ)) = all_typed (so (ns ++ vs) ks false) q.0 in
        let on : Run (so (ns ++ vs) ks' false) fs b ≡ Ok all = ap (λ t. Run t fs b) (ok_is {E = Fault} (so (ns ++ vs) ks' false) r.0 q.2) ∙ r.2 in
        let rest = none_waits fs b (ns ++ vs) ks' all (typed_count ns vs ks q.0 count) distinct on in (
          q.0,
          rest.0,
          (λ a. by.typed (types_derived f q.0 q.1) rest.1),
          (sym (append_assoc (params_of ns ks) (all_of vs q.0) rest.0) ∙ ap (λ ps. ps ++ rest.0) (sym (typed_now ns vs ks q.0 count)) ∙ rest.2.0, rest.2.1),
        )

  -- ---- and what is derived is accepted

  apart_from : (seen : List (List ℕ)) (v : List ℕ) (others : List (List ℕ)) → AreDistinct (seen ++ v ∷ others) → All (λ w. w ≢ v) seen
  apart_from seen v others apart k x lt =
      let front : get_or (seen ++ v ∷ others) k x ≡ get_or seen k x = grind (arith, common_steps) in
      let here : get_or (seen ++ v ∷ others) (length seen) x ≡ v = grind (arith, common_steps) in
      subst (λ w. w ≢ v) front (subst (λ z. get_or (seen ++ v ∷ others) k x ≢ z) here (apart k (length seen) x lt (omega (arith, length-append seen (v ∷ others)))))

  variable_reads : (names : List (List ℕ)) (ks : List (List (List ℕ))) (f : Form) (v : List ℕ) (others : List (List ℕ)) → IsVariable f v → AreDistinct (names ++ v ∷ others)
      → listed d (so names ks false) f ≡ Ok (so (names ++ v ∷ []) ks false)
  unfolding listed listed_by or_word checking
  variable_reads names ks f v others (word.variable {w = w} {a = a} is) distinct =
      rw (no_dash w is, other_accepted names (lone w a) w (word.variable is) (unseen_from_apart names w (apart_from names w others distinct))) refl

  dash_reads : (names : List (List ℕ)) (ks : List (List (List ℕ))) (a : Place) → length ks ≢ length names → listed d (so names ks false) (lone DASH.now a) ≡ Ok (so names ks true)
  unfolding listed listed_by or_word
  dash_reads names ks a fewer = rw (is_same DASH.now, ne_eqb (length ks) (length names) fewer) refl

  types_read : (names : List (List ℕ)) (ks : List (List (List ℕ))) (f : Form) (kinds : List (List ℕ)) → AreTypes d f kinds
      → listed d (so names ks true) f ≡ Ok (so names (all_typed (so names ks false) kinds) false)
  unfolding listed listed_by checking
  types_read names ks f kinds is = rw (types_accepted f kinds is) refl

  mutual
    unfolding each_to

    none_accepted : (fs : Forms) (ps : List Param) → Typed d fs ps → (b : Place) (ns : List (List ℕ)) (ks : List (List (List ℕ))) → length ks ≡ length ns → AreDistinct (ns ++ names_of ps)
        → Run (so ns ks false) fs b ≡ Ok (params_of ns ks ++ ps)
    none_accepted fs ps by.no_variable b ns ks count distinct =
        ap (λ (qs : List Param). Ok qs) (subst (λ vs. params_of vs (all_typed (so vs ks false) (OBJECT.now ∷ [])) ≡ params_of ns ks ++ []) (append-nil ns) (typed_now ns [] ks (OBJECT.now ∷ []) count))
    none_accepted fs ps (by.first {f = f} {fs = gs} {v = v} {kinds = kinds} {ps = qs} is behind) b ns ks count distinct =
        rw (variable_reads ns ks f v (names_of qs) is distinct)
        (some_accepted kinds gs qs behind b ns [] v ks count (subst AreDistinct (sym (append_assoc ns (v ∷ []) (names_of qs))) distinct))

    some_accepted : (kinds : List (List ℕ)) (fs : Forms) (ps : List Param) → Behind d kinds fs ps → (b : Place) (ns ws : List (List ℕ)) (v : List ℕ) (ks : List (List (List ℕ))) → length ks ≡ length ns
        → AreDistinct ((ns ++ (ws ++ v ∷ [])) ++ names_of ps)
        → Run (so (ns ++ (ws ++ v ∷ [])) ks false) fs b ≡ Ok (params_of ns ks ++ (all_of (ws ++ v ∷ []) kinds ++ ps))
    some_accepted kinds fs ps by.untyped b ns ws v ks count distinct =
        ap (λ (qs : List Param). Ok qs)
        (typed_now ns (ws ++ v ∷ []) ks (OBJECT.now ∷ []) count ∙ ap (λ qs. params_of ns ks ++ qs) (sym (append-nil (all_of (ws ++ v ∷ []) (OBJECT.now ∷ [])))))
    some_accepted kinds fs ps (by.another {f = f} {fs = gs} {v = u} {ps = qs} is behind) b ns ws v ks count distinct =
        let vs = ws ++ v ∷ [] in
        let same_names : (ns ++ vs) ++ u ∷ [] ≡ ns ++ (vs ++ u ∷ []) = append_assoc ns vs (u ∷ []) in
        let parted : (ns ++ vs) ++ u ∷ names_of qs ≡ (ns ++ (vs ++ u ∷ [])) ++ names_of qs = sym (append_assoc (ns ++ vs) (u ∷ []) (names_of qs)) ∙ ap (λ ms. ms ++ names_of qs) same_names in
        let rest = some_accepted kinds gs qs behind b ns vs u ks count (subst AreDistinct parted distinct) in
        rw (variable_reads (ns ++ vs) ks f u (names_of qs) is distinct)
        (ap (λ ms. Run (so ms ks false) gs b) same_names ∙ rest ∙ ap (λ (xs : List Param). Ok (params_of ns ks ++ xs)) (all_of_push vs u kinds qs))
    some_accepted kinds fs ps (by.typed {a = a} {f = f} {fs = gs} types typed) b ns ws v ks count distinct =
        let vs = ws ++ v ∷ [] in
        let fewer : length ks ≢ length (ns ++ vs) = λ e. absurd (omega (arith, e, count, length-append ns vs, length-append ws (v ∷ []))) in
        let ks' : List (List (List ℕ)) = all_typed (so (ns ++ vs) ks false) kinds in
        let rest = none_accepted gs ps typed b (ns ++ vs) ks' (typed_count ns vs ks kinds count) distinct in
        rw (dash_reads (ns ++ vs) ks a fewer, types_read (ns ++ vs) ks f kinds types)
        (rest ∙ ap (λ (xs : List Param). Ok (xs ++ ps)) (typed_now ns vs ks kinds count) ∙ ap (λ (xs : List Param). Ok xs) (append_assoc (params_of ns ks) (all_of vs kinds) ps))

  no_names : AreDistinct []
  no_names i j x lt within = absurd (omega arith)

  pub list_derived : (f : Form) (ps : List Param) → variable_list d f ≡ Ok ps → IsVariableList d f ps
  unfolding variable_list variables
  list_derived = group_ok (variables d) (IsVariableList d)
      (λ a b fs ps is. let r = none_waits fs b [] [] ps refl no_names is in subst (IsVariableList d (group a fs b)) r.2.0 (by.variables r.1 (subst (λ qs. AreDistinct (names_of qs)) (sym r.2.0) r.2.1)))

  pub list_accepted : (f : Form) (ps : List Param) → IsVariableList d f ps → variable_list d f ≡ Ok ps
  unfolding variable_list in_group variables
  list_accepted f ps (by.variables {b = b} {fs = fs} typed distinct) = none_accepted fs ps typed b [] [] refl distinct
