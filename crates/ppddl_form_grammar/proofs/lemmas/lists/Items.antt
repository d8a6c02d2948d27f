-- Items of `:init`: what is accepted is derived, and what is derived is accepted.
use Rattle.std.proofs.Common.{◌≡◌, ℕ, Bool, true, false, List, [], ◌∷◌, ◌++◌, Result, Ok, All, refl, sym, ap, subst, ◌∙◌, append_assoc, append-nil, arith, le-ltb}
use Rattle.std.proofs.lemmas.List.Elements.{All-nil, All-push}
use Rattle.plain_list.specs.Results.{◌>>=◌}
use Rattle.plain_list.proofs.Results.{bind_ok, ok_is, test_fails}
use Rattle.exact_fraction.specs.declared.fraction.Fraction.{Fraction}
use Rattle.exact_fraction.specs.Numbers.{IsProbability, amount_of}
use Rattle.ppddl_lex.specs.declared.keywords.TheConstants.{NOT, AND, PROBABILISTIC, INCREASE}
use Rattle.ppddl_model.specs.declared.limits.TheConstants.{MOST_COST}
use Rattle.ppddl_model.specs.declared.tree.Atom.{Atom}
use Rattle.ppddl_model.specs.declared.tree.InitBranch.{InitBranch}
use Rattle.ppddl_model.specs.declared.tree.InitItem.{InitItem}
use Rattle.ppddl_model.specs.declared.tree.InitItem.TheVariants as tree
use Rattle.ppddl_model.specs.declared.tree.ValueItem.{ValueItem}
use Rattle.ppddl_model.specs.Objects.{ground_atom}
use Rattle.ppddl_model.specs.WellFormed.{AreProbabilities}
use Rattle.ppddl_forms.specs.names.Declarations.{Declared}
use Rattle.ppddl_cursor.specs.declared.place.Place.{Place}
use Rattle.ppddl_cursor.specs.Ahead.{same}
use Rattle.ppddl_cursor.specs.Forms.{Form, Forms, lone, group, none, more}
use Rattle.ppddl_cursor.specs.Reading.{Fault, fails}
use Rattle.ppddl_cursor.specs.Sequences.{of_word, word_or_group, in_group, one_then, last, optional, giving, checking}
use Rattle.ppddl_forms.specs.declared.symbols.TheConstants.{EQUAL}
use Rattle.ppddl_forms.specs.Chances.{next_chance}
use Rattle.ppddl_forms.specs.Costs.{function_group, function_term}
use Rattle.ppddl_forms.specs.Sequences.{many_behind}
use Rattle.ppddl_forms.specs.Terms.{atom, atom_in}
use Rattle.ppddl_forms.specs.Words.{amount}
use Rattle.ppddl_form_grammar.specs.forms.Words.{forms, headed, Each}
use Rattle.ppddl_form_grammar.specs.forms.Terms as term_by
use Rattle.ppddl_form_grammar.specs.forms.Terms.{IsAtom, IsFunction, Application}
use Rattle.ppddl_form_grammar.proofs.lemmas.forms.Parts.{by_test, same_word, then_ok, last_ok, giving_ok, amount_derived}
use Rattle.ppddl_form_grammar.proofs.lemmas.forms.Terms.{atom_derived, atom_accepted, application_derived, application_accepted}
use Rattle.ppddl_form_grammar.proofs.lemmas.forms.Lists.{each_derived, each_accepted}
use Rattle.ppddl_form_grammar.proofs.lemmas.forms.Costs.{function_in_derived, function_in_accepted, bare_derived, bare_accepted}
use Rattle.ppddl_form_grammar.proofs.lemmas.forms.Shares.{no_chances, together, prefix}
use Rattle.ppddl_forms.specs.items.Sequences.{skipped, unsupported, by_head, pairs, second_of}
use Rattle.ppddl_forms.specs.items.Items.{is_effect, init_head, is_and, chances_of, branch_of, with_branch, negative, added_by, added_in, added, next_branch, branches, new_value, value, item_by, item_in, item}
use Rattle.ppddl_forms.specs.items.Values.{has_another}
use Rattle.ppddl_form_grammar.specs.lists.Items as by
use Rattle.ppddl_form_grammar.specs.lists.Items.{value_of, Adds, InitBranches, IsItem}
use Rattle.ppddl_form_grammar.proofs.lemmas.lists.Heads.{any_name, effect_head, other_head, name_head, name_not_and}
use Rattle.ppddl_form_grammar.proofs.lemmas.lists.Chances.{reduced, chances_both, chance_ok, chance_reads}

module _ (d : Declared) where
  -- ---- atoms and functions

  fact_in_derived : (fs : Forms) (b : Place) (x : Atom) → atom_in d [] fs b ≡ Ok x → Application d [] d.predicates fs x
  unfolding atom_in
  fact_in_derived fs b x is = application_derived d [] d.predicates fs b x is

  fact_in_accepted : (fs : Forms) (b : Place) (x : Atom) → Application d [] d.predicates fs x → atom_in d [] fs b ≡ Ok x
  unfolding atom_in
  fact_in_accepted fs b x app = application_accepted d [] d.predicates fs b x app

  function_derived : (f : Form) (y : Atom × Place) → function_term d [] f ≡ Ok y → IsFunction d [] f y.0
  unfolding function_term word_or_group function_group in_group
  function_derived (lone w a) y is = bare_derived d [] (lone w a) y is
  function_derived (group a fs b) y is = term_by.applied (function_in_derived d [] fs b y is)

  function_accepted : (f : Form) (x : Atom) → IsFunction d [] f x → (a : Place) × (function_term d [] f ≡ Ok (x, a))
  unfolding function_term word_or_group function_group in_group
  function_accepted f x (term_by.applied {b = b} {fs = fs} app) = function_in_accepted d [] fs b x app
  function_accepted f x (term_by.bare {w = w} {a = a} app) = (a, bare_accepted d [] w a x app)

  -- ---- what a branch adds

  adds_by : (a e : Place) (w : List ℕ) (fs : Forms) (b : Place) (xs : List Atom) (k : Bool) → is_and w ≡ k → added_by d k (more (lone w e) fs) b ≡ Ok xs → Adds d (group a (more (lone w e) fs) b) xs
  unfolding one_then skipped of_word many_behind giving added_by
  adds_by a e w fs b xs true at is =
      let r = each_derived (atom d []) (IsAtom d []) (atom_derived d []) fs b [] xs is in
      subst (λ v. Adds d (headed a e v fs b) xs) (sym (same_word w AND.now at)) (by.conjunction (subst (Each (IsAtom d []) fs) r.1 r.2))
  adds_by a e w fs b xs false at is =
      let g = giving_ok (λ x. x ∷ []) (atom_in d []) (more (lone w e) fs) b xs is in
      subst (Adds d (group a (more (lone w e) fs) b)) g.2 (by.one (term_by.atom (fact_in_derived (more (lone w e) fs) b g.0 g.1)))

  adds_derived : (f : Form) (xs : List Atom) → added d f ≡ Ok xs → Adds d f xs
  unfolding added in_group added_in optional by_head
  adds_derived (lone w a) xs is = absurd cc
  adds_derived (group a none b) xs is = subst (Adds d (group a none b)) (ok_is {E = Fault} [] xs is) by.nothing
  adds_derived (group a (more (group e gs g) fs) b) xs is = absurd cc
  adds_derived (group a (more (lone w e) fs) b) xs is = adds_by a e w fs b xs (is_and w) refl is

  one_reads : (w : List ℕ) (e : Place) (gs : Forms) (b : Place) (x : Atom) → Application d [] d.predicates (more (lone w e) gs) x → added_by d false (more (lone w e) gs) b ≡ Ok (x ∷ [])
  unfolding giving added_by
  one_reads w e gs b x app = rw (fact_in_accepted (more (lone w e) gs) b x app) refl

  all_read : (e : Place) (gs : Forms) (b : Place) (xs : List Atom) → Each (IsAtom d []) gs xs → added_by d true (more (lone AND.now e) gs) b ≡ Ok xs
  unfolding one_then skipped of_word many_behind added_by
  all_read e gs b xs each = each_accepted (atom d []) (IsAtom d []) (atom_accepted d []) gs xs each b []

  adds_accepted : (f : Form) (xs : List Atom) → Adds d f xs → added d f ≡ Ok xs
  unfolding added in_group added_in optional by_head
  adds_accepted f xs by.nothing = refl
  adds_accepted f xs (by.one {x = x} (term_by.atom {b = b} (term_by.application {w = w} {a = e} {fs = gs} named at args))) =
      ap (λ k. added_by d k (more (lone w e) gs) b) (name_not_and w named) ∙ one_reads w e gs b x (term_by.application named at args)
  adds_accepted f xs (by.conjunction {c = e} {b = b} {fs = gs} each) = all_read e gs b xs each

  -- ---- branches

  abbrev Rest : List InitBranch → Forms → List InitBranch → Type 0
  Rest seen fs all = (bs : List InitBranch) × (seen ++ bs ≡ all) × InitBranches d fs bs
      × (All IsProbability (chances_of seen) → AreProbabilities (chances_of seen) → AreProbabilities (chances_of all))

  next_ok : (seen : List InitBranch) (p : Fraction) (f : Form) (grown : List InitBranch) → next_branch d seen p f ≡ Ok grown → (xs : List Atom) × Adds d f xs × (with_branch seen p xs ≡ grown)
  unfolding next_branch checking
  next_ok seen p f grown is =
      let r = bind_ok (added d f) (λ atoms. Ok (with_branch seen p atoms)) grown is in (r.0, adds_derived f r.0 r.1, ok_is {E = Fault} (with_branch seen p r.0) grown r.2)

  next_reads : (seen : List InitBranch) (p : Fraction) (f : Form) (xs : List Atom) → Adds d f xs → next_branch d seen p f ≡ Ok (with_branch seen p xs)
  unfolding next_branch checking
  next_reads seen p f xs is = rw (adds_accepted f xs is) refl

  branches_derived : (fs : Forms) (b : Place) (seen all : List InitBranch) → branches d seen fs b ≡ Ok all → Rest seen fs all
  unfolding branches pairs second_of
  branches_derived none b seen all is =
      let e : seen ≡ all = ok_is {E = Fault} seen all is in
      ([], append-nil seen ∙ e, by.no_branch, λ each are. subst (λ bs. AreProbabilities (chances_of bs)) e are)
  branches_derived (more f none) b seen all is = let r = bind_ok (next_chance (chances_of seen) f) (λ p. fails _ b) all is in absurd (let bad = r.2 in cc)
  branches_derived (more f (more g fs)) b seen all is =
      let p = bind_ok (next_chance (chances_of seen) f) (λ p. next_branch d seen p g >>= λ t. branches d t fs b) all is in
      let r = bind_ok (next_branch d seen p.0 g) (λ t. branches d t fs b) all p.2 in
      let n = next_ok seen p.0 g r.0 r.1 in
      let c = chance_ok (chances_of seen) f p.0 p.1 in
      let own : IsProbability p.0 = reduced f p.0 c.0 in
      let one : InitBranch = branch_of p.0 n.0 in
      let rest = branches_derived fs b (seen ++ one ∷ []) all (ap (λ t. branches d t fs b) n.2 ∙ r.2) in
      let pushed = chances_both seen (one ∷ []) in (
        one ∷ rest.0,
        sym (append_assoc seen (one ∷ []) rest.0) ∙ rest.1,
        by.branch c.0 n.1 rest.2,
        λ each are.
            let every : All IsProbability (chances_of seen ++ p.0 ∷ []) = All-push IsProbability (chances_of seen) p.0 each own in
            rest.3 (subst (All IsProbability) (sym pushed) every) (subst AreProbabilities (sym pushed) (together (chances_of seen ++ p.0 ∷ []) every c.1 c.2)),
      )

  branches_accepted : (fs : Forms) (bs : List InitBranch) → InitBranches d fs bs → (b : Place) (seen : List InitBranch) → AreProbabilities (chances_of (seen ++ bs))
      → branches d seen fs b ≡ Ok (seen ++ bs)
  unfolding branches pairs second_of
  branches_accepted fs bs by.no_branch b seen are = ap (λ (xs : List InitBranch). Ok xs) (sym (append-nil seen))
  branches_accepted fs bs (by.branch {f = f} {g = g} {fs = gs} {p = p} {xs = xs} {bs = others} one adds rest) b seen are =
      let this : InitBranch = branch_of p xs in
      let front : (seen ++ this ∷ []) ++ others ≡ seen ++ this ∷ others = append_assoc seen (this ∷ []) others in
      let are' : AreProbabilities (chances_of ((seen ++ this ∷ []) ++ others)) = subst (λ l. AreProbabilities (chances_of l)) (sym front) are in
      let first : AreProbabilities (chances_of seen ++ p ∷ []) =
      subst AreProbabilities (chances_both seen (this ∷ [])) (prefix (chances_of (seen ++ this ∷ [])) (chances_of others) (subst AreProbabilities (chances_both (seen ++ this ∷ []) others) are')) in
      rw (chance_reads (chances_of seen) f p one first, next_reads seen p g xs adds)
      (branches_accepted gs others rest b (seen ++ this ∷ []) are' ∙ ap (λ (l : List InitBranch). Ok l) front)

  -- ---- items

  module _ (values : List ValueItem) where
    denial_derived : (fs : Forms) (b : Place) (i : InitItem) (a e : Place) → negative d fs b ≡ Ok i → IsItem d values (headed a e NOT.now fs b) i
    unfolding negative
    denial_derived fs b i a e = then_ok (atom d []) (λ y. last (tree.Chance [])) b (λ gs j. IsItem d values (headed a e NOT.now gs b) j)
        (λ f y one gs j is.
        let l = last_ok (tree.Chance []) j gs b is in
        subst (λ hs. IsItem d values (headed a e NOT.now (more f hs) b) j) (sym l.0) (subst (IsItem d values (headed a e NOT.now (forms (f ∷ [])) b)) l.1 (by.denial (atom_derived d [] f y one)))) fs i

    amount_ok : (y : Atom × Place) (f : Form) (n : ℕ) → checking (new_value values y) (amount 0 MOST_COST) f ≡ Ok n
        → (w : List ℕ) × (e : Place) × (f ≡ lone w e) × (amount_of w MOST_COST ≡ Ok n) × (has_another values (ground_atom [] y.0) n ≡ false)
    unfolding checking amount of_word
    amount_ok y (lone w e) n is =
        let r = bind_ok (amount 0 MOST_COST (lone w e)) (new_value values y) n is in
        let t = test_fails (has_another values (ground_atom [] y.0) r.0) _ (Ok r.0) n r.2 in
        let same : r.0 ≡ n = ok_is {E = Fault} r.0 n t.1 in
        (w, e, refl, amount_derived MOST_COST w e r.0 r.1 ∙ ap (λ k. Ok k) same, subst (λ k. has_another values (ground_atom [] y.0) k ≡ false) same t.0)
    amount_ok y (group a fs b) n is = absurd cc

    value_derived : (fs : Forms) (b : Place) (i : InitItem) (a e : Place) → value d values fs b ≡ Ok i → IsItem d values (headed a e EQUAL.now fs b) i
    unfolding value
    value_derived fs b i a e = then_ok (function_term d [])
        (λ y. one_then (checking (new_value values y) (amount 0 MOST_COST)) (λ n. last (tree.Value (value_of y.0 n)))) b (λ gs j. IsItem d values (headed a e EQUAL.now gs b) j)
        (λ f y one. then_ok (checking (new_value values y) (amount 0 MOST_COST)) (λ n. last (tree.Value (value_of y.0 n))) b
        (λ gs j. IsItem d values (headed a e EQUAL.now (more f gs) b) j)
        (λ g n number gs j is.
        let l = last_ok (tree.Value (value_of y.0 n)) j gs b is in
        let m = amount_ok y g n number in
        subst (λ hs. IsItem d values (headed a e EQUAL.now (more f (more g hs)) b) j) (sym l.0)
        (subst (λ h. IsItem d values (headed a e EQUAL.now (forms (f ∷ h ∷ [])) b) j) (sym m.2)
        (subst (IsItem d values (headed a e EQUAL.now (forms (f ∷ lone m.0 m.1 ∷ [])) b)) l.1 (by.value (function_derived f y one) m.3 m.4))))) fs i

    -- what stands behind a first word
    abbrev Headed : List ℕ → Place → Forms → Place → Result InitItem Fault
    Headed w e fs b = item_by d values (init_head w) (more (lone w e) fs) b

    chance_derived : (fs : Forms) (b : Place) (i : InitItem) (a e : Place) → Headed PROBABILISTIC.now e fs b ≡ Ok i → IsItem d values (headed a e PROBABILISTIC.now fs b) i
    unfolding one_then skipped of_word
    chance_derived fs b i a e is =
        let g = giving_ok (λ bs. tree.Chance bs) (branches d []) fs b i is in
        let r = branches_derived fs b [] g.0 g.1 in
        let are : AreProbabilities (chances_of g.0) = r.3 (All-nil IsProbability) no_chances in
        subst (IsItem d values (headed a e PROBABILISTIC.now fs b)) g.2 (by.chance (subst (InitBranches d fs) r.1 r.2) are)

    fact_derived : (w : List ℕ) (e : Place) (fs : Forms) (b : Place) (i : InitItem) (a : Place) → item_by d values (init_head any_name) (more (lone w e) fs) b ≡ Ok i
        → IsItem d values (headed a e w fs b) i
    fact_derived w e fs b i a is =
        let g = giving_ok (λ x. tree.Fact x) (atom_in d []) (more (lone w e) fs) b i is in
        subst (IsItem d values (headed a e w fs b)) g.2 (by.fact (term_by.atom (fact_in_derived (more (lone w e) fs) b g.0 g.1)))

    no_effect : (w : List ℕ) (e : Place) (fs : Forms) (b : Place) (i : InitItem) → item_by d values (init_head INCREASE.now) (more (lone w e) fs) b ≡ Ok i → ⊥
    unfolding one_then unsupported
    no_effect w e fs b i is = cc

    headed_derived : (w : List ℕ) (a e : Place) (fs : Forms) (b : Place) (i : InitItem) → Headed w e fs b ≡ Ok i → IsItem d values (headed a e w fs b) i
    unfolding one_then skipped of_word
    headed_derived w a e fs b i is =
        let at : (v : List ℕ) → same w v ≡ true → (Headed v e fs b ≡ Ok i → IsItem d values (headed a e v fs b) i) → IsItem d values (headed a e w fs b) i
        = λ v yes derived. subst (λ u. Headed u e fs b ≡ Ok i → IsItem d values (headed a e u fs b) i) (sym (same_word w v yes)) derived is in
        by_test (same w NOT.now) (λ yes. at NOT.now yes (λ own. denial_derived fs b i a e own)) (λ n1.
        by_test (same w PROBABILISTIC.now) (λ yes. at PROBABILISTIC.now yes (λ own. chance_derived fs b i a e own)) (λ n2.
        by_test (same w EQUAL.now) (λ yes. at EQUAL.now yes (λ own. value_derived fs b i a e own)) (λ n3.
        by_test (is_effect w)
        (λ yes. absurd (no_effect w e fs b i (ap (λ k. item_by d values k (more (lone w e) fs) b) (sym (effect_head w n1 n2 n3 yes)) ∙ is)))
        (λ other. fact_derived w e fs b i a (ap (λ k. item_by d values k (more (lone w e) fs) b) (sym (other_head w n1 n2 n3 other)) ∙ is)))))

    pub item_derived : (f : Form) (i : InitItem) → item d values f ≡ Ok i → IsItem d values f i
    unfolding item in_group item_in by_head
    item_derived (lone w a) i is = absurd cc
    item_derived (group a none b) i is = absurd cc
    item_derived (group a (more (group e gs g) fs) b) i is = absurd cc
    item_derived (group a (more (lone w e) fs) b) i is = headed_derived w a e fs b i is

    -- ---- and what is derived is accepted

    fact_reads : (w : List ℕ) (e : Place) (gs : Forms) (b : Place) (x : Atom) → Application d [] d.predicates (more (lone w e) gs) x
        → item_by d values (init_head any_name) (more (lone w e) gs) b ≡ Ok (tree.Fact x)
    unfolding giving
    fact_reads w e gs b x app = rw (fact_in_accepted (more (lone w e) gs) b x app) refl

    denial_reads : (e : Place) (f : Form) (b : Place) (x : Atom) → IsAtom d [] f x → Headed NOT.now e (more f none) b ≡ Ok (tree.Chance [])
    unfolding one_then skipped of_word negative last
    denial_reads e f b x is = rw (atom_accepted d [] f x is) refl

    chance_reads_all : (e : Place) (gs : Forms) (b : Place) (bs : List InitBranch) → InitBranches d gs bs → AreProbabilities (chances_of bs)
        → Headed PROBABILISTIC.now e gs b ≡ Ok (tree.Chance bs)
    unfolding one_then skipped of_word giving
    chance_reads_all e gs b bs parts are = rw (branches_accepted gs bs parts b [] are) refl

    value_reads : (e : Place) (f : Form) (v : List ℕ) (c b : Place) (x : Atom) (n : ℕ) → IsFunction d [] f x → amount_of v MOST_COST ≡ Ok n
        → has_another values (ground_atom [] x) n ≡ false → Headed EQUAL.now e (more f (more (lone v c) none)) b ≡ Ok (tree.Value (value_of x n))
    unfolding one_then skipped of_word value checking amount last
    value_reads e f v c b x n is number only = let r = function_accepted f x is in rw (r.1, number, le-ltb n 0 (omega arith), only) refl

    pub item_accepted : (f : Form) (i : InitItem) → IsItem d values f i → item d values f ≡ Ok i
    unfolding item in_group item_in by_head
    item_accepted f i (by.fact {x = x} (term_by.atom {b = b} (term_by.application {w = w} {a = e} {fs = gs} named at args))) =
        ap (λ k. item_by d values k (more (lone w e) gs) b) (name_head w named) ∙ fact_reads w e gs b x (term_by.application named at args)
    item_accepted f i (by.denial {c = e} {b = b} {f = g} {x = x} is) = denial_reads e g b x is
    item_accepted f i (by.chance {c = e} {b = b} {fs = gs} {bs = bs} parts are) = chance_reads_all e gs b bs parts are
    item_accepted f i (by.value {c = e} {b = b} {e = c} {f = g} {w = v} {x = x} {n = n} is number only) = value_reads e g v c b x n is number only
