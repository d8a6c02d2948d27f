-- Declarations of types: what is read is what is spelled.
--     Waits ws fs ts       the names ws wait for their parent, and with it and the forms behind them they are the types ts
--     Reads s fs e         what is read behind what is listed
use Rattle.std.proofs.Common.{◌≡◌, ℕ, Bool, true, false, not, ◌&&◌, ◌==◌, cond, List, [], ◌∷◌, ◌++◌, map, filter, length, Result, Ok, refl, sym, ap, subst, ◌∙◌, append_assoc, append-nil, true≢false, arith, length-append}
use Rattle.std.specs.List.{list_any}
use Rattle.std.proofs.lemmas.Bool.{and_parts, or_parts, or_from, not-true, ne_eqb, false_from_ne_true}
use Rattle.std.proofs.lemmas.List.{map-append}
use Rattle.std.proofs.lemmas.List.Elements.{filter-append}
use Rattle.std.proofs.lemmas.List.Folds.{list_any-append}
use Rattle.plain_list.specs.Results.{◌>>=◌}
use Rattle.plain_list.proofs.Results.{bind_ok, ok_is, test_fails}
use Rattle.ppddl_lex.specs.Words.{is_name}
use Rattle.ppddl_model.specs.declared.refusal.TextCode.TheVariants.{Expected, Twice, TypeCycle}
use Rattle.ppddl_model.specs.declared.tree.TypeDecl.{TypeDecl}
use Rattle.ppddl_model.specs.State.{same_name}
use Rattle.ppddl_model.specs.WellFormed.{are_distinct}
use Rattle.ppddl_model.proofs.States.{same_name-Decides}
use Rattle.ppddl_forms.specs.names.Declarations.{Declared, with_types}
use Rattle.ppddl_cursor.specs.declared.place.Place.{Place}
use Rattle.ppddl_cursor.specs.Ahead.{same}
use Rattle.ppddl_cursor.specs.Forms.{Form, Forms, lone, group, none, more, begin_of}
use Rattle.ppddl_cursor.specs.Reading.{Fault, fails}
use Rattle.ppddl_cursor.specs.Sequences.{checking, word_or_group}
use Rattle.type_table.specs.Types.{has_cycle}
use Rattle.ppddl_forms.specs.declared.name.Name.{Name}
use Rattle.ppddl_forms.specs.declared.symbols.TheConstants.{DASH, OBJECT}
use Rattle.ppddl_forms.specs.Words.{name}
use Rattle.ppddl_forms.specs.items.Sequences.{unsupported}
use Rattle.ppddl_reader.specs.sections.Sequences.{is_dash, typed_list, typing_behind}
use Rattle.ppddl_reader.specs.sections.Types.{ListedTypes, no_types, is_object, with_waiting, with_seen, seen_type, new_type, another_type, types_wait, under, all_under, with_parent, parent_type, types_under, all_types, types_behind}
use Rattle.ppddl_form_grammar.specs.forms.Words as word
use Rattle.ppddl_form_grammar.specs.forms.Words.{IsName}
use Rattle.ppddl_form_grammar.proofs.lemmas.forms.Parts.{by_test, same_word, on_true, on_false, name_derived, name_accepted}
use Rattle.ppddl_form_grammar.proofs.lemmas.fits.Declared.{distinct-grows}
use Rattle.ppddl_grammar.proofs.lemmas.fits.Lower.{any-same}
use Rattle.ppddl_grammar.specs.sections.Laws.{TypesAreDerived, TypesAreAccepted}
use Rattle.ppddl_grammar.specs.sections.Types as by
use Rattle.ppddl_grammar.specs.sections.Types.{type_of, Typed, Behind, is_other, other_names, is_kept}

abbrev names_of : List TypeDecl → List (List ℕ)
names_of = map (λ (t : TypeDecl). t.name)

abbrev typed_as : List ℕ → List (List ℕ) → List TypeDecl
typed_as kind = map (type_of kind)

names-typed : (kind : List ℕ) (ws : List (List ℕ)) → names_of (typed_as kind ws) ≡ ws
names-typed kind [] = refl
names-typed kind (w ∷ ws) = ap (λ l. w ∷ l) (names-typed kind ws)

-- ---- types under one parent

under-kept : (kind w : List ℕ) → under kind w ≡ filter is_kept (type_of kind w ∷ [])
under-kept kind w = one (is_object w && is_object kind)
  where
    one : (b : Bool) → cond b [] (type_of kind w ∷ []) ≡ cond (not b) (type_of kind w ∷ []) []
    one true = refl
    one false = refl

all_under-kept : (kind : List ℕ) (done : List TypeDecl) (ws : List (List ℕ)) → all_under kind done ws ≡ done ++ filter is_kept (typed_as kind ws)
all_under-kept kind done [] = sym (append-nil done)
all_under-kept kind done (w ∷ ws) =
    all_under-kept kind (done ++ under kind w) ws
    ∙ append_assoc done (under kind w) (filter is_kept (typed_as kind ws))
    ∙ ap (λ l. done ++ (l ++ filter is_kept (typed_as kind ws))) (under-kept kind w)
    ∙ ap (λ l. done ++ l) (sym (filter-append is_kept (type_of kind w ∷ []) (typed_as kind ws)))

-- ---- names that wait

abbrev Waits : List (List ℕ) → Forms → List TypeDecl → Type 0
Waits [] fs ts = Typed fs ts
Waits (w ∷ ws) fs ts = (kind : List ℕ) × (rest : List TypeDecl) × (ts ≡ typed_as kind (w ∷ ws) ++ rest) × Behind kind fs rest

waits-more : (ws : List (List ℕ)) (f : Form) (w : List ℕ) (fs : Forms) (ts : List TypeDecl) → IsName f w → Waits (ws ++ w ∷ []) fs ts → Waits ws (more f fs) ts
waits-more [] f w fs ts named waits = subst (Typed (more f fs)) (sym waits.2) (by.first named waits.3)
waits-more (v ∷ vs) f w fs ts named waits = (
  waits.0,
  type_of waits.0 w ∷ waits.1,
  waits.2
      ∙ ap (λ l. type_of waits.0 v ∷ (l ++ waits.1)) (map-append (type_of waits.0) vs (w ∷ []))
      ∙ ap (λ l. type_of waits.0 v ∷ l) (append_assoc (typed_as waits.0 vs) (type_of waits.0 w ∷ []) waits.1),
  by.another named waits.3,
)

waits-typed : (ws : List (List ℕ)) (a : Place) (f : Form) (kind : List ℕ) (fs : Forms) (ts : List TypeDecl) → (length ws == 0) ≡ false → IsName f kind → Typed fs ts
    → Waits ws (more (lone DASH.now a) (more f fs)) (typed_as kind ws ++ ts)
waits-typed [] a f kind fs ts some named typed = absurd (true≢false some)
waits-typed (w ∷ ws) a f kind fs ts some named typed = (kind, ts, refl, by.typed named typed)

waits-end : (ws : List (List ℕ)) → Waits ws none (typed_as OBJECT.now ws)
waits-end [] = by.no_type
waits-end (w ∷ ws) = (OBJECT.now, [], sym (append-nil (typed_as OBJECT.now (w ∷ ws))), by.untyped)

-- ---- one name more

abbrev so : List (List ℕ) → List TypeDecl → List (List ℕ) → ListedTypes
so seen done waiting = record { seen = seen; done = done; waiting = waiting }

-- `object` may be named again, so it is not kept among the names seen
abbrev next : ListedTypes → List ℕ → ListedTypes
next s w = so (s.seen ++ filter is_other (w ∷ [])) s.done (s.waiting ++ w ∷ [])

top-next : (s : ListedTypes) (w : List ℕ) → is_object w ≡ true → with_waiting s w ≡ next s w
top-next s w top =
    ap (λ l. so l s.done (s.waiting ++ w ∷ [])) (sym (ap (λ b. s.seen ++ cond (not b) (w ∷ []) []) top ∙ append-nil s.seen))

other-next : (s : ListedTypes) (w : List ℕ) → is_object w ≡ false → with_waiting (with_seen s w) w ≡ next s w
other-next s w other = ap (λ b. so (s.seen ++ cond (not b) (w ∷ []) []) s.done (s.waiting ++ w ∷ [])) (sym other)

record Item (s : ListedTypes) (f : Form) (t : ListedTypes) : Type 0 where
  word : List ℕ
  named : IsName f word
  is : next s word ≡ t
  distinct : are_distinct t.seen ≡ true

seen-top : (s : ListedTypes) (w : List ℕ) → is_object w ≡ true → are_distinct s.seen ≡ true → are_distinct (next s w).seen ≡ true
seen-top s w top apart = ap (λ b. are_distinct (s.seen ++ cond (not b) (w ∷ []) [])) top ∙ ap are_distinct (append-nil s.seen) ∙ apart

seen-other : (s : ListedTypes) (w : List ℕ) → is_object w ≡ false → list_any (same w) s.seen ≡ false → are_distinct s.seen ≡ true → are_distinct (next s w).seen ≡ true
seen-other s w other new apart =
    ap (λ b. are_distinct (s.seen ++ cond (not b) (w ∷ []) [])) other ∙ distinct-grows s.seen w apart (sym (any-same w s.seen) ∙ new)

item-derived : (s : ListedTypes) (f : Form) (t : ListedTypes) → are_distinct s.seen ≡ true → another_type s f ≡ Ok t → Item s f t
unfolding another_type checking
item-derived s f t apart is =
    let r = bind_ok (name f) (new_type s) t is in
    let w : List ℕ = r.0.text in
    let q = bind_ok (seen_type s r.0) (λ u. Ok (with_waiting u w)) t r.2 in
    let last : with_waiting q.0 w ≡ t = ok_is {E = Fault} (with_waiting q.0 w) t q.2 in
    let named : IsName f w = name_derived f r.0 r.1 in
    by_test (is_object w)
    (λ top.
    let u : s ≡ q.0 = ok_is {E = Fault} s q.0 (on_true (is_object w) (Ok s) _ (Ok q.0) top q.1) in
    let same_state : next s w ≡ t = sym (top-next s w top) ∙ ap (λ v. with_waiting v w) u ∙ last in
    record { word = w; named = named; is = same_state; distinct = subst (λ (v : ListedTypes). are_distinct v.seen ≡ true) same_state (seen-top s w top apart) })
    (λ other.
    let new = test_fails (list_any (same w) s.seen) _ (Ok (with_seen s w)) q.0 (on_false (is_object w) (Ok s) _ (Ok q.0) other q.1) in
    let u : with_seen s w ≡ q.0 = ok_is {E = Fault} (with_seen s w) q.0 new.1 in
    let same_state : next s w ≡ t = sym (other-next s w other) ∙ ap (λ v. with_waiting v w) u ∙ last in
    record { word = w; named = named; is = same_state; distinct = subst (λ (v : ListedTypes). are_distinct v.seen ≡ true) same_state (seen-other s w other new.0 apart) })

-- ---- what is read

record Reads (d : Declared) (s : ListedTypes) (fs : Forms) (e : Declared) : Type 0 where
  all : List TypeDecl
  others : List (List ℕ)
  spelled : Waits s.waiting fs all
  names : other_names all ≡ filter is_other s.waiting ++ others
  distinct : are_distinct (s.seen ++ others) ≡ true
  acyclic : has_cycle (d.types ++ (s.done ++ filter is_kept all)) ≡ false
  whole : e ≡ with_types d (s.done ++ filter is_kept all)

module _ (d : Declared) where
  end-reads : (s : ListedTypes) (b : Place) (e : Declared) → are_distinct s.seen ≡ true → all_types d s b ≡ Ok e → Reads d s none e
  end-reads s b e apart is =
      let last : List TypeDecl = all_under OBJECT.now s.done s.waiting in
      let t = test_fails (has_cycle (d.types ++ last)) _ (Ok (with_types d last)) e is in
      let kept = all_under-kept OBJECT.now s.done s.waiting in
      record {
        all = typed_as OBJECT.now s.waiting;
        others = [];
        spelled = waits-end s.waiting;
        names = ap (filter is_other) (names-typed OBJECT.now s.waiting) ∙ sym (append-nil (filter is_other s.waiting));
        distinct = ap are_distinct (append-nil s.seen) ∙ apart;
        acyclic = sym (ap (λ l. has_cycle (d.types ++ l)) kept) ∙ t.0;
        whole = sym (ok_is {E = Fault} (with_types d last) e t.1) ∙ ap (with_types d) kept;
      }

  item-reads : (s : ListedTypes) (f : Form) (w : List ℕ) (fs : Forms) (e : Declared) → IsName f w → Reads d (next s w) fs e → Reads d s (more f fs) e
  item-reads s f w fs e named r = record {
    all = r.all;
    others = filter is_other (w ∷ []) ++ r.others;
    spelled = waits-more s.waiting f w fs r.all named r.spelled;
    names =
        r.names
        ∙ ap (λ l. l ++ r.others) (filter-append is_other s.waiting (w ∷ []))
        ∙ append_assoc (filter is_other s.waiting) (filter is_other (w ∷ [])) r.others;
    distinct = sym (ap are_distinct (append_assoc s.seen (filter is_other (w ∷ [])) r.others)) ∙ r.distinct;
    acyclic = r.acyclic;
    whole = r.whole;
  }

  -- types that have their parent stand behind those that were done
  done-kept : (done : List TypeDecl) (kind : List ℕ) (ws : List (List ℕ)) (ts : List TypeDecl)
      → all_under kind done ws ++ filter is_kept ts ≡ done ++ filter is_kept (typed_as kind ws ++ ts)
  done-kept done kind ws ts =
      ap (λ l. l ++ filter is_kept ts) (all_under-kept kind done ws)
      ∙ append_assoc done (filter is_kept (typed_as kind ws)) (filter is_kept ts)
      ∙ ap (λ l. done ++ l) (sym (filter-append is_kept (typed_as kind ws) ts))

  parent-reads : (s : ListedTypes) (a : Place) (g : Form) (kind : List ℕ) (gs : Forms) (e : Declared) → (length s.waiting == 0) ≡ false → IsName g kind
      → Reads d (with_parent kind s) gs e → Reads d s (more (lone DASH.now a) (more g gs)) e
  parent-reads s a g kind gs e some named r = record {
    all = typed_as kind s.waiting ++ r.all;
    others = r.others;
    spelled = waits-typed s.waiting a g kind gs r.all some named r.spelled;
    names =
        ap (filter is_other) (map-append (λ (t : TypeDecl). t.name) (typed_as kind s.waiting) r.all ∙ ap (λ l. l ++ names_of r.all) (names-typed kind s.waiting))
        ∙ filter-append is_other s.waiting (names_of r.all)
        ∙ ap (λ l. filter is_other s.waiting ++ l) r.names;
    distinct = r.distinct;
    acyclic = sym (ap (λ l. has_cycle (d.types ++ l)) (done-kept s.done kind s.waiting r.all)) ∙ r.acyclic;
    whole = r.whole ∙ ap (with_types d) (done-kept s.done kind s.waiting r.all);
  }

  abbrev Rest : ListedTypes → Forms → Place → Result Declared Fault
  Rest = typing_behind another_type types_wait types_under (all_types d)

  parent-named : (g : Form) (n : Name) → parent_type g ≡ Ok n → IsName g n.text
  unfolding parent_type word_or_group unsupported
  parent-named (lone w a) n is = name_derived (lone w a) n is
  parent-named (group a fs b) n is = absurd cc

  -- behind a `-`: a parent, and more types
  abbrev Parent : ListedTypes → Forms → Declared → Type 0
  Parent s fs e = (g : Form) × (gs : Forms) × (kind : List ℕ) × (fs ≡ more g gs) × IsName g kind × Reads d (with_parent kind s) gs e

  parent-more : (s : ListedTypes) (g : Form) (gs : Forms) (e : Declared) (t : ListedTypes) → types_under s g ≡ Ok t → Reads d t gs e → Parent s (more g gs) e
  unfolding types_under checking
  parent-more s g gs e t is reads =
      let r = bind_ok (parent_type g) (λ n. Ok (with_parent n.text s)) t is in
      (g, gs, r.0.text, refl, parent-named g r.0 r.1, subst (λ v. Reads d v gs e) (sym (ok_is {E = Fault} (with_parent r.0.text s) t r.2)) reads)

  -- names seen stay as they are
  still_apart : (s : ListedTypes) (g : Form) (t : ListedTypes) → are_distinct s.seen ≡ true → types_under s g ≡ Ok t → are_distinct t.seen ≡ true
  unfolding types_under checking
  still_apart s g t apart is =
      let r = bind_ok (parent_type g) (λ n. Ok (with_parent n.text s)) t is in
      subst (λ (v : ListedTypes). are_distinct v.seen ≡ true) (ok_is {E = Fault} (with_parent r.0.text s) t r.2) apart

  dashed : (s : ListedTypes) (w : List ℕ) (a : Place) (fs : Forms) (e : Declared) → w ≡ DASH.now → (length s.waiting == 0) ≡ false → Parent s fs e → Reads d s (more (lone w a) fs) e
  dashed s w a fs e dash some parent =
      subst (λ v. Reads d s (more (lone v a) fs) e) (sym dash)
      (subst (λ gs. Reads d s (more (lone DASH.now a) gs) e) (sym parent.3) (parent-reads s a parent.0 parent.2 parent.1 e some parent.4 parent.5))

  item-more : (s : ListedTypes) (f : Form) (fs : Forms) (e : Declared) (t : ListedTypes) → Item s f t → Reads d t fs e → Reads d s (more f fs) e
  item-more s f fs e t one reads = item-reads s f one.word fs e one.named (subst (λ v. Reads d v fs e) (sym one.is) reads)

  mutual
    unfolding typed_list typing_behind

    behind-derived : (s : ListedTypes) (fs : Forms) (b : Place) (e : Declared) → are_distinct s.seen ≡ true → types_behind d s fs b ≡ Ok e → Reads d s fs e
    behind-derived s none b e apart is = end-reads s b e apart is
    behind-derived s (more (group a gs c) fs) b e apart is =
        let r = bind_ok (another_type s (group a gs c)) (λ t. types_behind d t fs b) e is in
        let one = item-derived s (group a gs c) r.0 apart r.1 in
        item-more s (group a gs c) fs e r.0 one (behind-derived r.0 fs b e one.distinct r.2)
    behind-derived s (more (lone w a) fs) b e apart is = by_test (same w DASH.now)
        (λ yes.
        let r = bind_ok (types_wait s a) (λ u. Rest s fs b) e
        (on_true (same w DASH.now) (types_wait s a >>= λ u. Rest s fs b) (another_type s (lone w a) >>= λ t. types_behind d t fs b) (Ok e) yes is) in
        let some = test_fails (length s.waiting == 0) _ (Ok tt) r.0 r.1 in
        dashed s w a fs e (same_word w DASH.now yes) some.0 (parent-derived s fs b e apart r.2))
        (λ no.
        let r = bind_ok (another_type s (lone w a)) (λ t. types_behind d t fs b) e
        (on_false (same w DASH.now) (types_wait s a >>= λ u. Rest s fs b) (another_type s (lone w a) >>= λ t. types_behind d t fs b) (Ok e) no is) in
        let one = item-derived s (lone w a) r.0 apart r.1 in
        item-more s (lone w a) fs e r.0 one (behind-derived r.0 fs b e one.distinct r.2))

    parent-derived : (s : ListedTypes) (fs : Forms) (b : Place) (e : Declared) → are_distinct s.seen ≡ true → Rest s fs b ≡ Ok e → Parent s fs e
    parent-derived s none b e apart is = absurd cc
    parent-derived s (more g gs) b e apart is =
        let r = bind_ok (types_under s g) (λ t. types_behind d t gs b) e is in
        parent-more s g gs e r.0 r.1 (behind-derived r.0 gs b e (still_apart s g r.0 apart r.1) r.2)

pub types-derived : TypesAreDerived
types-derived d fs b e is =
    let r = behind-derived d no_types fs b e refl is in
    (filter is_kept r.all, r.whole, record { listed = r.all; typed = r.spelled; distinct = ap are_distinct r.names ∙ r.distinct; kept = refl; acyclic = r.acyclic })

-- ---- what is spelled

other_name : (a b : List ℕ) → same_name a b ≡ false → same_name b a ≡ false
other_name a b differ = false_from_ne_true (same_name b a)
    (λ is. true≢false (sym ((same_name-Decides a b).1 (sym ((same_name-Decides b a).0 is))) ∙ differ))

-- a name behind others, of which no two are equal, is none of them
none-before : (seen : List (List ℕ)) (w : List ℕ) (behind : List (List ℕ)) → are_distinct (seen ++ w ∷ behind) ≡ true → list_any (same_name w) seen ≡ false
none-before [] w behind apart = refl
none-before (x ∷ xs) w behind apart =
    let parts = and_parts (not (list_any (same_name x) (xs ++ w ∷ behind))) (are_distinct (xs ++ w ∷ behind)) apart in
    let news = or_parts (list_any (same_name x) xs) (list_any (same_name x) (w ∷ behind)) (sym (list_any-append (same_name x) xs (w ∷ behind)) ∙ not-true (list_any (same_name x) (xs ++ w ∷ behind)) parts.0) in
    let first = or_parts (same_name x w) (list_any (same_name x) behind) news.1 in
    or_from (same_name w x) (list_any (same_name w) xs) (other_name x w first.0) (none-before xs w behind parts.1)

name-no_dash : (f : Form) (w : List ℕ) → IsName f w → is_dash f ≡ false
name-no_dash f w (word.name named) = by_test (same w DASH.now)
    (λ yes. absurd (dash_is_no_name (subst (λ v. is_name v ≡ true) (same_word w DASH.now yes) named)))
    (λ no. no)
  where
    dash_is_no_name : is_name DASH.now ≡ true → ⊥
    dash_is_no_name is = cc

-- a name that may stand behind those seen
seen-accepted : (s : ListedTypes) (n : Name) (behind : List (List ℕ)) → are_distinct (s.seen ++ (filter is_other (n.text ∷ []) ++ behind)) ≡ true → new_type s n ≡ Ok (next s n.text)
seen-accepted s n behind apart = by_test (is_object n.text)
    (λ top.
    ap (λ b. cond b (Ok s) (cond (list_any (same n.text) s.seen) (fails Twice n.place) (Ok (with_seen s n.text))) >>= λ u. Ok (with_waiting u n.text)) top
    ∙ ap (λ v. Ok v) (top-next s n.text top))
    (λ other.
    let distinct : are_distinct (s.seen ++ n.text ∷ behind) ≡ true = sym (ap (λ b. are_distinct (s.seen ++ (cond (not b) (n.text ∷ []) [] ++ behind))) other) ∙ apart in
    let new : list_any (same n.text) s.seen ≡ false = any-same n.text s.seen ∙ none-before s.seen n.text behind distinct in
    ap (λ b. cond b (Ok s) (cond (list_any (same n.text) s.seen) (fails Twice n.place) (Ok (with_seen s n.text))) >>= λ u. Ok (with_waiting u n.text)) other
    ∙ ap (λ b. cond b (fails Twice n.place) (Ok (with_seen s n.text)) >>= λ u. Ok (with_waiting u n.text)) new
    ∙ ap (λ v. Ok v) (other-next s n.text other))

item-accepted : (s : ListedTypes) (f : Form) (w : List ℕ) (behind : List (List ℕ)) → IsName f w → are_distinct (s.seen ++ (filter is_other (w ∷ []) ++ behind)) ≡ true
    → another_type s f ≡ Ok (next s w)
unfolding another_type checking
item-accepted s f w behind named apart =
    let r = name_accepted f w named in
    ap (λ x. x >>= new_type s) r.1
    ∙ seen-accepted s r.0 behind (ap (λ v. are_distinct (s.seen ++ (filter is_other (v ∷ []) ++ behind))) r.2 ∙ apart)
    ∙ ap (λ v. Ok (next s v)) r.2

parent-accepted : (s : ListedTypes) (g : Form) (kind : List ℕ) → IsName g kind → types_under s g ≡ Ok (with_parent kind s)
unfolding types_under checking parent_type word_or_group
parent-accepted s g kind (word.name {a = a} named) =
    let r = name_accepted (lone kind a) kind (word.name named) in ap (λ x. x >>= λ n. Ok (with_parent n.text s)) r.1 ∙ ap (λ v. Ok (with_parent v s)) r.2

some-waits : (ws : List (List ℕ)) (w : List ℕ) → (length (ws ++ w ∷ []) == 0) ≡ false
some-waits ws w = ne_eqb (length (ws ++ w ∷ [])) 0 (λ is. omega (arith, length-append ws (w ∷ []), is))

module _ (d : Declared) where
  abbrev Gives : List (List ℕ) → List TypeDecl → List (List ℕ) → Forms → List TypeDecl → Type 0
  Gives seen done ws fs all = (b : Place) → types_behind d (so seen done ws) fs b ≡ Ok (with_types d (done ++ filter is_kept all))

  abbrev Acyclic : List TypeDecl → List TypeDecl → Type 0
  Acyclic done all = has_cycle (d.types ++ (done ++ filter is_kept all)) ≡ false

  end-gives : (seen : List (List ℕ)) (done : List TypeDecl) (ws : List (List ℕ)) → Acyclic done (typed_as OBJECT.now ws) → Gives seen done ws none (typed_as OBJECT.now ws)
  unfolding typed_list
  end-gives seen done ws acyclic b =
      let kept = all_under-kept OBJECT.now done ws in
      ap (λ l. cond (has_cycle (d.types ++ l)) (fails TypeCycle b) (Ok (with_types d l))) kept
      ∙ ap (λ c. cond c (fails TypeCycle b) (Ok (with_types d (done ++ filter is_kept (typed_as OBJECT.now ws))))) acyclic

  item-gives : (seen : List (List ℕ)) (done : List TypeDecl) (ws : List (List ℕ)) (f : Form) (w : List ℕ) (fs : Forms) (all : List TypeDecl) (behind : List (List ℕ)) → IsName f w
      → are_distinct (seen ++ (filter is_other (w ∷ []) ++ behind)) ≡ true → Gives (seen ++ filter is_other (w ∷ [])) done (ws ++ w ∷ []) fs all → Gives seen done ws (more f fs) all
  unfolding typed_list
  item-gives seen done ws f w fs all behind named apart gives b =
      ap (λ t. cond t (types_wait (so seen done ws) (begin_of f) >>= λ u. Rest d (so seen done ws) fs b) (another_type (so seen done ws) f >>= λ v. types_behind d v fs b)) (name-no_dash f w named)
      ∙ ap (λ x. x >>= λ v. types_behind d v fs b) (item-accepted (so seen done ws) f w behind named apart)
      ∙ gives b

  parent-gives : (seen : List (List ℕ)) (done : List TypeDecl) (ws : List (List ℕ)) (a : Place) (g : Form) (kind : List ℕ) (gs : Forms) (ts : List TypeDecl)
      → (length ws == 0) ≡ false → IsName g kind → Gives seen (all_under kind done ws) [] gs ts → Gives seen done ws (more (lone DASH.now a) (more g gs)) (typed_as kind ws ++ ts)
  unfolding typed_list typing_behind
  parent-gives seen done ws a g kind gs ts some named gives b =
      ap (λ t. cond t (fails Expected a) (Ok tt) >>= λ u. Rest d (so seen done ws) (more g gs) b) some
      ∙ ap (λ x. x >>= λ v. types_behind d v gs b) (parent-accepted (so seen done ws) g kind named)
      ∙ gives b
      ∙ ap (λ l. Ok (with_types d l)) (done-kept d done kind ws ts)

  -- the names of a type and of those behind it
  first-apart : (seen : List (List ℕ)) (kind w : List ℕ) (ts : List TypeDecl) → are_distinct (seen ++ other_names (type_of kind w ∷ ts)) ≡ true
      → are_distinct (seen ++ (filter is_other (w ∷ []) ++ other_names ts)) ≡ true
  first-apart seen kind w ts apart = sym (ap (λ l. are_distinct (seen ++ l)) (filter-append is_other (w ∷ []) (names_of ts))) ∙ apart

  rest-apart : (seen : List (List ℕ)) (w : List ℕ) (others : List (List ℕ)) → are_distinct (seen ++ (filter is_other (w ∷ []) ++ others)) ≡ true
      → are_distinct ((seen ++ filter is_other (w ∷ [])) ++ others) ≡ true
  rest-apart seen w others apart = ap are_distinct (append_assoc seen (filter is_other (w ∷ [])) others) ∙ apart

  mutual
    typed-gives : (fs : Forms) (ts : List TypeDecl) → Typed fs ts → (seen : List (List ℕ)) (done : List TypeDecl) → are_distinct (seen ++ other_names ts) ≡ true → Acyclic done ts
        → Gives seen done [] fs ts
    typed-gives fs ts by.no_type seen done apart acyclic = end-gives seen done [] acyclic
    typed-gives fs ts (by.first {f = f} {fs = gs} {w = w} {kind = kind} {ts = others} named behind) seen done apart acyclic =
        let own = first-apart seen kind w others apart in
        item-gives seen done [] f w gs (type_of kind w ∷ others) (other_names others) named own
        (behind-gives kind gs others behind (seen ++ filter is_other (w ∷ [])) done (w ∷ []) refl (rest-apart seen w (other_names others) own) acyclic)

    behind-gives : (kind : List ℕ) (fs : Forms) (ts : List TypeDecl) → Behind kind fs ts → (seen : List (List ℕ)) (done : List TypeDecl) (ws : List (List ℕ)) → (length ws == 0) ≡ false
        → are_distinct (seen ++ other_names ts) ≡ true → Acyclic done (typed_as kind ws ++ ts) → Gives seen done ws fs (typed_as kind ws ++ ts)
    behind-gives kind fs ts by.untyped seen done ws some apart acyclic =
        let same_types = append-nil (typed_as OBJECT.now ws) in
        subst (Gives seen done ws none) (sym same_types) (end-gives seen done ws (subst (Acyclic done) same_types acyclic))
    behind-gives kind fs ts (by.another {f = f} {fs = gs} {w = w} {ts = others} named behind) seen done ws some apart acyclic =
        let own = first-apart seen kind w others apart in
        let same_types : typed_as kind (ws ++ w ∷ []) ++ others ≡ typed_as kind ws ++ type_of kind w ∷ others
        = ap (λ l. l ++ others) (map-append (type_of kind) ws (w ∷ [])) ∙ append_assoc (typed_as kind ws) (type_of kind w ∷ []) others in
        item-gives seen done ws f w gs (typed_as kind ws ++ type_of kind w ∷ others) (other_names others) named own
        (subst (Gives (seen ++ filter is_other (w ∷ [])) done (ws ++ w ∷ []) gs) same_types
        (behind-gives kind gs others behind (seen ++ filter is_other (w ∷ [])) done (ws ++ w ∷ []) (some-waits ws w) (rest-apart seen w (other_names others) own)
        (subst (Acyclic done) (sym same_types) acyclic)))
    behind-gives kind fs ts (by.typed {a = a} {f = g} {fs = gs} named typed) seen done ws some apart acyclic =
        parent-gives seen done ws a g kind gs ts some named
        (typed-gives gs ts typed seen (all_under kind done ws) apart (ap (λ l. has_cycle (d.types ++ l)) (done-kept d done kind ws ts) ∙ acyclic))

pub types-accepted : TypesAreAccepted
types-accepted d fs b ts spelled =
    typed-gives d fs spelled.listed spelled.typed [] [] spelled.distinct (sym (ap (λ l. has_cycle (d.types ++ l)) spelled.kept) ∙ spelled.acyclic) b
    ∙ ap (λ l. Ok (with_types d l)) (sym spelled.kept)
