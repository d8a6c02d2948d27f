-- Typed lists of objects: what is accepted is derived, and what is derived is accepted.
use Rattle.std.proofs.Common.{◌≡◌, ◌≢◌, ◌⊎◌, inl, inr, ℕ, List, [], ◌∷◌, ◌++◌, length, map, true, false, ◌==◌, Result, Ok, refl, sym, ap, subst, ◌∙◌, arith, append_assoc, append-nil, length-append, eq-eqb, ne_eqb, true≢false}
use Rattle.plain_list.specs.Results.{◌>>=◌}
use Rattle.plain_list.proofs.Results.{bind_ok, ok_is, test_passes, test_fails}
use Rattle.ppddl_lex.specs.Words.{is_name}
use Rattle.ppddl_model.specs.declared.tree.ObjectDecl.{ObjectDecl}
use Rattle.ppddl_model.specs.WellFormed.{is_type}
use Rattle.ppddl_forms.specs.names.Declarations.{Declared, kind_named}
use Rattle.ppddl_cursor.specs.declared.place.Place.{Place}
use Rattle.ppddl_cursor.specs.Ahead.{same}
use Rattle.ppddl_cursor.specs.Forms.{Form, Forms, lone, group, none, more}
use Rattle.ppddl_cursor.specs.Reading.{Fault}
use Rattle.ppddl_cursor.specs.Sequences.{of_word, word_or_group, adding, checking}
use Rattle.ppddl_forms.specs.declared.name.Name.{Name}
use Rattle.ppddl_forms.specs.declared.symbols.TheConstants.{DASH, OBJECT}
use Rattle.ppddl_forms.specs.Sequences.{or_word, each_to}
use Rattle.ppddl_forms.specs.Words.{name}
use Rattle.ppddl_form_grammar.specs.forms.Words as word
use Rattle.ppddl_form_grammar.specs.forms.Words.{IsName}
use Rattle.ppddl_form_grammar.specs.forms.Lists as kind_by
use Rattle.ppddl_form_grammar.specs.forms.Lists.{IsType}
use Rattle.ppddl_form_grammar.proofs.lemmas.forms.Parts.{by_test, on_true, on_false, same_word, is_same, name_derived}
use Rattle.ppddl_forms.specs.items.Sequences.{unsupported}
use Rattle.ppddl_forms.specs.objects.Objects.{object_type, has_other, typed_as, one_typed, all_typed, known_type, typed, Listed, listed_so, at_dash, listed_by, listed, all_listed, objects_behind, objects}
use Rattle.ppddl_form_grammar.specs.lists.Objects as by
use Rattle.ppddl_form_grammar.specs.lists.Objects.{Typed, Behind, IsObjectList}
use Rattle.ppddl_form_grammar.proofs.lemmas.lists.Types as turn
use Rattle.ppddl_form_grammar.proofs.lemmas.lists.Types.{InTurn, together, in_turn}

-- a name is no dash
no_dash : (w : List ℕ) → is_name w ≡ true → same w DASH.now ≡ false
no_dash w is = by_test (same w DASH.now)
    (λ yes. absurd (let bad : is_name DASH.now ≡ true = subst (λ v. is_name v ≡ true) (same_word w DASH.now yes) is in cc))
    (λ no. no)

module _ (d : Declared) where
  -- ---- objects of one type

  abbrev all_of : List Name → List ℕ → List ObjectDecl
  all_of ns kind = map (typed_as kind) ns

  abbrev Judged : List ObjectDecl → List ObjectDecl → Type 0
  Judged done os = InTurn (d.objects ++ done) os

  one_more : (done os : List ObjectDecl) (o : ObjectDecl) → has_other (kind_named (d.objects ++ done) o.name) o.kind ≡ false → Judged (done ++ o ∷ []) os → Judged done (o ∷ os)
  one_more done os o agree others = turn.next agree (subst (λ all. InTurn all os) (sym (append_assoc d.objects done (o ∷ []))) others)

  one_ok : (kind : List ℕ) (done : List ObjectDecl) (n : Name) (grown : List ObjectDecl) → one_typed d kind done n ≡ Ok grown
      → (has_other (kind_named (d.objects ++ done) n.text) kind ≡ false) × (done ++ typed_as kind n ∷ [] ≡ grown)
  one_ok kind done n grown is =
      let t = test_fails (has_other (kind_named (d.objects ++ done) n.text) kind) _ (Ok (done ++ typed_as kind n ∷ [])) grown is in
      (t.0, ok_is {E = Fault} (done ++ typed_as kind n ∷ []) grown t.1)

  -- objects of one type, and then others
  all_ok : (kind : List ℕ) (ns : List Name) (done grown : List ObjectDecl) → all_typed d kind done ns ≡ Ok grown
      → (done ++ all_of ns kind ≡ grown) × ((os : List ObjectDecl) → Judged grown os → Judged done (all_of ns kind ++ os))
  all_ok kind [] done grown is =
      let e : done ≡ grown = ok_is {E = Fault} done grown is in (append-nil done ∙ e, λ os judged. subst (λ l. Judged l os) (sym e) judged)
  all_ok kind (n ∷ ns) done grown is =
      let r = bind_ok (one_typed d kind done n) (λ more. all_typed d kind more ns) grown is in
      let one = one_ok kind done n r.0 r.1 in
      let rest = all_ok kind ns r.0 grown r.2 in (
        sym (append_assoc done (typed_as kind n ∷ []) (all_of ns kind)) ∙ ap (λ l. l ++ all_of ns kind) one.1 ∙ rest.0,
        λ os judged. one_more done (all_of ns kind ++ os) (typed_as kind n) one.0 (subst (λ l. Judged l (all_of ns kind ++ os)) (sym one.1) (rest.1 os judged)),
      )

  -- ---- one form

  type_ok : (f : Form) (n : Name) → object_type f ≡ Ok n → is_type d.types n.text ≡ true → IsType d f n.text
  unfolding object_type word_or_group unsupported
  type_ok (lone w a) n is known = kind_by.known (name_derived (lone w a) n is) known
  type_ok (group a fs b) n is known = absurd cc

  abbrev Run : Listed → Forms → Place → Result (List ObjectDecl) Fault
  Run s = each_to (listed d) (all_listed d) s

  -- what is read of one form where no type is next
  abbrev Next : List ObjectDecl → List Name → Form → Listed → Type 0
  Next done waiting f s =
      ((length waiting ≢ 0) × ((a : Place) × (f ≡ lone DASH.now a)) × (listed_so done waiting true ≡ s))
      ⊎ ((n : Name) × IsName f n.text × (listed_so done (waiting ++ n ∷ []) false ≡ s))

  at_name : (done : List ObjectDecl) (waiting : List Name) (f : Form) (s : Listed)
      → checking (λ ns. Ok (listed_so done ns false)) (adding (λ seen. name) waiting) f ≡ Ok s → Next done waiting f s
  unfolding checking adding
  at_name done waiting f s is =
      let r = bind_ok (name f >>= λ n. Ok (waiting ++ n ∷ [])) (λ ns. Ok (listed_so done ns false)) s is in
      let q = bind_ok (name f) (λ n. Ok (waiting ++ n ∷ [])) r.0 r.1 in
      inr (q.0, name_derived f q.0 q.1, ap (λ ns. listed_so done ns false) (ok_is {E = Fault} (waiting ++ q.0 ∷ []) r.0 q.2) ∙ ok_is {E = Fault} (listed_so done r.0 false) s r.2)

  next_ok : (done : List ObjectDecl) (waiting : List Name) (f : Form) (s : Listed) → listed d (listed_so done waiting false) f ≡ Ok s → Next done waiting f s
  unfolding listed listed_by or_word
  next_ok done waiting (lone w a) s is = by_test (same w DASH.now)
      (λ yes.
      let t = test_fails (length waiting == 0) _ (Ok (listed_so done waiting true)) s (on_true (same w DASH.now) (at_dash (listed_so done waiting false) a) _ (Ok s) yes is) in
      inl ((λ e. true≢false (sym (eq-eqb (length waiting) 0 e) ∙ t.0)), (a, ap (λ v. lone v a) (same_word w DASH.now yes)), ok_is {E = Fault} (listed_so done waiting true) s t.1))
      (λ no. at_name done waiting (lone w a) s (on_false (same w DASH.now) (at_dash (listed_so done waiting false) a) _ (Ok s) no is))
  next_ok done waiting (group a gs b) s is = at_name done waiting (group a gs b) s is

  typed_ok : (kind : Name) (ns : List Name) (done : List ObjectDecl) (s : Listed) → (typed d done ns kind >>= λ more. Ok (listed_so more [] false)) ≡ Ok s
      → (grown : List ObjectDecl) × (is_type d.types kind.text ≡ true) × (done ++ all_of ns kind.text ≡ grown)
      × ((os : List ObjectDecl) → Judged grown os → Judged done (all_of ns kind.text ++ os)) × (listed_so grown [] false ≡ s)
  unfolding typed
  typed_ok kind ns done s is =
      let r = bind_ok (typed d done ns kind) (λ more. Ok (listed_so more [] false)) s is in
      let q = bind_ok (all_typed d kind.text done ns) (known_type d kind) r.0 r.1 in
      let k = test_passes (is_type d.types kind.text) q.0 _ r.0 q.2 in
      let all = all_ok kind.text ns done q.0 q.1 in
      let e : q.0 ≡ r.0 = k.1 in
      (r.0, k.0, all.0 ∙ e, (λ os judged. all.1 os (subst (λ l. Judged l os) (sym e) judged)), ok_is {E = Fault} (listed_so r.0 [] false) s r.2)

  -- ---- what is accepted is derived: where no object waits, where some do, and behind a `-`

  abbrev Whole : List ObjectDecl → List ObjectDecl → List ObjectDecl → Type 0
  Whole done os all = (done ++ os ≡ all) × Judged done os

  all_of_push : (ns : List Name) (n : Name) (kind : List ℕ) (os : List ObjectDecl) → all_of (ns ++ n ∷ []) kind ++ os ≡ all_of ns kind ++ typed_as kind n ∷ os
  all_of_push [] n kind os = refl
  all_of_push (m ∷ ns) n kind os = ap (λ l. typed_as kind m ∷ l) (all_of_push ns n kind os)

  mutual
    unfolding each_to listed listed_by checking

    none_waits : (fs : Forms) (b : Place) (done all : List ObjectDecl) → Run (listed_so done [] false) fs b ≡ Ok all → (os : List ObjectDecl) × Typed d fs os × Whole done os all
    none_waits none b done all is = ([], by.no_object, (append-nil done ∙ ok_is {E = Fault} done all is, turn.none_left))
    none_waits (more f fs) b done all is =
        let r = bind_ok (listed d (listed_so done [] false) f) (λ t. Run t fs b) all is in
        elim (next_ok done [] f r.0 r.1) [
          | inl dash ↦ absurd (dash.0 refl)
          | inr n ↦
              let w = some_wait fs b done [] n.0 all (ap (λ t. Run t fs b) n.2 ∙ r.2) in
              (typed_as w.0 n.0 ∷ w.1, by.first n.1 w.2, w.3)
        ]

    -- the objects ns and n wait
    some_wait : (fs : Forms) (b : Place) (done : List ObjectDecl) (ns : List Name) (n : Name) (all : List ObjectDecl) → Run (listed_so done (ns ++ n ∷ []) false) fs b ≡ Ok all
        → (kind : List ℕ) × (os : List ObjectDecl) × Behind d kind fs os × Whole done (all_of (ns ++ n ∷ []) kind ++ os) all
    some_wait none b done ns n all is =
        let ms = ns ++ n ∷ [] in
        let t = all_ok OBJECT.now ms done all is in
        (OBJECT.now, [], by.untyped, (ap (λ l. done ++ l) (append-nil (all_of ms OBJECT.now)) ∙ t.0, t.1 [] turn.none_left))
    some_wait (more f fs) b done ns n all is =
        let ms = ns ++ n ∷ [] in
        let r = bind_ok (listed d (listed_so done ms false) f) (λ t. Run t fs b) all is in
        elim (next_ok done ms f r.0 r.1) [
          | inl dash ↦
              let t = typing fs b done ms all (ap (λ t. Run t fs b) dash.2 ∙ r.2) in
              let dashed : lone DASH.now dash.1.0 ≡ f = sym dash.1.1 in
              (t.0, t.1, subst (λ g. Behind d t.0 (more g fs) t.1) dashed (t.2 dash.1.0), t.3)
          | inr m ↦
              let w = some_wait fs b done ms m.0 all (ap (λ t. Run t fs b) m.2 ∙ r.2) in
              let parted : all_of (ms ++ m.0 ∷ []) w.0 ++ w.1 ≡ all_of ms w.0 ++ typed_as w.0 m.0 ∷ w.1 = all_of_push ms m.0 w.0 w.1 in
              (w.0, typed_as w.0 m.0 ∷ w.1, by.another m.1 w.2, subst (λ os. Whole done os all) parted w.3)
        ]

    -- the type of the objects ns is next
    typing : (fs : Forms) (b : Place) (done : List ObjectDecl) (ns : List Name) (all : List ObjectDecl) → Run (listed_so done ns true) fs b ≡ Ok all
        → (kind : List ℕ) × (os : List ObjectDecl) × ((a : Place) → Behind d kind (more (lone DASH.now a) fs) os) × Whole done (all_of ns kind ++ os) all
    typing none b done ns all is = absurd cc
    typing (more f fs) b done ns all is =
        let r = bind_ok (object_type f >>= λ kind. typed d done ns kind >>= λ more. Ok (listed_so more [] false)) (λ t. Run t fs b) all is in
        let q = bind_ok (object_type f) (λ kind. typed d done ns kind >>= λ more. Ok (listed_so more [] false)) r.0 r.1 in
        let t = typed_ok q.0 ns done r.0 q.2 in
        let on : Run (listed_so t.0 [] false) fs b ≡ Ok all = ap (λ s. Run s fs b) t.4 ∙ r.2 in
        let rest = none_waits fs b t.0 all on in (
          q.0.text,
          rest.0,
          (λ a. by.typed (type_ok f q.0 q.1 t.1) rest.1),
          (
            sym (append_assoc done (all_of ns q.0.text) rest.0) ∙ ap (λ l. l ++ rest.0) t.2 ∙ rest.2.0,
            t.3 rest.0 rest.2.1,
          ),
        )

  pub objects_derived : (fs : Forms) (b : Place) (os : List ObjectDecl) → objects d fs b ≡ Ok os → IsObjectList d fs os
  unfolding objects_behind
  objects_derived fs b os is =
      let r = none_waits fs b [] os is in
      let judged : InTurn d.objects r.0 = subst (λ l. InTurn l r.0) (append-nil d.objects) r.2.1 in
      subst (IsObjectList d fs) r.2.0 (by.objects r.1 (together d.objects r.0 judged))

  -- ---- and what is derived is accepted

  -- some objects, and those behind them, judged one behind the others
  first_judged : (done os : List ObjectDecl) (o : ObjectDecl) → Judged done (o ∷ os) → (has_other (kind_named (d.objects ++ done) o.name) o.kind ≡ false) × Judged (done ++ o ∷ []) os
  first_judged done os o (turn.next agree others) = (agree, subst (λ l. InTurn l os) (append_assoc d.objects done (o ∷ [])) others)

  all_accepted : (kind : List ℕ) (ns : List Name) (done os : List ObjectDecl) → Judged done (all_of ns kind ++ os)
      → (all_typed d kind done ns ≡ Ok (done ++ all_of ns kind)) × Judged (done ++ all_of ns kind) os
  all_accepted kind [] done os judged = (ap (λ (l : List ObjectDecl). Ok l) (sym (append-nil done)), subst (λ l. Judged l os) (sym (append-nil done)) judged)
  all_accepted kind (n ∷ ns) done os judged =
      let one : ObjectDecl = typed_as kind n in
      let parts = first_judged done (all_of ns kind ++ os) one judged in
      let rest = all_accepted kind ns (done ++ one ∷ []) os parts.1 in
      let front : (done ++ one ∷ []) ++ all_of ns kind ≡ done ++ one ∷ all_of ns kind = append_assoc done (one ∷ []) (all_of ns kind) in
      (rw parts.0 (rest.0 ∙ ap (λ (l : List ObjectDecl). Ok l) front), subst (λ l. Judged l os) front rest.1)

  name_reads : (done : List ObjectDecl) (waiting : List Name) (w : List ℕ) (a : Place) → is_name w ≡ true
      → listed d (listed_so done waiting false) (lone w a) ≡ Ok (listed_so done (waiting ++ record { text = w; place = a } ∷ []) false)
  unfolding listed listed_by or_word checking adding name of_word
  name_reads done waiting w a named = rw (no_dash w named, named) refl

  dash_reads : (done : List ObjectDecl) (waiting : List Name) (a : Place) → length waiting ≢ 0 → listed d (listed_so done waiting false) (lone DASH.now a) ≡ Ok (listed_so done waiting true)
  unfolding listed listed_by or_word
  dash_reads done waiting a some = rw (is_same DASH.now, ne_eqb (length waiting) 0 some) refl

  type_reads : (done : List ObjectDecl) (waiting : List Name) (f : Form) (kind : List ℕ) (grown : List ObjectDecl) → IsType d f kind → all_typed d kind done waiting ≡ Ok grown
      → listed d (listed_so done waiting true) f ≡ Ok (listed_so grown [] false)
  unfolding listed listed_by checking object_type word_or_group name of_word typed
  type_reads done waiting f kind grown (kind_by.known (word.name named) known) all = rw (named, all, known) refl

  mutual
    unfolding each_to

    none_accepted : (fs : Forms) (os : List ObjectDecl) → Typed d fs os → (b : Place) (done : List ObjectDecl) → Judged done os → Run (listed_so done [] false) fs b ≡ Ok (done ++ os)
    none_accepted fs os by.no_object b done judged = ap (λ (l : List ObjectDecl). Ok l) (sym (append-nil done))
    none_accepted fs os (by.first {fs = gs} {kind = kind} {os = others} (word.name {w = w} {a = a} named) behind) b done judged =
        rw (name_reads done [] w a named) (some_accepted kind gs others behind b done [] (record { text = w; place = a }) judged)

    some_accepted : (kind : List ℕ) (fs : Forms) (os : List ObjectDecl) → Behind d kind fs os → (b : Place) (done : List ObjectDecl) (ns : List Name) (n : Name)
        → Judged done (all_of (ns ++ n ∷ []) kind ++ os) → Run (listed_so done (ns ++ n ∷ []) false) fs b ≡ Ok (done ++ (all_of (ns ++ n ∷ []) kind ++ os))
    some_accepted kind fs os by.untyped b done ns n judged =
        let all = all_accepted OBJECT.now (ns ++ n ∷ []) done [] judged in
        all.0 ∙ ap (λ (l : List ObjectDecl). Ok (done ++ l)) (sym (append-nil (all_of (ns ++ n ∷ []) OBJECT.now)))
    some_accepted kind fs os (by.another {fs = gs} {os = others} (word.name {w = w} {a = a} named) behind) b done ns n judged =
        let ms = ns ++ n ∷ [] in
        let m : Name = record { text = w; place = a } in
        let parted : all_of (ms ++ m ∷ []) kind ++ others ≡ all_of ms kind ++ typed_as kind m ∷ others = all_of_push ms m kind others in
        rw (name_reads done ms w a named)
        (some_accepted kind gs others behind b done ms m (subst (Judged done) (sym parted) judged) ∙ ap (λ (l : List ObjectDecl). Ok (done ++ l)) parted)
    some_accepted kind fs os (by.typed {a = a} {f = f} {fs = gs} is typed) b done ns n judged =
        let ms = ns ++ n ∷ [] in
        let some : length ms ≢ 0 = λ e. absurd (omega (arith, e, length-append ns (n ∷ []))) in
        let all = all_accepted kind ms done os judged in
        rw (dash_reads done ms a some, type_reads done ms f kind (done ++ all_of ms kind) is all.0)
        (none_accepted gs os typed b (done ++ all_of ms kind) all.1 ∙ ap (λ (l : List ObjectDecl). Ok l) (append_assoc done (all_of ms kind) os))

  pub objects_accepted : (fs : Forms) (b : Place) (os : List ObjectDecl) → IsObjectList d fs os → objects d fs b ≡ Ok os
  unfolding objects_behind
  objects_accepted fs b os (by.objects typed have) =
      none_accepted fs os typed b [] (subst (λ l. InTurn l os) (sym (append-nil d.objects)) (in_turn d.objects os have))
