-- The index while it is built, action by action.
use Rattle.std.proofs.Common.{◌≡◌, ◌≢◌, ℕ, suc, zero, ◌+◌, ◌<◌, Bool, true, false, not, cond, ◌&&◌, ◌||◌, Option, Some, None, List, [], ◌∷◌, ◌++◌, length, length-append, map, refl, sym, ap, subst, inl, inr, ◌∙◌, arith, get_or, true≢false, IsTrue}
use Rattle.std.specs.Prelude.{All, Contains, IfSome, nat_eq, nat_lt}
use Rattle.std.specs.List.{range_with_len, list_all, slice_get}
use Rattle.std.proofs.lemmas.Bool.{cases_lt, and_parts, eq-eqb, ltb-true}
use Rattle.std.proofs.lemmas.Bool.Decides.{eqb_tells}
use Rattle.std.proofs.lemmas.List.{map-append, get_or_append_left, get_or_push, get_or-set_same, get_or-set_other}
use Rattle.std.proofs.lemmas.List.Elements.{All-nil, All-push, All-weaker}
use Rattle.std.proofs.lemmas.List.Folds.{list_any-append}
use Rattle.plain_list.proofs.Members.{Contains-cons_cases, Contains-nil}
use Rattle.ground_model.specs.declared.action.GroundAction.{GroundAction}
use Rattle.ground_model.specs.declared.condition.GroundCondition.{GroundCondition}
use Rattle.ground_model.specs.declared.condition.GroundCondition.TheVariants as condition
use Rattle.ground_model.specs.Packed.{has_bit}
use Rattle.ground_model.specs.Truth.{truth}
use Rattle.ground_model.specs.Choices.{is_member}
use Rattle.ground_model.specs.Steps.{is_open_at, is_open}
use Rattle.applicable_actions.specs.declared.entry.Entry.{Entry}
use Rattle.applicable_actions.specs.Masks.{passes, AreRequired, IsMaskOf}
use Rattle.applicable_actions.specs.Runs.{Runs, run_at, put, with_always, with_entry, no_entries}
use Rattle.applicable_actions.specs.Index.{codes_of, Leads, IsEntry, AreRuns}
use Rattle.applicable_actions.specs.LeftOut.{Indexed, is_left_out, is_kept}
use Rattle.applicable_actions.proofs.Marks.{or_either}

-- ---- members

member_before : (es : List Entry) (e : Entry) (k : ℕ) → is_member (codes_of es) k ≡ true
    → is_member (codes_of (es ++ e ∷ [])) k ≡ true
member_before es e k member =
    ap (λ codes. is_member codes k) (map-append (λ (x : Entry). x.code) es (e ∷ []))
    ∙ list_any-append (nat_eq k) (codes_of es) (e.code ∷ [])
    ∙ or_either (is_member (codes_of es) k) (is_member (e.code ∷ []) k) (inl member)

member_last : (es : List Entry) (e : Entry) (k : ℕ) → e.code ≡ k → is_member (codes_of (es ++ e ∷ [])) k ≡ true
member_last es e k here =
    ap (λ codes. is_member codes k) (map-append (λ (x : Entry). x.code) es (e ∷ []))
    ∙ list_any-append (nat_eq k) (codes_of es) (e.code ∷ [])
    ∙ or_either (is_member (codes_of es) k) (is_member (e.code ∷ []) k)
    (inr (or_either (nat_eq k e.code) false (inl (eq-eqb k e.code (sym here)))))

-- ---- entries

alone : (b : Bool) → (b && true) ≡ b
alone true = refl
alone false = refl

-- a test that is needed, and enough where it is whole
test_says : (passes_it whole holds : Bool) → (holds ≡ true → passes_it ≡ true) → (whole ≡ true → passes_it ≡ true → holds ≡ true)
    → (passes_it && (whole || holds)) ≡ holds
test_says true true holds needed enough = sym (enough refl refl)
test_says true false holds needed enough = refl
test_says false whole true needed enough = needed refl
test_says false whole false needed enough = refl

kept_says : (holds kept : Bool) → kept ≡ true → holds ≡ (holds && kept)
kept_says holds kept is = sym (ap (λ b. holds && b) is ∙ alone holds)

module _ (index : Indexed) (conditions : List GroundCondition) where
  -- the entry of an action whose precondition is put behind the others
  is_entry : (e : Entry) (a : GroundAction) → slice_get index.problem.actions e.code ≡ Some a
      → IsTrue (is_kept index.left_out e.code) → e.place ≡ length conditions → IsMaskOf (e.test ∷ []) e.is_whole a.condition
      → IsEntry index (conditions ++ a.condition ∷ []) e
  is_entry e a here kept place mask =
      let c : GroundCondition = a.condition in
      record {
        has_place = omega (arith, place, length-append conditions (c ∷ []));
        says = λ s.
            ap (λ d. passes e.test s && (e.is_whole || truth (has_bit s) d))
            (get_or_push conditions c condition.True e.place (sym place))
            ∙ test_says (passes e.test s) e.is_whole (truth (has_bit s) c)
            (λ holds. sym (alone (passes e.test s)) ∙ mask.needed s holds)
            (λ whole passes_it. mask.enough whole s (alone (passes e.test s) ∙ passes_it))
            ∙ sym (ap (λ o. is_open_at o s) here)
            ∙ kept_says (is_open index.problem e.code s) (is_kept index.left_out e.code) kept;
      }

  entry_grows : (c : GroundCondition) (e : Entry) → IsEntry index conditions e → IsEntry index (conditions ++ c ∷ []) e
  entry_grows c e entry = record {
    has_place = (let within = entry.has_place in omega (arith, within, length-append conditions (c ∷ [])));
    says = λ s.
        ap (λ d. passes e.test s && (e.is_whole || truth (has_bit s) d))
        (get_or_append_left conditions (c ∷ []) condition.True e.place entry.has_place)
        ∙ entry.says s;
  }

  runs_grow : (runs : Runs) (i : ℕ) (c : GroundCondition) → AreRuns index conditions runs i
      → AreRuns index (conditions ++ c ∷ []) runs i
  runs_grow runs i c are = record {
    always_are = All-weaker (IsEntry index conditions) (IsEntry index (conditions ++ c ∷ [])) (entry_grows c) runs.always are.always_are;
    runs_are = λ a.
        All-weaker (IsEntry index conditions) (IsEntry index (conditions ++ c ∷ [])) (entry_grows c) (run_at runs a) (are.runs_are a);
    found = are.found;
  }

  -- ---- one more action

  -- it is left out
  pub left_out_are : (runs : Runs) (i : ℕ) → AreRuns index conditions runs i → IsTrue (is_left_out index.left_out i)
      → AreRuns index conditions runs (i + 1)
  left_out_are runs i are gone = record {
    always_are = are.always_are;
    runs_are = are.runs_are;
    found = λ k below kept. elim (cases_lt k i) [
      | inl before ↦ are.found k before kept
      | inr last ↦
          let here : k ≡ i = omega (arith, last, below) in
          absurd (true≢false (sym kept ∙ ap (is_kept index.left_out) here ∙ ap not gone))
    ];
  }

  module _ (runs : Runs) (i : ℕ) (are : AreRuns index conditions runs i) (e : Entry) (entry : IsEntry index conditions e)
      (code : e.code ≡ i) where
    always_are : AreRuns index conditions (with_always e runs) (i + 1)
    always_are = record {
      always_are = All-push (IsEntry index conditions) runs.always e are.always_are entry;
      runs_are = are.runs_are;
      found = λ k below kept. elim (cases_lt k i) [
        | inl before ↦ elim (are.found k before kept) [
          | inl here ↦ inl (member_before runs.always e k here)
          | inr there ↦ inr there
        ]
        | inr last ↦ inl (member_last runs.always e k (omega (arith, code, last, below)))
      ];
    }

    module _ (a : ℕ) (within : a < length runs.by_atom) (leads : Leads index.problem a i) where
      abbrev more : List Entry
      more = run_at runs a ++ e ∷ []

      at_atom : run_at (with_entry a e runs) a ≡ more
      at_atom = get_or-set_same runs.by_atom a more [] within

      at_other : (b : ℕ) → b ≢ a → run_at (with_entry a e runs) b ≡ run_at runs b
      at_other b other = get_or-set_other runs.by_atom a b more [] other

      kept_member : (b k : ℕ) → is_member (codes_of (run_at runs b)) k ≡ true
          → is_member (codes_of (run_at (with_entry a e runs) b)) k ≡ true
      kept_member b k member = elim (eqb_tells b a) [
        | inl same ↦
            ap (λ c. is_member (codes_of (run_at (with_entry a e runs) c)) k) same.1
            ∙ ap (λ es. is_member (codes_of es) k) at_atom
            ∙ member_before (run_at runs a) e k (ap (λ c. is_member (codes_of (run_at runs c)) k) (sym same.1) ∙ member)
        | inr other ↦ ap (λ es. is_member (codes_of es) k) (at_other b other.1) ∙ member
      ]

      entry_are : AreRuns index conditions (with_entry a e runs) (i + 1)
      entry_are = record {
        always_are = are.always_are;
        runs_are = λ b. elim (eqb_tells b a) [
          | inl same ↦
              subst (λ c. All (IsEntry index conditions) (run_at (with_entry a e runs) c)) (sym same.1)
              (subst (All (IsEntry index conditions)) (sym at_atom) (All-push (IsEntry index conditions) (run_at runs a) e (are.runs_are a) entry))
          | inr other ↦ subst (All (IsEntry index conditions)) (sym (at_other b other.1)) (are.runs_are b)
        ];
        found = λ k below kept. elim (cases_lt k i) [
          | inl before ↦ elim (are.found k before kept) [
            | inl here ↦ inl here
            | inr there ↦ inr (there.0, kept_member there.0 k there.1, there.2)
          ]
          | inr last ↦
              let here : k ≡ i = omega (arith, last, below) in
              inr (
                a,
                ap (λ es. is_member (codes_of es) k) at_atom ∙ member_last (run_at runs a) e k (code ∙ sym here),
                subst (Leads index.problem a) (sym here) leads,
              )
        ];
      }

    put_entry : (b : Bool) (a : ℕ) → (b ≡ true → a < length runs.by_atom) → Leads index.problem a i
        → AreRuns index conditions (cond b (with_entry a e runs) (with_always e runs)) (i + 1)
    put_entry true a within leads = entry_are a (within refl) leads
    put_entry false a within leads = always_are

    put_are : (atom : Option ℕ) → IfSome atom (λ a. Leads index.problem a i) → AreRuns index conditions (put atom e runs) (i + 1)
    put_are None leads = always_are
    put_are (Some a) leads =
        put_entry (nat_lt a (length runs.by_atom)) a (λ test. ltb-true a (length runs.by_atom) test) leads

  nothing_at : (n a b : ℕ) → get_or (map (λ _. let none : List Entry = [] in none) (range_with_len b n)) a [] ≡ []
  nothing_at zero a b = refl
  nothing_at (suc n) zero b = refl
  nothing_at (suc n) (suc a) b = nothing_at n a (b + 1)

  pub none_are : (n : ℕ) → AreRuns index conditions (no_entries n) 0
  none_are n = record {
    always_are = All-nil (IsEntry index conditions);
    runs_are = λ a. subst (All (IsEntry index conditions)) (sym (nothing_at n a 0)) (All-nil (IsEntry index conditions));
    found = λ k below. absurd (omega arith);
  }

all_holds : (p : ℕ → Bool) (xs : List ℕ) (x : ℕ) → list_all p xs ≡ true → Contains xs x → p x ≡ true
all_holds p [] x all member = absurd (Contains-nil x member)
all_holds p (y ∷ xs) x all member =
    let parts = and_parts (p y) (list_all p xs) all in
    elim (Contains-cons_cases y xs x member) [
      | inl here ↦ subst (λ z. p z ≡ true) here parts.0
      | inr later ↦ all_holds p xs x parts.1 later
    ]

leads_some : (index : Indexed) (k : ℕ) (a : GroundAction) (atoms : List ℕ) (atom : Option ℕ)
    → slice_get index.problem.actions k ≡ Some a → AreRequired atoms a.condition → IfSome atom (λ b. Contains atoms b)
    → IfSome atom (λ b. Leads index.problem b k)
leads_some index k a atoms None here required member = member
leads_some index k a atoms (Some b) here required member =
    λ s opens_here. all_holds (has_bit s) atoms b (required s (sym (ap (λ o. is_open_at o s) here) ∙ opens_here)) member

-- it has an entry
pub put_action : (index : Indexed) (conditions : List GroundCondition) (runs : Runs) (i : ℕ) (a : GroundAction)
    → AreRuns index conditions runs i → slice_get index.problem.actions i ≡ Some a → IsTrue (is_kept index.left_out i)
    → (e : Entry) → e.code ≡ i → e.place ≡ length conditions → IsMaskOf (e.test ∷ []) e.is_whole a.condition
    → (atoms : List ℕ) (atom : Option ℕ) → AreRequired atoms a.condition → IfSome atom (λ b. Contains atoms b)
    → AreRuns index (conditions ++ a.condition ∷ []) (put atom e runs) (i + 1)
put_action index conditions runs i a are here kept e code place mask atoms atom required member =
    let c : GroundCondition = a.condition in
    put_are index (conditions ++ c ∷ []) runs i (runs_grow index conditions runs i c are) e
    (is_entry index conditions e a (ap (slice_get index.problem.actions) code ∙ here)
    (ap (is_kept index.left_out) code ∙ kept) place mask) code atom
    (leads_some index i a atoms atom here required member)
