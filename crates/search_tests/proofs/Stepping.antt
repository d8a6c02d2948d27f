-- A state to which an action leads from one that was found is reached.
use Rattle.std.proofs.Common.{◌≡◌, ℕ, zero, suc, ◌+◌, ◌<◌, ◌≤◌, true, false, cond, Some, None, List, [], ◌∷◌, length, map, refl, sym, ap, ◌∙◌, subst, inl, inr, arith}
use Rattle.std.specs.Prelude.{Bool, filter, Contains, Option, flat_map}
use Rattle.std.specs.List.{slice_get, range_with_len}
use Rattle.std.proofs.lemmas.Bool.{cases_eq}
use Rattle.std.proofs.lemmas.Option.{slice_get-map, slice_get_within}
use Rattle.plain_list.proofs.Members.{Contains-flat_map}
use Rattle.decision_process.specs.Process.{Outcome}
use Rattle.decision_process.specs.Levels.{nexts, successors}
use Rattle.ground_model.specs.declared.action.GroundAction.{GroundAction}
use Rattle.ground_model.specs.Packed.{State}
use Rattle.ground_model.specs.Ground.{Ground}
use Rattle.ground_model.specs.Steps.{ground_process, is_open_at}
use Rattle.ground_model.proofs.Steps.{slice_get-contains}
use Rattle.ground_step.specs.Steps.{next_at}
use Rattle.word_table.specs.view.Views.{IsReached}
use Rattle.word_table.proofs.lemmas.view.Lists.{is_first, is_later, first_or_later, none_is_in}
use Rattle.word_table.specs.Seen.{Board, Knowledge, IsOf}
use Rattle.state_interner.specs.Interned.{IsIdOf}
use Rattle.search_tests.specs.Steps.{CanStep}

opened : (o : Option GroundAction) (s : State) → is_open_at o s ≡ true → (a : GroundAction) × (o ≡ Some a)
opened None s on = absurd cc
opened (Some a) s on = (a, refl)

in_range : (a n k : ℕ) → a ≤ k → k < a + n → Contains (range_with_len a n) k
in_range a zero k first last = absurd (omega arith)
in_range a (suc n) k first last = elim (cases_eq a k) [
  | inl same ↦ subst (λ x. Contains (a ∷ range_with_len (a + 1) n) x) same (is_first a (range_with_len (a + 1) n))
  | inr apart ↦ is_later a k (range_with_len (a + 1) n) (in_range (a + 1) n k (omega arith) (omega arith))
]

passes : (p : ℕ → Bool) (xs : List ℕ) (k : ℕ) → Contains xs k → p k ≡ true → Contains (filter p xs) k
passes p [] k there on = absurd (none_is_in k there)
passes p (x ∷ xs) k there on = elim (first_or_later x k xs there) [
  | inl same ↦
      let here : p x ≡ true = ap p same ∙ on in
      subst (λ b. Contains (cond b (x ∷ filter p xs) (filter p xs)) k) (sym here)
      (subst (λ y. Contains (x ∷ filter p xs) y) same (is_first x (filter p xs)))
  | inr later ↦
      let rest : Contains (filter p xs) k = passes p xs k later on in
      elim (p x) as (λ b. Contains (cond b (x ∷ filter p xs) (filter p xs)) k) [
        | true ↦ is_later x k (filter p xs) rest
        | false ↦ rest
      ]
]

code_opens : (g : Ground) (s : State) (k : ℕ) (a : GroundAction) → slice_get g.actions k ≡ Some a → is_open_at (slice_get g.actions k) s ≡ true
    → Contains ((ground_process g).choices s) k
code_opens g s k a there on =
    let below : k < length g.actions = slice_get_within g.actions k a there in
    passes (λ j. is_open_at (slice_get g.actions j) s) (range_with_len 0 (length g.actions)) k (in_range 0 (length g.actions) k (omega arith) (omega arith)) on

next_is_there : (g : Ground) (k i : ℕ) (s t : State) → next_at g k i s ≡ Some t → Contains (nexts (ground_process g) k s) t
next_is_there g k i s t is =
    let next : Outcome State → State = λ o. o.next in
    slice_get-contains (nexts (ground_process g) k s) i t (slice_get-map next ((ground_process g).step k s) i ∙ is)

pub step_is_reached : (b : Board) (g : Ground) (k : Knowledge) (s t : State) (id action : ℕ) → g ≡ b.problem → IsOf b k → IsIdOf k.view s id
    → CanStep g s action → next_at g action 0 s ≡ Some t → IsReached k.view t
step_is_reached b g k s t id action same of its can next =
    let all : List State = flat_map (λ a. nexts (ground_process g) a s) ((ground_process g).choices s) in
    let is : successors (ground_process g) s ≡ all = ap (λ x. cond x [] all) can.off_goal in
    let found = opened (slice_get g.actions action) s can.opens in
    let open' : Contains ((ground_process g).choices s) action = code_opens g s action found.0 found.1 can.opens in
    let there : Contains all t = Contains-flat_map (λ a. nexts (ground_process g) a s) ((ground_process g).choices s) action t open'
    (next_is_there g action 0 s t next) in record {
      id = id;
      from = s;
      known = its.known;
      has = its.state;
      next = subst (λ (p : Ground). Contains (successors (ground_process p) s) t) (same ∙ sym of.view.problem)
          (subst (λ (xs : List State). Contains xs t) (sym is) there);
    }
