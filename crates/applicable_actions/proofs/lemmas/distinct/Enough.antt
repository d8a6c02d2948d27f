-- Backups and successors by actions that are enough.
use Rattle.std.proofs.Common.{◌≡◌, inl, inr, ℕ, ◌+◌, ◌≤◌, cond, Some, List, [], map, refl, sym, ap, subst, ◌∙◌, arith}
use Rattle.std.specs.Prelude.{Contains, flat_map}
use Rattle.plain_list.proofs.Members.{Contains-flat_map, Contains-flat_map_cases}
use Rattle.decision_process.specs.Process.{Outcome, min_with, expected}
use Rattle.decision_process.specs.Backup.{lower_candidate, upper_candidate, floor, ceiling}
use Rattle.decision_process.specs.Levels.{nexts, successors}
use Rattle.decision_process.proofs.Choice.{min_with_is_least}
use Rattle.ground_model.specs.declared.action.GroundAction.{GroundAction}
use Rattle.ground_model.specs.Packed.{State}
use Rattle.ground_model.specs.Ground.{Ground}
use Rattle.ground_model.specs.Steps.{ground_process, step, step_at, den_of}
use Rattle.applicable_actions.specs.distinct.Enough.{DoTheSame, AreLike, AreEnough}
use Rattle.applicable_actions.specs.distinct.Laws.{LowerByEnough, UpperByEnough, SuccessorsByEnough}

-- ---- actions that do the same have the same steps

same_step_at : (den : ℕ) (one other : GroundAction) (s : State) → DoTheSame one other
    → step_at den (Some one) s ≡ step_at den (Some other) s
same_step_at den one other s same = rw (same.choices, same.den) refl

same_step : (g : Ground) (j k : ℕ) (s : State) → AreLike g.actions j k → step g j s ≡ step g k s
same_step g j k s like =
    ap (λ o. step_at (den_of g.actions) o s) like.one_here ∙ same_step_at (den_of g.actions) like.one like.other s like.same
    ∙ sym (ap (λ o. step_at (den_of g.actions) o s) like.other_here)

-- ---- the least of a list by one that stands for it

module _ {A : Type 0} (top : ℕ) (f : A → ℕ) where
  least_of_more : (xs ys : List A) → ((x : A) → Contains xs x → (y : A) × Contains ys y × (f y ≡ f x))
      → min_with top f ys ≤ min_with top f xs
  least_of_more xs ys each = elim ((min_with_is_least top f xs).one_of_them) [
    | inl quits ↦ let under = (min_with_is_least top f ys).within_top in omega arith
    | inr acts ↦
        let other = each acts.0 acts.1 in
        let under : min_with top f ys ≤ f other.0 = (min_with_is_least top f ys).within_each other.0 other.1 in
        let as_much = other.2 in
        let is = acts.2 in
        omega arith
  ]

  same_least : (xs ys : List A) → ((x : A) → Contains xs x → (y : A) × Contains ys y × (f y ≡ f x))
      → ((y : A) → Contains ys y → Contains xs y) → min_with top f ys ≡ min_with top f xs
  same_least xs ys each from =
      let under = least_of_more xs ys each in
      let over = least_of_more ys xs (λ y inside. (y, from y inside, refl)) in
      omega arith

module _ (g : Ground) (s : State) (codes : List ℕ) (enough : AreEnough g s codes) where
  least_by_enough : (f : ℕ → ℕ) → ((j k : ℕ) → step g j s ≡ step g k s → f j ≡ f k)
      → min_with g.penalty f codes ≡ min_with g.penalty f ((ground_process g).choices s)
  least_by_enough f by_step =
      same_least g.penalty f ((ground_process g).choices s) codes
      (λ k inside.
      let found = enough.each k inside in
      (found.code, found.listed, by_step found.code k (same_step g found.code k s found.like)))
      enough.are_open

pub lower_by_enough : LowerByEnough
lower_by_enough g s codes enough off low =
    least_by_enough g s codes enough (λ k. lower_candidate (ground_process g) low k s)
    (λ j k same. ap (λ (outcomes : List (Outcome State)). floor (expected (λ o. o.cost + low o.next) outcomes) (den_of g.actions)) same)
    ∙ sym (ap (λ b. cond b 0 (min_with g.penalty (λ k. lower_candidate (ground_process g) low k s) ((ground_process g).choices s))) off)

pub upper_by_enough : UpperByEnough
upper_by_enough g s codes enough off high =
    least_by_enough g s codes enough (λ k. upper_candidate (ground_process g) high k s)
    (λ j k same. ap (λ (outcomes : List (Outcome State)). ceiling (expected (λ o. o.cost + high o.next) outcomes) (den_of g.actions)) same)
    ∙ sym (ap (λ b. cond b 0 (min_with g.penalty (λ k. upper_candidate (ground_process g) high k s) ((ground_process g).choices s))) off)

pub successors_by_enough : SuccessorsByEnough
successors_by_enough g s codes enough off t =
    let all : successors (ground_process g) s ≡ flat_map (λ k. nexts (ground_process g) k s) ((ground_process g).choices s)
    = ap (λ b. cond b [] (flat_map (λ k. nexts (ground_process g) k s) ((ground_process g).choices s))) off in (
      λ inside.
          let from = Contains-flat_map_cases (λ k. nexts (ground_process g) k s) codes t inside in
          subst (λ xs. Contains xs t) (sym all)
          (Contains-flat_map (λ k. nexts (ground_process g) k s) ((ground_process g).choices s) from.0 t (enough.are_open from.0 from.1) from.2),
      λ inside.
          let from = Contains-flat_map_cases (λ k. nexts (ground_process g) k s) ((ground_process g).choices s) t
          (subst (λ xs. Contains xs t) all inside) in
          let found = enough.each from.0 from.1 in
          Contains-flat_map (λ k. nexts (ground_process g) k s) codes found.code t found.listed
          (subst (λ (outcomes : List (Outcome State)). Contains (map (λ (o : Outcome State). o.next) outcomes) t)
          (sym (same_step g found.code from.0 s found.like)) from.2),
    )
