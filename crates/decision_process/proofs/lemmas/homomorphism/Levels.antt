-- The states near the starts are carried, and so is the depth within which there are at most so many.
use Rattle.std.proofs.Common.{◌≡◌, ℕ, suc, zero, Bool, true, false, cond, List, [], map, Option, None, Some, refl, sym, ap, subst, inl, inr, ◌∙◌, arith}
use Rattle.std.specs.Prelude.{flat_map, Contains}
use Rattle.std.proofs.lemmas.List.{length-map}
use Rattle.std.proofs.lemmas.List.Elements.{Contains-append_left, Contains-append_right, Contains-append_cases}
use Rattle.plain_list.proofs.Members.{Contains-nil, Contains-map, Contains-map_cases, Contains-flat_map, Contains-flat_map_cases}
use Rattle.plain_list.specs.weighted.Chances.{IsExact}
use Rattle.plain_list.proofs.lemmas.weighted.Alike.{alike_symmetric}
use Rattle.plain_list.proofs.lemmas.weighted.Related.{alike_has_member}
use Rattle.decision_process.specs.Process.{Process, Outcome, Start}
use Rattle.decision_process.specs.Levels.{nexts, successors, near, HasAtMost, IsDepthWithin}
use Rattle.decision_process.specs.homomorphism.Homomorphism.{Mapping, IsValid, IsHomomorphism, AreStartsOf, HasPositiveWeights, IsInverse}
use Rattle.decision_process.specs.homomorphism.Laws as laws
use Rattle.decision_process.proofs.lemmas.homomorphism.Pairs.{same_pair, same_pair_is_exact}

-- the next states of open actions, off goals
module _ {S A : Type 0} (p : Process S A) where
  unless_goal : (goal : Bool) (l : List S) (x : S) → Contains (cond goal [] l) x → (goal ≡ false) × Contains l x
  unless_goal true l x inside = absurd (Contains-nil x inside)
  unless_goal false l x inside = (refl, inside)

  record IsStep (s x : S) : Type 0 where
    off : p.goal s ≡ false
    action : A
    is_open : Contains (p.choices s) action
    outcome : Outcome S
    inside : Contains (p.step action s) outcome
    is_next : outcome.next ≡ x

  successors_cases : (s x : S) → Contains (successors p s) x → IsStep s x
  successors_cases s x inside =
      let parts = unless_goal (p.goal s) (flat_map (λ a. nexts p a s) (p.choices s)) x inside in
      let found = Contains-flat_map_cases (λ a. nexts p a s) (p.choices s) x parts.1 in
      let outcome = Contains-map_cases (λ (o : Outcome S). o.next) (p.step found.0 s) x found.2 in
      record {
        off = parts.0;
        action = found.0;
        is_open = found.1;
        outcome = outcome.0;
        inside = outcome.1;
        is_next = outcome.2;
      }

  Contains-successors : (s : S) (a : A) (o : Outcome S) → p.goal s ≡ false → Contains (p.choices s) a → Contains (p.step a s) o
      → Contains (successors p s) o.next
  Contains-successors s a o off is_open inside =
      subst (λ goal. Contains (cond goal [] (flat_map (λ b. nexts p b s) (p.choices s))) o.next) (sym off)
      (Contains-flat_map (λ b. nexts p b s) (p.choices s) a o.next is_open (Contains-map (λ (x : Outcome S). x.next) (p.step a s) o inside))

  module _ (starts : List (Start S)) (d : ℕ) where
    abbrev firsts : List S
    firsts = map (λ (start : Start S). start.state) starts

    near-start : (start : Start S) → Contains starts start → Contains (near p starts (suc d)) start.state
    near-start start inside =
        Contains-append_left firsts (flat_map (successors p) (near p starts d)) start.state
        (Contains-map (λ (x : Start S). x.state) starts start inside)

    near-step : (s x : S) → Contains (near p starts d) s → Contains (successors p s) x → Contains (near p starts (suc d)) x
    near-step s x near_s inside =
        Contains-append_right firsts (flat_map (successors p) (near p starts d)) x
        (Contains-flat_map (successors p) (near p starts d) s x near_s inside)

module _ {S T A B : Type 0} (p : Process S A) (q : Process T B) (m : Mapping S T A B) (is : IsHomomorphism p q m)
    (same : T → T → Bool) (exact : IsExact same)
    (starts : List (Start S)) (den : ℕ) (starts' : List (Start T)) (den' : ℕ) (are : AreStartsOf m starts den starts' den')
    (weighs : HasPositiveWeights p q m starts starts') where
  successors-there : (s x : S) → IsValid m s → IsStep p s x → IsValid m x × Contains (successors q (m.state s)) (m.state x)
  successors-there s x valid step =
      let like = is.like s valid step.off in
      let act = like.stands step.action step.is_open in
      let found = alike_has_member (λ (o : Outcome S). o.weight) (λ (o : Outcome S). (m.state o.next, o.cost))
      (λ (o : Outcome T). o.weight) (λ (o : Outcome T). (o.next, o.cost)) (same_pair same) (same_pair_is_exact same exact)
      (p.step step.action s) p.den (q.step act.0 (m.state s)) q.den (like.outcomes step.action act.0 act.1 step.is_open)
      is.den_positive_there step.outcome step.inside
      (weighs.steps s valid step.off step.action step.is_open step.outcome step.inside) in (
        subst (IsValid m) step.is_next (like.stays step.action step.is_open step.outcome step.inside),
        subst (Contains (successors q (m.state s))) (sym (ap (λ z. z.0) found.2) ∙ ap m.state step.is_next)
            (Contains-successors q (m.state s) act.0 found.0 (sym (is.goals s valid) ∙ step.off)
            ((like.opens step.action act.0 act.1).0 step.is_open) found.1),
      )

  successors-here : (s : S) (t : T) → IsValid m s → IsStep q (m.state s) t → (x : S) × Contains (successors p s) x × (m.state x ≡ t)
  successors-here s t valid step =
      let off = is.goals s valid ∙ step.off in
      let like = is.like s valid off in
      let act = like.is_found step.action step.is_open in
      let here = (like.opens act.0 step.action act.1).1 step.is_open in
      let found = alike_has_member (λ (o : Outcome T). o.weight) (λ (o : Outcome T). (o.next, o.cost))
      (λ (o : Outcome S). o.weight) (λ (o : Outcome S). (m.state o.next, o.cost)) (same_pair same) (same_pair_is_exact same exact)
      (q.step step.action (m.state s)) q.den (p.step act.0 s) p.den
      (alike_symmetric (λ (o : Outcome S). o.weight) (λ (o : Outcome S). (m.state o.next, o.cost))
      (λ (o : Outcome T). o.weight) (λ (o : Outcome T). (o.next, o.cost))
      (p.step act.0 s) p.den (q.step step.action (m.state s)) q.den (like.outcomes act.0 step.action act.1 here))
      is.den_positive step.outcome step.inside
      (weighs.steps_there s valid step.off step.action step.is_open step.outcome step.inside) in (
        found.0.next,
        Contains-successors p s act.0 found.0 off here found.1,
        sym (ap (λ z. z.0) found.2) ∙ step.is_next,
      )

  pub near-there : (d : ℕ) (s : S) → Contains (near p starts d) s → IsValid m s × Contains (near q starts' d) (m.state s)
  near-there zero s inside = absurd (Contains-nil s inside)
  near-there (suc d) s inside = elim (Contains-append_cases (firsts p starts d) (flat_map (successors p) (near p starts d)) s inside) [
    | inl first ↦
        let start = Contains-map_cases (λ (x : Start S). x.state) starts s first in
        let found = alike_has_member (λ (x : Start S). x.weight) (λ (x : Start S). m.state x.state)
        (λ (x : Start T). x.weight) (λ (x : Start T). x.state) same exact starts den starts' den' are.chances
        are.den_positive_there start.0 start.1 (weighs.starts_here start.0 start.1) in (
          subst (IsValid m) start.2 (are.is_valid start.0 start.1),
          subst (Contains (near q starts' (suc d))) (sym found.2 ∙ ap m.state start.2) (near-start q starts' d found.0 found.1),
        )
    | inr later ↦
        let from = Contains-flat_map_cases (successors p) (near p starts d) s later in
        let before = near-there d from.0 from.1 in
        let next = successors-there from.0 s before.0 (successors_cases p from.0 s from.2) in
        (next.0, near-step q starts' d (m.state from.0) (m.state s) before.1 next.1)
  ]

  pub near-here : (d : ℕ) (t : T) → Contains (near q starts' d) t → (s : S) × Contains (near p starts d) s × (m.state s ≡ t)
  near-here zero t inside = absurd (Contains-nil t inside)
  near-here (suc d) t inside = elim (Contains-append_cases (firsts q starts' d) (flat_map (successors q) (near q starts' d)) t inside) [
    | inl first ↦
        let start = Contains-map_cases (λ (x : Start T). x.state) starts' t first in
        let found = alike_has_member (λ (x : Start T). x.weight) (λ (x : Start T). x.state)
        (λ (x : Start S). x.weight) (λ (x : Start S). m.state x.state) same exact starts' den' starts den
        (alike_symmetric (λ (x : Start S). x.weight) (λ (x : Start S). m.state x.state) (λ (x : Start T). x.weight) (λ (x : Start T). x.state)
        starts den starts' den' are.chances)
        are.den_positive start.0 start.1 (weighs.starts_there start.0 start.1) in
        (found.0.state, near-start p starts d found.0 found.1, sym found.2 ∙ start.2)
    | inr later ↦
        let from = Contains-flat_map_cases (successors q) (near q starts' d) t later in
        let before = near-here d from.0 from.1 in
        let valid = (near-there d before.0 before.1).0 in
        let step = subst (λ u. IsStep q u t) (sym before.2) (successors_cases q from.0 t from.2) in
        let next = successors-here before.0 t valid step in
        (next.0, near-step p starts d before.0 next.0 before.1 next.1, next.2)
  ]

  -- ---- few states

  few-there : (few : List S) (d : ℕ) → ((s : S) → Contains (near p starts d) s → Contains few s)
      → (t : T) → Contains (near q starts' d) t → Contains (map m.state few) t
  few-there few d all t inside =
      let found = near-here d t inside in
      subst (Contains (map m.state few)) found.2 (Contains-map m.state few found.0 (all found.0 found.1))

  module _ (back : T → S) (inverse : IsInverse m back) where
    few-here : (few : List T) (d : ℕ) → ((t : T) → Contains (near q starts' d) t → Contains few t)
        → (s : S) → Contains (near p starts d) s → Contains (map back few) s
    few-here few d all s inside =
        let found = near-there d s inside in
        subst (Contains (map back few)) (inverse s found.0) (Contains-map back few (m.state s) (all (m.state s) found.1))

    at_most-there : (k d : ℕ) → HasAtMost k (near p starts d) → HasAtMost k (near q starts' d)
    at_most-there k d few = (map m.state few.0, omega (arith, length-map few.0 m.state, few.1), few-there few.0 d few.2)

    at_most-here : (k d : ℕ) → HasAtMost k (near q starts' d) → HasAtMost k (near p starts d)
    at_most-here k d few = (map back few.0, omega (arith, length-map few.0 back, few.1), few-here few.0 d few.2)

    depth-there : (k : ℕ) (d : Option ℕ) → IsDepthWithin p starts k d → IsDepthWithin q starts' k d
    depth-there k None few = (
      map m.state few.0,
      omega (arith, length-map few.0 m.state, few.1),
      λ t reached. few-there few.0 reached.0 (λ s inside. few.2 s (reached.0, inside)) t reached.1,
    )
    depth-there k (Some d) depth = (at_most-there k d depth.0, λ e few. depth.1 e (at_most-here k e few))

    depth-here : (k : ℕ) (d : Option ℕ) → IsDepthWithin q starts' k d → IsDepthWithin p starts k d
    depth-here k None few = (
      map back few.0,
      omega (arith, length-map few.0 back, few.1),
      λ s reached. few-here few.0 reached.0 (λ t inside. few.2 t (reached.0, inside)) s reached.1,
    )
    depth-here k (Some d) depth = (at_most-here k d depth.0, λ e few. depth.1 e (at_most-there k e few))

module _ {S T A B : Type 0} where
  pub near_is_carried : laws.NearIsCarried S T A B
  near_is_carried p q m is same exact starts den starts' den' are weighs = near-there p q m is same exact starts den starts' den' are weighs

  pub near_is_found : laws.NearIsFound S T A B
  near_is_found p q m is same exact starts den starts' den' are weighs = near-here p q m is same exact starts den starts' den' are weighs

  pub depth_is_carried : laws.DepthIsCarried S T A B
  depth_is_carried p q m is same exact starts den starts' den' are weighs back inverse k d = (
    depth-there p q m is same exact starts den starts' den' are weighs back inverse k d,
    depth-here p q m is same exact starts den starts' den' are weighs back inverse k d,
  )
