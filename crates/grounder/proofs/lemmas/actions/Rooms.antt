-- Room for one action more, where the size of its effect is counted.
use Rattle.std.proofs.Common.{◌≡◌, ℕ, ◌+◌, ◌<◌, ◌≤◌, inl, inr, length, sym, ap, ◌∙◌, arith}
use Rattle.std.specs.Prelude.{Ok}
use Rattle.std.proofs.lemmas.Bool.{cases_lt}
use Rattle.plain_list.specs.Results.{◌>>=◌}
use Rattle.plain_list.proofs.Results.{bind_ok}
use Rattle.ground_meaning.specs.declared.refusals.limits.LimitCode.TheVariants.{Actions, GroundSize}
use Rattle.ground_meaning.specs.declared.refusals.limits.TheConstants.{MOST_GROUND_SIZE}
use Rattle.ground_meaning.specs.refusals.Codes.{most_of}
use Rattle.ground_meaning.specs.refusals.Limits.{within}
use Rattle.ground_terms.specs.sizes.Counted.{counted}
use Rattle.grounder.specs.declared.actions.GroundActions.{GroundActions}
use Rattle.grounder.specs.actions.Growing.{room_for}
use Rattle.grounder.proofs.lemmas.actions.Tests.{fails, passed}

module _ (g : GroundActions) (effect : ℕ) where
  room_means : room_for g effect ≡ Ok tt → g.size + effect ≤ MOST_GROUND_SIZE
  room_means is =
      passed (g.size + effect) GroundSize (bind_ok (within (length g.list + 1) Actions) (λ _. within (g.size + effect) GroundSize) tt is).2

  -- a count that stopped is as much above the limit as the whole count
  pub room_counted : room_for g (counted effect) ≡ room_for g effect
  room_counted = elim (cases_lt effect 18446744073709551615) [
    | inl below ↦ let same : counted effect ≡ effect = omega arith in ap (room_for g) same
    | inr above ↦
        let over : most_of GroundSize < g.size + effect = omega arith in
        let over' : most_of GroundSize < g.size + counted effect = omega arith in
        ap (λ r. within (length g.list + 1) Actions >>= λ _. r)
        (fails (g.size + counted effect) GroundSize over' ∙ sym (fails (g.size + effect) GroundSize over))
  ]

  pub effect_is : room_for g effect ≡ Ok tt → counted effect ≡ effect
  effect_is is = let small : g.size + effect ≤ MOST_GROUND_SIZE = room_means is in omega (arith, small)
