-- Which values the tests of a certificate allow.
use Rattle.std.proofs.Common.{ℕ, ◌<◌, ◌≤◌, Option, Some, None, refl, arith}
use Rattle.std.specs.Prelude.{◌↔◌}
use Rattle.std.proofs.lemmas.Bool.{cases_lt}
use Rattle.std.proofs.Common.{inl, inr}
use Rattle.certificate.specs.Content.{Content}
use Rattle.ground_model.specs.Packed.{State}
use Rattle.ground_model.specs.Ground.{Ground}
use Rattle.ground_model.specs.Invariant.{IsGroundProblem}
use Rattle.ground_model.specs.Steps.{ground_process}
use Rattle.ground_model.proofs.Steps.{den_positive}
use Rattle.certificate_check.specs.declared.row_check.act.Act.{Act}
use Rattle.certificate_check.specs.row_check.Sides.{UpperIsWithin}
use Rattle.certificate_check.specs.Claims.{row_state, act_of, low_in, high_in}
use Rattle.certificate_check.specs.Sides.{least_upper_by}
use Rattle.certificate_check.specs.Verdicts.{IsRightIn, UpperFollowsIn}
use Rattle.certificate_check.specs.FollowingLaws as laws
use Rattle.certificate_check.proofs.lemmas.row_check.Sides.{lower_law, upper_law}

pub lower_is_up_to : laws.LowerIsUpTo
lower_is_up_to g is c r = lower_law (ground_process g) (den_positive g is) (low_in g c) (row_state g c r) r.lower

upper_by : (g : Ground) → IsGroundProblem g → (c : Content) (s : State) (value : ℕ) (act : Option Act)
    → IsRightIn g c (low_in g c) (high_in g c) s act
    → UpperFollowsIn g c (low_in g c) (high_in g c) s value act
    ↔ UpperIsWithin (ground_process g) s (least_upper_by g c s act) value
upper_by g is c s value None right = absurd right
upper_by g is c s value (Some act) right = upper_law (ground_process g) (den_positive g is) (high_in g c) s value act right

pub upper_is_from : laws.UpperIsFrom
upper_is_from g is c r right = upper_by g is c (row_state g c r) r.upper (act_of g c r.act) right

not_within-lt : (m n : ℕ) → (m ≤ n → ⊥) → n < m
not_within-lt m n without = elim (cases_lt n m) [ inl more ↦ more | inr within ↦ absurd (without within) ]

pub lower_fails_above : laws.LowerFailsAbove
lower_fails_above g is c r k = (
  (λ fails. (fails.1, fails.2, not_within-lt r.lower _ (λ fits. fails.3 ((lower_is_up_to g is c r).1 fits)))),
  (λ all. (refl, all.0, all.1, (λ follows. let within = (lower_is_up_to g is c r).0 follows in let more = all.2 in omega (arith, within, more)))),
)

pub upper_fails_without : laws.UpperFailsWithout
upper_fails_without g is c r k = (
  (λ fails. (
    fails.1,
    fails.2,
    (lower_is_up_to g is c r).0 fails.3,
    (λ within. fails.4 ((upper_is_from g is c r fails.2).1 within)),
  )),
  (λ all. (
    refl,
    all.0,
    all.1,
    (lower_is_up_to g is c r).1 all.2,
    (λ follows. all.3 ((upper_is_from g is c r all.1).0 follows)),
  )),
)

pub ends_are_means : laws.EndsAreMeans
ends_are_means g c = (
  (λ is. (is.floor_of_low, is.ceiling_of_high)),
  (λ means. record { floor_of_low = means.0; ceiling_of_high = means.1 }),
)
