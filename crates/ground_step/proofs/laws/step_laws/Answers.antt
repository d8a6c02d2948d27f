-- The laws of steps, by their lemmas.
use Rattle.ground_step.proofs.Outcomes.{cost_within, choice_is, next_at-choice, cost_at-choice}
use Rattle.ground_model.proofs.Packed.{length-packed}
use Rattle.ground_step.proofs.laws.step_laws.Goals as goal

pub returns-clause-costs : goal.returns-clause-costs
returns-clause-costs c = cost_within

pub returns-clause-choices : goal.returns-clause-choices
returns-clause-choices c = choice_is

pub returns-clause-outcomes : goal.returns-clause-outcomes
returns-clause-outcomes c = λ g k i choice s place.
    (next_at-choice g k i choice s place, cost_at-choice g k i choice s place)

pub returns-clause-length : goal.returns-clause-length
returns-clause-length c = length-packed
