use Rattle.ground_meaning.proofs.lemmas.choices.Same.{same_choice-is}
use Rattle.ground_meaning.proofs.lemmas.choices.Conditions.{condition_law}
use Rattle.ground_meaning.proofs.lemmas.choices.Weights.{total-choices, den_positive}
use Rattle.ground_meaning.proofs.lemmas.choices.Reduced.{joint_law}
use Rattle.ground_meaning.proofs.lemmas.choices.Next.{next_law}
use Rattle.ground_meaning.proofs.lemmas.choices.Step.{step_law}
use Rattle.ground_meaning.proofs.lemmas.choices.Invariant.{meets_invariant}
use Rattle.ground_meaning.proofs.choices.joint_laws.Goals as goal

pub returns-clause-equal : goal.returns-clause-equal
returns-clause-equal c = λ x y same. same_choice-is x y same 0

pub returns-clause-conditions : goal.returns-clause-conditions
returns-clause-conditions c = condition_law

pub returns-clause-weights : goal.returns-clause-weights
returns-clause-weights c = λ w n e fair b. (total-choices w n e fair b, den_positive w e fair)

pub returns-clause-outcomes : goal.returns-clause-outcomes
returns-clause-outcomes c = joint_law

pub returns-clause-next : goal.returns-clause-next
returns-clause-next c = next_law

pub returns-clause-step : goal.returns-clause-step
returns-clause-step c = step_law

pub returns-clause-invariant : goal.returns-clause-invariant
returns-clause-invariant c = meets_invariant
