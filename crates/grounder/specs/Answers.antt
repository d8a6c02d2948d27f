-- What grounding answers.
--     terms_of t               a penalty, if any, and a step cost that are asked for
--     Answers result answer    the result is the answer, or want of memory
--     Refuses answer e         the answer is this refusal, or it is want of memory
--     StandsFor g task terms   g is the ground problem of the task under the charges that are asked for, and stands for it
use Rattle.std.specs.Prelude.{◌≡◌, Result, Ok, Err, Some}
use Rattle.ppddl_model.specs.declared.tree.Task.{Task}
use Rattle.ppddl_model.specs.Steps as model
use Rattle.ppddl_model.specs.Steps.{Charges, charges_of}
use Rattle.ground_model.specs.Ground.{Ground}
use Rattle.ground_meaning.specs.stands.Stands.{IsGroundOf}
use Rattle.ground_meaning.specs.declared.refusals.refusal.GroundRefusal.{GroundRefusal}
use Rattle.ground_meaning.specs.declared.refusals.refusal.GroundRefusal.TheVariants.{Memory}
use Rattle.ground_meaning.specs.refusals.Problem.{ground_problem}
use Rattle.grounder.specs.declared.terms.Terms.{Terms}

abbrev pub terms_of : Terms → model.Terms
terms_of t = record { penalty = t.penalty; step_cost = t.step_cost }

abbrev pub Refuses : Result Ground GroundRefusal → GroundRefusal → Type 0
Refuses answer Memory = Unit {0}
Refuses answer e = answer ≡ Err e

abbrev pub Answers : Result Ground GroundRefusal → Result Ground GroundRefusal → Type 0
Answers (Ok g) answer = answer ≡ Ok g
Answers (Err e) answer = Refuses answer e

abbrev pub StandsFor : Ground → Task → model.Terms → Type 0
StandsFor g task terms =
    (charges : Charges) × (charges_of terms task ≡ Some charges) × (g ≡ ground_problem task charges) × IsGroundOf g task charges
