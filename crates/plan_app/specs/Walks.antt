-- What is so of the walks that were put.
--     IsRunOfTask task charges c most x
--                                 the walk x is a run of the task's process from one of its starts, of at most so many steps, in which the
--                                 acts of the certificate are done: each step is an outcome of positive weight, at the cost of these
--                                 outcomes, with the penalty where it gave up
--     PutsWalks w t f old new     f is a certificate that is balanced for the ground problem of the texts; the report of the walks under it
--                                 was put, and each is such a run of the task that the texts spell
use Rattle.std.specs.Prelude.{◌≡◌, ℕ, List, Option, Ok}
use Rattle.std.specs.Io.KnownBytes.{Appends}
use Rattle.certificate.specs.Content.{Content}
use Rattle.certificate_check.specs.Claims.{IsBalancedFor}
use Rattle.decision_process.specs.Readings.{act}
use Rattle.ground_model.specs.Ground.{Ground}
use Rattle.plan_request.specs.Asked.{Walking}
use Rattle.plan_sources.specs.declared.texts.Texts.{Texts}
use Rattle.plan_sources.specs.Laws.{StandsForTexts}
use Rattle.plan_sources.specs.Problems.{problem_of}
use Rattle.policy_walk.specs.declared.ends.Walk.{Walk}
use Rattle.policy_walk.specs.Reports.{walks_text}
use Rattle.policy_walk.specs.Runs.{IsRunOf}
use Rattle.ppddl_model.specs.declared.tree.Task.{Task}
use Rattle.ppddl_model.specs.State.{same_state}
use Rattle.ppddl_model.specs.Steps.{Charges, process, starts}
use Rattle.plan_app.specs.certificates.Named.{names_certificate}
use Rattle.plan_app.specs.Verdicts.{IsDecoded}
use Rattle.plan_app.specs.Walking.{walk_numbered, walks_under}

abbrev pub IsRunOfTask : Task → Charges → Content → ℕ → Walk → Type 0
IsRunOfTask task charges c most x =
    IsRunOf (process task charges) (starts task) (act same_state (names_certificate task c).rows) most x

pub record PutsWalks (w : Walking) (t : Texts) (f : List ℕ) (old new : Option (List ℕ)) : Type 0 where
  pub g : Ground
  pub c : Content
  pub problem : problem_of w.sources t ≡ Ok g
  pub decoded : IsDecoded f c
  pub balanced_for : IsBalancedFor g c
  pub put : Appends old new (walks_text (walks_under w g c))
  -- of the task
  pub of_task : StandsForTexts w.sources t g
  pub runs : (i : ℕ) → IsRunOfTask of_task.task of_task.charges c w.steps (walk_numbered w g c i)
