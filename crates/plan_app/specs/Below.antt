-- What `solve` tells from below, behind its report.
--     step_value task charges least t
--                          what is known of a state of the task by the least cost of a choice: 0 at a goal, else the smaller of the
--                          penalty and that cost
--     IsToldBelow lower g task charges c l
--                          l is the mean over the starts, rounded down, of the greater of what the certificate says from below and of
--                          what is known of the ground problem by what is asked for. It is at least the lower end of the certificate's
--                          interval, and whichever plans are fitted to the task's starts cost no less, from their depths on
--     IsToldByCost g task charges c l
--                          the same by the least cost of a choice; at the task it is the mean with that value
--     PutsBelow Says s t status now old new
--                          the certificate that was found is held now, and the report and the line of a number of which this is said
--                          were put
--     PutsSolved lower s t status now old new
--                          the same where the line is asked for; else the certificate is held, and the report alone was put
-- Source: admissible heuristics (Hart, Nilsson and Raphael 1968), as lower bounds of BRTDP (McMahan, Likhachev and Gordon 2005).
use Rattle.std.specs.Prelude.{◌≡◌, ℕ, ◌≤◌, min, cond, List, [], Option}
use Rattle.std.specs.Io.KnownBytes.{Appends}
use Rattle.shelf_io.specs.Shelf.{Told}
use Rattle.certificate.specs.Content.{Content}
use Rattle.certificate_check.specs.Claims.{ground_certificate}
use Rattle.decision_process.specs.Readings.{low}
use Rattle.decision_process.specs.under.Under.{AreBelowPlans, under_mean}
use Rattle.ppddl_model.specs.declared.tree.Task.{Task}
use Rattle.ppddl_model.specs.State.{State, same_state}
use Rattle.ppddl_model.specs.Steps.{Charges, process, starts, start_den}
use Rattle.ground_model.specs.Ground.{Ground}
use Rattle.lower_seed.specs.Costs.{least_choice}
use Rattle.plan_request.specs.declared.lower.Lower.{Lower}
use Rattle.plan_request.specs.declared.lower.Lower.TheVariants as lowers
use Rattle.plan_request.specs.Asked.{Solving}
use Rattle.plan_report.specs.Reports.{under_line}
use Rattle.plan_search.specs.Under.{IsUnderBy}
use Rattle.plan_sources.specs.declared.texts.Texts.{Texts}
use Rattle.plan_app.specs.certificates.Named.{names_certificate}
use Rattle.plan_app.specs.Solutions.{PutsSolution}

abbrev pub step_value : Task → Charges → ℕ → State → ℕ
step_value task charges least t = cond ((process task charges).goal t) 0 (min charges.penalty least)

pub record IsToldBelow (lower : Lower) (g : Ground) (task : Task) (charges : Charges) (c : Content) (l : ℕ) : Type 0 where
  pub mean_of_problem : IsUnderBy lower g (ground_certificate g c).rows l
  pub higher : c.lower ≤ l
  pub plans : AreBelowPlans (process task charges) (starts task) (start_den task) l

pub record IsToldByCost (g : Ground) (task : Task) (charges : Charges) (c : Content) (l : ℕ) : Type 0 where
  pub told : IsToldBelow lowers.Cost g task charges c l
  pub mean : l ≡ under_mean (low same_state (names_certificate task c).rows) (step_value task charges (least_choice g))
      (starts task) (start_den task)

module _ (Says : Ground → Task → Charges → Content → ℕ → Type 0) where
  pub record PutsBelow (s : Solving) (t : Texts) (status : ℕ) (now : Told) (old new : Option (List ℕ)) : Type 0 where
    pub middle : Option (List ℕ)
    pub solution : PutsSolution s t status now [] old middle
    pub lower : ℕ
    pub told : Says solution.solves.g solution.solves.of_task.task solution.solves.of_task.charges solution.solves.c lower
    pub line : Appends middle new (under_line lower)

abbrev pub PutsSolved : Lower → Solving → Texts → ℕ → Told → Option (List ℕ) → Option (List ℕ) → Type 0
PutsSolved lowers.None s t status now old new = PutsSolution s t status now [] old new
PutsSolved lowers.Cost s t status now old new = PutsBelow IsToldByCost s t status now old new
PutsSolved lowers.Relaxed s t status now old new =
    PutsBelow (IsToldBelow lowers.Relaxed) s t status now old new
