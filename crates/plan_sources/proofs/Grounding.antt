-- The task of texts and its ground problem, with what stops a run there.
use Rattle.std.proofs.Common.{◌≡◌, ap, ◌∙◌, Result, Ok, Err}
use Rattle.plain_list.specs.Results.{◌>>=◌}
use Rattle.ppddl_model.specs.declared.refusal.TextRefusal.{TextRefusal}
use Rattle.ppddl_model.specs.declared.refusal.TextRefusal.TheVariants as refusal
use Rattle.ppddl_model.specs.declared.tree.Task.{Task}
use Rattle.ground_model.specs.Ground.{Ground}
use Rattle.ground_meaning.specs.declared.refusals.refusal.GroundRefusal.{GroundRefusal}
use Rattle.ground_meaning.specs.declared.refusals.refusal.GroundRefusal.TheVariants as grounding
use Rattle.ground_meaning.specs.refusals.Laws.{AreInRange}
use Rattle.ground_meaning.specs.refusals.Limits.{grounded}
use Rattle.grounder.specs.Answers.{Refuses}
use Rattle.ppddl_cursor.specs.Reading.{Fails}
use Rattle.ppddl_reader.specs.tasks.Texts.{task_of}
use Rattle.plan_request.specs.Asked.{Sources}
use Rattle.plan_request.specs.Laws.{AreTerms}
use Rattle.plan_request.specs.declared.stop.Stop.{Stop}
use Rattle.plan_request.specs.stop.Stop.{stop_of_text}
use Rattle.plan_sources.specs.declared.texts.Texts.{Texts}
use Rattle.plan_sources.specs.Endings.{MayEnd}
use Rattle.plan_sources.specs.Problems.{stop_of_fault, stop_of_grounding, stopped, terms_of, task_in, ground_task, problem_in}

pub stopped_ok : {A E : Type 0} (stop : E → Stop) (r : Result A E) (x : A) → stopped stop r ≡ Ok x → r ≡ Ok x
stopped_ok stop (Ok y) x is = let same : y ≡ x = cc is in ap Ok same
stopped_ok stop (Err e) x is = absurd (cc is)

-- ---- tasks

pub task_read : (t : Texts) (task : Task) → task_in t ≡ Ok task → task_of t.first t.second ≡ Ok task
unfolding task_in
task_read t task is = stopped_ok stop_of_fault (task_of t.first t.second) task is

pub task_given : (t : Texts) (task : Task) → task_of t.first t.second ≡ Ok task → task_in t ≡ Ok task
unfolding task_in
task_given t task is = ap (stopped stop_of_fault) is

pub task_stops : (t : Texts) (e : TextRefusal) → Fails e (task_of t.first t.second) → MayEnd ⊥ (λ r. task_in t ≡ r) (Err (stop_of_text e))
unfolding task_in
task_stops t refusal.Memory fails = tt
task_stops t (refusal.At code file line) fails = ap (stopped stop_of_fault) fails

-- ---- ground problems

pub terms_in_range : (s : Sources) → AreTerms s → AreInRange (terms_of s)
terms_in_range s are = record { penalty = are.penalty; step_cost = are.step_cost }

module _ (s : Sources) (task : Task) where
  pub ground_given : (g : Ground) → grounded task (terms_of s) ≡ Ok g → ground_task s task ≡ Ok g
  unfolding ground_task
  ground_given g is = ap (stopped (stop_of_grounding task)) is

  pub ground_stops : (e : GroundRefusal) → Refuses (grounded task (terms_of s)) e
      → MayEnd ⊥ (λ r. ground_task s task ≡ r) (Err (stop_of_grounding task e))
  unfolding ground_task
  ground_stops grounding.Memory is = tt
  ground_stops (grounding.CostNotPositive line) is = ap (stopped (stop_of_grounding task)) is
  ground_stops (grounding.NoPenalty line) is = ap (stopped (stop_of_grounding task)) is
  ground_stops (grounding.Limit code) is = ap (stopped (stop_of_grounding task)) is

module _ (s : Sources) (t : Texts) where
  pub task_stops_problem : (e : Stop) → task_in t ≡ Err e → problem_in s t ≡ Err e
  unfolding problem_in
  task_stops_problem e is = ap (λ r. r >>= ground_task s) is

  pub problem_behind : (task : Task) → task_in t ≡ Ok task → (r : Result Ground Stop) → ground_task s task ≡ r → problem_in s t ≡ r
  unfolding problem_in
  problem_behind task given r is = ap (λ x. x >>= ground_task s) given ∙ is
