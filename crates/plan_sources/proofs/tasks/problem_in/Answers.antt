-- The task of the texts, and behind it the ground problem.
use Rattle.std.proofs.Common.{◌≡◌, rules}
use Rattle.plan_request.specs.Shown.{shown_sources}
use Rattle.plan_sources.specs.Problems.{task_in, ground_task, problem_in}
use Rattle.plan_sources.proofs.Taking.{stops_whole, ends_whole}
use Rattle.plan_sources.proofs.Grounding.{task_read, task_stops_problem, problem_behind}
use Rattle.plan_sources.proofs.tasks.problem_in.Goals as goal

pub returns-in_err-task : goal.returns-in_err-task
returns-in_err-task c =
    let s = shown_sources c.args.sources.now in
    let t = c.args.texts.now in
    let stop = stops_whole ⊥ ⊥ (λ r. task_in t ≡ r) (λ r. problem_in s t ≡ r) (λ never. never) (task_stops_problem s t)
    c.in_err-task.field-0.0 c.in_err-task.ensures in
    search (rules, stop)

pub ground_task-requires-clause-well_formed : goal.ground_task-requires-clause-well_formed
ground_task-requires-clause-well_formed c =
    let t = c.args.texts.now in
    c.task_laws.ensures.well_formed t.first t.second c.in_ok-task.task (task_read t c.in_ok-task.task c.in_ok-task.ensures)

pub returns : goal.returns
returns c =
    let s = shown_sources c.args.sources.now in
    let t = c.args.texts.now in
    let task = c.in_ok-task.task in
    ends_whole ⊥ ⊥ (λ r. ground_task s task ≡ r) (λ r. problem_in s t ≡ r) (λ never. never)
    (problem_behind s t task c.in_ok-task.ensures) c.ground_task.result c.ground_task.ensures
