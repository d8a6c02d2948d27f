-- A task that was read is well-formed.
use Rattle.std.proofs.Common.{◌≡◌, None, Ok, rules}
use Rattle.ppddl_reader.specs.tasks.Texts.{task_of}
use Rattle.search_tests.proofs.problems.problem_of.Goals as goal

pub ground-problem-requires-clause-well_formed : goal.ground-problem-requires-clause-well_formed
ground-problem-requires-clause-well_formed c =
    let text = c.as_bytes-text.result.now in let task = c.in_ok-task.task in
    let is : task_of text None ≡ Ok task = search (rules, c.in_ok-task.ensures) in
    c.task_laws.ensures.well_formed text None task is
