-- What is read is the task of the texts.
use Rattle.std.proofs.Common.{rules}
use Rattle.ppddl_cursor.specs.Reading.{Fails}
use Rattle.ppddl_reader.specs.tasks.Texts.{task_of}
use Rattle.plan_sources.proofs.Grounding.{task_stops, task_given}
use Rattle.plan_sources.proofs.tasks.task_in.Goals as goal

pub returns-in_err-read : goal.returns-in_err-read
returns-in_err-read c =
    let t = c.args.texts.now in
    let fails : Fails c.in_err-read.field-0.0 (task_of t.first t.second) = search (rules, c.in_err-read.ensures) in
    let stop = task_stops t c.in_err-read.field-0.0 fails in
    search (rules, stop)

pub returns : goal.returns
returns c = task_given c.args.texts.now c.in_ok-read.field-0 (search (rules, c.in_ok-read.ensures))
