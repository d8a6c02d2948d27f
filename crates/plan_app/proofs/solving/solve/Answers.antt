-- The ground problem of the texts, what a search of it answers, and what is written.
use Rattle.std.proofs.Common.{rules}
use Rattle.plan_request.specs.Shown.{shown_solving}
use Rattle.plan_search.specs.Under.{with_report, IsAnswerWith}
use Rattle.plan_search.specs.Answers.{IsTooLong}
use Rattle.plan_app.specs.Endings.{IsHeld}
use Rattle.plan_app.specs.Progress.{rounds_of}
use Rattle.plan_app.proofs.Progress.{asked_told, nothing_told, told_held}
use Rattle.plan_app.proofs.Flow.{solve_stops, solve_ends, search_stops, search_held, wrote, under_name, leaves, nothing_written, calls_alone, calls_behind}
use Rattle.plan_app.proofs.Names.{given_names}
use Rattle.plan_app.proofs.solving.solve.Goals as goal

-- ---- the texts have no problem

pub returns-in_err-problem-clause-ends : goal.returns-in_err-problem-clause-ends
returns-in_err-problem-clause-ends g c =
    let stop = solve_stops g.S.Shelf.held g.S.Shelf.read_faults g.S.Shelf.write_faults c.args.shelf.now (shown_solving c.args.solving.now)
    c.problem_of.new.shelf c.in_err-problem.field-0.0 c.in_err-problem.ensures.ends in
    search (rules, stop)

pub returns-in_err-problem-clause-calls : goal.returns-in_err-problem-clause-calls
returns-in_err-problem-clause-calls g c =
    calls_alone g.S.Shelf.held g.S.Shelf.calls c.args.shelf.now c.problem_of.new.shelf 1 (shown_solving c.args.solving.now).sources c.problem_of.ensures.calls

pub returns-in_err-problem-clause-shelf : goal.returns-in_err-problem-clause-shelf
returns-in_err-problem-clause-shelf g c =
    let s = shown_solving c.args.solving.now in
    nothing_written g.S.Shelf.held g.S.Shelf.read_faults g.S.Shelf.write_faults c.args.shelf.now c.problem_of.new.shelf s.certificate
    (IsHeld g.S.Shelf.held g.S.Shelf.read_faults g.S.Shelf.write_faults c.args.shelf.now c.problem_of.new.shelf s) c.problem_of.ensures.shelf

-- ---- its names are those of certificates

pub solve-requires-clause-names : goal.solve-requires-clause-names
solve-requires-clause-names g c κs within =
    given_names c.source_laws.ensures.stands (g.S.Shelf.held c.args.shelf.now) (shown_solving c.args.solving.now).sources
    c.in_ok-problem.problem c.requires.terms c.in_ok-problem.ensures.ends

-- ---- the search has no answer

pub returns-in_err-answer-clause-ends : goal.returns-in_err-answer-clause-ends
returns-in_err-answer-clause-ends g c =
    let stop = search_stops g.S.Shelf.held g.S.Shelf.read_faults g.S.Shelf.write_faults c.args.shelf.now (shown_solving c.args.solving.now)
    c.in_ok-problem.problem c.in_ok-problem.ensures.ends c.problem_of.new.shelf c.in_err-answer.field-0.0 c.in_err-answer.ensures.stops in
    search (rules, stop)

pub returns-in_err-answer-clause-calls : goal.returns-in_err-answer-clause-calls
returns-in_err-answer-clause-calls g c =
    calls_alone g.S.Shelf.held g.S.Shelf.calls c.args.shelf.now c.problem_of.new.shelf 1 (shown_solving c.args.solving.now).sources c.problem_of.ensures.calls

pub returns-in_err-answer-clause-shelf : goal.returns-in_err-answer-clause-shelf
returns-in_err-answer-clause-shelf g c =
    let s = shown_solving c.args.solving.now in
    nothing_written g.S.Shelf.held g.S.Shelf.read_faults g.S.Shelf.write_faults c.args.shelf.now c.problem_of.new.shelf s.certificate
    (IsHeld g.S.Shelf.held g.S.Shelf.read_faults g.S.Shelf.write_faults c.args.shelf.now c.problem_of.new.shelf s) c.problem_of.ensures.shelf

-- ---- it has one

pub returns-clause-ends : goal.returns-clause-ends
returns-clause-ends g c =
    let s = shown_solving c.args.solving.now in
    let problem = c.in_ok-problem.problem in
    let a = c.in_ok-answer.answer in
    solve_ends g.S.Shelf.held g.S.Shelf.read_faults g.S.Shelf.write_faults c.args.shelf.now s problem c.in_ok-problem.ensures.ends
    c.write.new.shelf c.write.result
    (wrote g.S.Shelf.held g.S.Shelf.read_faults g.S.Shelf.write_faults c.args.shelf.now c.problem_of.new.shelf c.write.new.shelf
    c.problem_of.ensures.shelf.held_same s.certificate a (IsAnswerWith problem s.effort s.sizes s.lower) (IsTooLong problem s.effort s.sizes)
    c.in_ok-answer.ensures.answer c.write.result c.problem_of.ensures.shelf.no_write_fault
    c.write.ensures.report c.write.ensures.written c.write.ensures.stops)

pub returns-clause-calls : goal.returns-clause-calls
returns-clause-calls g c =
    calls_behind g.S.Shelf.held g.S.Shelf.calls c.args.shelf.now c.problem_of.new.shelf c.write.new.shelf 1 (shown_solving c.args.solving.now).sources
    (c.in_ok-problem.problem, c.in_ok-problem.ensures.ends) c.problem_of.ensures.calls c.write.ensures.calls

pub returns-clause-shelf : goal.returns-clause-shelf
returns-clause-shelf g c =
    let s = shown_solving c.args.solving.now in
    let a = c.in_ok-answer.answer in let told = c.in_ok-answer.ensures.answer in
    leaves g.S.Shelf.held g.S.Shelf.read_faults g.S.Shelf.write_faults c.args.shelf.now c.problem_of.new.shelf c.write.new.shelf
    c.problem_of.ensures.shelf.held_same s.certificate a
    (IsHeld g.S.Shelf.held g.S.Shelf.read_faults g.S.Shelf.write_faults c.args.shelf.now c.write.new.shelf s)
    (search_held g.S.Shelf.held g.S.Shelf.read_faults g.S.Shelf.write_faults c.args.shelf.now s c.in_ok-problem.problem c.in_ok-problem.ensures.ends
    (with_report a told.plain) told.is_answer c.write.new.shelf)
    c.problem_of.ensures.shelf
    (under_name g.S.Shelf.held g.S.Shelf.read_faults g.S.Shelf.write_faults c.args.shelf.now c.problem_of.new.shelf c.write.new.shelf
    c.problem_of.ensures.shelf.held_same s.certificate a c.write.result c.write.ensures.written c.write.ensures.stops c.write.ensures.memory)
    c.write.ensures.others c.write.ensures.reads c.write.ensures.once

-- ---- what is told of its rounds

pub returns-in_err-problem-clause-tells : goal.returns-in_err-problem-clause-tells
returns-in_err-problem-clause-tells g c =
    nothing_told g.P.Sink.taken g.P.Sink.faults (rounds_of (shown_solving c.args.solving.now)) c.args.progress.now _ (λ s. search rules)

pub returns-in_err-answer-clause-tells : goal.returns-in_err-answer-clause-tells
returns-in_err-answer-clause-tells g c =
    asked_told g.P.Sink.taken g.P.Sink.faults (shown_solving c.args.solving.now) c.args.progress.now c.solve.new.watcher _ _
    c.in_err-answer.ensures.told (λ rs is. search rules)

pub returns-clause-tells : goal.returns-clause-tells
returns-clause-tells g c =
    let s = shown_solving c.args.solving.now in let a = c.in_ok-answer.answer in
    asked_told g.P.Sink.taken g.P.Sink.faults s c.args.progress.now c.solve.new.watcher _ _ c.in_ok-answer.ensures.told
    (λ rs is. told_held g.S.Shelf.held c.args.shelf.now c.problem_of.new.shelf c.write.new.shelf c.problem_of.ensures.shelf.held_same s
    c.in_ok-problem.problem c.in_ok-problem.ensures.ends a rs is c.write.result c.write.ensures.written)
