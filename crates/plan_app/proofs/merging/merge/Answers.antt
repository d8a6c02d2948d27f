-- The ground problem of the texts, behind it both certificates, what they are merged to, and what is written.
use Rattle.std.proofs.Common.{rules, Ok, arith}
use Rattle.plan_request.specs.Shown.{shown_merging}
use Rattle.plan_app.specs.Endings.{IsMergeHeld}
use Rattle.plan_app.specs.Merging.{IsMergeAnswer, IsAboveLimit}
use Rattle.plan_app.proofs.Flow.{read_on, merge_stops, pair_since, pair_stops, merge_ends, limit_stops, merge_held, wrote, under_name, leaves, nothing_written, calls_alone, calls_behind}
use Rattle.plan_app.proofs.merging.merge.Goals as goal

-- ---- the texts have no problem

pub returns-in_err-problem-clause-ends : goal.returns-in_err-problem-clause-ends
returns-in_err-problem-clause-ends g c =
    let stop = merge_stops g.S.Shelf.held g.S.Shelf.read_faults g.S.Shelf.write_faults c.args.shelf.now (shown_merging c.args.merging.now)
    c.problem_of.new.shelf c.in_err-problem.field-0.0 c.in_err-problem.ensures.ends in
    search (rules, stop)

pub returns-in_err-problem-clause-calls : goal.returns-in_err-problem-clause-calls
returns-in_err-problem-clause-calls g c =
    calls_alone g.S.Shelf.held g.S.Shelf.calls c.args.shelf.now c.problem_of.new.shelf 3 (shown_merging c.args.merging.now).sources c.problem_of.ensures.calls

pub returns-in_err-problem-clause-shelf : goal.returns-in_err-problem-clause-shelf
returns-in_err-problem-clause-shelf g c =
    let m = shown_merging c.args.merging.now in
    nothing_written g.S.Shelf.held g.S.Shelf.read_faults g.S.Shelf.write_faults c.args.shelf.now c.problem_of.new.shelf m.into
    (IsMergeHeld g.S.Shelf.held g.S.Shelf.read_faults g.S.Shelf.write_faults c.args.shelf.now c.problem_of.new.shelf m) c.problem_of.ensures.shelf

-- ---- the certificates are no pair

pub returns-in_err-pair-clause-ends : goal.returns-in_err-pair-clause-ends
returns-in_err-pair-clause-ends g c =
    let stop = pair_stops g.S.Shelf.held g.S.Shelf.read_faults g.S.Shelf.write_faults c.args.shelf.now (shown_merging c.args.merging.now)
    c.in_ok-problem.problem c.in_ok-problem.ensures.ends c.problem_of.new.shelf c.problem_of.ensures.shelf.held_same
    c.pair_of.new.shelf c.problem_of.ensures.shelf.later c.in_err-pair.field-0.0 c.in_err-pair.ensures.ends in
    search (rules, stop)

pub returns-in_err-pair-clause-calls : goal.returns-in_err-pair-clause-calls
returns-in_err-pair-clause-calls g c =
    let behind = c.pair_of.ensures.calls in
    calls_behind g.S.Shelf.held g.S.Shelf.calls c.args.shelf.now c.problem_of.new.shelf c.pair_of.new.shelf 3 (shown_merging c.args.merging.now).sources
    (c.in_ok-problem.problem, c.in_ok-problem.ensures.ends) c.problem_of.ensures.calls (omega (arith, behind))

pub returns-in_err-pair-clause-shelf : goal.returns-in_err-pair-clause-shelf
returns-in_err-pair-clause-shelf g c =
    let m = shown_merging c.args.merging.now in
    nothing_written g.S.Shelf.held g.S.Shelf.read_faults g.S.Shelf.write_faults c.args.shelf.now c.pair_of.new.shelf m.into
    (IsMergeHeld g.S.Shelf.held g.S.Shelf.read_faults g.S.Shelf.write_faults c.args.shelf.now c.pair_of.new.shelf m)
    (read_on g.S.Shelf.held g.S.Shelf.read_faults g.S.Shelf.write_faults c.args.shelf.now c.problem_of.new.shelf c.pair_of.new.shelf
    c.problem_of.ensures.shelf c.pair_of.ensures.shelf)

-- ---- they are above a limit

pub returns-in_err-answer-clause-ends : goal.returns-in_err-answer-clause-ends
returns-in_err-answer-clause-ends g c =
    let m = shown_merging c.args.merging.now in
    let pair = c.in_ok-pair.pair in
    let stop = limit_stops g.S.Shelf.held g.S.Shelf.read_faults g.S.Shelf.write_faults c.args.shelf.now m
    c.in_ok-problem.problem c.in_ok-problem.ensures.ends pair
    (pair_since g.S.Shelf.held g.S.Shelf.read_faults g.S.Shelf.write_faults c.args.shelf.now m c.in_ok-problem.problem c.in_ok-problem.ensures.ends
    c.problem_of.new.shelf c.problem_of.ensures.shelf.held_same (Ok pair) c.in_ok-pair.ensures.ends)
    c.pair_of.new.shelf c.in_err-answer.field-0.0 c.in_err-answer.ensures.stops in
    search (rules, stop)

pub returns-in_err-answer-clause-calls : goal.returns-in_err-answer-clause-calls
returns-in_err-answer-clause-calls g c =
    let behind = c.pair_of.ensures.calls in
    calls_behind g.S.Shelf.held g.S.Shelf.calls c.args.shelf.now c.problem_of.new.shelf c.pair_of.new.shelf 3 (shown_merging c.args.merging.now).sources
    (c.in_ok-problem.problem, c.in_ok-problem.ensures.ends) c.problem_of.ensures.calls (omega (arith, behind))

pub returns-in_err-answer-clause-shelf : goal.returns-in_err-answer-clause-shelf
returns-in_err-answer-clause-shelf g c =
    let m = shown_merging c.args.merging.now in
    nothing_written g.S.Shelf.held g.S.Shelf.read_faults g.S.Shelf.write_faults c.args.shelf.now c.pair_of.new.shelf m.into
    (IsMergeHeld g.S.Shelf.held g.S.Shelf.read_faults g.S.Shelf.write_faults c.args.shelf.now c.pair_of.new.shelf m)
    (read_on g.S.Shelf.held g.S.Shelf.read_faults g.S.Shelf.write_faults c.args.shelf.now c.problem_of.new.shelf c.pair_of.new.shelf
    c.problem_of.ensures.shelf c.pair_of.ensures.shelf)

-- ---- they are merged

pub returns-clause-ends : goal.returns-clause-ends
returns-clause-ends g c =
    let m = shown_merging c.args.merging.now in
    let problem = c.in_ok-problem.problem in
    let pair = c.in_ok-pair.pair in
    let read = read_on g.S.Shelf.held g.S.Shelf.read_faults g.S.Shelf.write_faults c.args.shelf.now c.problem_of.new.shelf c.pair_of.new.shelf
    c.problem_of.ensures.shelf c.pair_of.ensures.shelf in
    let is_pair = pair_since g.S.Shelf.held g.S.Shelf.read_faults g.S.Shelf.write_faults c.args.shelf.now m c.in_ok-problem.problem c.in_ok-problem.ensures.ends
    c.problem_of.new.shelf c.problem_of.ensures.shelf.held_same (Ok pair) c.in_ok-pair.ensures.ends in
    merge_ends g.S.Shelf.held g.S.Shelf.read_faults g.S.Shelf.write_faults c.args.shelf.now m problem c.in_ok-problem.ensures.ends pair is_pair
    c.write.new.shelf c.write.result
    (wrote g.S.Shelf.held g.S.Shelf.read_faults g.S.Shelf.write_faults c.args.shelf.now c.pair_of.new.shelf c.write.new.shelf
    read.held_same m.into c.in_ok-answer.answer (IsMergeAnswer problem pair.first pair.second) (IsAboveLimit problem pair.first pair.second)
    c.in_ok-answer.ensures.answer c.write.result read.no_write_fault
    c.write.ensures.report c.write.ensures.written c.write.ensures.stops)

pub returns-clause-calls : goal.returns-clause-calls
returns-clause-calls g c =
    let behind = c.pair_of.ensures.calls in
    let last = c.write.ensures.calls in
    calls_behind g.S.Shelf.held g.S.Shelf.calls c.args.shelf.now c.problem_of.new.shelf c.write.new.shelf 3 (shown_merging c.args.merging.now).sources
    (c.in_ok-problem.problem, c.in_ok-problem.ensures.ends) c.problem_of.ensures.calls (omega (arith, behind, last))

pub returns-clause-shelf : goal.returns-clause-shelf
returns-clause-shelf g c =
    let m = shown_merging c.args.merging.now in
    let pair = c.in_ok-pair.pair in
    let answer = c.in_ok-answer.answer in
    let read = read_on g.S.Shelf.held g.S.Shelf.read_faults g.S.Shelf.write_faults c.args.shelf.now c.problem_of.new.shelf c.pair_of.new.shelf
    c.problem_of.ensures.shelf c.pair_of.ensures.shelf in
    let is_pair = pair_since g.S.Shelf.held g.S.Shelf.read_faults g.S.Shelf.write_faults c.args.shelf.now m c.in_ok-problem.problem c.in_ok-problem.ensures.ends
    c.problem_of.new.shelf c.problem_of.ensures.shelf.held_same (Ok pair) c.in_ok-pair.ensures.ends in
    leaves g.S.Shelf.held g.S.Shelf.read_faults g.S.Shelf.write_faults c.args.shelf.now c.pair_of.new.shelf c.write.new.shelf
    read.held_same m.into answer
    (IsMergeHeld g.S.Shelf.held g.S.Shelf.read_faults g.S.Shelf.write_faults c.args.shelf.now c.write.new.shelf m)
    (merge_held g.S.Shelf.held g.S.Shelf.read_faults g.S.Shelf.write_faults c.args.shelf.now m c.in_ok-problem.problem c.in_ok-problem.ensures.ends
    pair is_pair answer c.in_ok-answer.ensures.answer c.write.new.shelf)
    read
    (under_name g.S.Shelf.held g.S.Shelf.read_faults g.S.Shelf.write_faults c.args.shelf.now c.pair_of.new.shelf c.write.new.shelf
    read.held_same m.into answer c.write.result c.write.ensures.written c.write.ensures.stops c.write.ensures.memory)
    c.write.ensures.others c.write.ensures.reads c.write.ensures.once
