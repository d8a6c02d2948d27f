-- The ground problem of the texts, behind it the certificate, the graph of its policy, and what is written.
use Rattle.std.proofs.Common.{rules, Ok, arith}
use Rattle.plan_request.specs.Shown.{shown_drawing}
use Rattle.plan_app.specs.Endings.{IsDrawHeld}
use Rattle.plan_app.specs.Drawing.{IsDrawAnswer}
use Rattle.plan_app.proofs.Flow.{read_on, draw_stops, drawn_since, undrawn_stops, draw_ends, draw_held, wrote, under_name, leaves, nothing_written, calls_alone, calls_behind}
use Rattle.plan_app.proofs.drawing.draw.Goals as goal

-- ---- the texts have no problem

pub returns-in_err-problem-clause-ends : goal.returns-in_err-problem-clause-ends
returns-in_err-problem-clause-ends g c =
    let stop = draw_stops g.S.Shelf.held g.S.Shelf.read_faults g.S.Shelf.write_faults c.args.shelf.now (shown_drawing c.args.drawing.now)
    c.problem_of.new.shelf c.in_err-problem.field-0.0 c.in_err-problem.ensures.ends in
    search (rules, stop)

pub returns-in_err-problem-clause-calls : goal.returns-in_err-problem-clause-calls
returns-in_err-problem-clause-calls g c =
    calls_alone g.S.Shelf.held g.S.Shelf.calls c.args.shelf.now c.problem_of.new.shelf 2 (shown_drawing c.args.drawing.now).sources c.problem_of.ensures.calls

pub returns-in_err-problem-clause-shelf : goal.returns-in_err-problem-clause-shelf
returns-in_err-problem-clause-shelf g c =
    let d = shown_drawing c.args.drawing.now in
    nothing_written g.S.Shelf.held g.S.Shelf.read_faults g.S.Shelf.write_faults c.args.shelf.now c.problem_of.new.shelf d.into
    (IsDrawHeld g.S.Shelf.held g.S.Shelf.read_faults g.S.Shelf.write_faults c.args.shelf.now c.problem_of.new.shelf d) c.problem_of.ensures.shelf

-- ---- the certificate is not accepted

pub returns-in_err-certificate-clause-ends : goal.returns-in_err-certificate-clause-ends
returns-in_err-certificate-clause-ends g c =
    let stop = undrawn_stops g.S.Shelf.held g.S.Shelf.read_faults g.S.Shelf.write_faults c.args.shelf.now (shown_drawing c.args.drawing.now)
    c.in_ok-problem.problem c.in_ok-problem.ensures.ends c.problem_of.new.shelf c.problem_of.ensures.shelf.held_same
    c.accepted_certificate.new.shelf c.problem_of.ensures.shelf.later c.in_err-certificate.field-0.0 c.in_err-certificate.ensures.ends in
    search (rules, stop)

pub returns-in_err-certificate-clause-calls : goal.returns-in_err-certificate-clause-calls
returns-in_err-certificate-clause-calls g c =
    let behind = c.accepted_certificate.ensures.calls in
    calls_behind g.S.Shelf.held g.S.Shelf.calls c.args.shelf.now c.problem_of.new.shelf c.accepted_certificate.new.shelf 2 (shown_drawing c.args.drawing.now).sources
    (c.in_ok-problem.problem, c.in_ok-problem.ensures.ends) c.problem_of.ensures.calls (omega (arith, behind))

pub returns-in_err-certificate-clause-shelf : goal.returns-in_err-certificate-clause-shelf
returns-in_err-certificate-clause-shelf g c =
    let d = shown_drawing c.args.drawing.now in
    nothing_written g.S.Shelf.held g.S.Shelf.read_faults g.S.Shelf.write_faults c.args.shelf.now c.accepted_certificate.new.shelf d.into
    (IsDrawHeld g.S.Shelf.held g.S.Shelf.read_faults g.S.Shelf.write_faults c.args.shelf.now c.accepted_certificate.new.shelf d)
    (read_on g.S.Shelf.held g.S.Shelf.read_faults g.S.Shelf.write_faults c.args.shelf.now c.problem_of.new.shelf c.accepted_certificate.new.shelf
    c.problem_of.ensures.shelf c.accepted_certificate.ensures.shelf)

-- ---- there is no memory for the graph

pub returns-in_err-answer-clause-calls : goal.returns-in_err-answer-clause-calls
returns-in_err-answer-clause-calls g c =
    let behind = c.accepted_certificate.ensures.calls in
    calls_behind g.S.Shelf.held g.S.Shelf.calls c.args.shelf.now c.problem_of.new.shelf c.accepted_certificate.new.shelf 2 (shown_drawing c.args.drawing.now).sources
    (c.in_ok-problem.problem, c.in_ok-problem.ensures.ends) c.problem_of.ensures.calls (omega (arith, behind))

pub returns-in_err-answer-clause-shelf : goal.returns-in_err-answer-clause-shelf
returns-in_err-answer-clause-shelf g c =
    let d = shown_drawing c.args.drawing.now in
    nothing_written g.S.Shelf.held g.S.Shelf.read_faults g.S.Shelf.write_faults c.args.shelf.now c.accepted_certificate.new.shelf d.into
    (IsDrawHeld g.S.Shelf.held g.S.Shelf.read_faults g.S.Shelf.write_faults c.args.shelf.now c.accepted_certificate.new.shelf d)
    (read_on g.S.Shelf.held g.S.Shelf.read_faults g.S.Shelf.write_faults c.args.shelf.now c.problem_of.new.shelf c.accepted_certificate.new.shelf
    c.problem_of.ensures.shelf c.accepted_certificate.ensures.shelf)

-- ---- it is drawn

pub returns-clause-ends : goal.returns-clause-ends
returns-clause-ends g c =
    let d = shown_drawing c.args.drawing.now in
    let problem = c.in_ok-problem.problem in
    let certificate = c.in_ok-certificate.certificate in
    let read = read_on g.S.Shelf.held g.S.Shelf.read_faults g.S.Shelf.write_faults c.args.shelf.now c.problem_of.new.shelf c.accepted_certificate.new.shelf
    c.problem_of.ensures.shelf c.accepted_certificate.ensures.shelf in
    let judged = drawn_since g.S.Shelf.held g.S.Shelf.read_faults g.S.Shelf.write_faults c.args.shelf.now d problem c.in_ok-problem.ensures.ends
    c.problem_of.new.shelf c.problem_of.ensures.shelf.held_same (Ok certificate) c.in_ok-certificate.ensures.ends in
    draw_ends g.S.Shelf.held g.S.Shelf.read_faults g.S.Shelf.write_faults c.args.shelf.now d problem c.in_ok-problem.ensures.ends certificate judged
    c.write.new.shelf c.write.result
    (wrote g.S.Shelf.held g.S.Shelf.read_faults g.S.Shelf.write_faults c.args.shelf.now c.accepted_certificate.new.shelf c.write.new.shelf
    read.held_same d.into c.in_ok-answer.answer (IsDrawAnswer problem certificate d.states) (λ stop. ⊥)
    c.in_ok-answer.ensures c.write.result read.no_write_fault
    c.write.ensures.report c.write.ensures.written c.write.ensures.stops)

pub returns-clause-calls : goal.returns-clause-calls
returns-clause-calls g c =
    let behind = c.accepted_certificate.ensures.calls in
    let last = c.write.ensures.calls in
    calls_behind g.S.Shelf.held g.S.Shelf.calls c.args.shelf.now c.problem_of.new.shelf c.write.new.shelf 2 (shown_drawing c.args.drawing.now).sources
    (c.in_ok-problem.problem, c.in_ok-problem.ensures.ends) c.problem_of.ensures.calls (omega (arith, behind, last))

pub returns-clause-shelf : goal.returns-clause-shelf
returns-clause-shelf g c =
    let d = shown_drawing c.args.drawing.now in
    let problem = c.in_ok-problem.problem in
    let certificate = c.in_ok-certificate.certificate in
    let answer = c.in_ok-answer.answer in
    let read = read_on g.S.Shelf.held g.S.Shelf.read_faults g.S.Shelf.write_faults c.args.shelf.now c.problem_of.new.shelf c.accepted_certificate.new.shelf
    c.problem_of.ensures.shelf c.accepted_certificate.ensures.shelf in
    let judged = drawn_since g.S.Shelf.held g.S.Shelf.read_faults g.S.Shelf.write_faults c.args.shelf.now d problem c.in_ok-problem.ensures.ends
    c.problem_of.new.shelf c.problem_of.ensures.shelf.held_same (Ok certificate) c.in_ok-certificate.ensures.ends in
    leaves g.S.Shelf.held g.S.Shelf.read_faults g.S.Shelf.write_faults c.args.shelf.now c.accepted_certificate.new.shelf c.write.new.shelf
    read.held_same d.into answer
    (IsDrawHeld g.S.Shelf.held g.S.Shelf.read_faults g.S.Shelf.write_faults c.args.shelf.now c.write.new.shelf d)
    (draw_held g.S.Shelf.held g.S.Shelf.read_faults g.S.Shelf.write_faults c.args.shelf.now d problem c.in_ok-problem.ensures.ends
    certificate judged answer c.in_ok-answer.ensures c.write.new.shelf)
    read
    (under_name g.S.Shelf.held g.S.Shelf.read_faults g.S.Shelf.write_faults c.args.shelf.now c.accepted_certificate.new.shelf c.write.new.shelf
    read.held_same d.into answer c.write.result c.write.ensures.written c.write.ensures.stops c.write.ensures.memory)
    c.write.ensures.others c.write.ensures.reads c.write.ensures.once
