-- The first certificate, and behind it the second.
use Rattle.std.proofs.Common.{rules, Ok}
use Rattle.plan_request.specs.Shown.{shown_merging}
use Rattle.plan_app.proofs.Pairing.{first_stops, behind_first, second_stops}
use Rattle.plan_app.proofs.merging.pair_of.Goals as goal

pub returns-in_err-first-clause-ends : goal.returns-in_err-first-clause-ends
returns-in_err-first-clause-ends g c =
    let m = shown_merging c.args.merging.now in
    let stop = first_stops g.S.Shelf.held g.S.Shelf.read_faults c.args.shelf.now c.accepted_certificate.new.shelf c.args.problem.now m.first m.second
    c.in_err-first.field-0.0 c.in_err-first.ensures.ends in
    search (rules, stop)

pub returns-in-Ok-clause-ends : goal.returns-in-Ok-clause-ends
returns-in-Ok-clause-ends g c =
    let m = shown_merging c.args.merging.now in
    let both = behind_first g.S.Shelf.held g.S.Shelf.read_faults c.args.shelf.now c.accepted_certificate.new.shelf c.args.problem.now m.first m.second
    c.accepted_certificate.ensures.shelf.held_same c.in_ok-first.first c.in_ok-first.ensures.ends (Ok c.in-Ok.second) c.in-Ok.ensures.ends in
    search (rules, both)

pub returns-in-Err-clause-ends : goal.returns-in-Err-clause-ends
returns-in-Err-clause-ends g c =
    let m = shown_merging c.args.merging.now in
    let stop = second_stops g.S.Shelf.held g.S.Shelf.read_faults c.args.shelf.now c.accepted_certificate.new.shelf c.args.problem.now m.first m.second
    c.accepted_certificate.ensures.shelf.held_same c.in_ok-first.first c.in_ok-first.ensures.ends c.accepted_certificate-2.new.shelf
    c.accepted_certificate.ensures.shelf.later c.in-Err.stop c.in-Err.ensures.ends in
    search (rules, stop, c.of_second.ensures)
