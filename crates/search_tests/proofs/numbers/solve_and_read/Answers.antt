-- The crew has what the search was opened with, behind a pass that was split off.
use Rattle.std.proofs.Common.{sym, ◌∙◌}
use Rattle.std.specs.Arc.{arc_value}
use Rattle.plan_search.proofs.lemmas.solver.Listing.{opened_keeps, opened_is_near}
use Rattle.plan_search.proofs.lemmas.service.Joined.{still_listed, still_kept}
use Rattle.search_tests.proofs.numbers.solve_and_read.Goals as goal

pub make_crew-requires-clause-near : goal.make_crew-requires-clause-near
make_crew-requires-clause-near g c =
    let o = c.in_ok-words.field-0 in
    still_kept o.words.problem (arc_value o.near) o.pass c.split-reading.new.pass c.split-reading.ensures.old
    (opened_keeps c.args.problem.now c.args.sizes.now o c.in_ok-words.ensures)

pub make_crew-requires-clause-index : goal.make_crew-requires-clause-index
make_crew-requires-clause-index g c = c.in_ok-words.ensures.index ∙ sym c.in_ok-words.ensures.problem

pub read_beside-read-requires-clause-near : goal.read_beside-read-requires-clause-near
read_beside-read-requires-clause-near g c κs within =
    let o = c.in_ok-words.field-0 in let opened = c.in_ok-words.ensures in
    opened_is_near c.args.problem.now c.args.sizes.now o opened c.requires.sizes c.in-Ok.crew
    (c.in-Ok.ensures.has opened.states (still_listed opened.states o.pass c.split-reading.new.pass c.split-reading.ensures.old opened.has))
