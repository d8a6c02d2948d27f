-- From the rounds and the run of the server to the answer.
use Rattle.std.proofs.Common.{[], refl, rules, sym, subst, ◌∙◌}
use Rattle.std.specs.Arc.{arc_value}
use Rattle.plan_search.proofs.lemmas.solver.Listing.{opened_keeps, opened_lists, opened_is_near}
use Rattle.plan_search.specs.solver.Rounds.{HasSolved}
use Rattle.plan_search.proofs.lemmas.solver.Answering.{first_has_solved, later_has_solved, closing_is_solved}
use Rattle.plan_search.specs.service.Served.{streams, WasServed}
use Rattle.plan_search.proofs.lemmas.service.Joined.{still_listed, split_listed, still_kept, joined_is_here, joined_has_both}
use Rattle.plan_search.proofs.lemmas.service.Kept.{was_served, is_served}
use Rattle.plan_search.proofs.lemmas.solver.Telling.{none_rise, told_of_closing}
use Rattle.plan_search.proofs.service.serving.serve.Goals as goal

pub make_crew-requires-clause-near : goal.make_crew-requires-clause-near
make_crew-requires-clause-near g c =
    let o = c.in_ok-words.field-0 in
    still_kept o.words.problem (arc_value o.near) o.pass c.split-looking.new.pass c.split-looking.ensures.old
    (opened_keeps c.args.problem.now c.args.sizes.now o c.in_ok-words.ensures)

pub make_crew-requires-clause-index : goal.make_crew-requires-clause-index
make_crew-requires-clause-index g c = c.in_ok-words.ensures.index ∙ sym c.in_ok-words.ensures.problem

pub solve_beside-requires-clause-near : goal.solve_beside-requires-clause-near
solve_beside-requires-clause-near g c κs within =
    let o = c.in_ok-words.field-0 in let opened = c.in_ok-words.ensures in
    opened_is_near c.args.problem.now c.args.sizes.now o opened c.requires.sizes c.in_ok-crew.crew
    (c.in_ok-crew.ensures.has opened.states (still_listed opened.states o.pass c.split-looking.new.pass c.split-looking.ensures.old opened.has))

pub join-requires-clause-here : goal.join-requires-clause-here
join-requires-clause-here g c =
    let o = c.in_ok-words.field-0 in let beside = c.solve_beside in
    let states = c.in_ok-words.ensures.states in let has = c.in_ok-crew.ensures.has states (still_listed states o.pass c.split-looking.new.pass c.split-looking.ensures.old c.in_ok-words.ensures.has) in
    let first = first_has_solved o.words c.args.effort.now states o.extent c.in_ok-crew.crew beside.new.crew beside.result.0 c.dismiss-pass.result has beside.ensures.made c.dismiss-pass.ensures in
    (first.here, beside.ensures.ran.run.serves.here)

pub finish-requires : goal.finish-requires
finish-requires g c =
    let o = c.in_ok-words.field-0 in let beside = c.solve_beside in
    let states = c.in_ok-words.ensures.states in let has = c.in_ok-crew.ensures.has states (still_listed states o.pass c.split-looking.new.pass c.split-looking.ensures.old c.in_ok-words.ensures.has) in
    let first = first_has_solved o.words c.args.effort.now states o.extent c.in_ok-crew.crew beside.new.crew beside.result.0 c.dismiss-pass.result has beside.ensures.made c.dismiss-pass.ensures in
    joined_is_here o.words c.dismiss-pass.result beside.new.pass c.join.new.pass first.here beside.ensures.ran.run.serves.here c.join.ensures

pub returns-in_err-image-clause-refused : goal.returns-in_err-image-clause-refused
returns-in_err-image-clause-refused g c =
    let o = c.in_ok-words.field-0 in let opened = c.in_ok-words.ensures in let beside = c.solve_beside in
    let shown = streams g.I.Source.left g.I.Source.ends g.I.Source.faults g.O.Sink.taken g.O.Sink.faults in
    let was : WasServed c.args.problem.now c.args.sizes.now.sweep_states (shown c.args.source.now c.args.sink.now) (shown beside.new.source beside.new.sink)
    = was_served o.words c.split-looking.result beside.new.pass (shown c.args.source.now c.args.sink.now) (shown beside.new.source beside.new.sink)
    beside.result.1 beside.ensures.ran c.args.sizes.now.sweep_states opened.states o.extent (opened_lists c.args.problem.now c.args.sizes.now o opened)
    (split_listed opened.states o.pass c.split-looking.result c.split-looking.ensures.new opened.has)
    c.args.problem.now opened.problem in
    search (rules, was)

pub returns-clause-solved : goal.returns-clause-solved
returns-clause-solved g c =
    let o = c.in_ok-words.field-0 in let effort = c.args.effort.now in let beside = c.solve_beside in
    let states = c.in_ok-words.ensures.states in let has = c.in_ok-crew.ensures.has states (still_listed states o.pass c.split-looking.new.pass c.split-looking.ensures.old c.in_ok-words.ensures.has) in
    let first = first_has_solved o.words effort states o.extent c.in_ok-crew.crew beside.new.crew beside.result.0 c.dismiss-pass.result has beside.ensures.made c.dismiss-pass.ensures in
    let there = beside.ensures.ran.run.serves.here in
    let here = joined_is_here o.words c.dismiss-pass.result beside.new.pass c.join.new.pass first.here there c.join.ensures in
    let both = joined_has_both o.words c.dismiss-pass.result beside.new.pass c.join.new.pass first.here there c.join.ensures in
    let all = subst (λ n. HasSolved o.words effort n states o.extent beside.result.0 c.dismiss-pass.result) c.in_ok-crew.ensures.made.count first in
    let last = later_has_solved o.words effort c.args.sizes.now.workers states o.extent beside.result.0 c.dismiss-pass.result c.join.new.pass all here both.0 in
    closing_is_solved c.args.problem.now c.args.sizes.now effort o beside.result.0 c.join.new.pass c.in_ok-image.image c.in_ok-words.ensures last c.in_ok-image.ensures

pub returns-clause-told : goal.returns-clause-told
returns-clause-told g c =
    let o = c.in_ok-words.field-0 in let effort = c.args.effort.now in let beside = c.solve_beside in
    let states = c.in_ok-words.ensures.states in let has = c.in_ok-crew.ensures.has states (still_listed states o.pass c.split-looking.new.pass c.split-looking.ensures.old c.in_ok-words.ensures.has) in
    let first = first_has_solved o.words effort states o.extent c.in_ok-crew.crew beside.new.crew beside.result.0 c.dismiss-pass.result has beside.ensures.made c.dismiss-pass.ensures in
    let there = beside.ensures.ran.run.serves.here in
    let here = joined_is_here o.words c.dismiss-pass.result beside.new.pass c.join.new.pass first.here there c.join.ensures in
    let both = joined_has_both o.words c.dismiss-pass.result beside.new.pass c.join.new.pass first.here there c.join.ensures in
    let all = subst (λ n. HasSolved o.words effort n states o.extent beside.result.0 c.dismiss-pass.result) c.in_ok-crew.ensures.made.count first in
    let last = later_has_solved o.words effort c.args.sizes.now.workers states o.extent beside.result.0 c.dismiss-pass.result c.join.new.pass all here both.0 in
    let told = beside.ensures.told in (
      told.0,
      told.1,
      told.2.rising,
      told_of_closing c.args.problem.now c.args.sizes.now effort o beside.result.0 c.join.new.pass c.in_ok-image.image c.in_ok-words.ensures last c.in_ok-image.ensures told.0 told.2,
    )

pub returns-in_err-words-clause-told : goal.returns-in_err-words-clause-told
returns-in_err-words-clause-told g c = ([], refl, none_rise, search rules)

pub returns-in_err-buffer-clause-told : goal.returns-in_err-buffer-clause-told
returns-in_err-buffer-clause-told g c = ([], refl, none_rise, search rules)

pub returns-in_err-crew-clause-told : goal.returns-in_err-crew-clause-told
returns-in_err-crew-clause-told g c = ([], refl, none_rise, search rules)

pub returns-in_err-image-clause-told : goal.returns-in_err-image-clause-told
returns-in_err-image-clause-told g c = let told = c.solve_beside.ensures.told in (told.0, told.1, told.2.rising, search rules)

pub returns-clause-served : goal.returns-clause-served
returns-clause-served g c =
    let o = c.in_ok-words.field-0 in let opened = c.in_ok-words.ensures in let beside = c.solve_beside in
    let states = opened.states in let has = c.in_ok-crew.ensures.has states (still_listed states o.pass c.split-looking.new.pass c.split-looking.ensures.old c.in_ok-words.ensures.has) in
    let first = first_has_solved o.words c.args.effort.now states o.extent c.in_ok-crew.crew beside.new.crew beside.result.0 c.dismiss-pass.result has beside.ensures.made c.dismiss-pass.ensures in
    let both = joined_has_both o.words c.dismiss-pass.result beside.new.pass c.join.new.pass first.here beside.ensures.ran.run.serves.here c.join.ensures in
    let shown = streams g.I.Source.left g.I.Source.ends g.I.Source.faults g.O.Sink.taken g.O.Sink.faults in
    is_served o.words c.split-looking.result beside.new.pass (shown c.args.source.now c.args.sink.now) (shown beside.new.source beside.new.sink)
    beside.result.1 beside.ensures.ran c.args.sizes.now.sweep_states states o.extent (opened_lists c.args.problem.now c.args.sizes.now o opened)
    (split_listed states o.pass c.split-looking.result c.split-looking.ensures.new opened.has)
    c.args.problem.now opened.problem c.join.new.pass both.1 c.in_ok-image.image c.in_ok-image.ensures
