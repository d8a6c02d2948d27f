use Rattle.std.proofs.Common.{[], refl, rules, sym, subst, ◌∙◌}
use Rattle.plan_search.specs.solver.Rounds.{HasMadeRounds, HasSolved}
use Rattle.plan_search.proofs.lemmas.solver.Listing.{opened_keeps, opened_is_near}
use Rattle.plan_search.proofs.lemmas.solver.Answering.{first_has_solved, closing_is_solved}
use Rattle.plan_search.proofs.lemmas.solver.Telling.{none_rise, told_of_closing}
use Rattle.plan_search.proofs.solver.solving.solve.Goals as goal

pub make_crew-requires-clause-near : goal.make_crew-requires-clause-near
make_crew-requires-clause-near g c = opened_keeps c.args.problem.now c.args.sizes.now c.in_ok-words.field-0 c.in_ok-words.ensures

pub make_crew-requires-clause-index : goal.make_crew-requires-clause-index
make_crew-requires-clause-index g c = c.in_ok-words.ensures.index ∙ sym c.in_ok-words.ensures.problem

pub solve_watched-solved-requires-clause-near : goal.solve_watched-solved-requires-clause-near
solve_watched-solved-requires-clause-near g c κs within =
    opened_is_near c.args.problem.now c.args.sizes.now c.in_ok-words.field-0 c.in_ok-words.ensures c.requires.sizes c.in_ok-crew.crew
    (c.in_ok-crew.ensures.has c.in_ok-words.ensures.states c.in_ok-words.ensures.has)

pub finish-requires : goal.finish-requires
finish-requires g c =
    let o = c.in_ok-words.field-0 in let effort = c.args.effort.now in let rounds = c.solve_watched-solved in
    let made : HasMadeRounds o.words effort o.extent c.in_ok-crew.crew rounds.new.crew rounds.result = record {
      crew = rounds.ensures.crew;
      stayed = rounds.ensures.stayed;
      trials = rounds.ensures.trials;
      plain = rounds.ensures.plain;
      most = rounds.ensures.most;
      early = rounds.ensures.early;
      end = rounds.ensures.end;
      seen = rounds.ensures.seen;
    } in
    (first_has_solved o.words effort c.in_ok-words.ensures.states o.extent c.in_ok-crew.crew rounds.new.crew rounds.result c.dismiss.result
    (c.in_ok-crew.ensures.has c.in_ok-words.ensures.states c.in_ok-words.ensures.has) made c.dismiss.ensures).here

pub returns-in_err-words-clause-told : goal.returns-in_err-words-clause-told
returns-in_err-words-clause-told g c = ([], refl, none_rise, search rules)

pub returns-in_err-crew-clause-told : goal.returns-in_err-crew-clause-told
returns-in_err-crew-clause-told g c = ([], refl, none_rise, search rules)

pub returns-in_err-image-clause-told : goal.returns-in_err-image-clause-told
returns-in_err-image-clause-told g c = let told = c.solve_watched-solved.ensures.told in (told.0, told.1, told.2.rising, search rules)

pub returns-clause-solved : goal.returns-clause-solved
returns-clause-solved g c =
    let sizes = c.args.sizes.now in let effort = c.args.effort.now in
    let o = c.in_ok-words.field-0 in let opened = c.in_ok-words.ensures in let rounds = c.solve_watched-solved in
    let made : HasMadeRounds o.words effort o.extent c.in_ok-crew.crew rounds.new.crew rounds.result = record {
      crew = rounds.ensures.crew;
      stayed = rounds.ensures.stayed;
      trials = rounds.ensures.trials;
      plain = rounds.ensures.plain;
      most = rounds.ensures.most;
      early = rounds.ensures.early;
      end = rounds.ensures.end;
      seen = rounds.ensures.seen;
    } in
    let solved : HasSolved o.words effort sizes.workers opened.states o.extent rounds.result c.dismiss.result
    = subst (λ n. HasSolved o.words effort n opened.states o.extent rounds.result c.dismiss.result) c.in_ok-crew.ensures.made.count
    (first_has_solved o.words effort opened.states o.extent c.in_ok-crew.crew rounds.new.crew rounds.result c.dismiss.result
    (c.in_ok-crew.ensures.has opened.states opened.has) made c.dismiss.ensures) in
    closing_is_solved c.args.problem.now sizes effort o rounds.result c.dismiss.result c.in_ok-image.image opened solved c.in_ok-image.ensures

pub returns-clause-told : goal.returns-clause-told
returns-clause-told g c =
    let sizes = c.args.sizes.now in let effort = c.args.effort.now in
    let o = c.in_ok-words.field-0 in let opened = c.in_ok-words.ensures in let rounds = c.solve_watched-solved in
    let made : HasMadeRounds o.words effort o.extent c.in_ok-crew.crew rounds.new.crew rounds.result = record {
      crew = rounds.ensures.crew;
      stayed = rounds.ensures.stayed;
      trials = rounds.ensures.trials;
      plain = rounds.ensures.plain;
      most = rounds.ensures.most;
      early = rounds.ensures.early;
      end = rounds.ensures.end;
      seen = rounds.ensures.seen;
    } in
    let solved : HasSolved o.words effort sizes.workers opened.states o.extent rounds.result c.dismiss.result
    = subst (λ n. HasSolved o.words effort n opened.states o.extent rounds.result c.dismiss.result) c.in_ok-crew.ensures.made.count
    (first_has_solved o.words effort opened.states o.extent c.in_ok-crew.crew rounds.new.crew rounds.result c.dismiss.result
    (c.in_ok-crew.ensures.has opened.states opened.has) made c.dismiss.ensures) in
    let told = rounds.ensures.told in (
      told.0,
      told.1,
      told.2.rising,
      told_of_closing c.args.problem.now sizes effort o rounds.result c.dismiss.result c.in_ok-image.image opened solved c.in_ok-image.ensures told.0 told.2,
    )
