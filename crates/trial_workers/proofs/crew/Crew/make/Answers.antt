use Rattle.std.proofs.Common.{◌≡◌, ◌+◌, rules, sym, subst, arith}
use Rattle.std.specs.Arc.{arc_value}
use Rattle.trial_workers.specs.Crews.{IsNewCrew}
use Rattle.trial_workers.proofs.Making.{Seating, desk_is_fresh, desk_is_kept, one_seated, new_is_crew, new_has}
use Rattle.trial_workers.proofs.crew.Crew.make.Goals as goal

pub seat-requires-clause-fresh : goal.seat-requires-clause-fresh
seat-requires-clause-fresh c =
    let t = arc_value c.args.near.now in let l = c.loop in
    desk_is_fresh c.args.words.now c.args.pass t c.args.workers c.args.depth l.counter l.desks.items l.seats.items l.pass c.loop-test.true l.invariant.seating
    c.pop.new.self.items c.in-Some.desk (search rules)

pub seat-requires-clause-near : goal.seat-requires-clause-near
seat-requires-clause-near c =
    let t = arc_value c.args.near.now in let l = c.loop in
    desk_is_kept c.args.words.now c.args.pass t c.args.workers c.args.depth l.counter l.desks.items l.seats.items l.pass c.loop-test.true l.invariant.seating
    c.pop.new.self.items c.in-Some.desk (search rules) c.requires.near

pub loop-preserved : goal.loop-preserved
loop-preserved c =
    let b = c.args.words.now in let k = c.args.pass in let t = arc_value c.args.near.now in let n = c.args.workers in let l = c.loop in
    record {
      seating = subst (λ ws. Seating b k t n c.args.depth (l.counter + 1) c.pop.new.self.items ws c.seat.new.pass) (sym c.push_reserved.ensures.items)
          (one_seated b k t n c.args.depth l.counter l.desks.items l.seats.items l.pass c.loop-test.true l.invariant.seating
          c.pop.new.self.items c.in-Some.desk (search rules) c.seat.result c.seat.new.pass c.seat.ensures.worker c.seat.ensures.left);
      room = search rules;
    }

pub returns-clause-crew : goal.returns-clause-crew
returns-clause-crew c =
    let b = c.args.words.now in let k = c.args.pass in let n = c.args.workers in let so = c.loop.invariant.seating in
    let same : c.loop.counter ≡ n = (let l = so.left in let t = c.loop-test.false in omega arith) in
    new_is_crew b k n c.args.depth c.loop.seats.items c.requires.here c.requires.workers (subst (λ m. IsNewCrew b.problem k m c.args.depth c.loop.seats.items) same so.seated)

pub returns-clause-has : goal.returns-clause-has
returns-clause-has c = λ states has.
    let b = c.args.words.now in let k = c.args.pass in let n = c.args.workers in let so = c.loop.invariant.seating in
    let same : c.loop.counter ≡ n = (let l = so.left in let t = c.loop-test.false in omega arith) in
    new_has b.problem k n c.args.depth c.loop.seats.items states c.requires.workers.0 (subst (λ m. IsNewCrew b.problem k m c.args.depth c.loop.seats.items) same so.seated) has
