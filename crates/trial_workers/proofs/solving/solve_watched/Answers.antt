use Rattle.std.proofs.Common.{◌≡◌, ◌∙◌, [], true, false, rules, arith, refl, sym, subst, inr, true≢false}
use Rattle.trial_workers.specs.Watching.{means_of, IsEnd}
use Rattle.trial_workers.proofs.Looping.{Solving, solving_begins, solving_goes_on, first_has_more, read_again}
use Rattle.trial_workers.proofs.Watching.{rounds_left, none_told, telling_goes_on, ended_telling}
use Rattle.trial_workers.proofs.solving.solve_watched.Goals as goal

pub loop-rounds-init : goal.loop-rounds-init
loop-rounds-init g c =
    let b = c.args.words.now in let e = c.args.effort.now in let near = c.requires.near in let x = c.args.extent.now in let s = c.read-last.result.solved in
    let none = c.read-last.ensures.rounds in (
      omega arith,
      (
        near.states,
        near.listed,
        subst (λ n. Solving b e near.states x c.args.crew.now c.read-last.new.crew n (means_of s)) (sym none)
            (solving_begins b e near.states x near.listed c.args.crew.now c.read-last.new.crew (means_of s) c.requires.crew near.has c.read-last.ensures.means),
      ),
      ([], refl, none_told b.problem b.layout.ids x.depth e s none),
    )

pub round-requires-clause-near : goal.round-requires-clause-near
round-requires-clause-near g c κs within = let so = c.loop-rounds.invariant.1 in record { states = so.0; listed = so.1; has = so.2.has }

pub read-last-requires-in-loop-rounds-clause-near : goal.read-last-requires-in-loop-rounds-clause-near
read-last-requires-in-loop-rounds-clause-near g c = let so = c.loop-rounds.invariant.1 in record {
  states = so.0;
  listed = so.1;
  has = first_has_more c.args.words.now so.0 c.loop-rounds.crew c.round.new.crew c.round.ensures.stayed so.2.has;
}

pub loop-rounds-preserved : goal.loop-rounds-preserved
loop-rounds-preserved g c =
    let b = c.args.words.now in let e = c.args.effort.now in let x = c.args.extent.now in
    let so = c.loop-rounds.invariant.1 in let told = c.loop-rounds.invariant.2 in
    let read = c.read-last-in-loop-rounds in let s = c.loop-rounds.last.solved in let t = read.result.solved in
    let off : c.is_end.result ≡ false = search (rules, c.loop-rounds-test.true) in
    let goes_on : IsEnd e s → ⊥ = λ end. true≢false (sym (c.is_end.ensures.1 end) ∙ off) in
    let below = rounds_left e s goes_on in
    let goes = solving_goes_on b e so.0 x so.1 c.args.crew.now c.loop-rounds.crew c.round.new.crew read.new.crew s.rounds (means_of s) (means_of t) so.2
    (λ near. goes_on (inr near)) c.round.ensures.crew c.round.ensures.stayed c.round.ensures.trials c.round.ensures.rounds read.ensures.means in
    let more : Solving b e so.0 x c.args.crew.now read.new.crew t.rounds (means_of t)
    = subst (λ n. Solving b e so.0 x c.args.crew.now read.new.crew n (means_of t)) (sym read.ensures.rounds) goes in
    let narrower = read_again b s t.rounds (means_of t) c.loop-rounds.crew c.round.new.crew read.new.crew so.2.seen c.round.ensures.stayed read.ensures.means in (
      (let next = read.ensures.rounds in omega arith),
      (so.0, so.1, more),
      telling_goes_on b.problem b.layout.ids x.depth g.W.Watcher.tells e s read.result read.ensures.rounds narrower more.plain read.ensures.few
          c.args.watcher.now c.loop-rounds.watcher c.tell.new.watcher told.0 told.1 told.2 c.tell.ensures,
    )

pub returns-clause-told : goal.returns-clause-told
returns-clause-told g c =
    let b = c.args.words.now in let told = c.loop-rounds.invariant.2 in
    let on : c.is_end.result ≡ true = search (rules, c.loop-rounds-test.false) in (
      told.0,
      told.1,
      ended_telling b.problem b.layout.ids c.args.extent.now.depth c.args.effort.now c.loop-rounds.last.solved told.0
          (c.is_end.ensures.0 on) told.2,
    )
