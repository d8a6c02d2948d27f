use Rattle.std.proofs.Common.{◌<◌, length, refl, arith}
use Rattle.std.proofs.lemmas.List.{length-map}
use Rattle.ground_model.specs.declared.start.Start.{Start}
use Rattle.bellman_backup.proofs.Keeping.{keeps_interval}
use Rattle.bellman_backup.proofs.Racers.{racing_is_ready, races_by, start_is_known}
use Rattle.bellman_backup.proofs.racing.RacingBounds.start.Goals as goal

pub interval-found-requires-clause-known : goal.interval-found-requires-clause-known
interval-found-requires-clause-known c =
    let self = c.args.self.now in let starts = self.words.now.problem.starts in
    let below : c.args.index < length starts = (let e = length-map starts (λ (x : Start). x.weight) in let r = c.requires in omega arith) in
    (racing_is_ready self.words.now self.pass self.scratch self.ready).starts c.args.index below

pub returns-clause-later : goal.returns-clause-later
returns-clause-later c =
    let self = c.args.self.now in let b = self.words.now in let k = self.pass in let l = c.interval-found.new.pass in
    races_by b k l self.scratch self.scratch self.ready.here
    (keeps_interval b k l c.args.index c.interval-found.result self.ready.here c.interval-found.ensures.seen) refl

pub returns-clause-known : goal.returns-clause-known
returns-clause-known c =
    let self = c.args.self.now in let b = self.words.now in let k = self.pass in let l = c.interval-found.new.pass in
    let starts = b.problem.starts in
    let below : c.args.index < length starts = (let e = length-map starts (λ (x : Start). x.weight) in let r = c.requires in omega arith) in
    start_is_known b k l self.scratch c.args.index self.ready
    (keeps_interval b k l c.args.index c.interval-found.result self.ready.here c.interval-found.ensures.seen) below
