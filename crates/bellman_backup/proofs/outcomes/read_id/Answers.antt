use Rattle.std.proofs.Common.{◌<◌, Some, refl, rules}
use Rattle.brtdp_trial.specs.declared.step.Step.{Step}
use Rattle.bellman_backup.proofs.Keeping.{keeps_interval}
use Rattle.bellman_backup.proofs.Stepping.{id_is_next}
use Rattle.bellman_backup.proofs.outcomes.read_id.Goals as goal

pub returns-clause-keeps : goal.returns-clause-keeps
returns-clause-keeps c = keeps_interval c.args.words.now c.args.pass.now c.interval-found.new.pass c.args.id c.interval-found.result c.requires.here c.interval-found.ensures.seen

pub returns-clause-read : goal.returns-clause-read
returns-clause-read c = λ t its.
    let i = c.interval-found.result in
    let small : i.code < 65536 = search rules in
    let x : Step = record { weight = c.args.weight; id = Some c.args.id; lower = i.lower; upper = i.upper } in
    id_is_next c.args.words.now c.args.pass.now c.interval-found.new.pass t c.args.id i c.args.weight x
    c.requires.here its small c.interval-found.ensures.seen c.interval-found.ensures.told refl
