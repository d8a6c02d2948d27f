use Rattle.std.proofs.Common.{◌≡◌, sym, ap, ◌∙◌, subst}
use Rattle.std.specs.Arc.{arc_value}
use Rattle.word_table.specs.view.Steps.{without_rights}
use Rattle.word_table.specs.Seen.{Knowledge, knowledge, with_rights}
use Rattle.bellman_backup.specs.Kept.{KeepsStates}
use Rattle.trial_workers.specs.Crews.{no_right}
use Rattle.trial_workers.proofs.Making.{keeps_without_rights}
use Rattle.trial_workers.proofs.crew.seat.Goals as goal

pub with_near-requires-clause-kept : goal.with_near-requires-clause-kept
with_near-requires-clause-kept c =
    let x = c.args.desk.scratch in let t = arc_value c.args.desk.near in let k = c.args.pass.now in
    let is : c.split-witness.result ≡ no_right k
    = c.split-witness.ensures.new ∙ ap (λ (l : Knowledge). knowledge l.table (with_rights 0 (without_rights l.view))) c.split-own.ensures.new in
    subst (λ (l : Knowledge). KeepsStates x.problem l.view t) (sym is) (keeps_without_rights x.problem t k.view c.requires.near)
