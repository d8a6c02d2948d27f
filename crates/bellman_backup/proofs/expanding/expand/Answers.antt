use Rattle.std.proofs.Common.{length, ◌∙◌}
use Rattle.state_interner.specs.Interned.{IsIdOf}
use Rattle.kept_transitions.specs.declared.kept_row.KeptRow.{KeptRow}
use Rattle.kept_transitions.proofs.Growth.{cut_is_grown}
use Rattle.kept_transitions.proofs.Putting.{row_is_kept}
use Rattle.bellman_backup.proofs.expanding.expand.Goals as goal

pub returns-then-keep_actions-clause-row : goal.returns-then-keep_actions-clause-row
returns-then-keep_actions-clause-row c = λ own is _.
    let row : KeptRow = record { first = c.action_count-first.result; past = c.action_count.result } in
    let have = c.keep_actions.ensures.kept c.if-keep_actions.true in
    row_is_kept (IsIdOf c.keep_actions.new.pass.view) c.args.state.now own c.args.words.now.problem c.args.codes.now c.keep_actions.new.kept row (length c.args.kept.now.actions)
    (have.each own is) c.requires.codes c.action_count-first.ensures (c.action_count.ensures ∙ have.count)

pub returns-clause-grown : goal.returns-clause-grown
returns-clause-grown c =
    cut_is_grown c.args.kept.now c.keep_actions.new.kept c.cut.new.self c.action_count-first.result c.id_count-ids.result c.keep_actions.ensures.grown
    c.action_count-first.ensures c.id_count-ids.ensures c.cut.ensures.rows c.cut.ensures.actions c.cut.ensures.ids
