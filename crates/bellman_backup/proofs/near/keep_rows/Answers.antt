use Rattle.std.proofs.Common.{refl, sym, ◌∙◌, subst}
use Rattle.kept_transitions.specs.Rows.{Transitions}
use Rattle.bellman_backup.specs.Kept.{KeepsStates}
use Rattle.bellman_backup.proofs.Keeping.{keeps_again}
use Rattle.bellman_backup.proofs.KeptRows.{keeps_more}
use Rattle.bellman_backup.proofs.near.keep_rows.Goals as goal

pub loop-id-preserved : goal.loop-id-preserved
loop-id-preserved c =
    let b = c.args.words.now in let k = c.args.pass.now in let l = c.loop-id.pass in let m = c.find_row-row.new.pass in
    let found = c.find_row-row.ensures in let so = c.loop-id.invariant in record {
      keeps = keeps_again b k l m so.keeps found.keeps;
      spare = found.spare refl ∙ so.spare;
      buffers = found.buffers;
      kept = subst (λ (t : Transitions). KeepsStates b.problem m.view t) (sym c.set_row.ensures)
          (keeps_more b.problem l.view m.view c.loop-id.kept c.find_row-row.new.kept c.loop-id.id c.find_row-row.result found.keeps.noted found.grown so.kept found.row);
    }
