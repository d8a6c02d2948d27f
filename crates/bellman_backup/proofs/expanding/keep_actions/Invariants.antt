-- The actions so far are kept.
use Rattle.std.proofs.Common.{◌≡◌, length}
use Rattle.bellman_backup.specs.declared.lookup.Lookup.TheVariants.{Find}
use Rattle.bellman_backup.proofs.TransitionsKept.{ActionsKept}
use Rattle.bellman_backup.proofs.expanding.keep_actions.Given as goal

abbrev pub invariant-loop-code : goal.invariant-loop-code
invariant-loop-code l = record {
  so : ActionsKept l.words l.initial.pass l.pass l.state l.codes l.initial.kept l.kept l.code-index;
  spare : l.lookup ≡ Find → l.pass.view.spare ≡ l.initial.pass.view.spare;
  fits : length l.next ≡ length l.state;
}
