use Rattle.plan_report.proofs.Telling.{IsUpTo}
use Rattle.plan_report.proofs.accounts.push_atoms_up_to.Given as goal

abbrev pub invariant-loop-number : goal.invariant-loop-number
invariant-loop-number l = IsUpTo l.atoms l.most l.numbers l.initial.out.items l.number-index l.left l.out.items
