use Rattle.std.proofs.Common.{length}
use Rattle.grounder.proofs.actions.forming.+form_under.Given as goal

abbrev pub decreases-form_under : goal.decreases-form_under
decreases-form_under l = length l.variables.now
