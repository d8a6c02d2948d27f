use Rattle.std.proofs.Common.{length}
use Rattle.grounder.proofs.changing_atoms.under.+add_under_row.Given as goal

abbrev pub decreases-add_under_row : goal.decreases-add_under_row
decreases-add_under_row l = length l.params.now
