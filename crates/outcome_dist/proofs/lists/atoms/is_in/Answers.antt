use Rattle.std.proofs.Common.{sym}
use Rattle.outcome_dist.proofs.lemmas.lists.Sets.{found, missed}
use Rattle.outcome_dist.proofs.lists.atoms.is_in.Goals as goal

pub returns-in-Ok : goal.returns-in-Ok
returns-in-Ok c = sym (found c.args.atoms.now c.args.atom c.in-Ok.field-0 c.requires c.in-Ok.ensures.position)

pub returns-in-Err : goal.returns-in-Err
returns-in-Err c = sym (missed c.args.atoms.now c.args.atom c.in-Err.field-0 c.requires c.in-Err.ensures.position)
