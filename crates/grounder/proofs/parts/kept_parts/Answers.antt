use Rattle.std.proofs.Common.{◌<◌, length, subst}
use Rattle.ppddl_model.specs.declared.tree.Task.{Task}
use Rattle.ground_meaning.specs.declared.refusals.limits.LimitCode.TheVariants.{Atoms}
use Rattle.ground_meaning.specs.refusals.Atoms.{numbering_of}
use Rattle.ground_meaning.specs.refusals.Codes.{most_of}
use Rattle.grounder.specs.texts.Wanted.{AreWithin}
use Rattle.grounder.proofs.Ending.{atoms_over}
use Rattle.grounder.proofs.lemmas.outset.Walking.{later_stops}
use Rattle.grounder.proofs.parts.kept_parts.Goals as goal

pub returns-in-Err : goal.returns-in-Err
returns-in-Err c =
    let task : Task = c.args.facts.now in
    record { exact = λ charges same. later_stops task charges c.args.tested c.in-Err.code (c.in-Err.ensures charges same) }

pub returns-then-is_sure : goal.returns-then-is_sure
returns-then-is_sure c =
    let task : Task = c.args.facts.now in
    let above : most_of Atoms < length (numbering_of task).atoms
    = subst (λ k. k < length (numbering_of task).atoms) (c.most_wanted.ensures c.if-is_sure.true)
    (subst (AreWithin c.most_wanted.result (numbering_of task).atoms) c.in-None.is c.in_ok-atoms.ensures) in
    record { exact = λ charges same. atoms_over task charges c.args.tested (c.are_surely_within-is_sure.ensures c.if-is_sure.true charges same) above }
