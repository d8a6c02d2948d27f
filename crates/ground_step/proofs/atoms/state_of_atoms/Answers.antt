-- The atoms are made true where none is.
use Rattle.std.proofs.Common.{length, ap, ◌∙◌}
use Rattle.ground_step.specs.Edits.{with_atoms}
use Rattle.ground_step.proofs.Edits.{with_atoms-none}
use Rattle.ground_step.proofs.atoms.state_of_atoms.Goals as goal

pub returns : goal.returns
returns c =
    c.add_all.ensures ∙ ap (λ s. with_atoms s c.args.atoms.now) c.make_all_false.ensures
    ∙ with_atoms-none (length c.args.into.now) c.args.atoms.now
