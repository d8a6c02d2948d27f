-- One atom more.
use Rattle.std.proofs.Common.{◌∙◌, refl}
use Rattle.policy_graph.specs.Text.{atom_line}
use Rattle.policy_graph.proofs.Joining.{place_more}
use Rattle.policy_graph.proofs.labels.push_atoms.Goals as goal

pub loop-number-preserved : goal.loop-number-preserved
loop-number-preserved c =
    let line = atom_line c.atoms-atoms.result.now c.args.state.now in
    c.in_ok-push_atom.ensures
    ∙ place_more line c.args.out.now.items c.loop-number.out.items c.loop-number.number (line c.loop-number.number) c.loop-number.invariant refl
