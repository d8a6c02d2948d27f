use Rattle.std.proofs.Common.{◌≡◌, drop}
use Rattle.std.specs.Prelude.{flat_map}
use Rattle.grounder.specs.texts.Wanted.{with_more}
use Rattle.grounder.specs.changing_atoms.Atoms.{action_texts}
use Rattle.grounder.proofs.changing_atoms.atoms.add_actions.Given as goal

abbrev pub invariant-loop-place : goal.invariant-loop-place
invariant-loop-place l =
    with_more l.texts (flat_map (action_texts l.facts) (drop l.place l.actions))
    ≡ with_more l.fn.texts (flat_map (action_texts l.facts) l.actions)
