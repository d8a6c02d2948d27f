use Rattle.std.proofs.Common.{◌≡◌, drop}
use Rattle.std.specs.Prelude.{flat_map}
use Rattle.grounder.specs.actions.Growing.{kept_instances_of, with_instances}
use Rattle.grounder.proofs.actions.walking.add_actions.Given as goal

abbrev pub invariant-loop-place : goal.invariant-loop-place
invariant-loop-place l =
    with_instances l.facts l.base l.grown (flat_map (kept_instances_of l.facts) (drop l.place l.actions))
    ≡ with_instances l.facts l.base l.fn.before (flat_map (kept_instances_of l.facts) l.actions)
