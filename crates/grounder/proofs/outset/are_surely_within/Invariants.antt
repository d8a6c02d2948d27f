use Rattle.std.proofs.Common.{◌≡◌, drop}
use Rattle.std.specs.Prelude.{flat_map}
use Rattle.ppddl_model.specs.Changing.{kept_instances}
use Rattle.ppddl_model.specs.Steps.{Charges, base_cost}
use Rattle.ground_meaning.specs.refusals.Limits.{instances_within}
use Rattle.grounder.specs.outset.Walked.{instances_of}
use Rattle.grounder.specs.outset.Bounded.{IsBelow}
use Rattle.grounder.proofs.outset.are_surely_within.Given as goal

abbrev pub invariant-loop-place : goal.invariant-loop-place
invariant-loop-place l =
    (charges : Charges) → base_cost l.facts charges ≡ l.base
    → IsBelow l.facts charges l.bounded (flat_map (instances_of l.facts) (drop l.place l.actions))
    (instances_within l.facts charges 0 l.tested (kept_instances l.facts))
