use Rattle.std.proofs.Common.{◌≡◌, ◌++◌, drop, map}
use Rattle.outcome_dist.specs.lists.Keys.{part_key_of}
use Rattle.outcome_dist.proofs.lists.key.part_keys_of.Given as goal

abbrev pub invariant-loop-part : goal.invariant-loop-part
invariant-loop-part l = l.keys.items ++ map part_key_of (drop l.part-index l.parts) ≡ map part_key_of l.parts
