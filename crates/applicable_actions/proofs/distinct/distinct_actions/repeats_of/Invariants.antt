use Rattle.std.proofs.Common.{◌≡◌, length}
use Rattle.applicable_actions.specs.distinct.Repeats.{AreRepeats}
use Rattle.applicable_actions.proofs.distinct.distinct_actions.repeats_of.Given as goal

abbrev pub invariant-loop-code : goal.invariant-loop-code
invariant-loop-code l = record {
  long : length l.repeats.items ≡ l.code;
  marked : AreRepeats l.actions l.repeats.items;
}
