use Rattle.std.proofs.Common.{◌≡◌, ◌≤◌, ◌++◌, length, take}
use Rattle.ground_step.specs.Atoms.{true_atoms}
use Rattle.applicable_actions.proofs.open_codes.write_codes.Given as goal

abbrev pub invariant-loop-code : goal.invariant-loop-code
invariant-loop-code l = record {
  callable : (goal.iterator-loop-code).can_next l.code-iterator;
  finite : (goal.iterator-loop-code).is_finite l.code-iterator;
  long : length l.codes ≡ length l.initial.codes;
  within : l.count ≤ length l.codes;
  written : take l.count l.codes ++ l.code-iterator ≡ true_atoms l.marks;
}
