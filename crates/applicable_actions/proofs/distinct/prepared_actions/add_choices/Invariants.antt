-- The choices so far stand behind the others.
use Rattle.std.proofs.Common.{◌≡◌, ◌++◌, take}
use Rattle.applicable_actions.proofs.distinct.prepared_actions.add_choices.Given as goal

abbrev pub invariant-loop-choice : goal.invariant-loop-choice
invariant-loop-choice l = l.into.items ≡ l.initial.into.items ++ take l.choice-index l.choices
