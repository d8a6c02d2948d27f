use Rattle.std.proofs.Common.{◌≡◌, ◌++◌, take}
use Rattle.std.specs.List.{flat_map}
use Rattle.plan_report.specs.Reports.{choice_line}
use Rattle.plan_report.proofs.grounded.push_choices.Given as goal

abbrev pub invariant-loop-choice : goal.invariant-loop-choice
invariant-loop-choice l = l.out.items ≡ l.initial.out.items ++ flat_map (choice_line l.atoms l.den) (take l.choice-index l.choices)
