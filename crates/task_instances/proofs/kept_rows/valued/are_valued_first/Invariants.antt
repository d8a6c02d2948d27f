use Rattle.std.proofs.Common.{◌≡◌, drop}
use Rattle.std.specs.List.{list_all}
use Rattle.ppddl_model.specs.Steps.{world}
use Rattle.task_instances.specs.kept_rows.Terms.{is_valued_first}
use Rattle.task_instances.proofs.kept_rows.valued.are_valued_first.Given as goal

abbrev pub invariant-loop-term : goal.invariant-loop-term
invariant-loop-term l = list_all (is_valued_first (world l.facts)) (drop l.term-index l.terms) ≡ list_all (is_valued_first (world l.facts)) l.terms
