use Rattle.std.proofs.Common.{◌≡◌, drop, map}
use Rattle.grounder.specs.instance_names.Names.{instance_of_row, names_of}
use Rattle.grounder.specs.actions.Growing.{with_instances}
use Rattle.grounder.proofs.lemmas.actions.Repeating.{HasLast}
use Rattle.grounder.proofs.actions.walking.add_action.Given as goal

abbrev pub invariant-loop-place : goal.invariant-loop-place
invariant-loop-place l = record {
  rest :
      with_instances l.facts l.base l.grown (map (instance_of_row l.facts l.action) (drop l.place l.rows.rows))
      ≡ with_instances l.facts l.base l.fn.before (map (instance_of_row l.facts l.action) l.rows.rows);
  same : l.names ≡ names_of l.facts l.action;
  last : HasLast l.facts l.base l.action l.rows.rows l.place l.grown.list;
}
