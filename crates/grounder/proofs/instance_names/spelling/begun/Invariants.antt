use Rattle.std.proofs.Common.{◌≡◌, ◌++◌, drop, map}
use Rattle.std.specs.Prelude.{flat_map}
use Rattle.type_table.specs.Types.{object_at}
use Rattle.ground_terms.proofs.lemmas.terms.Spelling.{spaced}
use Rattle.grounder.specs.instance_names.Names.{begun}
use Rattle.grounder.proofs.instance_names.spelling.begun.Given as goal

abbrev pub invariant-loop-object : goal.invariant-loop-object
invariant-loop-object l =
    l.text.items ++ flat_map spaced (map (object_at l.table) (drop l.object-index l.objects)) ≡ begun l.name (map (object_at l.table) l.objects)
