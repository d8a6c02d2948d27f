use Rattle.std.proofs.Common.{◌≡◌, Some, map, subst}
use Rattle.std.specs.Prelude.{codes}
use Rattle.ppddl_model.specs.Objects.{World}
use Rattle.type_table.specs.Numbered.{number_of}
use Rattle.type_table.specs.Types.{type_names, object_at, objects_under}
use Rattle.task_instances.specs.facts.Facts.{table_of}
use Rattle.grounder.proofs.lemmas.limits.Counting.{objects_long}
use Rattle.grounder.proofs.limits.counts.count_objects.Goals as goal

pub returns-in-Some : goal.returns-in-Some
returns-in-Some c =
    objects_long (table_of c.args.facts.now) c.objects_of.result.now c.in-Some.number
    (subst (λ (w : World). Some c.in-Some.number ≡ number_of (type_names w.types) (codes "object")) c.table.ensures.table c.in-Some.ensures.number)
    (subst (λ (w : World). map (object_at w) c.objects_of.result.now ≡ objects_under w c.in-Some.number) c.table-in-Some.ensures.table
    c.objects_of.ensures.objects)
