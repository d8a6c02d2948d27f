use Rattle.std.proofs.Common.{ℕ, true, List, map, refl, sym, ap, subst, ◌∙◌}
use Rattle.std.specs.Prelude.{slice_set}
use Rattle.task_instances.specs.fact_rows.Marks.{mark_of, AreMarked}
use Rattle.task_instances.proofs.lemmas.fact_rows.Marking.{row_marked}
use Rattle.type_table.specs.Reading.{items_of}
use Rattle.type_table.proofs.Numbered.{vector_added}
use Rattle.task_instances.proofs.fact_rows.row_set.RowSet.add.Goals as goal

pub returns : goal.returns
returns c =
    ap (map items_of) c.in-Ok.ensures.keys
    ∙ vector_added c.self.inside.set.keys c.args.row c.args.self.now c.args.row.items c.self.view_is refl

pub invariant_of-self-2 : goal.invariant_of-self-2
invariant_of-self-2 c =
    let rows : List (List ℕ) = map items_of c.self.inside.set.keys in
    subst (AreMarked (slice_set c.self.inside.marks.items c.mark_of.result true))
    (sym (ap (map items_of) c.in-Ok.ensures.keys ∙ vector_added c.self.inside.set.keys c.args.row rows c.args.row.items refl refl))
    (row_marked c.self.inside.marks.items rows c.args.row.items c.mark_of.result c.self.invariant c.mark_of.ensures.within
    (c.mark_of.ensures.mark ∙ ap mark_of c.as_slice.ensures.value))
