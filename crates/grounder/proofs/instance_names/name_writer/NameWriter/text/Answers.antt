use Rattle.std.proofs.Common.{◌≡◌, ℕ, ◌-◌, List, map, take, length, sym, ◌∙◌}
use Rattle.ppddl_model.specs.State.{Name}
use Rattle.ppddl_model.specs.Objects.{World}
use Rattle.type_table.specs.Types.{object_at}
use Rattle.task_instances.specs.facts.Facts.{table_of}
use Rattle.grounder.specs.instance_names.Names.{begun, ended}
use Rattle.grounder.proofs.lemmas.instance_names.Binding.{named_by_row}
use Rattle.grounder.proofs.lemmas.instance_names.Spelled.{same_numbers, ended_whole}
use Rattle.grounder.proofs.instance_names.name_writer.NameWriter.text.Goals as goal
use Rattle.grounder.proofs.instance_names.name_writer.NameWriter.text.Goals.{then-ne+in_ok-self-inside, else-ne}

pub returns-clause-text : goal.returns-clause-text
returns-clause-text c =
    let row : List ℕ = c.args.row.now in
    let front : List ℕ = take (length row - 1) row in
    let name : Name = c.as_slice-name.result.now in
    let table : World = c.table-table.result.now in
    let begins : c.if-ne.self-inside.beginning.items ≡ begun name (map (object_at table) front)
    = elim c.if-ne.branch [
      | then-ne+in_ok-self-inside w ↦ (λ i. (w.self-inside-is i).beginning.items) ∙ w.in_ok-self-inside.ensures
      | else-ne w ↦
          (λ i. (w.self-inside-is i).beginning.items) ∙ c.self.invariant
          ∙ (λ i. begun (sym c.as_slice-name.ensures i)
          (map (object_at (sym c.table-table.ensures.table i))
          (sym (same_numbers front c.self.inside.objects.now c.ne.result c.ne.ensures w.if-ne.false) i)))
    ] in
    c.from_vec-2.ensures ∙ c.in_ok-text.ensures
    ∙ (λ i. ended ((c.as_slice.ensures.value ∙ begins) i) (c.object_name.ensures.name i))
    ∙ ended_whole (object_at table) name row c.in-Some.last.now (sym c.in-Some.ensures.value)
    ∙ named_by_row c.args.self.now.task c.args.self.now.action row name table c.requires.distinct c.requires.row.long
    (c.as_slice-name.ensures ∙ (λ i. (c.self.view_is i).action.name)) (c.table-table.ensures.table ∙ (λ i. table_of (c.self.view_is i).task))
