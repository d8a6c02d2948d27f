use Rattle.std.proofs.Common.{ap, ◌∙◌}
use Rattle.type_table.specs.Numbered.{with_name}
use Rattle.grounder.proofs.lemmas.texts.Sorting.{name_added}
use Rattle.grounder.proofs.texts.numbering.name_set.Goals as goal

pub loop-text-preserved : goal.loop-text-preserved
loop-text-preserved c =
    name_added c.args.texts.now c.loop-text.text-index c.text-item.result c.text-item.result c.loop-text.names c.add.new.self c.requires
    c.loop-text-test.true c.text-item.is c.loop-text.invariant (c.in_ok-add.ensures ∙ ap (with_name c.loop-text.names) c.as_slice.ensures)
