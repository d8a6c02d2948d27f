use Rattle.std.proofs.Common.{ap, ◌∙◌, length, filter}
use Rattle.ground_terms.specs.sizes.Typed.{names_of}
use Rattle.ground_terms.proofs.lemmas.sizes.OfTypes.{of_any, count_of_row}
use Rattle.ground_terms.proofs.lemmas.sizes.ManyWays.{take_whole}
use Rattle.ground_terms.proofs.sizes.variables.count_objects.Goals as goal

pub returns : goal.returns
returns c =
    let row = c.objects_of_kind-object-items.result.now in
    c.loop-object.invariant.chosen
    ∙ ap (λ os. length (filter (of_any c.args.table.now c.as_slice-kinds.result.now) os)) (take_whole c.loop-object.object-index row c.loop-object-test.false)
    ∙ count_of_row c.args.table.now c.requires c.as_slice-kinds.result.now row
    c.objects_of_kind-object-items.ensures.objects c.objects_of_kind-object-items.ensures.within
    ∙ ap (λ kinds. length (names_of c.args.table.now kinds)) c.as_slice-kinds.ensures
