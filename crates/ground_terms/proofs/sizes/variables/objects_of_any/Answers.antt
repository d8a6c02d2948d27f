use Rattle.std.proofs.Common.{◌≡◌, ◌<◌, length, filter, map, ap, sym, subst, ◌∙◌}
use Rattle.std.specs.Prelude.{All}
use Rattle.std.proofs.lemmas.List.Elements.{All-filter}
use Rattle.type_table.specs.Types.{object_at}
use Rattle.ground_terms.proofs.lemmas.sizes.OfTypes.{of_any, of_row}
use Rattle.ground_terms.proofs.lemmas.sizes.ManyWays.{take_whole}
use Rattle.ground_terms.proofs.sizes.variables.objects_of_any.Goals as goal

chosen : (c : goal.After-loop-object) → c.loop-object.objects.items ≡ filter (of_any c.args.table.now c.args.kinds.now) c.objects_of_kind-object-items.result.now
chosen c =
    c.loop-object.invariant
    ∙ ap (filter (of_any c.args.table.now c.args.kinds.now)) (take_whole c.loop-object.object-index c.objects_of_kind-object-items.result.now c.loop-object-test.false)

pub returns-clause-objects : goal.returns-clause-objects
returns-clause-objects c =
    ap (map (object_at c.args.table.now)) (chosen c)
    ∙ of_row c.args.table.now c.requires c.args.kinds.now c.objects_of_kind-object-items.result.now
    c.objects_of_kind-object-items.ensures.objects c.objects_of_kind-object-items.ensures.within

pub returns-clause-within : goal.returns-clause-within
returns-clause-within c =
    subst (All (λ o. o < length c.args.table.now.objects)) (sym (chosen c))
    (All-filter (of_any c.args.table.now c.args.kinds.now) (λ o. o < length c.args.table.now.objects) c.objects_of_kind-object-items.result.now
    c.objects_of_kind-object-items.ensures.within)
