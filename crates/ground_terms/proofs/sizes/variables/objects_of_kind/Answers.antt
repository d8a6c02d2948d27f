use Rattle.std.proofs.Common.{[], ◌∷◌, ap, ◌∙◌}
use Rattle.ground_terms.specs.sizes.Typed.{names_of}
use Rattle.ground_terms.proofs.lemmas.sizes.OfTypes.{type_named, none_named}
use Rattle.ground_terms.proofs.sizes.variables.objects_of_kind.Goals as goal

pub returns-in-Some-clause-objects : goal.returns-in-Some-clause-objects
returns-in-Some-clause-objects c =
    c.objects_of.ensures.objects
    ∙ ap (λ kind. names_of c.args.table.now (kind ∷ []))
    (type_named c.args.table.now c.args.kind.now c.in-Some.number c.in-Some.ensures.number)

pub returns-in-None-clause-objects : goal.returns-in-None-clause-objects
returns-in-None-clause-objects c = none_named c.args.table.now c.requires c.args.kind.now c.in-None.ensures.known
