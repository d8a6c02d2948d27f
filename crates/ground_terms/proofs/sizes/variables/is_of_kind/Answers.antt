use Rattle.std.proofs.Common.{ap, ◌∙◌}
use Rattle.ppddl_model.specs.Objects.{is_under}
use Rattle.type_table.specs.Types.{kind_at}
use Rattle.ground_terms.proofs.lemmas.sizes.OfTypes.{type_named, object_of_none}
use Rattle.ground_terms.proofs.sizes.variables.is_of_kind.Goals as goal

pub returns-in-Some : goal.returns-in-Some
returns-in-Some c =
    c.is_of.ensures
    ∙ ap (is_under c.args.table.now (kind_at c.args.table.now c.args.object))
    (type_named c.args.table.now c.args.kind.now c.in-Some.number c.in-Some.ensures.number)

pub returns-in-None : goal.returns-in-None
returns-in-None c =
    object_of_none c.args.table.now c.requires.typed c.args.object c.requires.object c.args.kind.now c.in-None.ensures.known
