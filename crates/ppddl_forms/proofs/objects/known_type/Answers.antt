use Rattle.std.proofs.Common.{◌∙◌, sym, ap}
use Rattle.std.specs.Option.{option_or, option_copied}
use Rattle.ppddl_forms.specs.names.Declarations.{kind_named}
use Rattle.ppddl_forms.proofs.lemmas.objects.ObjectSteps.{kind_named-append}
use Rattle.ppddl_forms.proofs.objects.known_type.Goals as goal

pub returns-in-Some : goal.returns-in-Some
returns-in-Some c =
    sym (kind_named-append c.args.names.now.objects c.args.typed.now c.args.object.now
    ∙ ap (λ o. option_or o (kind_named c.args.typed.now c.args.object.now)) (sym c.kind_of.ensures ∙ ap option_copied c.in-Some.is))

pub returns-in-None : goal.returns-in-None
returns-in-None c =
    c.kind_of-in-None.ensures
    ∙ sym (kind_named-append c.args.names.now.objects c.args.typed.now c.args.object.now
    ∙ ap (λ o. option_or o (kind_named c.args.typed.now c.args.object.now)) (sym c.kind_of.ensures ∙ ap option_copied c.in-None.is))
