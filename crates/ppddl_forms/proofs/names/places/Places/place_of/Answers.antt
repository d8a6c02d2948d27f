use Rattle.std.proofs.Common.{◌∙◌, ap}
use Rattle.ppddl_forms.specs.names.Places.{place_in}
use Rattle.ppddl_forms.proofs.lemmas.names.Finding.{place-entries}
use Rattle.ppddl_forms.proofs.names.places.Places.place_of.Goals as goal

pub returns : goal.returns
returns c =
    c.copied.ensures
    ∙ c.get.ensures.value
    ∙ place-entries c.self.inside.table.entries c.args.name.now
    ∙ ap (λ places. place_in places c.args.name.now) c.self.view_is
