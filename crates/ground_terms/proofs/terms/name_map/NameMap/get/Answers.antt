use Rattle.std.proofs.Common.{◌∙◌, ap}
use Rattle.ground_terms.specs.terms.Maps.{number_in}
use Rattle.ground_terms.proofs.lemmas.terms.Mapping.{number-entries}
use Rattle.ground_terms.proofs.terms.name_map.NameMap.get.Goals as goal

pub returns : goal.returns
returns c =
    c.copied.ensures
    ∙ c.get.ensures.value
    ∙ number-entries c.self.inside.table.entries c.args.name.now
    ∙ ap (λ entries. number_in entries c.args.name.now) c.self.view_is
