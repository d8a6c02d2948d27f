use Rattle.std.proofs.Common.{◌∙◌, ap}
use Rattle.type_table.specs.Numbered.{number_of}
use Rattle.type_table.proofs.Numbered.{number-vectors}
use Rattle.ground_terms.proofs.terms.name_set.NameSet.place.Goals as goal

pub returns : goal.returns
returns c =
    c.get_index_of.ensures.index
    ∙ number-vectors c.self.inside.set.keys c.args.name.now
    ∙ ap (λ names. number_of names c.args.name.now) c.self.view_is
