use Rattle.std.proofs.Common.{◌∙◌, ap, sym}
use Rattle.type_table.specs.Numbered.{number_of}
use Rattle.type_table.proofs.Numbered.{number-vectors}
use Rattle.ground_terms.proofs.lemmas.terms.Naming.{no_name, has_name}
use Rattle.ground_terms.proofs.terms.name_set.NameSet.has.Goals as goal

pub returns-in-None : goal.returns-in-None
returns-in-None c =
    sym (no_name c.args.self.now c.args.name.now (c.in-None.ensures.index
    ∙ number-vectors c.self.inside.set.keys c.args.name.now
    ∙ ap (λ names. number_of names c.args.name.now) c.self.view_is))

pub returns-in-Some : goal.returns-in-Some
returns-in-Some c =
    sym (has_name c.args.self.now c.args.name.now _ (c.in-Some.ensures.index
    ∙ number-vectors c.self.inside.set.keys c.args.name.now
    ∙ ap (λ names. number_of names c.args.name.now) c.self.view_is))
