use Rattle.std.proofs.Common.{◌∙◌, ap}
use Rattle.type_table.specs.Numbered.{number_of}
use Rattle.type_table.proofs.Numbered.{number-vectors}
use Rattle.type_table.proofs.names.Names.number_of.Goals as goal

pub returns-in-None : goal.returns-in-None
returns-in-None c =
    c.in-None.ensures.index
    ∙ number-vectors c.self.inside.set.keys c.args.name.now
    ∙ ap (λ names. number_of names c.args.name.now) c.self.view_is

pub returns-in-Some : goal.returns-in-Some
returns-in-Some c =
    c.in-Some.ensures.index
    ∙ number-vectors c.self.inside.set.keys c.args.name.now
    ∙ ap (λ names. number_of names c.args.name.now) c.self.view_is
