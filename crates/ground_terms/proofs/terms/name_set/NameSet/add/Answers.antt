use Rattle.std.proofs.Common.{◌∙◌, ap, map}
use Rattle.type_table.specs.Reading.{items_of}
use Rattle.type_table.proofs.Numbered.{vector_added}
use Rattle.ground_terms.proofs.terms.name_set.NameSet.add.Goals as goal

pub returns : goal.returns
returns c =
    ap (map items_of) c.in-Ok.ensures.keys
    ∙ vector_added c.self.inside.set.keys c.in_ok-copy.copy c.args.self.now c.args.name.now c.self.view_is c.in_ok-copy.ensures.items
