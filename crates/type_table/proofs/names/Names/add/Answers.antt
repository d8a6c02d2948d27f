use Rattle.std.proofs.Common.{◌∙◌, ap, sym, map, Some}
use Rattle.type_table.specs.Numbered.{number_of}
use Rattle.type_table.specs.Reading.{items_of}
use Rattle.type_table.proofs.Numbered.{vector_added, vector_placed, number-with_name}
use Rattle.type_table.proofs.names.Names.add.Goals as goal

pub returns-clause-added : goal.returns-clause-added
returns-clause-added c =
    ap (map items_of) c.in-Ok.ensures.keys
    ∙ vector_added c.self.inside.set.keys c.in_ok-copy.copy c.args.self.now c.args.name.now c.self.view_is c.in_ok-copy.ensures.items

pub returns-clause-number : goal.returns-clause-number
returns-clause-number c =
    let old = c.self.inside.set.keys in
    let copy = c.in_ok-copy.copy in
    ap (λ names. number_of names c.args.name.now)
    (ap (map items_of) c.in-Ok.ensures.keys ∙ vector_added old copy c.args.self.now c.args.name.now c.self.view_is c.in_ok-copy.ensures.items)
    ∙ number-with_name c.args.self.now c.args.name.now
    ∙ ap Some (sym (c.in-Ok.ensures.index ∙ vector_placed old copy c.args.self.now c.args.name.now c.self.view_is c.in_ok-copy.ensures.items))

pub returns-clause-place : goal.returns-clause-place
returns-clause-place c =
    c.in-Ok.ensures.index
    ∙ vector_placed c.self.inside.set.keys c.in_ok-copy.copy c.args.self.now c.args.name.now c.self.view_is c.in_ok-copy.ensures.items
