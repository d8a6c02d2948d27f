use Rattle.std.proofs.Common.{◌∙◌, ap, map}
use Rattle.ground_terms.specs.terms.Maps.{entry_of, with_number}
use Rattle.ground_terms.proofs.lemmas.terms.Mapping.{inserted}
use Rattle.ground_terms.proofs.terms.name_map.NameMap.set.Goals as goal

pub returns : goal.returns
returns c =
    ap (map entry_of) c.in-Ok.ensures.entries
    ∙ inserted c.self.inside.table.entries c.in_ok-copy.copy c.args.number
    ∙ (λ i. with_number (c.self.view_is i) (c.in_ok-copy.ensures.items i) c.args.number)
