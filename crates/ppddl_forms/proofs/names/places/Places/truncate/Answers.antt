use Rattle.std.proofs.Common.{◌∙◌, ap, map, take}
use Rattle.ppddl_forms.specs.names.Places.{entry_of}
use Rattle.ppddl_forms.proofs.lemmas.names.Finding.{map-take}
use Rattle.ppddl_forms.proofs.names.places.Places.truncate.Goals as goal

pub returns : goal.returns
returns c =
    ap (map entry_of) c.truncate.ensures.entries
    ∙ map-take c.args.len c.self.inside.table.entries
    ∙ ap (take c.args.len) c.self.view_is
