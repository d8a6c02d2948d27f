use Rattle.std.proofs.Common.{◌∙◌, ap, sym}
use Rattle.type_table.specs.Numbered.{number_of}
use Rattle.type_table.specs.Types.{object_names}
use Rattle.type_table.proofs.Worlds.{world_names}
use Rattle.type_table.proofs.table.TypeTable.object_number.Goals as goal

pub returns : goal.returns
returns c =
    let t = c.self.inside in
    c.number_of.ensures
    ∙ ap (λ names. number_of names c.args.name.now) (sym (world_names t.types t.objects t.kinds t.members.items c.self.invariant))
    ∙ ap (λ w. number_of (object_names w) c.args.name.now) c.self.view_is
