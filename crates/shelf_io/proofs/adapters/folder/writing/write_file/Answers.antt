use Rattle.shelf_io.proofs.Folder.{leaves_others}
use Rattle.shelf_io.proofs.adapters.folder.writing.write_file.Goals as goal

pub returns-in-Ok-clause-others : goal.returns-in-Ok-clause-others
returns-in-Ok-clause-others g c =
    let held = g.F.Folder.held in
    leaves_others (held c.args.folder.now) (held c.loop-number.folder) (held c.make.new.self) (held c.replace.new.folder) (g.F.Folder.stays c.replace.new.folder) c.args.name.now c.as_str-part.result.now
    c.loop-number.invariant c.in-Ok.ensures.free c.in-Ok.ensures.others c.replace.ensures.gone c.replace.ensures.others
