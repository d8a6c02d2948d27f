use Rattle.shelf_io.proofs.Folder.{given_where_ok, whole_after}
use Rattle.shelf_io.proofs.adapters.folder.writing.fill_and_name.Goals as goal

pub returns-clause-written : goal.returns-clause-written
returns-clause-written g c =
    let held = g.F.Folder.held in
    let filled = c.in_ok-fill.ensures in
    given_where_ok (held c.args.folder.now) (held c.fill.new.self) (held c.sync.new.self) (held c.rename.new.self) c.args.name.now c.args.part.now c.args.bytes.now
    c.requires.apart c.requires.empty filled.filled filled.others c.sync.ensures.held c.rename.result c.rename.ensures.given

pub returns-clause-whole : goal.returns-clause-whole
returns-clause-whole g c =
    let held = g.F.Folder.held in
    let filled = c.in_ok-fill.ensures in
    whole_after (held c.args.folder.now) (held c.fill.new.self) (held c.sync.new.self) (held c.rename.new.self) c.args.name.now c.args.part.now c.args.bytes.now
    c.requires.apart c.requires.empty filled.filled filled.others c.sync.ensures.held c.rename.result c.rename.ensures.given c.rename.ensures.whole
