use Rattle.std.proofs.Common.{◌≡◌}
use Rattle.shelf_io.proofs.adapters.folder.writing.write_file.Given as goal

abbrev pub invariant-loop-number : goal.invariant-loop-number
invariant-loop-number g l = g.F.Folder.held l.folder ≡ g.F.Folder.held l.initial.folder
