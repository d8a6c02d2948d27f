use Rattle.std.proofs.Common.{◌++◌, ◌∙◌, arith}
use Rattle.std.specs.Prelude.{codes, decimal}
use Rattle.shelf_io.proofs.Folder.{longer_is_apart}
use Rattle.shelf_io.proofs.adapters.folder.writing.part_name.Goals as goal

pub returns-clause-apart : goal.returns-clause-apart
returns-clause-apart c = λ same.
    let more = codes "." ++ (decimal c.args.number ++ codes ".part") in
    longer_is_apart c.args.name.now more (omega arith) (same ∙ c.in_ok-part.ensures.ok)
