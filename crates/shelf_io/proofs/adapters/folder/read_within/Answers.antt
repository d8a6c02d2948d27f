use Rattle.std.proofs.Common.{rules}
use Rattle.shelf_io.proofs.Within.{all_of}
use Rattle.shelf_io.proofs.adapters.folder.read_within.Goals as goal

pub returns-clause-whole : goal.returns-clause-whole
returns-clause-whole g c =
    all_of (g.F.Read.remaining c.args.file) c.saturating_add.result c.from_vec.result (search rules) (search rules)
