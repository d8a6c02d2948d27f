-- The row is raised, and then seen.
use Rattle.std.proofs.Common.{refl}
use Rattle.core_run.proofs.Steps.{on_ok, raise_is}
use Rattle.core_run.proofs.stepping.raise.Goals as goal

pub returns : goal.returns
returns c = on_ok c.teach.result c.teach.ensures
    (λ t. raise_is c.args.problem.now c.args.board.now _ _ c.args.worker c.args.id c.args.value c.index_mut.result.now c.raise_row.new.row
    c.raise_row.result t c.requires c.index_mut.ensures.value c.raise_row.ensures.row refl refl refl c.raise_row.ensures.lower)
