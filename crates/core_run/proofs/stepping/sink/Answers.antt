-- The row is sunk, and then seen.
use Rattle.std.proofs.Common.{refl}
use Rattle.core_run.proofs.Steps.{on_ok, sink_is}
use Rattle.core_run.proofs.stepping.sink.Goals as goal

pub returns : goal.returns
returns c = on_ok c.teach.result c.teach.ensures
    (λ t. sink_is c.args.problem.now c.args.board.now _ _ c.args.worker c.args.id c.args.word c.index_mut.result.now c.sink_row.new.row
    c.sink_row.result t c.requires c.index_mut.ensures.value c.sink_row.ensures.row refl refl refl c.sink_row.ensures.upper)
