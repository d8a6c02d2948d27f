-- The word is that of the row.
use Rattle.core_run.proofs.Steps.{on_ok, see_upper_is}
use Rattle.core_run.proofs.stepping.see_upper.Goals as goal

pub returns : goal.returns
returns c = on_ok c.teach.result c.teach.ensures
    (λ t. see_upper_is c.args.problem.now c.args.board.now _ c.args.worker c.args.id c.index.result.now c.requires c.index.ensures t)
