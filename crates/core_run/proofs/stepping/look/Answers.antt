-- The id alone is learned.
use Rattle.core_run.proofs.Steps.{on_ok, look_is}
use Rattle.core_run.proofs.stepping.look.Goals as goal

pub returns : goal.returns
returns c = on_ok c.teach.result c.teach.ensures (λ t. look_is c.args.problem.now c.args.board.now _ c.args.worker c.args.id c.requires t)
