-- The new worker has seen the same.
use Rattle.std.proofs.Common.{refl, ◌∙◌}
use Rattle.core_run.proofs.Steps.{split_is}
use Rattle.core_run.proofs.stepping.split.Goals as goal

pub returns : goal.returns
returns c = split_is c.args.problem.now c.args.board.now _ c.args.worker c.index.result.now _ c.requires c.index.ensures refl
    (c.from_vec.ensures ∙ c.in_ok-seen.ensures.items ∙ c.as_slice.ensures) refl refl refl c.in_ok-push.ensures.items
