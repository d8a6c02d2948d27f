-- The other worker's entries are learned.
use Rattle.std.proofs.Common.{refl, ap, ◌∙◌}
use Rattle.core_run.proofs.Hearing.{said}
use Rattle.core_run.proofs.Steps.{join_is}
use Rattle.core_run.proofs.stepping.join.Goals as goal

pub returns : goal.returns
returns c = join_is c.args.problem.now c.args.board.now _ c.args.worker c.args.other c.index_mut.result.now c.index.result.now c.learn.new.worker _ c.deref.result.now
    c.requires c.index_mut.ensures.value c.index.ensures (c.deref.ensures.value ∙ c.in_ok-seen.ensures.items ∙ c.as_slice.ensures) c.in_ok-learn.ensures
    (ap said (c.from_vec.ensures ∙ c.new.ensures.items)) refl refl refl
