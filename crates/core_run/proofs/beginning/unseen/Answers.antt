-- One entry more.
use Rattle.std.proofs.Common.{[], ◌∷◌, ◌++◌, sym, ap, ◌∙◌, arith}
use Rattle.std.proofs.lemmas.List.FromFn.{map-range_with_len_more}
use Rattle.core_run.proofs.Starts.{none_seen}
use Rattle.core_run.proofs.beginning.unseen.Goals as goal

pub loop-id-preserved : goal.loop-id-preserved
loop-id-preserved c =
    c.in_ok-push.ensures.items ∙ ap (λ l. l ++ none_seen c.loop-id.id ∷ []) c.loop-id.invariant
    ∙ sym (map-range_with_len_more none_seen 0 c.loop-id.id c.loop-id.id (omega arith))
