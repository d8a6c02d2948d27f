-- All words are copied.
use Rattle.std.proofs.Common.{arith}
use Rattle.std.proofs.lemmas.List.{ext_get_or}
use Rattle.policy_walk.proofs.walking.copy_words.Goals as goal

pub returns : goal.returns
returns c =
    ext_get_or 0 c.loop-place.into c.args.words.now c.loop-place.invariant.0
    (λ k within. c.loop-place.invariant.1 k (omega arith))
