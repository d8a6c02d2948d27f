use Rattle.std.proofs.Common.{◌≡◌, map, take, string_bytes}
use Rattle.plan_request.specs.Asked.{spelled_word}
use Rattle.ppddl_plan.proofs.lent.Given as goal

abbrev pub invariant-loop-word : goal.invariant-loop-word
invariant-loop-word l = map (λ text. text.now) l.texts.items ≡ map spelled_word (map string_bytes (take l.word-index l.words))
