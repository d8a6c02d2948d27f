use Rattle.std.proofs.Common.{◌≡◌}
use Rattle.grounder.specs.texts.Texts.{with_texts}
use Rattle.grounder.proofs.texts.text_set.TextSet.in_order.Given as goal

abbrev pub invariant-loop-text : goal.invariant-loop-text
invariant-loop-text l = with_texts l.ordered.keys l.text-iterator ≡ l.fn.self.texts
