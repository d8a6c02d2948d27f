use Rattle.std.proofs.Common.{◌≡◌, ◌++◌, [], take, map}
use Rattle.ppddl_model.specs.Objects.{named}
use Rattle.ppddl_forms.proofs.items.values.push_words.Given as goal

abbrev pub invariant-loop-term : goal.invariant-loop-term
invariant-loop-term l = l.words.items ≡ l.fn.words.items ++ map (named []) (take l.term-index l.terms)
