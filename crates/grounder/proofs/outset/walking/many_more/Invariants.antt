use Rattle.std.proofs.Common.{◌≡◌, ℕ, ◌+◌}
use Rattle.grounder.specs.outset.Walked.{many_more}
use Rattle.grounder.proofs.outset.walking.many_more.Given as goal

abbrev pub invariant-loop : goal.invariant-loop
invariant-loop l = (k : ℕ) → many_more l.fn.walked l.effect (l.counter + k) ≡ many_more l.next l.effect k
