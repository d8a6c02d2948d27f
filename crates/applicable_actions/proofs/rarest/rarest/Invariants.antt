use Rattle.std.specs.Prelude.{Contains, IfSome}
use Rattle.applicable_actions.proofs.rarest.rarest.Given as goal

abbrev pub invariant-loop-atom : goal.invariant-loop-atom
invariant-loop-atom l = IfSome l.found (λ atom. Contains l.atoms atom)
