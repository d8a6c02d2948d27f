use Rattle.std.proofs.Common.{rules, ℕ, ◌≤◌, subst, refl, ◌∙◌}
use Rattle.std.proofs.lemmas.List.{take_all}
use Rattle.relaxed_seed.specs.Lowering.{IsLowered}
use Rattle.relaxed_seed.proofs.Lowered.{lowered_by_more, AllowEach}
use Rattle.relaxed_seed.proofs.lowering.lower_all.Goals as goal

pub loop-atom-preserved : goal.loop-atom-preserved
loop-atom-preserved c = (
  (c.lower-fell.ensures 0).same_length ∙ c.loop-atom.invariant.0,
  λ penalty. lowered_by_more penalty (λ (q : ℕ) (r : ℕ → ℕ). r q ≤ c.args.limit) c.args.atoms.now c.loop-atom.atom-index _ 0 (search rules) refl
      c.args.prices.now c.loop-atom.prices c.lower-fell.new.prices c.loop-atom.fell c.lower-fell.result (c.loop-atom.invariant.1 penalty)
      (c.lower-fell.ensures penalty),
)

pub returns : goal.returns
returns c = λ penalty.
    subst (λ l. IsLowered penalty (AllowEach penalty (λ (q : ℕ) (r : ℕ → ℕ). r q ≤ c.args.limit) l) c.args.prices.now c.loop-atom.prices c.loop-atom.fell)
    (take_all c.loop-atom.atom-index c.args.atoms.now c.loop-atom-test.false) (c.loop-atom.invariant.1 penalty)
