-- The first parts and the others are all of them.
use Rattle.std.proofs.Common.{◌≡◌, ◌+◌, ℕ, Bool, List, take, drop, sym, ap, ◌∙◌, subst, arith}
use Rattle.std.proofs.lemmas.List.{take_min}
use Rattle.ground_model.specs.declared.action.Guarded.{Guarded}
use Rattle.ground_model.specs.Packed.{has_bit}
use Rattle.ground_model.specs.Choices.{active_cost}
use Rattle.ground_step.specs.Acting.{AreActing}
use Rattle.ground_step.specs.Edits.{without_parts}
use Rattle.ground_step.specs.Marks.{marks_of}
use Rattle.ground_step.proofs.Marks.{without_parts-append, active_cost-append, all_parts}
use Rattle.ground_step.proofs.guarded.delete_guarded.Goals as goal

-- the costs of the first parts and of the others
both_cost : (bit : ℕ → Bool) (parts first others : List Guarded) (n : ℕ) → first ≡ take n parts → others ≡ drop n parts
    → active_cost bit parts ≡ active_cost bit first + active_cost bit others
both_cost bit parts first others n front back =
    sym (ap (active_cost bit) (all_parts parts first others n front back)) ∙ active_cost-append bit first others

pub delete_marked-held-requires-clause-acting : goal.delete_marked-held-requires-clause-acting
delete_marked-held-requires-clause-acting c =
    subst (AreActing c.args.acting)
    (sym (c.split_at.ensures.front ∙ ap (λ n. take n c.args.parts.now) c.min.ensures ∙ take_min 64 c.args.parts.now)) c.requires.acting

pub delete_marked-held-requires-clause-cost : goal.delete_marked-held-requires-clause-cost
delete_marked-held-requires-clause-cost c =
    omega (
      arith,
      c.requires.cost,
      both_cost (has_bit c.args.before.now) c.args.parts.now
          c.split_at.result.0.now c.split_at.result.1.now c.min.result c.split_at.ensures.front c.split_at.ensures.back,
    )

pub delete_others-cost-requires : goal.delete_others-cost-requires
delete_others-cost-requires c =
    omega (
      arith,
      c.requires.cost,
      c.delete_marked-held.ensures.cost,
      both_cost (has_bit c.args.before.now) c.args.parts.now
          c.split_at.result.0.now c.split_at.result.1.now c.min.result c.split_at.ensures.front c.split_at.ensures.back,
    )

pub returns-clause-state : goal.returns-clause-state
returns-clause-state c =
    let bit : ℕ → Bool = has_bit c.args.before.now in
    let first : List Guarded = c.split_at.result.0.now in
    let others : List Guarded = c.split_at.result.1.now in
    c.delete_others-cost.ensures.state
    ∙ ap (λ s. without_parts bit s others) c.delete_marked-held.ensures.state
    ∙ without_parts-append bit c.args.state.now first others
    ∙ ap (without_parts bit c.args.state.now)
    (all_parts c.args.parts.now first others c.min.result c.split_at.ensures.front c.split_at.ensures.back)

pub returns-clause-marks : goal.returns-clause-marks
returns-clause-marks c =
    c.delete_marked-held.ensures.marks
    ∙ ap (marks_of (has_bit c.args.before.now))
    (c.split_at.ensures.front ∙ ap (λ n. take n c.args.parts.now) c.min.ensures ∙ take_min 64 c.args.parts.now)

pub returns-clause-cost : goal.returns-clause-cost
returns-clause-cost c =
    omega (
      arith,
      c.delete_others-cost.ensures.cost,
      c.delete_marked-held.ensures.cost,
      both_cost (has_bit c.args.before.now) c.args.parts.now
          c.split_at.result.0.now c.split_at.result.1.now c.min.result c.split_at.ensures.front c.split_at.ensures.back,
    )
