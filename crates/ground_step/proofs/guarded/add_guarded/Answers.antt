-- The first parts and the others are all of them.
use Rattle.std.proofs.Common.{◌≡◌, ℕ, Bool, List, take, sym, ap, ◌∙◌}
use Rattle.std.proofs.lemmas.List.{take_min}
use Rattle.ground_model.specs.declared.action.Guarded.{Guarded}
use Rattle.ground_model.specs.Packed.{has_bit}
use Rattle.ground_step.specs.Edits.{with_parts}
use Rattle.ground_step.specs.Marks.{marks_of, with_marked}
use Rattle.ground_step.proofs.Marks.{marked_hold, with_parts-append, all_parts}
use Rattle.ground_step.proofs.guarded.add_guarded.Goals as goal

pub returns : goal.returns
returns c =
    let bit : ℕ → Bool = has_bit c.args.before.now in
    let parts : List Guarded = c.args.parts.now in
    let first : List Guarded = c.split_at.result.0.now in
    let others : List Guarded = c.split_at.result.1.now in
    let here : first ≡ take 64 parts =
    c.split_at.ensures.front ∙ ap (λ n. take n parts) c.min.ensures ∙ take_min 64 parts in
    c.add_others.ensures
    ∙ ap (λ s. with_parts bit s others)
    (c.add_marked.ensures
    ∙ ap (λ m. with_marked m c.args.state.now first) (c.requires ∙ ap (marks_of bit) (sym here))
    ∙ marked_hold bit c.args.state.now first)
    ∙ with_parts-append bit c.args.state.now first others
    ∙ ap (with_parts bit c.args.state.now) (all_parts parts first others c.min.result c.split_at.ensures.front c.split_at.ensures.back)
