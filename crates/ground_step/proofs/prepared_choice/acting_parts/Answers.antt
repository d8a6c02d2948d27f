use Rattle.std.proofs.Common.{◌≡◌, ◌+◌, ◌-◌, ◌*◌, ◌<◌, ◌≤◌, ◌^◌, ℕ, not, cond, List, ◌∷◌, length, drop, sym, ap, ◌∙◌, subst, arith}
use Rattle.std.proofs.Math.Nat.{pow-le-pow_right}
use Rattle.std.proofs.lemmas.Bool.{not-false}
use Rattle.ground_model.specs.declared.action.Guarded.{Guarded}
use Rattle.ground_step.specs.Acting.{IsNever, AreActing}
use Rattle.ground_step.proofs.ActingParts.{next_part, one_more_acts, marks_double}
use Rattle.ground_step.proofs.prepared_choice.acting_parts.Goals as goal

pub with_mark-marks-requires : goal.with_mark-marks-requires
with_mark-marks-requires c =
    let some = c.loop-place.invariant.2 in
    let two : 0 < 2 = omega arith in let few : length c.args.parts.now - c.loop-place.place ≤ 63 = omega arith in
    let most : 2 ^ (length c.args.parts.now - c.loop-place.place) ≤ 2 ^ 63 = pow-le-pow_right two few in
    omega (arith, most, c.loop-place.invariant.1)

pub loop-place-preserved : goal.loop-place-preserved
loop-place-preserved c =
    let parts : List Guarded = c.args.parts.now in
    let place : ℕ = c.loop-place.place in
    let x : Guarded = c.index-parts-place.result in
    let acts = not c.is_never-acts.result in
    let above : 0 < place = c.loop-place-test.true in
    let some : place ≤ length parts = c.loop-place.invariant.2 in
    let back : place - 1 + 1 ≡ place = omega arith in
    let next : drop (place - 1) parts ≡ x ∷ drop place parts =
    next_part parts (place - 1) x (omega arith) c.index-parts-place.is ∙ ap (λ k. x ∷ drop k parts) back in
    let longer : length parts - place + 1 ≡ length parts - (place - 1) = omega arith in (
      subst (λ m. AreActing m (drop (place - 1) parts)) (sym c.with_mark-marks.ensures)
          (subst (AreActing (c.loop-place.marks * 2 + cond acts 1 0)) (sym next)
          (one_more_acts acts c.loop-place.marks x (drop place parts)
          (λ off. subst (λ (part : Guarded). IsNever part.condition) (sym c.index-parts-place.is)
          (c.is_never-acts.ensures (not-false c.is_never-acts.result off))) c.loop-place.invariant.0)),
      subst (λ m. m < 2 ^ (length parts - (place - 1))) (sym c.with_mark-marks.ensures)
          (subst (λ k. c.loop-place.marks * 2 + cond acts 1 0 < 2 ^ k) longer
          (marks_double acts c.loop-place.marks (length parts - place) c.loop-place.invariant.1)),
      omega arith,
    )
