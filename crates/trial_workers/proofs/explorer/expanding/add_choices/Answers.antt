-- One choice more.
use Rattle.std.proofs.Common.{◌≡◌, ◌≤◌, ◌<◌, List, length, map, take, inl, refl, sym, ap, subst, ◌∙◌, arith}
use Rattle.std.specs.Prelude.{Contains}
use Rattle.std.proofs.Math.Seq.{take-length}
use Rattle.ground_model.specs.Packed.{State, has_bit}
use Rattle.ground_model.specs.Choices.{after, next_state}
use Rattle.ground_model.proofs.Packed.{length-packed}
use Rattle.trial_workers.specs.explorer.Found.{IsAdded, Grows}
use Rattle.kept_transitions.specs.Idle.{is_idle}
use Rattle.trial_workers.proofs.lemmas.explorer.Choices.{choice_costs, nexts_are}
use Rattle.trial_workers.proofs.lemmas.explorer.Growth.{grows_image, images_past, still_listed}
use Rattle.trial_workers.proofs.explorer.expanding.add_choices.Goals as goal

pub apply-requires-clause-cost : goal.apply-requires-clause-cost
apply-requires-clause-cost c =
    choice_costs c.args.index.now c.choices-choice-items.ensures.valid c.args.code c.choices-choice-items.result.now c.choices-choice-items.ensures.value
    c.loop-choice.choice-index c.choice-item.result c.loop-choice-test.true c.choice-item.is (has_bit c.args.state.now)

pub returns-then-len-most-clause-grows : goal.returns-then-len-most-clause-grows
returns-then-len-most-clause-grows c =
    let s = c.args.state.now in let l = c.args.listing.now in let m = c.loop-choice.listing in
    let past : c.args.most < length m = omega (arith, c.len.ensures.count, c.if-len-most.true) in
    subst (λ (found : List State). Grows c.args.most found l m)
    (ap (map (next_state s)) c.choices-choice-items.ensures.value ∙ sym (nexts_are c.args.index.now s c.args.code))
    (images_past c.args.most c.choices-choice-items.result.now c.loop-choice.choice-index (next_state s) l m c.loop-choice.invariant.grows past)

pub returns-in_err-add-clause-fits : goal.returns-in_err-add-clause-fits
returns-in_err-add-clause-fits c =
    ap length c.apply.ensures.next ∙ length-packed (after (has_bit c.args.state.now) c.choice-item.result) (length c.args.state.now)

pub loop-choice-preserved : goal.loop-choice-preserved
loop-choice-preserved c =
    let room : length c.loop-choice.listing ≤ c.args.most = omega (arith, c.len.ensures.count, c.if-len-most.false) in
    let x = c.choice-item.result in
    record {
      fits = ap length c.apply.ensures.next ∙ length-packed (after (has_bit c.args.state.now) x) (length c.args.state.now);
      grows = grows_image c.args.most c.choices-choice-items.result.now c.loop-choice.choice-index (next_state c.args.state.now) x
          c.args.listing.now c.loop-choice.listing c.add.new.self c.loop-choice-test.true c.loop-choice.invariant.grows room
          (subst (λ (t : State). IsAdded c.loop-choice.listing c.add.new.self t)
          (c.apply.ensures.next ∙ ap (next_state c.args.state.now) c.choice-item.is) c.in_ok-add.ensures);
    }

-- a choice that is idle leads to the state itself, which is listed
pub loop-choice-preserved-then-is_idle : goal.loop-choice-preserved-then-is_idle
loop-choice-preserved-then-is_idle c =
    let s = c.args.state.now in let cs = c.choices-choice-items.result.now in let i = c.loop-choice.choice-index in let x = c.choice-item.result in
    let old = c.args.listing.now in let l = c.loop-choice.listing in let grows = c.loop-choice.invariant.grows in
    let room : length l ≤ c.args.most = omega (arith, c.len.ensures.count, c.if-len-most.false) in
    let stays : s ≡ next_state s x = sym (c.idle_law.ensures x (ap is_idle (sym c.choice.ensures) ∙ sym c.is_idle.ensures ∙ c.if-is_idle.true)) in
    let here : Contains l (next_state s x) = subst (Contains l) stays (still_listed c.args.most (map (next_state s) (take i cs)) old l s grows c.requires.listed) in
    record {
      fits = c.loop-choice.invariant.fits;
      grows = grows_image c.args.most cs i (next_state s) x old l l c.loop-choice-test.true grows room
          (subst (IsAdded l l) (ap (next_state s) c.choice-item.is) (inl (refl, here)));
    }

pub returns-clause-grows : goal.returns-clause-grows
returns-clause-grows c =
    let s = c.args.state.now in let items = c.choices-choice-items.result.now in
    let all : c.loop-choice.choice-index ≡ length items = omega (arith, c.loop-choice-test.false) in
    let taken : take c.loop-choice.choice-index items ≡ items = subst (λ n. take n items ≡ items) (sym all) (take-length items) in
    subst (λ (found : List State). Grows c.args.most found c.args.listing.now c.loop-choice.listing)
    (ap (map (next_state s)) (taken ∙ c.choices-choice-items.ensures.value) ∙ sym (nexts_are c.args.index.now s c.args.code))
    c.loop-choice.invariant.grows
