-- At a goal nothing follows; elsewhere what actions that are enough lead to.
use Rattle.std.proofs.Common.{◌≡◌, ℕ, true, false, List, sym, ap, subst, ◌∙◌}
use Rattle.decision_process.specs.Levels.{nexts, successors}
use Rattle.std.specs.Prelude.{flat_map}
use Rattle.std.proofs.lemmas.Result.{on_ok_weaker}
use Rattle.ground_model.specs.Packed.{State}
use Rattle.ground_model.specs.Ground.{Ground}
use Rattle.ground_model.specs.Steps.{ground_process}
use Rattle.applicable_actions.specs.distinct.Enough.{AreEnough}
use Rattle.trial_workers.specs.explorer.Found.{Grows}
use Rattle.trial_workers.proofs.lemmas.explorer.Choices.{codes_within, successors_at}
use Rattle.trial_workers.proofs.lemmas.explorer.Growth.{grows_none, grows_same}
use Rattle.trial_workers.proofs.explorer.expanding.expand.Goals as goal

pub returns-then-is_goal-clause-grows : goal.returns-then-is_goal-clause-grows
returns-then-is_goal-clause-grows c =
    let g = c.args.index.now in
    let on : (ground_process g).goal c.args.state.now ≡ true =
    ap (λ (p : Ground). (ground_process p).goal c.args.state.now) (sym c.problem.ensures) ∙ sym c.is_goal.ensures ∙ c.if-is_goal.true in
    subst (λ (found : List State). Grows c.args.most found c.args.listing.now c.args.listing.now) (successors_at g c.args.state.now on)
    (grows_none c.args.most c.args.listing.now)

pub add_actions-requires-clause-codes : goal.add_actions-requires-clause-codes
add_actions-requires-clause-codes c =
    let g = c.args.index.now in
    let s = c.args.state.now in
    let cs = c.as_slice.result.now in
    let enough : AreEnough g s cs = subst (λ (xs : List ℕ). AreEnough g s xs) (sym c.as_slice.ensures) c.fill.ensures.codes in
    codes_within g s cs enough

pub returns-clause-grows : goal.returns-clause-grows
returns-clause-grows c =
    let g = c.args.index.now in
    let s = c.args.state.now in
    let m = c.add_actions.new.listing in
    let off : (ground_process g).goal s ≡ false =
    ap (λ (p : Ground). (ground_process p).goal s) (sym c.problem.ensures) ∙ sym c.is_goal.ensures ∙ c.if-is_goal.false in
    let cs = c.as_slice.result.now in
    let enough : AreEnough g s cs = subst (λ (xs : List ℕ). AreEnough g s xs) (sym c.as_slice.ensures) c.fill.ensures.codes in
    on_ok_weaker c.add_actions.result
    (λ grows. grows_same c.args.most (flat_map (λ k. nexts (ground_process g) k s) cs) (successors (ground_process g) s) c.args.listing.now m
    (c.enough_laws.ensures.successors g s cs enough off)
    grows)
    c.add_actions.ensures.grows
