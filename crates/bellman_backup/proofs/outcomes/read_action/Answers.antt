use Rattle.std.proofs.Common.{◌≡◌, ◌+◌, ◌<◌, [], ◌∷◌, ◌++◌, length, take, get_or, sym, ap, ◌∙◌, subst, arith, rules}
use Rattle.std.specs.Prelude.{Contains}
use Rattle.std.proofs.lemmas.List.{take_more}
use Rattle.std.proofs.lemmas.List.Elements.{All-contains, Contains-get_or}
use Rattle.ground_model.specs.Packed.{has_bit}
use Rattle.ground_model.specs.Choices.{after, next_state}
use Rattle.ground_model.specs.Invariant.{IsChoice}
use Rattle.ground_model.proofs.Packed.{length-packed}
use Rattle.ground_step.proofs.Outcomes.{cost_within}
use Rattle.word_table.specs.view.Views.{IsReached}
use Rattle.bellman_backup.specs.Totals.{HasReadNext}
use Rattle.bellman_backup.proofs.Stepping.{reached_later, step_is_small, read_goes_on}
use Rattle.bellman_backup.proofs.outcomes.read_action.Goals as goal

pub apply-cost-requires-clause-cost : goal.apply-cost-requires-clause-cost
apply-cost-requires-clause-cost c =
    let cs = c.args.action.now.choices in let i = c.loop-choice.choice-index in let x = c.choice-item.result in
    let n = length c.args.words.now.problem.atoms in
    let within : i < length cs = search rules in
    let is : x ≡ get_or cs i x = search rules in
    let there : Contains cs x = subst (Contains cs) (sym is) (Contains-get_or cs i x within) in
    cost_within n x (All-contains (IsChoice n) cs x c.requires.action.action.choices there) (has_bit c.args.state.now)

pub read_next-step-requires-clause-reached : goal.read_next-step-requires-clause-reached
read_next-step-requires-clause-reached c =
    let cs = c.args.action.now.choices in let i = c.loop-choice.choice-index in let x = c.choice-item.result in
    let k = c.args.pass.now in let l = c.loop-choice.pass in
    let within : i < length cs = search rules in
    let is : x ≡ get_or cs i x = search rules in
    let there : Contains cs x = subst (Contains cs) (sym is) (Contains-get_or cs i x within) in
    subst (IsReached l.view) (sym c.apply-cost.ensures.next)
    (reached_later k.view l.view (next_state c.args.state.now x) c.loop-choice.invariant.far.keeps.noted (c.requires.action.reached x there))

pub with-sums-requires-clause-small : goal.with-sums-requires-clause-small
with-sums-requires-clause-small c =
    let b = c.args.words.now in let k = c.args.pass.now in let l = c.loop-choice.pass in let m = c.read_next-step.new.pass in
    let cs = c.args.action.now.choices in let i = c.loop-choice.choice-index in let x = c.choice-item.result in
    let within : i < length cs = search rules in
    let is : x ≡ get_or cs i x = search rules in
    let there : Contains cs x = subst (Contains cs) (sym is) (Contains-get_or cs i x within) in
    let next = subst (λ t. HasReadNext b.problem l.view m.view t x.weight c.read_next-step.result) c.apply-cost.ensures.next c.read_next-step.ensures.read in
    step_is_small b.problem l.view m.view c.args.state.now c.args.action.now x c.read_next-step.result k.view c.requires.action there next c.apply-cost.result c.apply-cost.ensures.cost

pub push-requires : goal.push-requires
push-requires c =
    let cs = c.args.action.now.choices in let i = c.loop-choice.choice-index in
    let long = c.loop-choice.invariant.far.long in
    let within : i < length cs = search rules in
    let count = c.requires.action.action.count in omega arith

pub loop-choice-preserved : goal.loop-choice-preserved
loop-choice-preserved c =
    let b = c.args.words.now in let k = c.args.pass.now in let l = c.loop-choice.pass in let m = c.read_next-step.new.pass in
    let s = c.args.state.now in let cs = c.args.action.now.choices in let i = c.loop-choice.choice-index in let x = c.choice-item.result in
    let far = c.loop-choice.invariant.far in
    let within : i < length cs = search rules in
    let is : x ≡ get_or cs i x = search rules in
    let more : take (i + 1) cs ≡ take i cs ++ x ∷ [] = take_more cs i x within ∙ ap (λ y. take i cs ++ y ∷ []) (sym is) in
    let there : Contains cs x = subst (Contains cs) (sym is) (Contains-get_or cs i x within) in
    let step = c.read_next-step.result in let cost = c.apply-cost.result in
    let next = subst (λ t. HasReadNext b.problem l.view m.view t x.weight step) c.apply-cost.ensures.next c.read_next-step.ensures.read in
    let small = step_is_small b.problem l.view m.view s c.args.action.now x step k.view c.requires.action there next cost c.apply-cost.ensures.cost in record {
      far = read_goes_on b k l m s (take i cs) (take (i + 1) cs) x c.loop-choice.steps c.push.new.self c.loop-choice.sums c.with-sums.result i step cost
          far more c.read_next-step.ensures.keeps next c.apply-cost.ensures.cost small c.with-sums.ensures.lower c.with-sums.ensures.upper c.push.ensures;
      fits = ap length c.apply-cost.ensures.next ∙ length-packed (after (has_bit s) x) (length s);
    }
