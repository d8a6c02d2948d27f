use Rattle.std.proofs.Common.{◌≡◌, ◌<◌, Some, length, get_or, refl, sym, ap, ◌∙◌, subst, arith}
use Rattle.std.specs.Prelude.{Contains}
use Rattle.std.specs.List.{slice_get}
use Rattle.std.proofs.lemmas.List.Elements.{All-contains, Contains-get_or}
use Rattle.std.proofs.lemmas.Option.{slice_get_read}
use Rattle.ground_model.specs.declared.action.Choice.{Choice}
use Rattle.ground_model.specs.Packed.{has_bit}
use Rattle.ground_model.specs.Choices.{next_state}
use Rattle.ground_model.specs.Invariant.{IsChoice}
use Rattle.ground_step.proofs.Outcomes.{cost_within}
use Rattle.kept_transitions.specs.declared.kept_action.KeptAction.{KeptAction}
use Rattle.kept_transitions.proofs.Putting.{one_cost_more}
use Rattle.bellman_backup.proofs.Answering.{weight_within}
use Rattle.bellman_backup.proofs.Keeping.{keeps_again}
use Rattle.bellman_backup.proofs.Stepping.{reached_later}
use Rattle.bellman_backup.proofs.Summing.{product_within}
use Rattle.bellman_backup.proofs.TransitionsKept.{ChoicesKept, choices_begin, choices_go_on, has_action}
use Rattle.bellman_backup.proofs.expanding.keep_action.Goals as goal

pub loop-choice-init : goal.loop-choice-init
loop-choice-init c = record {
  so = choices_begin c.args.words.now c.args.pass.now c.args.state.now c.args.choices.now c.args.kept.now c.requires.here;
  spare = λ _. refl;
  fits = c.requires.fits;
}

pub keep_choice-requires-clause-reached : goal.keep_choice-requires-clause-reached
keep_choice-requires-clause-reached c =
    let cs = c.args.choices.now in let i = c.loop-choice.choice-index in let x = c.choice-item.result in let own = c.requires.action in
    let within : i < length cs = c.loop-choice-test.true in
    let is : x ≡ get_or cs i x = c.choice-item.is in
    let there : Contains own.action.choices x = subst (λ xs. Contains xs x) own.choices (subst (Contains cs) (sym is) (Contains-get_or cs i x within)) in
    reached_later c.args.pass.now.view c.loop-choice.pass.view (next_state c.args.state.now x) c.loop-choice.invariant.so.keeps.noted (own.usable.reached x there)

pub returns-in_default-clause-keeps : goal.returns-in_default-clause-keeps
returns-in_default-clause-keeps c =
    keeps_again c.args.words.now c.args.pass.now c.loop-choice.pass c.keep_choice.new.pass c.loop-choice.invariant.so.keeps c.keep_choice.ensures.keeps

pub overflow_add-cost : goal.overflow_add-cost
overflow_add-cost c =
    let cs = c.args.choices.now in let i = c.loop-choice.choice-index in let x = c.choice-item.result in let own = c.requires.action in
    let n = length c.args.words.now.problem.atoms in
    let within : i < length cs = c.loop-choice-test.true in
    let is : x ≡ get_or cs i x = c.choice-item.is in
    let there : Contains own.action.choices x = subst (λ xs. Contains xs x) own.choices (subst (Contains cs) (sym is) (Contains-get_or cs i x within)) in
    let paid = cost_within n x (All-contains (IsChoice n) own.action.choices x own.usable.action.choices there) (has_bit c.args.state.now) in
    let action = own.usable.action in
    let total = weight_within own.action.choices x own.action.den (let e = action.weights.sum in omega arith) there in
    let den = action.weights.den_within in let count = action.count in let long = ap length own.choices in let room = c.loop-choice.invariant.so.room in
    let weight_is : c.from.result ≡ x.weight = c.from.ensures ∙ ap (λ (y : Choice). y.weight) c.choice.ensures in let paid_is = c.from-in-loop-choice.ensures in let cost_is = c.in-Some.ensures.cost in
    let product = product_within c.from.result c.from-in-loop-choice.result (omega arith) (omega arith) in omega arith

pub loop-choice-preserved : goal.loop-choice-preserved
loop-choice-preserved c =
    let b = c.args.words.now in let k = c.args.pass.now in let l = c.loop-choice.pass in let m = c.keep_choice.new.pass in
    let s = c.args.state.now in let cs = c.args.choices.now in let i = c.loop-choice.choice-index in let x = c.choice-item.result in let own = c.requires.action in
    let n = length b.problem.atoms in
    let within : i < length cs = c.loop-choice-test.true in
    let is : x ≡ get_or cs i x = c.choice-item.is in
    let here : slice_get cs i ≡ Some x = slice_get_read cs (length cs) i x refl within is in
    let there : Contains own.action.choices x = subst (λ xs. Contains xs x) own.choices (subst (Contains cs) (sym is) (Contains-get_or cs i x within)) in
    let paid = cost_within n x (All-contains (IsChoice n) own.action.choices x own.usable.action.choices there) (has_bit s) in
    let action = own.usable.action in
    let total = weight_within own.action.choices x own.action.den (let e = action.weights.sum in omega arith) there in
    let den = action.weights.den_within in
    let weight_is : c.from.result ≡ x.weight = c.from.ensures ∙ ap (λ (y : Choice). y.weight) c.choice.ensures in let paid_is = c.from-in-loop-choice.ensures in let cost_is = c.in-Some.ensures.cost in record {
      so = choices_go_on b k l m s cs c.args.kept.now c.loop-choice.kept c.keep_choice.new.kept i c.loop-choice.cost c.from.result c.from-in-loop-choice.result x
          c.loop-choice.invariant.so c.keep_choice.ensures.keeps c.keep_choice.ensures.loads c.keep_choice.ensures.grown (c.in-Some.ensures.kept refl) here
          (one_cost_more s cs i x within is) weight_is (paid_is ∙ cost_is) (omega arith) (omega arith);
      spare = λ find. c.keep_choice.ensures.spare find ∙ c.loop-choice.invariant.spare find;
      fits = c.keep_choice.ensures.fits;
    }

pub returns-clause-kept : goal.returns-clause-kept
returns-clause-kept c = λ on.
    let action : KeptAction = record { cost = c.loop-choice.cost; first = c.id_count-first.result; code = c.args.code } in
    let own = c.requires.action in let end = c.loop-choice-test.false in let long = ap length own.choices in
    let b = c.args.words.now in let k = c.args.pass.now in let l = c.loop-choice.pass in let s = c.args.state.now in let t = c.args.kept.now in let u = c.loop-choice.kept in
    has_action b k l s c.args.code own.action t u c.push_action.new.self c.loop-choice.choice-index c.loop-choice.cost action c.push_action.result
    (subst (λ xs. ChoicesKept b k l s xs t u c.loop-choice.choice-index c.loop-choice.cost) own.choices c.loop-choice.invariant.so) (omega arith) own.here
    c.push_action.ensures refl c.id_count-first.ensures refl on
