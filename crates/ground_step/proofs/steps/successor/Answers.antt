-- The choice at its place in the action of the code.
use Rattle.std.proofs.Common.{◌≡◌, ◌<◌, ℕ, Option, Some, None, length, List, refl, sym, ap, ◌∙◌, arith, get_or}
use Rattle.std.specs.List.{slice_get}
use Rattle.std.proofs.lemmas.Option.{slice_get_read, get_or_from_slice_get}
use Rattle.ground_model.specs.declared.action.Choice.{Choice}
use Rattle.ground_model.specs.declared.action.GroundAction.{GroundAction}
use Rattle.ground_model.specs.Packed.{has_bit}
use Rattle.ground_step.specs.Steps.{choices_at}
use Rattle.ground_step.proofs.Outcomes.{cost_within, choice_is, next_at-choice, cost_at-choice}
use Rattle.ground_step.proofs.steps.successor.Goals as goal

has_action : (found : Option GroundAction) (i : ℕ) → i < length (choices_at found)
    → (a : GroundAction) × (found ≡ Some a) × (i < length a.choices)
has_action None i within = absurd (omega arith)
has_action (Some a) i within = (a, refl, within)

-- the choice that is read from the lists is that at the place
read_place : (actions read_actions : List GroundAction) (choices : List Choice) (k i : ℕ) (a : GroundAction) (c : Choice)
    → i < length (choices_at (slice_get actions k)) → read_actions ≡ actions → a ≡ get_or read_actions k a
    → choices ≡ a.choices → c ≡ get_or choices i c → slice_get (choices_at (slice_get actions k)) i ≡ Some c
read_place actions read_actions choices k i a c within same read same_choices choice =
    let there = has_action (slice_get actions k) i within in
    let is : a ≡ there.0 = read ∙ ap (λ xs. get_or xs k a) same ∙ get_or_from_slice_get actions k there.0 a there.1 in
    let list : choices ≡ there.0.choices = same_choices ∙ ap (λ (b : GroundAction). b.choices) is in
    ap (λ found. slice_get (choices_at found) i) there.1
    ∙ slice_get_read there.0.choices (length there.0.choices) i c refl there.2 (choice ∙ ap (λ xs. get_or xs i c) list)

pub apply-requires-clause-cost : goal.apply-requires-clause-cost
apply-requires-clause-cost c =
    cost_within (length c.args.problem.now.atoms) c.index-as_slice-choice.result
    (choice_is c.args.problem.now c.actions.ensures.valid c.args.action c.args.choice c.index-as_slice-choice.result
    (read_place c.args.problem.now.actions c.actions.result.now c.as_slice.result.now c.args.action c.args.choice
    c.index-actions-action.result c.index-as_slice-choice.result c.requires.place c.actions.ensures.value
    c.index-actions-action.is c.as_slice.ensures c.index-as_slice-choice.is))
    (has_bit c.args.state.now)

pub returns-clause-next : goal.returns-clause-next
returns-clause-next c =
    next_at-choice c.args.problem.now c.args.action c.args.choice c.index-as_slice-choice.result c.args.state.now
    (read_place c.args.problem.now.actions c.actions.result.now c.as_slice.result.now c.args.action c.args.choice
    c.index-actions-action.result c.index-as_slice-choice.result c.requires.place c.actions.ensures.value
    c.index-actions-action.is c.as_slice.ensures c.index-as_slice-choice.is)
    ∙ ap Some (sym c.apply.ensures.next)

pub returns-clause-cost : goal.returns-clause-cost
returns-clause-cost c =
    cost_at-choice c.args.problem.now c.args.action c.args.choice c.index-as_slice-choice.result c.args.state.now
    (read_place c.args.problem.now.actions c.actions.result.now c.as_slice.result.now c.args.action c.args.choice
    c.index-actions-action.result c.index-as_slice-choice.result c.requires.place c.actions.ensures.value
    c.index-actions-action.is c.as_slice.ensures c.index-as_slice-choice.is)
    ∙ ap Some (sym c.apply.ensures.cost)
