-- Each pair of a next state and a cost has by joint choices the chance that it has by a step of the task.
use Rattle.std.proofs.Common.{◌≡◌, ℕ, ◌+◌, ◌-◌, ◌*◌, ◌^◌, ◌≤◌, List, [], ◌∷◌, ◌++◌, map}
use Rattle.std.proofs.Common.{refl, sym, ap, ◌∙◌, arith}
use Rattle.std.specs.Prelude.{All, flat_map}
use Rattle.std.specs.Int.{◌∣◌}
use Rattle.std.proofs.Math.Nat.{mul_assoc, mul_right_comm}
use Rattle.std.proofs.lemmas.Nat.{pow-add}
use Rattle.std.proofs.lemmas.List.Elements.{All-nil, All-cons, All-weaker, All-contains}
use Rattle.exact_fraction.proofs.DivisorLemmas.{IsLeastMultipleOf-common_multiple}
use Rattle.plain_list.specs.weighted.Mean.{mean}
use Rattle.plain_list.proofs.lemmas.weighted.Means.{mean-scaled, mean-positive}
use Rattle.decision_process.specs.Process.{Outcome}
use Rattle.ppddl_model.specs.declared.tree.Action.{Action}
use Rattle.ppddl_model.specs.declared.tree.Task.{Task}
use Rattle.ppddl_model.specs.State.{State}
use Rattle.ppddl_model.specs.Objects.{World}
use Rattle.ppddl_model.specs.Draws.{EachDraw}
use Rattle.ppddl_model.specs.Denominator.{denominators, item_denominators, common_denominator, draws, most_draws}
use Rattle.ppddl_model.specs.Chances.{SumWithinOne}
use Rattle.ppddl_model.specs.Outcomes.{Entry, outcomes}
use Rattle.ppddl_model.specs.Steps as task
use Rattle.ppddl_model.specs.Steps.{Charges, world, base_cost}
use Rattle.ground_model.specs.declared.action.Choice.{Choice}
use Rattle.ground_model.specs.Packed.{has_bit}
use Rattle.ground_model.specs.Choices.{next_state, cost_of}
use Rattle.ground_meaning.specs.choices.Numbering.{Numbering}
use Rattle.ground_meaning.specs.choices.Joint.{weight_of, joint}
use Rattle.ground_meaning.specs.choices.Laws.{JointIsStep}
use Rattle.ground_meaning.proofs.lemmas.choices.Lists.{All-append_left, All-from_flat_map}
use Rattle.ground_meaning.proofs.lemmas.choices.Next.{next_law}

draws_within : (w : World) (actions : List Action) → All (λ (a : Action). draws w a.effect ≤ most_draws w actions) actions
draws_within w [] = All-nil (λ (a : Action). draws w a.effect ≤ most_draws w [])
draws_within w (x ∷ actions) =
    All-cons (λ (a : Action). draws w a.effect ≤ most_draws w (x ∷ actions)) x actions (omega arith)
    (All-weaker (λ (a : Action). draws w a.effect ≤ most_draws w actions) (λ (a : Action). draws w a.effect ≤ most_draws w (x ∷ actions))
    (λ a within. omega (arith, within)) actions (draws_within w actions))

-- each denominator of an action divides that of the task
dens_divide : (task : Task) → All (λ (a : Action). All (λ d. d ∣ common_denominator task) (denominators a.effect)) task.domain.actions
dens_divide task =
    let of_actions : List ℕ = flat_map (λ (a : Action). denominators a.effect) task.domain.actions in
    let of_init : List ℕ = flat_map item_denominators task.problem.init in
    All-from_flat_map (λ d. d ∣ common_denominator task) (λ (a : Action). denominators a.effect) task.domain.actions
    (All-append_left (λ d. d ∣ common_denominator task) of_actions of_init
    (IsLeastMultipleOf-common_multiple (of_actions ++ of_init)).members)

one_scaled : (m e p q d : ℕ) → m * p ≡ e * d → m * (p * q) ≡ e * q * d
one_scaled m e p q d h =
    sym (mul_assoc m p q) ∙ ap (λ t. t * q) h ∙ mul_right_comm e d q

pub step_law : (t : Task) (charges : Charges) (n : Numbering) → JointIsStep t charges n
step_law t charges n sums order differ view is s inside i acts describes fit v =
    let w : World = world t in
    let den : ℕ = common_denominator t in
    let base : ℕ = base_cost t charges in
    let j = joint w n i.action.effect i.binding base in
    let m : ℕ = draws w i.action.effect in
    let most : ℕ = most_draws w t.domain.actions in
    let es : List Entry = outcomes w den i.action.effect i.binding (view s) in
    let fair : EachDraw SumWithinOne i.action.effect
    = All-contains (λ (a : Action). EachDraw SumWithinOne a.effect) t.domain.actions i.action sums.actions acts in
    let within : m ≤ most
    = All-contains (λ (a : Action). draws w a.effect ≤ most) t.domain.actions i.action (draws_within w t.domain.actions) acts in
    let divide : All (λ d. d ∣ den) (denominators i.action.effect)
    = All-contains (λ (a : Action). All (λ d. d ∣ den) (denominators a.effect)) t.domain.actions i.action (dens_divide t) acts in
    let here : Choice → State × ℕ = λ c. (view (next_state s c), cost_of (has_bit s) c) in
    let there : Entry → State × ℕ = λ x. (task.after (view s) x, x.cost + base) in
    let pair : Outcome State → State × ℕ = λ o. (o.next, o.cost) in
    let right : mean (λ (o : Outcome State). o.weight) pair v (task.step t charges i (view s))
    ≡ mean (λ (x : Entry). x.weight) there v es * den ^ (most - m)
    = mean-positive (λ (o : Outcome State). o.weight) pair v (map (task.outcome_of t charges i (view s)) es)
    ∙ mean-scaled (λ (x : Entry). x.weight) there (λ (o : Outcome State). o.weight) pair (den ^ (most - m))
    (task.outcome_of t charges i (view s)) es (record { weights = λ x _. refl; keys = λ x _. refl }) v in
    let whole : most ≡ m + (most - m) = omega (arith, within) in
    ap (λ x. mean weight_of here v j.list * x) (ap (λ k. den ^ k) whole ∙ pow-add den m (most - m))
    ∙ one_scaled (mean weight_of here v j.list) (mean (λ (x : Entry). x.weight) there v es) (den ^ m) (den ^ (most - m)) j.den
    (next_law w n order differ view is s inside i.action.effect fair den divide i.binding describes base fit v)
    ∙ ap (λ x. x * j.den) (sym right)
