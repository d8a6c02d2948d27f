-- The least cost of a choice, found action by action, and what is known by it.
use Rattle.std.proofs.Common.{◌≡◌, ℕ, ◌+◌, ◌<◌, ◌≤◌, min, suc, zero, nat_eq, false, List, [], ◌∷◌, ◌++◌, length, take, map, flat_map, filter, get_or, refl, sym, ap, subst, ◌∙◌, inl, inr, ◌⊎◌, arith}
use Rattle.std.specs.Prelude.{Contains}
use Rattle.std.specs.List.{range_with_len}
use Rattle.std.proofs.lemmas.List.{take_more, map_more, append-nil, length-map}
use Rattle.std.proofs.lemmas.List.Elements.{All-contains}
use Rattle.std.proofs.lemmas.Grind.{flat_map-append}
use Rattle.plain_list.specs.weighted.Mean.{total}
use Rattle.plain_list.proofs.Members.{Contains-first, Contains-nil, Contains-map_cases}
use Rattle.decision_process.specs.Process.{min_with, CostsAtLeast}
use Rattle.decision_process.specs.under.Under.{IsUnder}
use Rattle.decision_process.proofs.lemmas.under.Values.{least_step_is_under}
use Rattle.ground_model.specs.declared.action.Choice.{Choice}
use Rattle.ground_model.specs.declared.action.GroundAction.{GroundAction}
use Rattle.ground_model.specs.declared.limits.TheConstants.{MOST_CHOICE_COST}
use Rattle.ground_model.specs.Packed.{State}
use Rattle.ground_model.specs.Ground.{Ground}
use Rattle.ground_model.specs.Invariant.{IsChoice, IsAction, IsGroundProblem}
use Rattle.ground_model.specs.Steps.{ground_process, is_open, least_of, least_choice_cost}
use Rattle.ground_model.proofs.Steps.{has_denominator, costs_at_least}
use Rattle.lower_seed.specs.Costs.{costs_of, if_any, least_choice}

-- ---- the least of several costs

abbrev pub least_from : ℕ → List ℕ → ℕ
least_from top costs = min_with top (λ cost. cost) costs

min_with_min : (a b : ℕ) (costs : List ℕ) → least_from (min a b) costs ≡ min a (least_from b costs)
min_with_min a b [] = refl
min_with_min a b (c ∷ costs) = (let rest = min_with_min a b costs in omega arith)

pub least_from-append : (top : ℕ) (xs ys : List ℕ) → least_from top (xs ++ ys) ≡ least_from (least_from top xs) ys
least_from-append top [] ys = refl
least_from-append top (x ∷ xs) ys = ap (min x) (least_from-append top xs ys) ∙ sym (min_with_min x (least_from top xs) ys)

-- the costs of the choices so far, with one more
pub choice_more : (top : ℕ) (cs : List Choice) (i : ℕ) (c : Choice) → i < length cs → c ≡ get_or cs i c
    → min c.cost (least_from top (map (λ (x : Choice). x.cost) (take i cs))) ≡ least_from top (map (λ (x : Choice). x.cost) (take (i + 1) cs))
choice_more top cs i c within at =
    let costs : List ℕ = map (λ (x : Choice). x.cost) (take i cs) in
    sym (ap (least_from top) (map_more (λ (x : Choice). x.cost) cs i c within ∙ ap (λ (x : Choice). costs ++ x.cost ∷ []) (sym at))
    ∙ least_from-append top costs (c.cost ∷ []))

-- the costs of the actions so far, with one more
pub action_more : (top : ℕ) (actions : List GroundAction) (i : ℕ) (a : GroundAction) → i < length actions → a ≡ get_or actions i a
    → least_from (least_from top (flat_map costs_of (take i actions))) (costs_of a) ≡ least_from top (flat_map costs_of (take (i + 1) actions))
action_more top actions i a within at =
    let costs : List ℕ = flat_map costs_of (take i actions) in
    sym (ap (least_from top) (ap (flat_map costs_of) (take_more actions i a within ∙ ap (λ (x : GroundAction). take i actions ++ x ∷ []) (sym at))
    ∙ flat_map-append costs_of (take i actions) (a ∷ []) ∙ ap (λ l. costs ++ l) (append-nil (costs_of a)))
    ∙ least_from-append top costs (costs_of a))

-- ---- a problem with an action

from_top : (top : ℕ) (xs ys : List ℕ) → 0 < length xs → ((c : ℕ) → Contains xs c → c ≤ top) → least_from top (xs ++ ys) ≡ least_of (xs ++ ys)
from_top top [] ys some each = absurd (omega arith)
from_top top (c ∷ xs) ys some each =
    let small : min c top ≡ c = (let below = each c (Contains-first c xs) in omega arith) in
    sym (min_with_min c top (xs ++ ys)) ∙ ap (λ t. least_from t (xs ++ ys)) small

has_choice : (cs : List Choice) (den : ℕ) → total (λ (c : Choice). c.weight) cs ≡ den → 1 ≤ den → 0 < length cs
has_choice [] den sum above = absurd (omega arith)
has_choice (c ∷ cs) den sum above = omega arith

costs_within : (n : ℕ) (a : GroundAction) → IsAction n a → (cost : ℕ) → Contains (costs_of a) cost → cost ≤ MOST_CHOICE_COST
costs_within n a is cost inside =
    let found : (c : Choice) × Contains a.choices c × (c.cost ≡ cost) = Contains-map_cases (λ (c : Choice). c.cost) a.choices cost inside in
    let within = (All-contains (IsChoice n) a.choices found.0 is.choices found.1).cost_within in
    let same = found.2 in omega arith

least_of_actions : (n : ℕ) (actions : List GroundAction) → 0 < length actions → ((a : GroundAction) → Contains actions a → IsAction n a)
    → least_from MOST_CHOICE_COST (flat_map costs_of actions) ≡ least_of (flat_map costs_of actions)
least_of_actions n [] some each = absurd (omega arith)
least_of_actions n (a ∷ more) some each =
    let is = each a (Contains-first a more) in
    let choices : 0 < length a.choices = has_choice a.choices a.den is.weights.sum is.weights.den_above in
    let long : length (costs_of a) ≡ length a.choices = length-map a.choices (λ (c : Choice). c.cost) in
    from_top MOST_CHOICE_COST (costs_of a) (flat_map costs_of more) (omega arith) (costs_within n a is)

if_any_some : (actions : List GroundAction) (none some : ℕ) → 0 < length actions → if_any actions none some ≡ some
if_any_some [] none some there = absurd (omega arith)
if_any_some (a ∷ more) none some there = refl

pub above_zero : (n : ℕ) → nat_eq n 0 ≡ false → 0 < n
above_zero zero not_zero = absurd cc
above_zero (suc n) not_zero = omega arith

pub least_found : (g : Ground) → IsGroundProblem g → 0 < length g.actions
    → least_from MOST_CHOICE_COST (flat_map costs_of g.actions) ≡ least_choice g
least_found g is some =
    least_of_actions (length g.atoms) g.actions some (λ a inside. All-contains (IsAction (length g.atoms)) g.actions a is.actions inside)
    ∙ sym (if_any_some g.actions g.penalty (least_choice_cost g) some)

-- ---- what is known by it

some_or_none : {X : Type 0} (xs : List X) → (xs ≡ []) ⊎ (0 < length xs)
some_or_none [] = inl refl
some_or_none (x ∷ xs) = inr (omega arith)

choices_cost_at_least : (g : Ground) → IsGroundProblem g → CostsAtLeast (ground_process g) (least_choice g)
choices_cost_at_least g is k s inside o there = elim (some_or_none g.actions) [
  | inl none ↦
      absurd (Contains-nil k (subst (λ (l : List GroundAction). Contains (filter (λ j. is_open g j s) (range_with_len 0 (length l))) k) none inside))
  | inr some ↦
      subst (λ n. n ≤ o.cost) (sym (if_any_some g.actions g.penalty (least_choice_cost g) some)) (costs_at_least g is k s inside o there)
]

-- off goals
pub least_choice_is_under : (g : Ground) → IsGroundProblem g → (s : State) → (ground_process g).goal s ≡ false
    → IsUnder (ground_process g) (min g.penalty (least_choice g)) s
least_choice_is_under g is s off =
    least_step_is_under (ground_process g) (has_denominator g is) (least_choice g) (choices_cost_at_least g is) s off
