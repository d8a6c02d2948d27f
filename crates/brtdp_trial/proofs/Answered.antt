-- What a backup of a listed state answers meets what trials ask of it.
use Rattle.std.proofs.Common.{◌≡◌, ℕ, zero, suc, ◌<◌, Bool, true, false, cond, List, [], ◌∷◌, length, get_or, refl, sym, ap, subst, ◌∙◌, Some, None, arith}
use Rattle.std.specs.Prelude.{All, Option, sum, map, nat_lt}
use Rattle.std.specs.List.{slice_get}
use Rattle.std.proofs.lemmas.List.Elements.{All-map, All-nil, All-weaker}
use Rattle.brtdp_trial.proofs.Walking.{All_at}
use Rattle.brtdp_trial.specs.Meaning.{AreChoices, IsInterval, LeadsToKnown, UnplacedOnlyWhere, Last, weights_of}
use Rattle.brtdp_trial.specs.Listed.{IsRange, IsOutcome, IsListedAction, IsListedState}
use Rattle.brtdp_trial.specs.Listed.{HasUnplacedIn, absent, answered, best, first_place, interval_at, means, no_action, state_at, starts_of, step_to, steps_to, with_action}
use Rattle.brtdp_trial.specs.declared.backing.Side.TheVariants.{Lower}
use Rattle.brtdp_trial.specs.declared.listed.Interval.{Interval}
use Rattle.brtdp_trial.specs.declared.listed.ListedAction.{ListedAction}
use Rattle.brtdp_trial.specs.declared.listed.ListedStart.{ListedStart}
use Rattle.brtdp_trial.specs.declared.listed.ListedState.{ListedState}
use Rattle.brtdp_trial.specs.declared.listed.Outcome.{Outcome}
use Rattle.brtdp_trial.specs.declared.step.Step.{Step}

-- ---- steps

id_known : (b : Bool) (i id : ℕ) → cond b (Some i) None ≡ Some id → (b ≡ true) × (i ≡ id)
id_known true i id e = (refl, cc)
id_known false i id e = absurd cc

not_placed : (b : Bool) (i : ℕ) → cond b (Some i) None ≡ None → b ≡ false
not_placed true i e = absurd cc
not_placed false i e = refl

-- the choices are what trials ask for, and lead to states that are known, or to such that have no id
abbrev pub IsGood : List ListedState → Last → Type 0
IsGood states l = AreChoices l × All (LeadsToKnown (λ id. (state_at states id).placed ≡ true)) l.steps
    × All (UnplacedOnlyWhere (HasUnplacedIn states)) l.steps

module _ (states : List ListedState) (numbers : List Interval) where
  pub leads_to_placed : (weight i : ℕ)
      → LeadsToKnown (λ id. (state_at states id).placed ≡ true) (step_to states numbers weight i)
  leads_to_placed weight i = λ id e.
      let known = id_known (state_at states i).placed i id e in
      subst (λ j. (state_at states j).placed ≡ true) known.1 known.0

  pub leads_to_unplaced : (weight i : ℕ) → i < length states → UnplacedOnlyWhere (HasUnplacedIn states) (step_to states numbers weight i)
  leads_to_unplaced weight i within = λ none. (i, within, not_placed (state_at states i).placed i none)

  pub step_is_interval : (weight i : ℕ) → All IsRange numbers → i < length numbers
      → IsInterval (step_to states numbers weight i)
  step_is_interval weight i ranges within =
      let range : IsRange (interval_at numbers i) = ranges i (record { lower = 0; upper = 0 }) within in
      record { ordered = range.ordered; bounded = range.bounded }

  weights_are : (os : List Outcome)
      → weights_of (steps_to states numbers os) ≡ map (λ (o : Outcome). o.weight) os
  weights_are [] = refl
  weights_are (o ∷ os) = ap (λ l. o.weight ∷ l) (weights_are os)

  no_action_choices : (code : ℕ) → AreChoices (no_action code)
  no_action_choices code = record {
    positive = All-nil (λ w. 0 < w);
    whole = λ some. absurd (omega arith);
    den_bounded = omega arith;
    intervals = All-nil IsInterval;
  }

  with_choices : (code : ℕ) (o : Option ListedAction) → All IsRange numbers
      → ((a : ListedAction) → o ≡ Some a → IsListedAction (length numbers) a)
      → AreChoices (with_action 0 states numbers code o)
  with_choices code None ranges is = no_action_choices _
  with_choices code (Some a) ranges is =
      let action = is a refl in
      let f : Outcome → Step = λ o. step_to states numbers o.weight o.next in record {
        positive = All-map (λ w. 0 < w) (λ (s : Step). s.weight) (steps_to states numbers a.outcomes)
            (All-map (λ (s : Step). 0 < s.weight) f a.outcomes
            (All-weaker (IsOutcome (length numbers)) (λ (o : Outcome). 0 < o.weight) (λ o is. is.weight_above)
            a.outcomes action.outcomes));
        whole = λ some. ap sum (weights_are a.outcomes) ∙ action.whole;
        den_bounded = action.den_within;
        intervals = All-map IsInterval f a.outcomes
            (All-weaker (IsOutcome (length numbers)) (λ (o : Outcome). IsInterval (f o))
            (λ o is. step_is_interval o.weight o.next ranges is.next_within) a.outcomes action.outcomes);
      }

  with_known : (code : ℕ) (o : Option ListedAction)
      → All (LeadsToKnown (λ id. (state_at states id).placed ≡ true)) (with_action 0 states numbers code o).steps
  with_known code None = All-nil (LeadsToKnown (λ id. (state_at states id).placed ≡ true))
  with_known code (Some a) =
      All-map (LeadsToKnown (λ id. (state_at states id).placed ≡ true))
      (λ (o : Outcome). step_to states numbers o.weight o.next) a.outcomes
      (λ i d within. leads_to_placed (get_or a.outcomes i d).weight (get_or a.outcomes i d).next)

  with_unplaced : (code : ℕ) (o : Option ListedAction) → ((a : ListedAction) → o ≡ Some a → IsListedAction (length states) a)
      → All (UnplacedOnlyWhere (HasUnplacedIn states)) (with_action 0 states numbers code o).steps
  with_unplaced code None is = All-nil (UnplacedOnlyWhere (HasUnplacedIn states))
  with_unplaced code (Some a) is =
      let f : Outcome → Step = λ o. step_to states numbers o.weight o.next in
      All-map (UnplacedOnlyWhere (HasUnplacedIn states)) f a.outcomes
      (All-weaker (IsOutcome (length states)) (λ (o : Outcome). UnplacedOnlyWhere (HasUnplacedIn states) (f o))
      (λ o is. leads_to_unplaced o.weight o.next is.next_within) a.outcomes (is a refl).outcomes)

  -- ---- answers

  no_action_good : (code : ℕ) → IsGood states (no_action code)
  no_action_good code = (
    no_action_choices code,
    All-nil (LeadsToKnown (λ id. (state_at states id).placed ≡ true)),
    All-nil (UnplacedOnlyWhere (HasUnplacedIn states)),
  )

  cond_good : (b : Bool) (x y : Last) → IsGood states x → IsGood states y → IsGood states (cond b x y)
  cond_good true x y a b = a
  cond_good false x y a b = b

  pub answered_good : (cap : ℕ) (s : ListedState) → All IsRange numbers → length numbers ≡ length states
      → All (IsListedAction (length numbers)) s.actions → IsGood states (answered cap states numbers s)
  answered_good cap s ranges same actions =
      let low = best cap Lower numbers s.actions in
      let place = first_place low (means cap Lower numbers s.actions) in
      let found = slice_get s.actions place in
      cond_good s.goal _ _ (no_action_good _)
      (cond_good (nat_lt low cap) _ _ (
        with_choices place found ranges (λ a e. All_at (IsListedAction (length numbers)) s.actions place a actions e),
        with_known place found,
        with_unplaced place found
            (λ a e. subst (λ n. IsListedAction n a) same (All_at (IsListedAction (length numbers)) s.actions place a actions e)),
      )
      (no_action_good _))

pub start_weights : (states : List ListedState) (numbers : List Interval) (starts : List ListedStart)
    → weights_of (starts_of states numbers starts) ≡ map (λ (x : ListedStart). x.weight) starts
start_weights states numbers [] = refl
start_weights states numbers (x ∷ xs) = ap (λ l. x.weight ∷ l) (start_weights states numbers xs)

placed_within : (states : List ListedState) (id : ℕ) → (state_at states id).placed ≡ true → id < length states
placed_within [] id placed = absurd cc
placed_within (s ∷ states) zero placed = omega arith
placed_within (s ∷ states) (suc id) placed = let within = placed_within states id placed in omega (arith, within)

-- a backup of a state that has an id
pub answered_at_good : (cap : ℕ) (states : List ListedState) (numbers : List Interval) (id : ℕ)
    → All (IsListedState (length states)) states → All IsRange numbers → length numbers ≡ length states
    → (state_at states id).placed ≡ true
    → IsGood states (answered cap states numbers (state_at states id))
answered_at_good cap states numbers id are ranges same placed =
    answered_good states numbers cap (state_at states id) ranges same
    (subst (λ n. All (IsListedAction n) (state_at states id).actions) (sym same)
    (are id absent (placed_within states id placed)).actions)
