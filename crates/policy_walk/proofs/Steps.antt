-- What a draw gives in a ground problem: a start; a choice of an action that is open.
use Rattle.std.proofs.Common.{◌≡◌, ℕ, ◌%◌, ◌<◌, true, List, Option, None, Some, refl, ap, subst, sym, ◌∙◌}
use Rattle.std.specs.Prelude.{Contains, length, get_or}
use Rattle.std.specs.List.{slice_get, range_with_len}
use Rattle.std.proofs.lemmas.List.Elements.{All-contains, filter_passes}
use Rattle.std.proofs.lemmas.Nat.{mod_below}
use Rattle.std.proofs.lemmas.Option.{slice_get_read}
use Rattle.plain_list.specs.weighted.Mean.{total}
use Rattle.ground_model.specs.declared.action.Choice.{Choice}
use Rattle.ground_model.specs.declared.action.GroundAction.{GroundAction}
use Rattle.ground_model.specs.declared.start.Start.{Start}
use Rattle.ground_model.specs.Packed.{State, words_for}
use Rattle.ground_model.specs.Ground.{Ground}
use Rattle.ground_model.specs.Invariant.{IsAction, IsChoice, IsDistribution, IsInside, IsGroundProblem}
use Rattle.ground_model.specs.Steps.{is_open, is_open_at, ground_process}
use Rattle.ground_model.proofs.Packed.{length-inside}
use Rattle.ground_model.proofs.Steps.{slice_get-contains}
use Rattle.policy_walk.specs.Walks.{drawn, start_drawn, choice_of, choice_drawn}
use Rattle.policy_walk.proofs.Above.{some_above, above-contains}

-- ---- of weights that sum to the denominator

module _ {X : Type 0} (w : X → ℕ) (items : List X) (den : ℕ) (is : IsDistribution w items den) (r : ℕ) where
  pub rest_below : r % den < total w items
  rest_below = subst (λ n. r % den < n) (sym is.sum) (mod_below r den is.den_above)

  pub some_drawn : (x : X) × (drawn w den items r ≡ Some x) × Contains items x
  some_drawn =
      let found = some_above w items (r % den) rest_below in
      (found.0, found.1, above-contains w items (r % den) found.0 found.1)

-- ---- what was read

module _ (g : Ground) (is : IsGroundProblem g) where
  pub start_long : (starts : List Start) (den r : ℕ) (x : Start) → starts ≡ g.starts
      → drawn (λ (y : Start). y.weight) den starts r ≡ Some x → length x.state ≡ words_for (length g.atoms)
  start_long starts den r x same given =
      length-inside (length g.atoms) x.state
      (All-contains (IsInside (length g.atoms)) g.starts x is.starts_inside
      (subst (λ l. Contains l x) same (above-contains (λ (y : Start). y.weight) starts (r % den) x given)))

  pub choice_given : (actions : List GroundAction) (k : ℕ) (a : GroundAction) (choices : List Choice) (r : ℕ) (c : Choice)
      → actions ≡ g.actions → k < length g.actions → a ≡ get_or actions k a → choices ≡ a.choices
      → drawn (λ (x : Choice). x.weight) a.den choices r ≡ Some c
      → (choice_drawn g k r ≡ Some c) × IsChoice (length g.atoms) c
  choice_given actions k a choices r c same within read listed given =
      let found : slice_get g.actions k ≡ Some a
      = slice_get_read g.actions (length g.actions) k a refl within (read ∙ ap (λ l. get_or l k a) same) in
      let there : drawn (λ (x : Choice). x.weight) a.den a.choices r ≡ Some c
      = subst (λ l. drawn (λ (x : Choice). x.weight) a.den l r ≡ Some c) listed given in
      let action = All-contains (IsAction (length g.atoms)) g.actions a is.actions (slice_get-contains g.actions k a found) in (
        ap (λ x. choice_of x r) found ∙ there,
        All-contains (IsChoice (length g.atoms)) a.choices c action.choices
            (above-contains (λ (x : Choice). x.weight) a.choices (r % a.den) c there),
      )

-- ---- of a ground problem

module _ (g : Ground) (is : IsGroundProblem g) where
  pub start_is : (r : ℕ) → (x : Start) × (start_drawn g r ≡ Some x) × Contains g.starts x
  start_is r = some_drawn (λ (x : Start). x.weight) g.starts g.start_den is.starts_weights r

  action_by : (x : Option GroundAction) (s : State) → is_open_at x s ≡ true → (a : GroundAction) × (x ≡ Some a)
  action_by None s e = absurd cc
  action_by (Some a) s e = (a, refl)

  pub action_at : (k : ℕ) (s : State) → Contains ((ground_process g).choices s) k → (a : GroundAction) × (slice_get g.actions k ≡ Some a)
  action_at k s inside =
      action_by (slice_get g.actions k) s
      (All-contains (λ j. is_open g j s ≡ true) ((ground_process g).choices s) k
      (filter_passes (λ j. is_open g j s) (range_with_len 0 (length g.actions))) inside)

  pub action_is : (k : ℕ) (a : GroundAction) → slice_get g.actions k ≡ Some a → IsAction (length g.atoms) a
  action_is k a found = All-contains (IsAction (length g.atoms)) g.actions a is.actions (slice_get-contains g.actions k a found)

  pub choice_is : (k : ℕ) (a : GroundAction) → slice_get g.actions k ≡ Some a → (r : ℕ)
      → (c : Choice) × (choice_drawn g k r ≡ Some c) × Contains a.choices c
  choice_is k a found r =
      let given = some_drawn (λ (c : Choice). c.weight) a.choices a.den (action_is k a found).weights r in
      (given.0, ap (λ x. choice_of x r) found ∙ given.1, given.2)
