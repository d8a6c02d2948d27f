-- The action in a place of a row, as it is read by the code that is kept.
use Rattle.std.proofs.Common.{◌≡◌, ℕ, ◌+◌, ◌-◌, ◌<◌, Some, List, length, map, get_or, sym, ap, ◌∙◌, subst, arith}
use Rattle.std.specs.List.{slice_get}
use Rattle.ground_model.specs.declared.action.GroundAction.{GroundAction}
use Rattle.ground_model.specs.declared.limits.TheConstants.{MOST_ACTIONS}
use Rattle.ground_model.specs.Packed.{State}
use Rattle.ground_model.specs.Ground.{Ground}
use Rattle.ground_model.specs.Invariant.{IsGroundProblem}
use Rattle.word_table.specs.view.Laws.{HasMore}
use Rattle.word_table.specs.Seen.{Board, Knowledge}
use Rattle.kept_transitions.specs.declared.kept_action.KeptAction.{KeptAction}
use Rattle.kept_transitions.specs.declared.kept_row.KeptRow.{KeptRow}
use Rattle.kept_transitions.specs.Rows.{Transitions}
use Rattle.bellman_backup.specs.Kept.{IsKeptAction, AreKept}
use Rattle.bellman_backup.specs.Odds.{Odds, odds_of}
use Rattle.bellman_backup.proofs.PlacedWeights.{odds_at, odds_within}
use Rattle.bellman_backup.proofs.KeptReads.{IsOwnAt, IsActionAt, is_own_at, is_action_at}

module _ (b : Board) (k l : Knowledge) (own : ℕ) (t : Transitions) (row : KeptRow) (are : (s : State) × AreKept k.view s own b.problem t row)
    (later : HasMore k.view l.view) (p : Ground) (same : p ≡ b.problem) (valid : IsGroundProblem p) (i : ℕ) (within : i < row.past - row.first) (action : KeptAction)
    (here : slice_get t.actions (row.first + i) ≡ Some action) where
  own_is : IsOwnAt b l are.0 own t row i action
  own_is = is_own_at b k l are.0 own t row i action later are.1 within here

  is_problem : IsGroundProblem b.problem
  is_problem = subst IsGroundProblem same valid

  pub own_code_is_small : action.code < MOST_ACTIONS
  own_code_is_small = let few = is_problem.actions_count in let below = own_is.coded in omega arith

  pub own_has_odds : (odds : List Odds) → odds ≡ map odds_of b.problem.actions → action.code < length odds
  own_has_odds odds odds_are = odds_within b.problem.actions odds odds_are action.code own_is.coded

  module _ (all : List GroundAction) (all_are : all ≡ p.actions) where
    actions_are : all ≡ b.problem.actions
    actions_are = all_are ∙ ap (λ (q : Ground). q.actions) same

    pub own_code_is_inside : action.code < length all
    own_code_is_inside = let n = ap length actions_are in let below = own_is.coded in omega arith

    module _ (a : GroundAction) (read : a ≡ get_or all action.code a) where
      pub own_action : IsActionAt b l are.0 own t action a
      own_action = is_action_at b l are.0 own t row i action own_is is_problem all actions_are a read

      pub own_odds : (odds : List Odds) → odds ≡ map odds_of b.problem.actions → slice_get odds action.code ≡ Some (odds_of a)
      own_odds odds odds_are = odds_at b.problem.actions odds odds_are action.code a own_action.coded

      pub own_is_kept_in : (ids : List ℕ) → ids ≡ t.ids → (s : State) × IsKeptAction l.view s own ids a action
      own_is_kept_in ids same_ids = (are.0, subst (λ zs. IsKeptAction l.view are.0 own zs a action) (sym same_ids) own_action.kept)
