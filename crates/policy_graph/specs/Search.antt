-- The states that were found so far, breadth first, and those behind a state.
--     noted same most states s     states with s behind them, where it is not among them and they are fewer than `most`
--     noted_all same most states more
--                                  with more states, one by one
--     start_states starts          the states of starts
--     first_states starts most     as many of them as there is room for
--     nexts p policy s             the next states of what the policy does in s
--     IsSearched p policy starts most states done
--                                  states are found breadth first, and while there is room so are the next
--                                  ones of the first `done` of them
use Rattle.std.specs.Prelude.{◌≡◌, ◌≢◌, ℕ, ◌<◌, ◌≤◌, min, nat_le, Bool, cond, ◌||◌, Option, Some}
use Rattle.std.specs.Prelude.{AllPairs, Contains, List, [], ◌∷◌, ◌++◌, map, length, take}
use Rattle.std.specs.List.{list_any, slice_get}
use Rattle.decision_process.specs.Process.{Process, Outcome, Start}
use Rattle.policy_graph.specs.Reached.{followed, Leads, IsReached}
use Rattle.policy_graph.specs.Graph.{IsBreadthFirst, HasStartsFirst}

module _ {S : Type 0} (same : S → S → Bool) (most : ℕ) where
  abbrev pub noted : List S → S → List S
  noted states s = cond (nat_le most (length states) || list_any (same s) states) states (states ++ s ∷ [])

  abbrev pub noted_all : List S → List S → List S
  noted_all states [] = states
  noted_all states (s ∷ more) = noted_all (noted states s) more

abbrev pub start_states : {S : Type 0} → List (Start S) → List S
start_states {S} starts = map (λ (start : Start S). start.state) starts

abbrev pub first_states : {S : Type 0} → List (Start S) → ℕ → List S
first_states starts most = take (min (length starts) most) (start_states starts)

module _ {S A : Type 0} (p : Process S A) (policy : S → Option A) where
  abbrev pub nexts : S → List S
  nexts s = map (λ (o : Outcome S). o.next) (followed p policy s)

  module _ (starts : List (Start S)) (most : ℕ) where
    pub record IsSearched (states : List S) (done : ℕ) : Type 0 where
      pub distinct : AllPairs (λ s t. s ≢ t) states
      pub few : length states ≤ most
      pub reached : (s : S) → Contains states s → IsReached p policy starts s
      pub starts_first : HasStartsFirst p policy starts most states
      pub breadth_first : IsBreadthFirst p policy starts states
      pub closed : length states < most → (i : ℕ) (s t : S) → i < done → slice_get states i ≡ Some s
          → Leads p policy s t → Contains states t
