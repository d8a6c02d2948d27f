-- Words as a table is made.
--     AreMade g l states ws      the states are published with their places as ids, each in a bucket of its run behind taken ones, at
--                                their first numbers; no other id is given out
use Rattle.std.specs.Prelude.{◌≡◌, ◌≢◌, ℕ, ◌+◌, ◌<◌, ◌≤◌, Some, List, length}
use Rattle.std.specs.List.{slice_get}
use Rattle.ground_model.specs.Packed.{State}
use Rattle.ground_model.specs.Ground.{Ground}
use Rattle.bound_core.specs.Numbers.{first_word, quit_word}
use Rattle.word_table.specs.declared.layout.Layout.{Layout}
use Rattle.word_table.specs.layout.Places.{size}
use Rattle.word_table.specs.rule.Words.{given_in, held_in, state_in, lower_in, upper_in, IsPublished, IsRun}
use Rattle.word_table.specs.rule.Rule.{taken_below}

pub record AreMade (g : Ground) (l : Layout) (states : List State) (ws : List ℕ) : Type 0 where
  pub wide : length ws ≡ size l
  pub given : given_in ws ≡ length states
  pub few : length states ≤ l.ids
  pub in_bucket : (id : ℕ) → id < length states → IsPublished l ws id
  pub only : (id : ℕ) → IsPublished l ws id → id < length states
  pub once : (b c : ℕ) → b < l.buckets → c < l.buckets → held_in ws b ≢ 0
      → held_in ws b ≡ held_in ws c → b ≡ c
  pub run : (bucket id : ℕ) → bucket < l.buckets → held_in ws bucket ≡ id + 1
      → IsRun l ws (state_in l ws id) bucket
  pub taken : taken_below ws l.buckets ≡ length states
  pub state : (id : ℕ) (s : State) → slice_get states id ≡ Some s
      → (length s ≡ l.width) × (state_in l ws id ≡ s)
  pub published : (id : ℕ) → IsPublished l ws id → (lower_in l ws id ≡ 0)
      × (upper_in l ws id ≡ first_word g (state_in l ws id))
  pub others : (id : ℕ) → id < l.ids → (IsPublished l ws id → ⊥) → (lower_in l ws id ≡ 0)
      × (upper_in l ws id ≡ quit_word g.penalty)

pub record IsPut (g : Ground) (l : Layout) (s : State) (id place : ℕ) (ws ws' : List ℕ) : Type 0 where
  pub bucket : place < l.buckets
  pub empty : held_in ws place ≡ 0
  pub run : IsRun l ws s place
  pub long : length ws' ≡ length ws
  pub given : given_in ws' ≡ id + 1
  pub here : held_in ws' place ≡ id + 1
  pub state : state_in l ws' id ≡ s
  pub upper : upper_in l ws' id ≡ first_word g s
  pub other_buckets : (b : ℕ) → b < l.buckets → b ≢ place → held_in ws' b ≡ held_in ws b
  pub other_states : (i : ℕ) → i < id → state_in l ws' i ≡ state_in l ws i
  pub lower : (i : ℕ) → i < l.ids → lower_in l ws' i ≡ lower_in l ws i
  pub other_upper : (i : ℕ) → i < l.ids → i ≢ id → upper_in l ws' i ≡ upper_in l ws i
