-- What a step tells its own pass.
--     TellsLower g v id n        n, found as the lower number of the id: no wider than what the view had noted, and at most the least
--                                cost of some number of steps from a state that the view has the id with
--     IsWorth g s word           the word bounds the cost from s, and its act is worth its value
--     TellsUpper g v id word     the same of the upper word
--     TellsCount v n             n, found as the count of ids given out
--     TellsNone v bucket         the bucket was found empty: the view has no id with a state in whose run the bucket comes behind buckets
--                                of other states
--     HasRoom v                  not each bucket of a run was found taken
--     HasOneEach v               ids that the view has with one state are one id
--     HasOneState v              states that the view has one id with are one state
use Rattle.std.specs.Prelude.{◌≡◌, ◌⊎◌, ℕ, ◌<◌, ◌≤◌, true, false, IsTrue}
use Rattle.std.specs.Prelude.{Contains}
use Rattle.fixed_round.specs.Words.{value_of}
use Rattle.decision_process.specs.Least.{CoversFromBelow, CoversFromAbove}
use Rattle.ground_model.specs.Packed.{State}
use Rattle.ground_model.specs.Ground.{Ground}
use Rattle.ground_model.specs.Steps.{ground_process}
use Rattle.bound_core.specs.Numbers.{goal_word, quit_word}
use Rattle.bound_core.specs.Laws.{IsActOfWord}
use Rattle.word_table.specs.layout.Places.{turn}
use Rattle.word_table.specs.declared.view.View.{View}
use Rattle.word_table.specs.view.Views.{held, has_state, noted_lower, noted_upper, IsClear}

pub record TellsLower (g : Ground) (v : View) (id n : ℕ) : Type 0 where
  pub narrower : noted_lower v id ≤ n
  pub ordered : n ≤ value_of (noted_upper v id)
  pub within_quit : n ≤ g.penalty
  pub covers : (s : State) → IsTrue (has_state v id s)
      → CoversFromBelow (ground_process g) n s

pub record IsWorth (g : Ground) (s : State) (word : ℕ) : Type 0 where
  pub covers : CoversFromAbove (ground_process g) (value_of word) s
  pub at_goal : (ground_process g).goal s ≡ true
      → (word ≡ quit_word g.penalty) ⊎ (word ≡ goal_word)
  pub act : (ground_process g).goal s ≡ false → IsActOfWord g s word

pub record TellsUpper (g : Ground) (v : View) (id word : ℕ) : Type 0 where
  pub narrower : word ≤ noted_upper v id
  pub ordered : noted_lower v id ≤ value_of word
  pub within_quit : word ≤ quit_word g.penalty
  pub worth : (s : State) → IsTrue (has_state v id s) → IsWorth g s word

pub record TellsCount (v : View) (n : ℕ) : Type 0 where
  pub greater : v.count ≤ n
  pub within : n ≤ v.layout.ids

abbrev pub TellsNone : View → ℕ → Type 0
TellsNone v bucket = (id : ℕ) (s : State) → IsTrue (has_state v id s) → IsClear v s bucket → ⊥

abbrev pub HasRoom : View → Type 0
HasRoom v = (hash : ℕ) → ((k : ℕ) → k < v.layout.buckets
    → (id : ℕ) × Contains v.held (held (turn v.layout hash k) id)) → ⊥

abbrev pub HasOneEach : View → Type 0
HasOneEach v = (i j : ℕ) (s : State) → IsTrue (has_state v i s) → IsTrue (has_state v j s)
    → i ≡ j

abbrev pub HasOneState : View → Type 0
HasOneState v = (id : ℕ) (s t : State) → IsTrue (has_state v id s) → IsTrue (has_state v id t)
    → s ≡ t
