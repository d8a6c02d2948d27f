-- What the words of the table say.
--     Table                      the words and the views of a table without slots
--     word ws i                  word i
--     given_in ws                how many ids are given out
--     held_in ws b               what bucket b holds: 0, or one more than an id
--     state_in l ws id           the words of the state of an id
--     lower_in, upper_in         the lower number and the upper word of an id
--     IsPublished l ws id        the id stands in a bucket
--     IsRun l ws s b             bucket b comes in the run of s behind buckets that are taken
--     AreWords g l ws            what holds of the words alone: there are as many as the layout says, no more ids are given out than
--                                there are, an id stands in at most one bucket, each bucket of a published state's run before its own
--                                is taken, and the numbers of an id that is not published are as made
use Rattle.std.specs.Prelude.{◌≡◌, ◌≢◌, ℕ, ◌+◌, ◌<◌, ◌≤◌, List, length, map, get_or}
use Rattle.std.specs.List.{range_with_len}
use Rattle.atomic_table.specs.Table.{State as TableState}
use Rattle.ground_model.specs.Packed.{State}
use Rattle.ground_model.specs.Ground.{Ground}
use Rattle.ground_step.specs.Hash.{hash_of}
use Rattle.bound_core.specs.Numbers.{quit_word}
use Rattle.word_table.specs.declared.layout.Layout.{Layout}
use Rattle.word_table.specs.layout.Places.{count_at, bucket_at, state_at, lower_at, upper_at, size, turn}
use Rattle.word_table.specs.declared.view.View.{View}

abbrev pub Table : Type 0
Table = TableState (Unit {0}) View

abbrev pub word : List ℕ → ℕ → ℕ
word ws i = get_or ws i 0

abbrev pub given_in : List ℕ → ℕ
given_in ws = word ws count_at

abbrev pub held_in : List ℕ → ℕ → ℕ
held_in ws bucket = word ws (bucket_at bucket)

module _ (l : Layout) where
  abbrev pub state_in : List ℕ → ℕ → State
  state_in ws id = map (λ place. word ws (state_at l id place)) (range_with_len 0 l.width)

  abbrev pub lower_in : List ℕ → ℕ → ℕ
  lower_in ws id = word ws (lower_at l id)

  abbrev pub upper_in : List ℕ → ℕ → ℕ
  upper_in ws id = word ws (upper_at l id)

  abbrev pub IsPublished : List ℕ → ℕ → Type 0
  IsPublished ws id =
      (bucket : ℕ) × (bucket < l.buckets) × (held_in ws bucket ≡ id + 1)

  pub record IsRun (ws : List ℕ) (s : State) (bucket : ℕ) : Type 0 where
    pub turns : ℕ
    pub here : turn l (hash_of s) turns ≡ bucket
    pub taken : (m : ℕ) → m < turns → held_in ws (turn l (hash_of s) m) ≢ 0

pub record AreWords (g : Ground) (l : Layout) (ws : List ℕ) : Type 0 where
  pub wide : length ws ≡ size l
  pub given : given_in ws ≤ l.ids
  pub once : (b c : ℕ) → b < l.buckets → c < l.buckets → held_in ws b ≢ 0
      → held_in ws b ≡ held_in ws c → b ≡ c
  pub run : (bucket id : ℕ) → bucket < l.buckets → held_in ws bucket ≡ id + 1
      → IsRun l ws (state_in l ws id) bucket
  pub as_made : (id : ℕ) → id < l.ids → (IsPublished l ws id → ⊥)
      → (lower_in l ws id ≡ 0) × (upper_in l ws id ≡ quit_word g.penalty)
