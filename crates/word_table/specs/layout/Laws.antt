-- The laws of places, as statements.
--     StateWordsAreWithin l      the words of a state stand before the lower numbers
--     StateWordsDiffer l         two of them stand at one place only where they are the same word of the same id
--     TurnsAreBuckets l          each turn of a run is a bucket
use Rattle.std.specs.Prelude.{◌≡◌, ℕ, ◌<◌}
use Rattle.word_table.specs.declared.layout.Layout.{Layout}
use Rattle.word_table.specs.layout.Places.{state_at, lower_at, turn, IsLayout}

module _ (l : Layout) where
  abbrev pub StateWordsAreWithin : Type 0
  StateWordsAreWithin = (id place : ℕ) → id < l.ids → place < l.width
      → state_at l id place < lower_at l 0

  abbrev pub StateWordsDiffer : Type 0
  StateWordsDiffer = (i j p q : ℕ) → p < l.width → q < l.width
      → state_at l i p ≡ state_at l j q → (i ≡ j) × (p ≡ q)

  abbrev pub TurnsAreBuckets : Type 0
  TurnsAreBuckets = IsLayout l → (hash k : ℕ) → turn l hash k < l.buckets
