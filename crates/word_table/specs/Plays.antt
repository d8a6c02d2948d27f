-- What each kind of step tells its own pass: of the step, the seat before, the number found and the seat after. A step tells only by
-- words and views, so it says which id or bucket a word is of by the view's layout.
use Rattle.std.specs.Prelude.{◌≡◌, ◌≢◌, ℕ, ◌+◌, ◌<◌, Some}
use Rattle.atomic_table.specs.Table.{Me, Step}
use Rattle.word_table.specs.layout.Places.{bucket_at, state_at, lower_at, upper_at}
use Rattle.word_table.specs.declared.view.View.{View}
use Rattle.word_table.specs.view.Steps.{with_lower_load, with_upper_load, with_lower, with_upper, with_count}
use Rattle.word_table.specs.view.Steps.{with_spare, with_written, with_held, with_empty, with_state_word}
use Rattle.word_table.specs.view.Steps.{with_published}
use Rattle.word_table.specs.rule.Told.{TellsLower, TellsUpper, TellsCount, TellsNone}
use Rattle.word_table.specs.rule.Told.{HasRoom, HasOneEach, HasOneState}

abbrev pub Mine : Type 0
Mine = Me (Unit {0}) View

abbrev pub Told : Type 1
Told = Step (Unit {0}) → Mine → ℕ → Mine → Type 0

abbrev pub lower_loaded : Told
lower_loaded st m n m' = (id : ℕ) → st.word ≡ lower_at m.0.layout id
    → (m' ≡ (with_lower_load m.0 id n, m.1)) × TellsLower m.0.problem m.0 id n

abbrev pub upper_loaded : Told
upper_loaded st m n m' = (id : ℕ) → st.word ≡ upper_at m.0.layout id
    → (m' ≡ (with_upper_load m.0 id n, m.1)) × TellsUpper m.0.problem m.0 id n

abbrev pub lower_raised : Told
lower_raised st m n m' = (id : ℕ) → st.word ≡ lower_at m.0.layout id
    → m' ≡ (with_lower m.0 id st.first, m.1)

abbrev pub upper_sunk : Told
upper_sunk st m n m' = (id : ℕ) → st.word ≡ upper_at m.0.layout id
    → m' ≡ (with_upper m.0 id st.first, m.1)

abbrev pub counted : Told
counted st m n m' = (m' ≡ (with_count m.0 n, m.1)) × TellsCount m.0 n × HasOneEach m.0 × HasOneState m.0

abbrev pub claimed : Told
claimed st m n m' =
    (n ≡ st.first → m' ≡ (with_spare m.0 n, m.1))
    × (n ≢ st.first → (m' ≡ (with_count m.0 n, m.1)) × TellsCount m.0 n)

abbrev pub wrote : Told
wrote st m n m' = (id place : ℕ) → m.0.spare ≡ Some id → place < m.0.layout.width
    → st.word ≡ state_at m.0.layout id place → m' ≡ (with_written m.0 place n, m.1)

-- a bucket was found to hold an id
abbrev pub Finds : Mine → ℕ → ℕ → Mine → Type 0
Finds m bucket n m' = (id : ℕ) → n ≡ id + 1
    → (m' ≡ (with_held m.0 bucket id, m.1)) × (id < m.0.layout.ids)

abbrev pub looked : Told
looked st m n m' = (bucket : ℕ) → st.word ≡ bucket_at bucket
    → (n ≡ 0 → (m' ≡ (with_empty m.0 bucket, m.1)) × TellsNone m.0 bucket)
    × Finds m bucket n m' × HasRoom m'.0

abbrev pub put : Told
put st m n m' = (bucket : ℕ) → st.word ≡ bucket_at bucket
    → (n ≡ 0 → m' ≡ (with_published m.0 bucket, m.1)) × Finds m bucket n m' × HasRoom m'.0

abbrev pub read : Told
read st m n m' = (id place : ℕ) → place < m.0.layout.width
    → st.word ≡ state_at m.0.layout id place
    → (m' ≡ (with_state_word m.0 id place n, m.1)) × HasOneEach m'.0 × HasOneState m'.0
