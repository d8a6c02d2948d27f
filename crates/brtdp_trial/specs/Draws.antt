-- The draws of a trial: numbers below 2^128, of four words each, of a stream of ChaCha with 8 rounds (Bernstein 2008). The
-- seed is the key and the trial's number is the stream.
--     key_bytes seed            the seed's 8 bytes, least first, and 24 zero bytes
--     four_words_at key n p     the words p to p+3 of stream n as one number, the first most significant
--     draw_of seed n j          draw j of trial n: it is made of the words 4j to 4j+3
--     Place                     a seed, a trial's number, and the number of the next draw
--     draws_of p                all draws of the trial
--     generator seed n j        the generator before draw j
--     IsFirstAbove bs r i       i is the first place at which the running sum of bs is above r
use Rattle.std.specs.Prelude.{ℕ, ◌+◌, ◌*◌, ◌^◌, ◌<◌, ◌≤◌, List, [], ◌∷◌, ◌++◌, length, sum, take}
use Rattle.std.specs.Int.{w64, to_le_bytes}
use Rattle.rand_chacha.specs.ChaCha.{ChaCha, word_at, key_of}

pub record Place : Type 0 where
  pub seed : ℕ
  pub number : ℕ
  pub next : ℕ

abbrev pub zeros : List ℕ
zeros =
    0 ∷ 0 ∷ 0 ∷ 0 ∷ 0 ∷ 0 ∷ 0 ∷ 0 ∷ 0 ∷ 0 ∷ 0 ∷ 0 ∷ 0 ∷ 0 ∷ 0 ∷ 0 ∷ 0 ∷ 0 ∷ 0 ∷ 0 ∷ 0 ∷ 0 ∷ 0
    ∷ 0 ∷ []

abbrev pub key_bytes : ℕ → List ℕ
key_bytes seed = to_le_bytes w64 seed ++ zeros

-- ChaCha with 8 rounds makes 4 double rounds
abbrev pub four_words_at : List ℕ → ℕ → ℕ → ℕ
four_words_at key n p =
    word_at 4 key n p * 2 ^ 96 + word_at 4 key n (p + 1) * 2 ^ 64
    + word_at 4 key n (p + 2) * 2 ^ 32 + word_at 4 key n (p + 3)

unfoldable pub draw_of : ℕ → ℕ → ℕ → ℕ
draw_of seed n j = four_words_at (key_of (key_bytes seed)) n (4 * j)

abbrev pub draws_of : Place → ℕ → ℕ
draws_of p = draw_of p.seed p.number

abbrev pub generator : ℕ → ℕ → ℕ → ChaCha
generator seed n j = record { key = key_of (key_bytes seed); stream = n; word_pos = 4 * j }

pub record IsFirstAbove (bs : List ℕ) (r i : ℕ) : Type 0 where
  pub within : i < length bs
  pub above : r < sum (take (i + 1) bs)
  pub first : (j : ℕ) → j < i → sum (take (j + 1) bs) ≤ r
