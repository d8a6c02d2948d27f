-- Where each word of the table stands. Word 0 is the number of ids given out. Then come the buckets, each 0 or one more
-- than the id that it holds, the words of states, those of each id side by side, the lower numbers, and the upper words.
--     count_at                   the number of ids given out
--     bucket_at b                bucket b
--     state_at l id place        a word of the state of an id
--     lower_at, upper_at         the lower number and the upper word of an id
--     size l                     the number of words
--     turn l hash k              bucket k of the run of a state with this hash: a run goes on cyclically (open addressing with
--                                linear probing: Knuth, The Art of Computer Programming, volume 3, section 6.4)
--     IsLayout l                 some ids and words of a state, not too many, and the least power of two of buckets that is
--                                at least twice the number of ids
use Rattle.std.specs.Prelude.{ℕ, ◌+◌, ◌*◌, ◌%◌, ◌<◌, ◌≤◌}
use Rattle.std.specs.Int.{IsNextPowerOfTwo}
use Rattle.bound_core.specs.declared.codes.TheConstants.{MOST_IDS}
use Rattle.word_table.specs.declared.layout.Layout.{Layout}
use Rattle.word_table.specs.declared.layout.TheConstants.{MOST_WIDTH}

abbrev pub count_at : ℕ
count_at = 0

abbrev pub bucket_at : ℕ → ℕ
bucket_at b = b + 1

module _ (l : Layout) where
  abbrev pub state_at : ℕ → ℕ → ℕ
  state_at id place = l.buckets + 1 + (id * l.width + place)

  abbrev pub lower_at : ℕ → ℕ
  lower_at id = l.buckets + 1 + l.ids * l.width + id

  abbrev pub upper_at : ℕ → ℕ
  upper_at id = l.buckets + 1 + l.ids * l.width + id + l.ids

  abbrev pub size : ℕ
  size = l.buckets + 1 + l.ids * l.width + 2 * l.ids

  abbrev pub turn : ℕ → ℕ → ℕ
  turn hash k = (hash + k) % l.buckets

  pub record IsLayout : Type 0 where
    pub some_ids : 0 < l.ids
    pub ids_within : l.ids ≤ MOST_IDS
    pub some_words : 0 < l.width
    pub words_within : l.width ≤ MOST_WIDTH
    pub buckets : IsNextPowerOfTwo (2 * l.ids) l.buckets
