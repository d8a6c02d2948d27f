-- Kept actions, unpacked from the words that are stored.
--     unpacked base a          what a word says in a block with this base: the place of the kind is the word over 4,096, and
--                              the first id stands as far behind the base as the rest says
--     unpacked_at bases p      the action of a place and the word there; a block has 16 places
--     all_unpacked bases xs    the actions of words that stand side by side from the place 0 on
--     HasPlace a               the place of its first id has 32 bits
--     AreStored bases xs       there is a base for each block that has an action, and each first id has such a place
use Rattle.std.specs.Prelude.{◌≡◌, ℕ, ◌+◌, ◌/◌, ◌%◌, ◌<◌, ◌^◌, List, length, map, get_or}
use Rattle.std.specs.Int.{div_ceil}
use Rattle.std.specs.List.{enumerate_from, All}
use Rattle.kept_transitions.specs.declared.stored_action.StoredAction.{StoredAction}
use Rattle.kept_transitions.specs.declared.unpacked_action.UnpackedAction.{UnpackedAction}

abbrev pub unpacked : ℕ → StoredAction → UnpackedAction
unpacked base a = record { kind = a.word / 4096; first = base + a.word % 4096 }

abbrev pub unpacked_at : List ℕ → ℕ × StoredAction → UnpackedAction
unpacked_at bases p = unpacked (get_or bases (p.0 / 16) 0) p.1

abbrev pub all_unpacked : List ℕ → List StoredAction → List UnpackedAction
all_unpacked bases xs = map (unpacked_at bases) (enumerate_from 0 xs)

abbrev pub HasPlace : UnpackedAction → Type 0
HasPlace a = a.first < 2 ^ 32

pub record AreStored (bases : List ℕ) (xs : List StoredAction) : Type 0 where
  pub blocks : length bases ≡ div_ceil (length xs) 16
  pub places : All HasPlace (all_unpacked bases xs)
