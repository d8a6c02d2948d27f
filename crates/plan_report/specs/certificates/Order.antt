-- States that are apart from some word on.
--     HasAtomFrom s from     an atom from this one on holds
--     HasNoneFrom s from     none does
--     AgreeBelow s t place   the words before this place are equal; a word past the last is 0
use Rattle.std.specs.Prelude.{◌≡◌, ◌*◌, ◌<◌, ◌≤◌, ℕ, true, false, get_or, length}
use Rattle.ground_model.specs.Packed.{State, has_bit}

abbrev pub HasAtomFrom : State → ℕ → Type 0
HasAtomFrom s from = (q : ℕ) × (from ≤ q) × (q < 64 * length s) × (has_bit s q ≡ true)

abbrev pub HasNoneFrom : State → ℕ → Type 0
HasNoneFrom s from = (q : ℕ) → from ≤ q → has_bit s q ≡ false

abbrev pub AgreeBelow : State → State → ℕ → Type 0
AgreeBelow s t place = (k : ℕ) → k < place → get_or s k 0 ≡ get_or t k 0
