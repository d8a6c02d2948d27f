-- Flags of the places of a table.
--     IsMarkedBy test old new    the flags of places that pass the test were set, and no other
--     AreUses test n flags       n flags, that of place i as the test says of i
use Rattle.std.specs.Prelude.{◌≡◌, ℕ, ◌<◌, Bool, false, ◌||◌, List, length, get_or}

abbrev pub IsMarkedBy : (ℕ → Bool) → List Bool → List Bool → Type 0
IsMarkedBy test old new =
    (length new ≡ length old)
    × ((i : ℕ) → i < length old → get_or new i false ≡ (get_or old i false || test i))

abbrev pub AreUses : (ℕ → Bool) → ℕ → List Bool → Type 0
AreUses test n flags =
    (length flags ≡ n) × ((i : ℕ) → i < n → get_or flags i false ≡ test i)
