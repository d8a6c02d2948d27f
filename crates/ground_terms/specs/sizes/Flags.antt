-- Flags of objects by number.
--     IsMarkedBy test old new    the flags of numbers that pass the test were set, and no other
--     AreFlags w kinds flags     a flag is set exactly where the object is of any of these types
use Rattle.std.specs.Prelude.{◌≡◌, ℕ, ◌<◌, Bool, false, ◌||◌, List, length, get_or}
use Rattle.std.specs.List.{list_any}
use Rattle.ppddl_model.specs.State.{Name}
use Rattle.ppddl_model.specs.Objects.{World, is_under}
use Rattle.type_table.specs.Types.{kind_at}

abbrev pub IsMarkedBy : (ℕ → Bool) → List Bool → List Bool → Type 0
IsMarkedBy test old new =
    (length new ≡ length old)
    × ((i : ℕ) → i < length old → get_or new i false ≡ (get_or old i false || test i))

abbrev pub AreFlags : World → List Name → List Bool → Type 0
AreFlags w kinds flags = (i : ℕ) → i < length flags → i < length w.objects
    → get_or flags i false ≡ list_any (is_under w (kind_at w i)) kinds
