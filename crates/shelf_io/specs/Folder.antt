-- What the calls of a write do to what a folder tells of its names.
--     part_name name number      the name of a new file beside a name
--     cleared told               what is told of a name once no file has it
--     Grows before now more      the file under a name holds more behind what it held
--     Gives from to old new      the name `to` holds what the file under `from` held
--     OnlyAt name old new        of every other name the same is told
--     OnlyIn name part old new   of every name but these two the same is told
--     IsWhole before now bytes   a name tells what it told, or that it holds all the bytes
--     Leaves name old new stays  another name tells what it told, or the file under it stays
use Rattle.std.specs.Prelude.{◌≡◌, ◌≢◌, ◌⊎◌, ℕ, List, ◌++◌, codes, decimal}
use Rattle.shelf_io.specs.Shelf.{Told, Untold, Missing, Holds, MayHold, written}

abbrev pub part_name : List ℕ → ℕ → List ℕ
part_name name number = name ++ codes "." ++ decimal number ++ codes ".part"

-- nothing is still told of an untold name
abbrev pub cleared : Told → Told
cleared Untold = Untold
cleared Missing = Missing
cleared (Holds _) = Missing

abbrev pub Grows : Told → Told → List ℕ → Type 0
Grows before now more = (bytes : List ℕ) → MayHold before bytes → MayHold now (bytes ++ more)

abbrev pub Gives : List ℕ → List ℕ → (List ℕ → Told) → (List ℕ → Told) → Type 0
Gives from to old new =
    (bytes : List ℕ) → MayHold (old from) bytes → new to ≡ written (old to) bytes

abbrev pub OnlyAt : List ℕ → (List ℕ → Told) → (List ℕ → Told) → Type 0
OnlyAt name old new = (other : List ℕ) → other ≢ name → new other ≡ old other

abbrev pub OnlyIn : List ℕ → List ℕ → (List ℕ → Told) → (List ℕ → Told) → Type 0
OnlyIn name part old new = (other : List ℕ) → other ≢ name → other ≢ part → new other ≡ old other

abbrev pub IsWhole : Told → Told → List ℕ → Type 0
IsWhole before now bytes = (now ≡ before) ⊎ (now ≡ written before bytes)

abbrev pub Leaves : List ℕ → (List ℕ → Told) → (List ℕ → Told) → (List ℕ → Type 0) → Type 0
Leaves name old new stays =
    (other : List ℕ) → other ≢ name → (new other ≡ old other) ⊎ stays other
