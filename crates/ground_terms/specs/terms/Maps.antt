-- Names with a number each.
--     entry_of e                   a name and its number, of an entry of a map
--     number_in entries name       the number of a name
--     with_number entries name n   the entries with n as the number of the name, behind the others where it had none
--     with_first entries name n    so where it had none, and else the entries
--     with_least entries name n    so where n is less than what it had, or it had none
--     lower o n                    the lower of n and of the number that there was, if any
use Rattle.std.specs.Prelude.{ℕ, min, List, [], ◌∷◌, if◌then◌else◌, is_some, Option, Some, None, Vec}
use Rattle.std.specs.Map.{lookup}
use Rattle.ppddl_model.specs.State.{Name, same_name}

abbrev pub entry_of : {A : Type 0} → Vec ℕ A × ℕ → Name × ℕ
entry_of e = (e.0.items, e.1)

abbrev pub number_in : List (Name × ℕ) → Name → Option ℕ
number_in entries name = lookup (same_name name) entries

abbrev pub with_number : List (Name × ℕ) → Name → ℕ → List (Name × ℕ)
with_number [] name n = (name, n) ∷ []
with_number (e ∷ entries) name n = if same_name name e.0 then (e.0, n) ∷ entries else e ∷ with_number entries name n

abbrev pub with_first : List (Name × ℕ) → Name → ℕ → List (Name × ℕ)
with_first entries name n = if is_some (number_in entries name) then entries else with_number entries name n

abbrev pub lower : Option ℕ → ℕ → ℕ
lower None n = n
lower (Some known) n = min known n

abbrev pub with_least : List (Name × ℕ) → Name → ℕ → List (Name × ℕ)
with_least entries name n = with_number entries name (lower (number_in entries name) n)
