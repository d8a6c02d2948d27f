-- How items are found by name: a map from each name to the place of the first item of that name.
--     entry_of e                     a name and its place, of an entry of a map
--     place_in places name           the place of a name
--     with_place places name k       the places, and behind them k for a name that has none
--     first_named name_of xs name    the first item of a name
--     ArePlaces name_of xs places    each name has the place of the first item of that name
use Rattle.std.specs.Prelude.{◌≡◌, ℕ, List, [], ◌∷◌, ◌++◌, if◌then◌else◌, is_some, position, Option, Vec}
use Rattle.std.specs.List.{find}
use Rattle.std.specs.Map.{lookup}
use Rattle.ppddl_model.specs.State.{Name, same_name}

abbrev pub entry_of : {A : Type 0} → Vec ℕ A × ℕ → Name × ℕ
entry_of e = (e.0.items, e.1)

abbrev pub place_in : List (Name × ℕ) → Name → Option ℕ
place_in places name = lookup (same_name name) places

abbrev pub with_place : List (Name × ℕ) → Name → ℕ → List (Name × ℕ)
with_place places name k = if is_some (place_in places name) then places else places ++ (name, k) ∷ []

module _ {X : Type 0} (name_of : X → Name) where
  abbrev pub first_named : List X → Name → Option X
  first_named xs name = find (λ x. same_name (name_of x) name) xs

  abbrev pub ArePlaces : List X → List (Name × ℕ) → Type 0
  ArePlaces xs places = (name : Name) → place_in places name ≡ position (λ x. same_name (name_of x) name) xs
