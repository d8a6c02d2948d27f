-- Names by number: the number of a name is its place.
--     each_once names      the names, each at its first place
--     number_of names n    the place of a name, None where it is not there
--     name_at names k      the name at a place
--     with_name names n    the names, and behind them n where it is not there
use Rattle.std.specs.Prelude.{ℕ, not, if◌then◌else◌, List, [], ◌∷◌, ◌++◌, filter, slice_index_or, position, Option}
use Rattle.std.specs.List.{list_any}
use Rattle.ppddl_model.specs.State.{Name, same_name}

abbrev pub each_once : List Name → List Name
each_once [] = []
each_once (name ∷ more) = name ∷ filter (λ (x : Name). not (same_name x name)) (each_once more)

abbrev pub number_of : List Name → Name → Option ℕ
number_of names name = position (same_name name) names

abbrev pub name_at : List Name → ℕ → Name
name_at names k = slice_index_or names k []

abbrev pub with_name : List Name → Name → List Name
with_name names name = if list_any (same_name name) names then names else names ++ name ∷ []
