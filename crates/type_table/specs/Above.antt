-- What stands above each type, as lists of types.
--     rows_of above            for each type the types that are reached from it, itself first
--     IsSound above            the ranks tell how deep each type stands
use Rattle.std.specs.Prelude.{ℕ, List, map, length}
use Rattle.std.specs.List.{range_with_len}
use Rattle.type_table.specs.declared.above.Above.{Above}
use Rattle.type_table.specs.declared.above.Above.TheVariants.{Single, Several}
use Rattle.type_table.specs.Forest.{IsForest, upward_path}

abbrev pub rows_of : Above → List (List ℕ)
rows_of (Single forest) = map (upward_path forest.parents forest.ranks) (range_with_len 0 (length forest.parents))
rows_of (Several rows) = rows

abbrev pub IsSound : Above → Type 0
IsSound (Single forest) = IsForest forest.parents forest.ranks
IsSound (Several rows) = Unit {0}
