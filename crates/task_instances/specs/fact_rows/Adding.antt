-- Names, or rows of numbers, that are put into a set one after another.
--     with_names names more    the names, and behind them those of more that are not there, each at its first place
use Rattle.std.specs.Prelude.{List, [], ◌∷◌}
use Rattle.ppddl_model.specs.State.{Name}
use Rattle.type_table.specs.Numbered.{with_name}

abbrev pub with_names : List Name → List Name → List Name
with_names names [] = names
with_names names (name ∷ more) = with_names (with_name names name) more
