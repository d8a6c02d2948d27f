-- The values that items of `:init` give to functions.
--     given values t            the value of a ground function term, None where none is given
--     cost_in values t          the value as a cost, 0 where none is given
--     values_for values f       the values that are given to terms of a function
--     least_given values f      the least of them, None where there is none
--     least_of values f         the least of them, 0 where there is none
--     AreValues values entries  the entries have the value of each term at its key
--     AreLeast values entries   the entries have the least value of each function at its name
use Rattle.std.specs.Prelude.{◌≡◌, ℕ, min, List, map, filter, Option, unwrap_or}
use Rattle.std.specs.Option.{option_map}
use Rattle.std.specs.List.{find, reduce}
use Rattle.ppddl_model.specs.declared.tree.ValueItem.{ValueItem}
use Rattle.ppddl_model.specs.State.{Name, GroundAtom}
use Rattle.ppddl_model.specs.Functions.{is_value_of, is_value_for, least_or}
use Rattle.ground_terms.specs.terms.Keys.{key_of}
use Rattle.ground_terms.specs.terms.Maps.{number_in}

abbrev pub value_in_item : ValueItem → ℕ
value_in_item item = item.value

module _ (values : List ValueItem) where
  abbrev pub given : GroundAtom → Option ℕ
  given t = option_map value_in_item (find (is_value_of t) values)

  abbrev pub cost_in : GroundAtom → ℕ
  cost_in t = unwrap_or (given t) 0

  abbrev pub values_for : Name → List ℕ
  values_for f = map value_in_item (filter (is_value_for f) values)

  abbrev pub least_given : Name → Option ℕ
  least_given f = reduce min (values_for f)

  abbrev pub least_of : Name → ℕ
  least_of f = least_or 0 (values_for f)

  abbrev pub AreValues : List (Name × ℕ) → Type 0
  AreValues entries = (t : GroundAtom) → number_in entries (key_of t) ≡ given t

  abbrev pub AreLeast : List (Name × ℕ) → Type 0
  AreLeast entries = (f : Name) → number_in entries f ≡ least_given f
