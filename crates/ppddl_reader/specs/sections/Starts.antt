-- `:init`.
-- Source: PPDDL 1.0. What an item says of functions stands apart from what it says of atoms. The facts come first, whatever stands between
-- them in the text, and then what comes by chance, each in the order of the text.
--     behind_facts i l
--                    the item behind the facts with which the list begins
--     put s i        an item behind the others of its kind
--     started d s    one item more
--     start d        ITEM*
use Rattle.std.specs.Prelude.{List, [], ◌∷◌, ◌++◌, Result, Ok}
use Rattle.ppddl_model.specs.declared.tree.InitItem.{InitItem}
use Rattle.ppddl_model.specs.declared.tree.InitItem.TheVariants as tree
use Rattle.ppddl_forms.specs.names.Declarations.{Declared}
use Rattle.ppddl_cursor.specs.declared.place.Place.{Place}
use Rattle.ppddl_cursor.specs.Forms.{Form, Forms}
use Rattle.ppddl_cursor.specs.Reading.{Fault}
use Rattle.ppddl_cursor.specs.Sequences.{checking, each}
use Rattle.ppddl_forms.specs.items.Items.{item}
use Rattle.ppddl_reader.specs.declared.sections.start.Start.{Start}

abbrev pub no_items : Start
no_items = record { items = []; values = [] }

abbrev pub behind_facts : InitItem → List InitItem → List InitItem
behind_facts i [] = i ∷ []
behind_facts i (tree.Fact x ∷ l) = tree.Fact x ∷ behind_facts i l
behind_facts i (tree.Chance branches ∷ l) = i ∷ tree.Chance branches ∷ l
behind_facts i (tree.Value v ∷ l) = i ∷ tree.Value v ∷ l

abbrev pub put : Start → InitItem → Start
put s (tree.Fact x) = record { items = behind_facts (tree.Fact x) s.items; values = s.values }
put s (tree.Chance branches) = record { items = s.items ++ tree.Chance branches ∷ []; values = s.values }
put s (tree.Value v) = record { items = s.items; values = s.values ++ v ∷ [] }

module _ (d : Declared) where
  unfoldable pub started : Start → Form → Result Start Fault
  started s = checking (λ i. Ok (put s i)) (item d s.values)

  unfoldable pub start_behind : Start → Forms → Place → Result Start Fault
  start_behind = each started

abbrev pub start : Declared → Forms → Place → Result Start Fault
start d = start_behind d no_items
