-- The laws of sizes, as statements.
--     MadeIsTyped                what a table says that is made is a typed world
--     SizesForgetValues          the values of functions do not matter to the number of bindings and to sizes
--     DenominatorsForgetValues   nor to denominators
use Rattle.std.specs.Prelude.{◌≡◌, List, IsTrue}
use Rattle.std.specs.List.{list_all}
use Rattle.ppddl_model.specs.declared.tree.Condition.{Condition}
use Rattle.ppddl_model.specs.declared.tree.Effect.{Effect}
use Rattle.ppddl_model.specs.declared.tree.ObjectDecl.{ObjectDecl}
use Rattle.ppddl_model.specs.declared.tree.Param.{Param}
use Rattle.ppddl_model.specs.declared.tree.TypeDecl.{TypeDecl}
use Rattle.ppddl_model.specs.declared.tree.ValueItem.{ValueItem}
use Rattle.ppddl_model.specs.Objects.{World, Binding, bindings}
use Rattle.type_table.specs.Types.{table_world, is_known}
use Rattle.ground_meaning.specs.choices.Joint.{den_of}
use Rattle.ground_meaning.specs.choices.Limits.{condition_size, effect_size}
use Rattle.ground_terms.specs.sizes.Typed.{IsTyped}
use Rattle.ground_terms.specs.sizes.Valued.{with_values}

abbrev pub MadeIsTyped : Type 0
MadeIsTyped = (types : List TypeDecl) (objects : List ObjectDecl) → IsTrue (list_all (is_known types) objects)
    → IsTyped (table_world types objects)

pub record SizesForgetValues : Type 0 where
  pub bound : (w : World) (values : List ValueItem) (variables : List Param) (b : Binding)
      → bindings (with_values w values) variables b ≡ bindings w variables b
  pub conditions : (w : World) (values : List ValueItem) (c : Condition) → condition_size (with_values w values) c ≡ condition_size w c
  pub effects : (w : World) (values : List ValueItem) (e : Effect) → effect_size (with_values w values) e ≡ effect_size w e

abbrev pub DenominatorsForgetValues : Type 0
DenominatorsForgetValues = (w : World) (values : List ValueItem) (e : Effect) → den_of (with_values w values) e ≡ den_of w e
