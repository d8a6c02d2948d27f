-- What names stand for where an effect or a condition is grounded.
--     world_of b        the types and objects of the table, with the values of functions
--     numbering_of b    how atoms are numbered
--     always holds      the condition that is always this
use Rattle.std.specs.Prelude.{Bool, true, false}
use Rattle.ppddl_model.specs.Objects.{World}
use Rattle.ground_model.specs.declared.condition.GroundCondition.{GroundCondition}
use Rattle.ground_model.specs.declared.condition.GroundCondition.TheVariants.{True, False}
use Rattle.ground_meaning.specs.choices.Numbering.{Numbering}
use Rattle.ground_terms.specs.sizes.Valued.{with_values}
use Rattle.outcome_dist.specs.declared.conditions.binding.Binding.{Binding}

abbrev pub world_of : Binding → World
world_of b = with_values b.table.now b.values.now

abbrev pub numbering_of : Binding → Numbering
numbering_of b = record { atoms = b.atoms.now; facts = b.facts.now }

abbrev pub always : Bool → GroundCondition
always holds = elim holds [ true ↦ True | false ↦ False ]
