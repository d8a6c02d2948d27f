-- The numbers of the limits, and the greatest that is within each.
use Rattle.std.specs.Prelude.{ℕ}
use Rattle.ground_model.specs.declared.limits.TheConstants.{MOST_ACTIONS, MOST_ATOMS, MOST_CHOICES, MOST_CHOICE_COST, MOST_DENOMINATOR, MOST_STARTS}
use Rattle.ground_meaning.specs.declared.refusals.limits.LimitCode.{LimitCode}
use Rattle.ground_meaning.specs.declared.refusals.limits.LimitCode.TheVariants.{Choices, Denominator, Instances, Actions, Atoms, Starts, Objects, OutcomeCost, GroundSize}
use Rattle.ground_meaning.specs.declared.refusals.limits.TheConstants.{MOST_GROUND_SIZE, MOST_INSTANCES, MOST_OBJECTS}

abbrev pub number_of : LimitCode → ℕ
number_of Choices = 20
number_of Denominator = 21
number_of Instances = 22
number_of Actions = 23
number_of Atoms = 24
number_of Starts = 25
number_of Objects = 26
number_of OutcomeCost = 27
number_of GroundSize = 29

abbrev pub most_of : LimitCode → ℕ
most_of Choices = MOST_CHOICES
most_of Denominator = MOST_DENOMINATOR
most_of Instances = MOST_INSTANCES
most_of Actions = MOST_ACTIONS
most_of Atoms = MOST_ATOMS
most_of Starts = MOST_STARTS
most_of Objects = MOST_OBJECTS
most_of OutcomeCost = MOST_CHOICE_COST
most_of GroundSize = MOST_GROUND_SIZE
