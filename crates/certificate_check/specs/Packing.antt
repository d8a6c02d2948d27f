-- Rows that are packed one after another.
--     NumbersDiffer numbers      no two entries of a table have one number
--     AtomsRise rows             the atoms of each row rise
--     state_by numbers atoms n   the state of n words in which the numbers of these atoms are true, and no other
use Rattle.std.specs.Prelude.{◌≡◌, ℕ, Option, Some, IsTrue, List}
use Rattle.std.specs.List.{AllByRecursion}
use Rattle.std.specs.Ordering.{nat_cmp}
use Rattle.plain_list.specs.Texts.{rises}
use Rattle.certificate.specs.Rows.{Row}
use Rattle.ground_model.specs.Packed.{State}
use Rattle.ground_step.specs.Atoms.{state_of}
use Rattle.certificate_check.specs.Claims.{number_at, numbers_of}

abbrev pub NumbersDiffer : List (Option ℕ) → Type 0
NumbersDiffer numbers = (i j q : ℕ) → number_at numbers i ≡ Some q → number_at numbers j ≡ Some q → i ≡ j

abbrev pub AtomsRise : List Row → Type 0
AtomsRise rows = AllByRecursion (λ (r : Row). IsTrue (rises nat_cmp r.atoms)) rows

abbrev pub state_by : List (Option ℕ) → List ℕ → ℕ → State
state_by numbers atoms n = state_of (numbers_of numbers atoms) n
