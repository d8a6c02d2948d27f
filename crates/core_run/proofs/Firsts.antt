-- First words are worth no more than the greatest penalty.
use Rattle.std.proofs.Common.{◌≡◌, ◌≤◌, List, ap, inl, inr, ◌∙◌, arith}
use Rattle.std.proofs.lemmas.Bool.{cases_Bool}
use Rattle.fixed_round.specs.Words.{value_of}
use Rattle.ground_model.specs.declared.limits.TheConstants.{MOST_PENALTY}
use Rattle.ground_model.specs.Packed.{State}
use Rattle.ground_model.specs.Ground.{Ground}
use Rattle.ground_model.specs.Invariant.{IsGroundProblem}
use Rattle.ground_model.specs.Steps.{ground_process}
use Rattle.bound_core.specs.declared.id_row.IdRow.{IdRow}
use Rattle.bound_core.specs.declared.worker.Seen.{Seen}
use Rattle.bound_core.specs.Numbers.{first_word}
use Rattle.bound_core.specs.Shown.{seen_upper_in}
use Rattle.bound_core.proofs.Numbers.{value_rises, first_word_at_goal, first_value_elsewhere}
use Rattle.core_run.proofs.Entries.{upper-le_first}

first_value_within : (g : Ground) → IsGroundProblem g → (s : State) → value_of (first_word g s) ≤ MOST_PENALTY
first_value_within g is s = elim (cases_Bool ((ground_process g).goal s)) [
  | inl on ↦ let none : value_of (first_word g s) ≡ 0 = ap value_of (first_word_at_goal g s on) ∙ omega arith in omega arith
  | inr off ↦ omega (arith, first_value_elsewhere g s off, is.penalty_within)
]

pub seen_value_within : (g : Ground) → IsGroundProblem g → (ids : List IdRow) (seen : List Seen) (s : State)
    → value_of (seen_upper_in ids (first_word g s) seen s) ≤ MOST_PENALTY
seen_value_within g is ids seen s =
    omega (arith, value_rises (seen_upper_in ids (first_word g s) seen s) (first_word g s) (upper-le_first ids (first_word g s) seen s), first_value_within g is s)
