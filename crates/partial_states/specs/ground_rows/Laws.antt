-- The laws of partial rows of a ground problem, as statements.
--     LyingIsAdmitted             in a state that lies in a partial state, each atom's truth is what this says of it
--     GroundRowsAreSuperSolution  the values of partial rows, each of which passes its test, with their acts, are a super-solution of the
--                                 Bellman equation
use Rattle.std.specs.Prelude.{◌≡◌, ℕ, true, List, Contains}
use Rattle.balanced_pair.specs.Pairs.{IsSuperSolution}
use Rattle.balanced_pair.specs.partial_rows.PartialRows.{partial_high, partial_act}
use Rattle.ground_model.specs.Packed.{State, has_bit}
use Rattle.ground_model.specs.Ground.{Ground}
use Rattle.ground_model.specs.Steps.{ground_process}
use Rattle.partial_states.specs.Known.{AdmitsEach}
use Rattle.partial_states.specs.ground_rows.GroundRows.{PartialState, known_at, lies_in, GroundRow, rows_of, IsGroundRow}

abbrev pub LyingIsAdmitted : Type 0
LyingIsAdmitted = (n : ℕ) (s : State) (t : PartialState) → lies_in n s t ≡ true
    → AdmitsEach (known_at t) (has_bit s)

abbrev pub GroundRowsAreSuperSolution : Ground → Type 0
GroundRowsAreSuperSolution g = (rows : List GroundRow)
    → ((row : GroundRow) → Contains rows row → IsGroundRow g rows row)
    → IsSuperSolution (ground_process g) (partial_high (ground_process g) (rows_of g rows))
    (partial_act (ground_process g) (rows_of g rows))
