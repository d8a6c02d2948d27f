-- The row that is read is the one in its place, and its state has the problem's length.
use Rattle.std.proofs.Common.{◌≡◌, ℕ, Some, List, length, sym, ap, ◌∙◌}
use Rattle.std.specs.List.{slice_get}
use Rattle.certificate.specs.Rows.{Row}
use Rattle.certificate.specs.Content.{Content}
use Rattle.ground_model.specs.Choices.{is_member}
use Rattle.ground_model.specs.Packed.{State, words_for}
use Rattle.ground_model.proofs.Packed.{length-packed}
use Rattle.certificate_check.specs.Claims.{atom_numbers, numbers_of, row_state}
use Rattle.certificate_check.specs.GroundRows.{Claimed}

pub read_at : (x : Claimed) (q : Content) (rows : List Row) (k : ℕ) (r : Row) → q ≡ x.certificate → rows ≡ q.rows
    → slice_get rows k ≡ Some r → slice_get x.certificate.rows k ≡ Some r
read_at x q rows k r same is at =
    ap (λ (xs : List Row). slice_get xs k) (sym (is ∙ ap (λ (y : Content). y.rows) same)) ∙ at

pub state_length : (x : Claimed) (r : Row) (s : State) → s ≡ row_state x.problem x.certificate r
    → length s ≡ words_for (length x.problem.atoms)
state_length x r s is =
    ap length is
    ∙ length-packed (is_member (numbers_of (atom_numbers x.problem x.certificate) r.atoms)) (words_for (length x.problem.atoms))
