-- The states of the rows have one length.
use Rattle.std.proofs.Common.{◌≡◌, ◌+◌, ◌*◌, ◌≤◌, length, take, drop, sym, ap, ◌∙◌, arith}
use Rattle.std.specs.List.{slice_get}
use Rattle.std.proofs.Math.Nat.{mul-le-mul_left}
use Rattle.certificate.specs.Rows.{Row}
use Rattle.ground_model.specs.Choices.{is_member}
use Rattle.ground_model.specs.Packed.{words_for}
use Rattle.ground_model.proofs.Packed.{length-packed}
use Rattle.certificate_check.specs.Claims.{atom_numbers, numbers_of, row_state}
use Rattle.certificate_check.specs.GroundRows.{Claimed}
use Rattle.certificate_check.proofs.Arena.{piece_at, whole_length}
use Rattle.certificate_check.proofs.ground_rows.GroundRows.state.Goals as goal

pub overflow_mul-from : goal.overflow_mul-from
overflow_mul-from c =
    let g = c.self.inside.problem.now in
    let q = c.self.inside.certificate.now in
    let w = c.self.inside.width in
    let long : (r : Row) → length (row_state g q r) ≡ w
    = λ r. length-packed (is_member (numbers_of (atom_numbers g q) r.atoms)) (words_for (length g.atoms)) ∙ sym c.self.invariant.width_is in
    let whole : length c.self.inside.words.items ≡ length q.rows * w
    = ap length c.self.invariant.words_are ∙ whole_length (row_state g q) w long q.rows in
    let rows : length q.rows ≡ length c.args.self.now.certificate.rows = ap (λ (x : Claimed). length x.certificate.rows) c.self.view_is in
    let below : c.args.place ≤ length q.rows = omega (arith, rows, c.requires) in
    omega (arith, whole, mul-le-mul_left w below, c.self.inside.words.ok.0)

pub piece-requires : goal.piece-requires
piece-requires c =
    let g = c.self.inside.problem.now in
    let q = c.self.inside.certificate.now in
    let w = c.self.inside.width in
    let long : (r : Row) → length (row_state g q r) ≡ w
    = λ r. length-packed (is_member (numbers_of (atom_numbers g q) r.atoms)) (words_for (length g.atoms)) ∙ sym c.self.invariant.width_is in
    let whole : length c.self.inside.words.items ≡ length q.rows * w
    = ap length c.self.invariant.words_are ∙ whole_length (row_state g q) w long q.rows in
    let rows : length q.rows ≡ length c.args.self.now.certificate.rows = ap (λ (x : Claimed). length x.certificate.rows) c.self.view_is in
    let below : c.args.place + 1 ≤ length q.rows = omega (arith, rows, c.requires) in
    omega (arith, whole, mul-le-mul_left w below, ap length c.deref.ensures.value)

pub returns : goal.returns
returns c = λ r at.
    let g = c.self.inside.problem.now in
    let q = c.self.inside.certificate.now in
    let w = c.self.inside.width in
    let long : (x : Row) → length (row_state g q x) ≡ w
    = λ x. length-packed (is_member (numbers_of (atom_numbers g q) x.atoms)) (words_for (length g.atoms)) ∙ sym c.self.invariant.width_is in
    c.piece.ensures
    ∙ ap (λ xs. take w (drop (c.args.place * w) xs)) (c.deref.ensures.value ∙ c.self.invariant.words_are)
    ∙ piece_at (row_state g q) w long q.rows c.args.place r
    (ap (λ (x : Claimed). slice_get x.certificate.rows c.args.place) c.self.view_is ∙ at)
    ∙ ap (λ (x : Claimed). row_state x.problem x.certificate r) c.self.view_is
