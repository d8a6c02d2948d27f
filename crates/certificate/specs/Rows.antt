-- Rows, and how an arena holds them.
--     Row                  a state by the numbers of its atoms, bounds on its value, and an act
--     row_within numbers h     the row of a head, whose numbers lie in this range of them all
--     IsWithin n h         the range of the head lies in n numbers
--     shown view           the row that a view shows
use Rattle.std.specs.Prelude.{ℕ, ◌-◌, ◌≤◌, List, take, drop}
use Rattle.certificate.specs.declared.act.Act.{Act}
use Rattle.certificate.specs.declared.rows.Head.{Head}
use Rattle.certificate.specs.declared.row_view.RowView.{RowView}

pub record Row : Type 0 where
  pub lower : ℕ
  pub upper : ℕ
  pub act : Act
  pub atoms : List ℕ

abbrev pub row_within : List ℕ → Head → Row
row_within numbers h = record {
  lower = h.lower;
  upper = h.upper;
  act = h.act;
  atoms = take (h.to - h.from) (drop h.from numbers);
}

abbrev pub IsWithin : ℕ → Head → Type 0
IsWithin n h = (h.from ≤ h.to) × (h.to ≤ n)

abbrev pub shown : RowView → Row
shown v = record { lower = v.lower; upper = v.upper; act = v.act; atoms = v.atoms.now }
