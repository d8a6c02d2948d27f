-- The order of rows that are kept: their atoms decide.
use Rattle.std.proofs.Common.{◌≡◌, false, Ordering}
use Rattle.std.specs.Ordering.{is_lt}
use Rattle.plain_list.specs.Texts.{compare_texts}
use Rattle.plan_report.specs.certificates.RowsKept.{KeptRow, compare_kept}

abbrev pub row_order : KeptRow → KeptRow → Ordering
row_order = compare_kept

pub atoms_decide : (x y : KeptRow) → is_lt (row_order y x) ≡ false → is_lt (compare_texts y.atoms x.atoms) ≡ false
atoms_decide x y below = below
