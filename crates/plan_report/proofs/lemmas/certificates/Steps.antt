-- What the steps of building ask for.
use Rattle.std.proofs.Common.{◌<◌, List, length}
use Rattle.std.specs.Prelude.{All}
use Rattle.std.specs.List.Sorted.{IsPermutation}
use Rattle.ground_model.specs.Ground.{Ground}
use Rattle.ground_model.specs.Invariant.{IsGroundProblem}
use Rattle.bound_core.specs.declared.image.ImageRow.{ImageRow}
use Rattle.bound_core.specs.ends.Closing.{IsClosing}
use Rattle.plan_report.specs.certificates.RowsKept.{KeptRow}
use Rattle.plan_report.specs.certificates.Kept.{IsShort, kept_rows, used_atoms, HaveAtomsBelow}
use Rattle.plan_report.proofs.lemmas.certificates.Lists.{members_all}
use Rattle.plan_report.proofs.lemmas.certificates.Insides.{reached_inside, inside_short}
use Rattle.plan_report.proofs.lemmas.certificates.Used.{used_from}
use Rattle.plan_report.proofs.lemmas.certificates.KeptRows.{kept_below}

module _ (g : Ground) (rows : List ImageRow) (valid : IsGroundProblem g) (closing : IsClosing g rows) where
  pub rows_short : All IsShort rows
  rows_short = members_all IsShort rows (λ row held. inside_short g valid row.state (reached_inside g valid row.state (closing.reached row held)))

  module _ (kept : List KeptRow) (moved : IsPermutation (kept_rows g rows) kept) where
    pub used_below : All (λ q. q < length g.atoms) (used_atoms g kept)
    used_below =
        members_all (λ q. q < length g.atoms) (used_atoms g kept) (λ q inside.
        let from = used_from g kept q inside in kept_below g rows kept moved valid closing from.0 from.1 q from.2)

    pub atoms_below : HaveAtomsBelow (length g.atoms) kept
    atoms_below =
        members_all (λ (r : KeptRow). All (λ q. q < length g.atoms) r.atoms) kept (λ r there.
        members_all (λ q. q < length g.atoms) r.atoms (λ q inside. kept_below g rows kept moved valid closing r there q inside))
