-- What is known of a state, which is given by the numbers of the atoms that hold in it.
--     KeptRow            these numbers in rising order, the lower number in micro-units and the upper word
--     compare_kept x y   rows are ordered by their atoms
use Rattle.std.specs.Prelude.{ℕ, List}
use Rattle.std.specs.declared.cmp.Ordering.{Ordering}
use Rattle.plain_list.specs.Texts.{compare_texts}

pub record KeptRow : Type 0 where
  pub atoms : List ℕ
  pub lower : ℕ
  pub upper : ℕ

abbrev pub compare_kept : KeptRow → KeptRow → Ordering
compare_kept x y = compare_texts x.atoms y.atoms
