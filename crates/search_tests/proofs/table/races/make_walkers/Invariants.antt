-- So many walkers have a right each.
use Rattle.std.proofs.Common.{◌≡◌, ◌+◌, length, None}
use Rattle.std.specs.Prelude.{All}
use Rattle.word_table.specs.Seen.{IsOf}
use Rattle.search_tests.specs.Steps.{CanWalk}
use Rattle.search_tests.proofs.table.races.make_walkers.Given as goal

abbrev pub invariant-loop-index : goal.invariant-loop-index
invariant-loop-index l = record {
  count : length l.walkers.items ≡ l.index;
  can : All (λ w. CanWalk l.words w.pass) l.walkers.items;
  here : IsOf l.words l.pass;
  free : l.pass.view.spare ≡ None;
  rights : l.pass.view.rights + l.index ≡ l.fn.pass.view.rights;
}
