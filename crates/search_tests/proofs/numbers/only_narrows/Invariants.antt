-- The pass knows the id.
use Rattle.word_table.specs.view.Views.{knows}
use Rattle.word_table.specs.Seen.{IsOf}
use Rattle.search_tests.proofs.numbers.only_narrows.Given as goal

abbrev pub invariant-loop : goal.invariant-loop
invariant-loop l = record {
  here : IsOf l.words l.pass;
  known : knows l.pass.view l.id;
}
