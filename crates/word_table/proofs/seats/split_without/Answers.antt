use Rattle.word_table.proofs.Allowed.{split_allowed}
use Rattle.word_table.proofs.Calls.{same_table, view_of_key, count_is_a_word}
use Rattle.word_table.proofs.seats.split_without.Goals as goal

pub split_seat-seat-requires : goal.split_seat-seat-requires
split_seat-seat-requires c = let i = c.words.invariant in (
  same_table _ _ _ _ _ _ _ _ c.words.view_is c.pass.view_is c.requires,
  count_is_a_word c.words.inside.layout _ i.1,
  split_allowed _ _ _ _ _ (view_of_key _ _ _ _ _ _ _ _ c.words.view_is c.pass.view_is c.requires _ _ i.3 i.4),
)
