use Rattle.std.proofs.Common.{◌≡◌, None, sym, subst}
use Rattle.word_table.specs.Seen.{Knowledge}
use Rattle.word_table.proofs.Allowed.{rights_join_allowed}
use Rattle.word_table.proofs.Calls.{same_table, view_of_key, count_is_a_word}
use Rattle.word_table.proofs.seats.take_rights.Goals as goal

pub join_seat-requires : goal.join_seat-requires
join_seat-requires c = let i = c.words.invariant in (
  same_table _ _ _ _ _ _ _ _ c.words.view_is c.pass.view_is c.requires.here.0,
  same_table _ _ _ _ _ _ _ _ c.words.view_is c.other.view_is c.requires.here.1,
  c.other.invariant.0,
  count_is_a_word c.words.inside.layout _ i.1,
  rights_join_allowed _ _ _ _ _ (view_of_key _ _ _ _ _ _ _ _ c.words.view_is c.pass.view_is c.requires.here.0 _ _ i.3 i.4) _ _
      (view_of_key _ _ _ _ _ _ _ _ c.words.view_is c.other.view_is c.requires.here.1 _ _ i.3 i.4)
      (subst (λ (k : Knowledge). k.view.spare ≡ None) (sym c.other.view_is) c.requires.free),
)
