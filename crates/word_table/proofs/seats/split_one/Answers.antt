use Rattle.std.proofs.Common.{◌≡◌, ◌<◌, ℕ, Some, sym, subst}
use Rattle.word_table.specs.Seen.{Knowledge}
use Rattle.word_table.proofs.Allowed.{one_right_allowed}
use Rattle.word_table.proofs.Calls.{same_table, view_of_key, count_is_a_word}
use Rattle.word_table.proofs.seats.split_one.Goals as goal

pub split_seat-seat-requires : goal.split_seat-seat-requires
split_seat-seat-requires c = let i = c.words.invariant in (
  same_table _ _ _ _ _ _ _ _ c.words.view_is c.pass.view_is c.requires.here,
  count_is_a_word c.words.inside.layout _ i.1,
  one_right_allowed _ _ _ _ _ (view_of_key _ _ _ _ _ _ _ _ c.words.view_is c.pass.view_is c.requires.here _ _ i.3 i.4)
      (subst (λ (k : Knowledge). 0 < k.view.rights) (sym c.pass.view_is) c.requires.right)
      (subst (λ (k : Knowledge). (id : ℕ) → k.view.spare ≡ Some id → 1 < k.view.rights) (sym c.pass.view_is) c.requires.keeps),
)
