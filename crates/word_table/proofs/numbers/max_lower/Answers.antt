use Rattle.std.proofs.Common.{sym, ap, subst, ◌∙◌}
use Rattle.word_table.specs.layout.Places.{lower_at}
use Rattle.word_table.specs.view.Steps.{with_lower}
use Rattle.word_table.specs.view.Views.{CanRaise}
use Rattle.word_table.specs.Plays.{Mine}
use Rattle.word_table.specs.Seen.{Knowledge}
use Rattle.word_table.proofs.Allowed.{raise_allowed}
use Rattle.word_table.proofs.Calls.{same_table, lower_of, own_view, view_of_key, seen_after, kept_after, known_within, lower_is_a_word}
use Rattle.word_table.proofs.numbers.max_lower.Goals as goal

pub fetch_max-requires : goal.fetch_max-requires
fetch_max-requires c =
    let i = c.words.invariant in
    let v = own_view _ _ _ _ _ _ _ _ c.words.view_is c.pass.view_is c.requires.here in
    let at = lower_of _ _ _ _ _ _ _ c.words.view_is c.lower.ensures in
    let can = subst (λ (k : Knowledge). CanRaise k.view c.args.id c.args.value) (sym c.pass.view_is) c.requires.allowed in (
      same_table _ _ _ _ _ _ _ _ c.words.view_is c.pass.view_is c.requires.here,
      lower_is_a_word c.words.inside.layout _ c.args.id _ at (known_within _ _ _ v.layout c.pass.invariant.2 can.0) i.1,
      raise_allowed _ _ _ _ _ _ (view_of_key _ _ _ _ _ _ _ _ c.words.view_is c.pass.view_is c.requires.here _ _ i.3 i.4) _ c.args.id c.args.value
          (at ∙ ap (λ l. lower_at l c.args.id) (sym i.4)) can,
    )

pub invariant_of-pass : goal.invariant_of-pass
invariant_of-pass c =
    let i = c.pass.invariant in
    let v = own_view _ _ _ _ _ _ _ _ c.words.view_is c.pass.view_is c.requires.here in
    let at = lower_of _ _ _ _ _ _ _ c.words.view_is c.lower.ensures in
    let told = c.fetch_max.ensures.2 c.args.id (at ∙ ap (λ l. lower_at l c.args.id) (sym v.layout)) in
    kept_after c.pass.inside.seat.me c.fetch_max.new.seat.me _ _ told i.0 i.1 record { known = i.2.known; spare = i.2.spare }

pub returns : goal.returns
returns c =
    let v = own_view _ _ _ _ _ _ _ _ c.words.view_is c.pass.view_is c.requires.here in
    let at = lower_of _ _ _ _ _ _ _ c.words.view_is c.lower.ensures in
    let told = c.fetch_max.ensures.2 c.args.id (at ∙ ap (λ l. lower_at l c.args.id) (sym v.layout)) in
    seen_after _ _ _ _ _ (λ u. with_lower u c.args.id c.args.value) c.pass.view_is c.fetch_max.ensures.0 (ap (λ (m : Mine). m.0) told)
