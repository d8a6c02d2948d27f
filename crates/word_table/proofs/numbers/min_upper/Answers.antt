use Rattle.std.proofs.Common.{sym, ap, subst, ◌∙◌}
use Rattle.word_table.specs.layout.Places.{upper_at}
use Rattle.word_table.specs.view.Steps.{with_upper}
use Rattle.word_table.specs.view.Views.{CanSink}
use Rattle.word_table.specs.Plays.{Mine}
use Rattle.word_table.specs.Seen.{Knowledge}
use Rattle.word_table.proofs.Allowed.{sink_allowed}
use Rattle.word_table.proofs.Calls.{same_table, upper_of, own_view, view_of_key, seen_after, kept_after, known_within, upper_is_a_word}
use Rattle.word_table.proofs.numbers.min_upper.Goals as goal

pub fetch_min-requires : goal.fetch_min-requires
fetch_min-requires c =
    let i = c.words.invariant in
    let v = own_view _ _ _ _ _ _ _ _ c.words.view_is c.pass.view_is c.requires.here in
    let at = upper_of _ _ _ _ _ _ _ c.words.view_is c.upper.ensures in
    let can = subst (λ (k : Knowledge). CanSink k.view c.args.id c.args.upper) (sym c.pass.view_is) c.requires.allowed in
    let word = subst (λ x. CanSink c.pass.inside.seat.me.0 c.args.id x) (sym c.word.ensures) can in (
      same_table _ _ _ _ _ _ _ _ c.words.view_is c.pass.view_is c.requires.here,
      upper_is_a_word c.words.inside.layout _ c.args.id _ at (known_within _ _ _ v.layout c.pass.invariant.2 can.0) i.1,
      sink_allowed _ _ _ _ _ _ (view_of_key _ _ _ _ _ _ _ _ c.words.view_is c.pass.view_is c.requires.here _ _ i.3 i.4) _ c.args.id c.word.result
          (at ∙ ap (λ l. upper_at l c.args.id) (sym i.4)) word,
    )

pub invariant_of-pass : goal.invariant_of-pass
invariant_of-pass c =
    let i = c.pass.invariant in
    let v = own_view _ _ _ _ _ _ _ _ c.words.view_is c.pass.view_is c.requires.here in
    let at = upper_of _ _ _ _ _ _ _ c.words.view_is c.upper.ensures in
    let told = c.fetch_min.ensures.2 c.args.id (at ∙ ap (λ l. upper_at l c.args.id) (sym v.layout)) in
    kept_after c.pass.inside.seat.me c.fetch_min.new.seat.me _ _ told i.0 i.1 record { known = i.2.known; spare = i.2.spare }

pub returns : goal.returns
returns c =
    let v = own_view _ _ _ _ _ _ _ _ c.words.view_is c.pass.view_is c.requires.here in
    let at = upper_of _ _ _ _ _ _ _ c.words.view_is c.upper.ensures in
    let told = c.fetch_min.ensures.2 c.args.id (at ∙ ap (λ l. upper_at l c.args.id) (sym v.layout)) in
    seen_after _ _ _ _ _ (λ u. with_upper u c.args.id c.args.upper) c.pass.view_is c.fetch_min.ensures.0
    (ap (λ (m : Mine). m.0) told ∙ ap (with_upper c.pass.inside.seat.me.0 c.args.id) c.word.ensures)
