use Rattle.std.proofs.Common.{◌<◌, sym, ap, ◌∙◌, subst}
use Rattle.word_table.specs.declared.layout.Layout.{Layout}
use Rattle.word_table.specs.layout.Places.{state_at}
use Rattle.word_table.specs.view.Steps.{with_written}
use Rattle.word_table.specs.Plays.{Mine}
use Rattle.word_table.specs.Seen.{Board}
use Rattle.word_table.proofs.Allowed.{write_allowed}
use Rattle.word_table.proofs.Calls.{same_table, own_view, view_of_key, seen_after, kept_after, spare_within, state_is_a_word}
use Rattle.word_table.proofs.ids.write_word.Goals as goal

pub store-requires : goal.store-requires
store-requires c =
    let i = c.words.invariant in
    let v = own_view _ _ _ _ _ _ _ _ c.words.view_is c.pass.view_is c.requires.here in
    let small = subst (λ (m : Layout). c.args.place < m.width) (sym (ap (λ (b : Board). b.layout) c.words.view_is)) c.requires.spare.1 in
    let mine = sym c.pass.invariant.1 ∙ c.in-Some.is in (
      same_table _ _ _ _ _ _ _ _ c.words.view_is c.pass.view_is c.requires.here,
      state_is_a_word c.words.inside.layout _ c.in-Some.id c.args.place _ c.state_word.ensures (spare_within _ _ _ v.layout c.pass.invariant.2 mine) small i.1,
      write_allowed _ _ _ _ _ _ (view_of_key _ _ _ _ _ _ _ _ c.words.view_is c.pass.view_is c.requires.here _ _ i.3 i.4) _ c.in-Some.id c.args.place c.args.word
          (c.state_word.ensures ∙ ap (λ l. state_at l c.in-Some.id c.args.place) (sym i.4)) mine (subst (λ (m : Layout). c.args.place < m.width) (sym i.4) small),
    )

pub invariant_of-pass : goal.invariant_of-pass
invariant_of-pass c =
    let i = c.pass.invariant in
    let v = own_view _ _ _ _ _ _ _ _ c.words.view_is c.pass.view_is c.requires.here in
    let small = subst (λ (m : Layout). c.args.place < m.width) (sym (v.layout ∙ ap (λ (b : Board). b.layout) c.words.view_is)) c.requires.spare.1 in
    let told = c.store.ensures.2 c.in-Some.id c.args.place (sym i.1 ∙ c.in-Some.is) small (c.state_word.ensures ∙ ap (λ l. state_at l c.in-Some.id c.args.place) (sym v.layout)) in
    kept_after c.pass.inside.seat.me c.store.new.seat.me _ _ told i.0 i.1 record { known = i.2.known; spare = i.2.spare }

pub returns : goal.returns
returns c =
    let i = c.pass.invariant in
    let v = own_view _ _ _ _ _ _ _ _ c.words.view_is c.pass.view_is c.requires.here in
    let small = subst (λ (m : Layout). c.args.place < m.width) (sym (v.layout ∙ ap (λ (b : Board). b.layout) c.words.view_is)) c.requires.spare.1 in
    let told = c.store.ensures.2 c.in-Some.id c.args.place (sym i.1 ∙ c.in-Some.is) small (c.state_word.ensures ∙ ap (λ l. state_at l c.in-Some.id c.args.place) (sym v.layout)) in
    seen_after _ _ _ _ _ (λ u. with_written u c.args.place c.args.word) c.pass.view_is c.store.ensures.0 (ap (λ (m : Mine). m.0) told)
