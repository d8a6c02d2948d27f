use Rattle.std.proofs.Common.{◌<◌, sym, ap, ◌∙◌, subst}
use Rattle.word_table.specs.declared.layout.Layout.{Layout}
use Rattle.word_table.specs.layout.Places.{state_at}
use Rattle.word_table.specs.view.Views.{knows}
use Rattle.word_table.specs.view.Steps.{with_state_word}
use Rattle.word_table.specs.Plays.{Mine}
use Rattle.word_table.specs.Seen.{Board, Knowledge}
use Rattle.word_table.proofs.Allowed.{read_allowed}
use Rattle.word_table.proofs.Calls.{same_table, own_view, view_of_key, seen_after, kept_after, known_within, state_is_a_word}
use Rattle.word_table.proofs.ids.load_word.Goals as goal

pub load-requires : goal.load-requires
load-requires c =
    let i = c.words.invariant in
    let v = own_view _ _ _ _ _ _ _ _ c.words.view_is c.pass.view_is c.requires.here in
    let small = subst (λ (m : Layout). c.args.place < m.width) (sym (ap (λ (b : Board). b.layout) c.words.view_is)) c.requires.known.1 in
    let known = subst (λ (k : Knowledge). knows k.view c.args.id) (sym c.pass.view_is) c.requires.known.0 in (
      same_table _ _ _ _ _ _ _ _ c.words.view_is c.pass.view_is c.requires.here,
      state_is_a_word c.words.inside.layout _ c.args.id c.args.place _ c.state_word.ensures (known_within _ _ _ v.layout c.pass.invariant.2 known) small i.1,
      read_allowed _ _ _ _ _ _ (view_of_key _ _ _ _ _ _ _ _ c.words.view_is c.pass.view_is c.requires.here _ _ i.3 i.4) _ c.args.id c.args.place
          (c.state_word.ensures ∙ ap (λ l. state_at l c.args.id c.args.place) (sym i.4)) known (subst (λ (m : Layout). c.args.place < m.width) (sym i.4) small),
    )

pub invariant_of-pass : goal.invariant_of-pass
invariant_of-pass c =
    let i = c.pass.invariant in
    let v = own_view _ _ _ _ _ _ _ _ c.words.view_is c.pass.view_is c.requires.here in
    let small = subst (λ (m : Layout). c.args.place < m.width) (sym (v.layout ∙ ap (λ (b : Board). b.layout) c.words.view_is)) c.requires.known.1 in
    let told = c.load.ensures.2 c.args.id c.args.place small (c.state_word.ensures ∙ ap (λ l. state_at l c.args.id c.args.place) (sym v.layout)) in
    kept_after c.pass.inside.seat.me c.load.new.seat.me _ _ told.0 i.0 i.1 record { known = i.2.known; spare = i.2.spare }

pub returns-clause-seen : goal.returns-clause-seen
returns-clause-seen c =
    let v = own_view _ _ _ _ _ _ _ _ c.words.view_is c.pass.view_is c.requires.here in
    let small = subst (λ (m : Layout). c.args.place < m.width) (sym (v.layout ∙ ap (λ (b : Board). b.layout) c.words.view_is)) c.requires.known.1 in
    let told = c.load.ensures.2 c.args.id c.args.place small (c.state_word.ensures ∙ ap (λ l. state_at l c.args.id c.args.place) (sym v.layout)) in
    seen_after _ _ _ _ _ (λ u. with_state_word u c.args.id c.args.place c.load.result) c.pass.view_is c.load.ensures.0 (ap (λ (m : Mine). m.0) told.0)

pub returns-clause-one : goal.returns-clause-one
returns-clause-one c =
    let v = own_view _ _ _ _ _ _ _ _ c.words.view_is c.pass.view_is c.requires.here in
    let small = subst (λ (m : Layout). c.args.place < m.width) (sym (v.layout ∙ ap (λ (b : Board). b.layout) c.words.view_is)) c.requires.known.1 in
    (c.load.ensures.2 c.args.id c.args.place small (c.state_word.ensures ∙ ap (λ l. state_at l c.args.id c.args.place) (sym v.layout))).1

pub returns-clause-state : goal.returns-clause-state
returns-clause-state c =
    let v = own_view _ _ _ _ _ _ _ _ c.words.view_is c.pass.view_is c.requires.here in
    let small = subst (λ (m : Layout). c.args.place < m.width) (sym (v.layout ∙ ap (λ (b : Board). b.layout) c.words.view_is)) c.requires.known.1 in
    (c.load.ensures.2 c.args.id c.args.place small (c.state_word.ensures ∙ ap (λ l. state_at l c.args.id c.args.place) (sym v.layout))).2
