use Rattle.std.proofs.Common.{sym, ap, subst, ◌∙◌}
use Rattle.word_table.specs.layout.Places.{upper_at}
use Rattle.word_table.specs.view.Steps.{with_upper_load}
use Rattle.word_table.specs.view.Views.{knows}
use Rattle.word_table.specs.rule.Told.{TellsUpper}
use Rattle.word_table.specs.Plays.{Mine}
use Rattle.word_table.specs.Seen.{Knowledge}
use Rattle.word_table.proofs.Allowed.{upper_load_allowed}
use Rattle.word_table.proofs.Calls.{same_table, upper_of, own_view, view_of_key, told_of, seen_after, kept_after, known_within, upper_is_a_word}
use Rattle.word_table.proofs.numbers.load_upper.Goals as goal

pub load-word-requires : goal.load-word-requires
load-word-requires c =
    let i = c.words.invariant in
    let v = own_view _ _ _ _ _ _ _ _ c.words.view_is c.pass.view_is c.requires.here in
    let at = upper_of _ _ _ _ _ _ _ c.words.view_is c.upper.ensures in
    let known = subst (λ (k : Knowledge). knows k.view c.args.id) (sym c.pass.view_is) c.requires.known in (
      same_table _ _ _ _ _ _ _ _ c.words.view_is c.pass.view_is c.requires.here,
      upper_is_a_word c.words.inside.layout _ c.args.id _ at (known_within _ _ _ v.layout c.pass.invariant.2 known) i.1,
      upper_load_allowed _ _ _ _ _ _ (view_of_key _ _ _ _ _ _ _ _ c.words.view_is c.pass.view_is c.requires.here _ _ i.3 i.4) _ c.args.id
          (at ∙ ap (λ l. upper_at l c.args.id) (sym i.4)) known,
    )

pub invariant_of-pass : goal.invariant_of-pass
invariant_of-pass c =
    let i = c.pass.invariant in
    let v = own_view _ _ _ _ _ _ _ _ c.words.view_is c.pass.view_is c.requires.here in
    let at = upper_of _ _ _ _ _ _ _ c.words.view_is c.upper.ensures in
    let told = c.load-word.ensures.2 c.args.id (at ∙ ap (λ l. upper_at l c.args.id) (sym v.layout)) in
    kept_after c.pass.inside.seat.me c.load-word.new.seat.me _ _ told.0 i.0 i.1 record { known = i.2.known; spare = i.2.spare }

pub returns-clause-seen : goal.returns-clause-seen
returns-clause-seen c =
    let v = own_view _ _ _ _ _ _ _ _ c.words.view_is c.pass.view_is c.requires.here in
    let at = upper_of _ _ _ _ _ _ _ c.words.view_is c.upper.ensures in
    let told = c.load-word.ensures.2 c.args.id (at ∙ ap (λ l. upper_at l c.args.id) (sym v.layout)) in
    seen_after _ _ _ _ _ (λ u. with_upper_load u c.args.id c.from_word.result) c.pass.view_is c.load-word.ensures.0
    (ap (λ (m : Mine). m.0) told.0 ∙ ap (with_upper_load c.pass.inside.seat.me.0 c.args.id) (sym c.from_word.ensures))

pub returns-clause-told : goal.returns-clause-told
returns-clause-told c =
    let v = own_view _ _ _ _ _ _ _ _ c.words.view_is c.pass.view_is c.requires.here in
    let at = upper_of _ _ _ _ _ _ _ c.words.view_is c.upper.ensures in
    let told = c.load-word.ensures.2 c.args.id (at ∙ ap (λ l. upper_at l c.args.id) (sym v.layout)) in
    told_of _ _ _ _ _ _ _ _ c.words.view_is c.pass.view_is c.requires.here (λ g u. TellsUpper g u c.args.id c.from_word.result)
    (subst (λ x. TellsUpper c.pass.inside.seat.me.0.problem c.pass.inside.seat.me.0 c.args.id x) (sym c.from_word.ensures) told.1)
