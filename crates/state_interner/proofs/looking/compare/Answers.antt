-- One word more is noted, or another one.
use Rattle.std.proofs.Common.{◌≡◌, get_or, refl, sym, ap, ◌∙◌, rules, arith}
use Rattle.std.proofs.lemmas.Grind.{common_steps}
use Rattle.word_table.specs.declared.layout.Layout.{Layout}
use Rattle.state_interner.proofs.Words.{one_word_more, compares_more, all_compared}
use Rattle.state_interner.proofs.looking.compare.Goals as goal

pub returns-then-load_word-own-clause-seen : goal.returns-then-load_word-own-clause-seen
returns-then-load_word-own-clause-seen c =
    one_word_more c.args.pass.now c.loop-place.pass c.load_word.new.pass c.args.id c.args.state.now c.loop-place.place c.load_word.result
    c.loop-place.invariant c.load_word.ensures.seen

pub loop-place-preserved : goal.loop-place-preserved
loop-place-preserved c =
    let same : c.load_word.result ≡ get_or c.args.state.now c.loop-place.place 0 = first_of (cc, search rules, grind (arith, common_steps)) in
    compares_more c.args.pass.now c.loop-place.pass c.load_word.new.pass c.args.id c.args.state.now c.loop-place.place c.load_word.result
    c.loop-place.invariant c.load_word.ensures.seen same

pub returns-clause-told : goal.returns-clause-told
returns-clause-told c =
    let past = c.loop-place-test.false in
    let width = c.width-place-end.ensures.value in
    let wide = c.requires.state in (
      refl,
      all_compared c.args.pass.now c.loop-place.pass c.args.id c.args.state.now c.loop-place.place c.loop-place.invariant (omega arith)
          (wide ∙ sym (ap (λ (l : Layout). l.width) c.requires.here.view.layout)),
    )
