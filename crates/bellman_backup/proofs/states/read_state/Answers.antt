use Rattle.std.proofs.Common.{◌≡◌, ◌+◌, ◌<◌, ℕ, List, length, slice_set, sym, ap, ◌∙◌, subst, arith}
use Rattle.std.proofs.Math.ListN.{length-set}
use Rattle.word_table.specs.declared.layout.Layout.{Layout}
use Rattle.word_table.specs.view.Steps.{with_state_word}
use Rattle.word_table.specs.Seen.{Knowledge}
use Rattle.bellman_backup.proofs.Keeping.{keeps_again, keeps_word, grows}
use Rattle.bellman_backup.proofs.WordsRead.{AreNoted, noted_more, has_noted, state_is_read}
use Rattle.bellman_backup.proofs.states.read_state.Goals as goal

pub loop-place-preserved : goal.loop-place-preserved
loop-place-preserved c =
    let b = c.args.words.now in let k = c.args.pass.now in let l = c.loop-place.pass in let m = c.load_word-word.new.pass in
    let i = c.loop-place.invariant in let id = c.args.id in let place = c.loop-place.place in let x = c.load_word-word.result in
    let seen = c.load_word-word.ensures.seen in
    let test = c.loop-place-test.true in let end = c.width-place-end.ensures.value in let wide = c.width-place-end.ensures.table.width in
    let long = i.long in
    let inside : place < length c.loop-place.into = omega arith in
    let more : AreNoted (with_state_word l.view id place x).words id (slice_set c.loop-place.into place x) (place + 1)
    = noted_more l.view.words id c.loop-place.into place x inside i.noted in record {
      keeps = keeps_again b k l m i.keeps (keeps_word b l m id place x i.keeps.here seen);
      loads = ap (λ (n : Knowledge). n.view.loads) seen ∙ i.loads;
      spare = ap (λ (n : Knowledge). n.view.spare) seen ∙ i.spare;
      long = (let e = ap length c.set_word.ensures in omega (arith, length-set {A = ℕ}));
      noted = subst (λ (n : Knowledge). AreNoted n.view.words id c.set_word.new.self (place + 1)) (sym seen)
          (subst (λ (s : List ℕ). AreNoted (with_state_word l.view id place x).words id s (place + 1)) (sym c.set_word.ensures) more);
      one = λ _. c.load_word-word.ensures.state;
    }

pub returns-clause-state : goal.returns-clause-state
returns-clause-state c =
    let b = c.args.words.now in let k = c.args.pass.now in let l = c.loop-place.pass in
    let i = c.loop-place.invariant in let id = c.args.id in let s = c.loop-place.into in
    let test = c.loop-place-test.false in let end = c.width-place-end.ensures.value in let table = c.width-place-end.ensures.table in
    let wide = table.width in let some = table.layout.some_words in let long = i.long in
    let same : l.view.layout.width ≡ b.layout.width = ap (λ (m : Layout). m.width) i.keeps.here.view.layout in
    state_is_read k.view l.view id s (grows b k l i.keeps).later (i.one (omega arith))
    (has_noted l.view id s (omega arith) (λ n below. i.noted n (omega arith)))
