use Rattle.std.proofs.Common.{◌≡◌, ◌+◌, ◌∙◌, length, take, Some, refl, sym, subst, rules}
use Rattle.std.specs.List.{slice_get}
use Rattle.std.proofs.lemmas.List.{take_at}
use Rattle.std.proofs.lemmas.Option.{slice_get_read}
use Rattle.word_table.specs.rule.Made.{AreMade}
use Rattle.word_table.proofs.Filling.{first_is_wide, one_more_is_made}
use Rattle.word_table.proofs.Turns.{made_has_free}
use Rattle.word_table.proofs.making.first_words.Goals as goal

pub put_state-requires-clause-state : goal.put_state-requires-clause-state
put_state-requires-clause-state c =
    let below = c.loop-id-test.true in
    let there : slice_get c.args.states.now c.loop-id.id ≡ Some c.index-states-id.result =
    slice_get_read c.args.states.now (length c.args.states.now) c.loop-id.id c.index-states-id.result refl (search rules) c.index-states-id.is in
    first_is_wide c.args.problem.now c.args.layout.ids c.args.states.now c.requires.problem c.requires.states c.loop-id.id c.index-states-id.result there
    ∙ sym c.requires.layout.1

pub put_state-requires-clause-free : goal.put_state-requires-clause-free
put_state-requires-clause-free c =
    made_has_free c.args.problem.now c.args.layout (take c.loop-id.id c.args.states.now) c.as_mut_slice.result.now _ c.requires.layout.0
    (subst (AreMade c.args.problem.now c.args.layout (take c.loop-id.id c.args.states.now)) (sym c.as_mut_slice.ensures.value) c.loop-id.invariant)

pub loop-id-preserved : goal.loop-id-preserved
loop-id-preserved c =
    let there : slice_get c.args.states.now c.loop-id.id ≡ Some c.index-states-id.result =
    slice_get_read c.args.states.now (length c.args.states.now) c.loop-id.id c.index-states-id.result refl (search rules) c.index-states-id.is in
    let made = one_more_is_made c.args.problem.now c.args.layout c.args.states.now c.loop-id.id c.index-states-id.result c.put_state.ensures.0
    c.as_mut_slice.result.now c.put_state.new.words c.requires.layout.0
    (subst (AreMade c.args.problem.now c.args.layout (take c.loop-id.id c.args.states.now)) (sym c.as_mut_slice.ensures.value) c.loop-id.invariant)
    (search rules) c.requires.states.few there
    (first_is_wide c.args.problem.now c.args.layout.ids c.args.states.now c.requires.problem c.requires.states c.loop-id.id c.index-states-id.result there
    ∙ sym c.requires.layout.1) c.put_state.ensures.1 in
    subst (AreMade c.args.problem.now c.args.layout (take (c.loop-id.id + 1) c.args.states.now))
    (sym (take_at c.put_state.new.words _ c.loop-id.words.len (search rules))) made
