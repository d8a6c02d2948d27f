-- The spare is written and put, or another id's state is compared.
use Rattle.state_interner.specs.Turns.{IsEnd}
use Rattle.state_interner.proofs.Going.{goes_then, draft_goes, published_goes, held_goes, words_goes}
use Rattle.state_interner.proofs.Turns.{held_tells}
use Rattle.state_interner.proofs.Claims.{can_publish, drafted_spare, published_is_own}
use Rattle.state_interner.proofs.putting.put.Goals as goal

pub publish-requires-clause-can : goal.publish-requires-clause-can
publish-requires-clause-can c = (
  c.args.state.now,
  can_publish c.args.words.now c.args.pass.now c.take_spare.new.pass c.write_state.new.pass c.args.state.now c.in-Some.id c.args.bucket
      c.take_spare.ensures.goes_on c.in-Some.ensures.told c.write_state.ensures.seen c.write_state.ensures.written c.requires.clear c.requires.reached,
)

pub returns-in-None-clause-goes_on : goal.returns-in-None-clause-goes_on
returns-in-None-clause-goes_on c =
    let b = c.args.words.now in
    let spared = c.take_spare.ensures.goes_on in
    let drafted = draft_goes b c.take_spare.new.pass c.write_state.new.pass spared.here c.write_state.ensures.seen.0 c.write_state.ensures.seen.1 in
    goes_then b c.args.pass.now c.take_spare.new.pass c.publish.new.pass spared
    (goes_then b c.take_spare.new.pass c.write_state.new.pass c.publish.new.pass drafted
    (published_goes b c.write_state.new.pass c.publish.new.pass drafted.here c.args.bucket c.in-None.ensures.none))

pub returns-in-None-clause-told : goal.returns-in-None-clause-told
returns-in-None-clause-told c =
    published_is_own c.write_state.new.pass c.publish.new.pass c.args.state.now c.in-Some.id c.args.bucket
    (drafted_spare c.take_spare.new.pass c.write_state.new.pass c.in-Some.id c.in-Some.ensures.told c.write_state.ensures.seen)
    c.write_state.ensures.written c.in-None.ensures.none

pub returns-in-Some-publish-clause-goes_on : goal.returns-in-Some-publish-clause-goes_on
returns-in-Some-publish-clause-goes_on c =
    let b = c.args.words.now in
    let spared = c.take_spare.ensures.goes_on in
    let drafted = draft_goes b c.take_spare.new.pass c.write_state.new.pass spared.here c.write_state.ensures.seen.0 c.write_state.ensures.seen.1 in
    let held = held_goes b c.write_state.new.pass c.publish.new.pass drafted.here c.args.bucket c.in-Some-publish.held c.in-Some-publish.ensures.some.seen in
    goes_then b c.args.pass.now c.take_spare.new.pass c.compare.new.pass spared
    (goes_then b c.take_spare.new.pass c.write_state.new.pass c.compare.new.pass drafted
    (goes_then b c.write_state.new.pass c.publish.new.pass c.compare.new.pass held
    (words_goes b c.publish.new.pass c.compare.new.pass held.here c.compare.ensures.seen.0 c.compare.ensures.seen.1)))

pub returns-in-Some-publish-clause-told : goal.returns-in-Some-publish-clause-told
returns-in-Some-publish-clause-told c =
    held_tells (IsEnd c.args.pass.now.view c.compare.new.pass.view) c.write_state.new.pass c.publish.new.pass c.compare.new.pass c.args.bucket
    c.in-Some-publish.held c.args.state.now c.compare.result c.in-Some-publish.ensures.some.seen c.in-Some-publish.ensures.room
    c.compare.ensures.seen c.compare.ensures.told
