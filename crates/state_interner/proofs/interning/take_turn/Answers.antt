-- A look, and a publication where the bucket was empty.
use Rattle.state_interner.specs.Interned.{IsFull}
use Rattle.state_interner.specs.Turns.{IsEnd}
use Rattle.state_interner.proofs.Going.{goes_then}
use Rattle.state_interner.proofs.Turns.{reached_later}
use Rattle.state_interner.proofs.Claims.{missing_is_full, tells_else}
use Rattle.state_interner.proofs.interning.take_turn.Goals as goal

pub put-requires-clause-reached : goal.put-requires-clause-reached
put-requires-clause-reached c = reached_later c.args.pass.now.view c.look.new.pass.view c.args.state.now c.look.ensures.goes_on.noted c.requires.reached

pub returns-in-Free-clause-goes_on : goal.returns-in-Free-clause-goes_on
returns-in-Free-clause-goes_on c =
    goes_then c.args.words.now c.args.pass.now c.look.new.pass c.put.new.pass c.look.ensures.goes_on c.put.ensures.goes_on

pub returns-in-Free-clause-told : goal.returns-in-Free-clause-told
returns-in-Free-clause-told c =
    let s = c.args.state.now in
    let old = c.args.pass.now in
    let mid = c.look.new.pass in
    let new = c.put.new.pass in
    tells_else (IsEnd mid.view new.view) (IsFull old.view s new.view) s c.args.bucket c.put.result new.view
    (missing_is_full c.args.words.now old mid new s c.look.ensures.goes_on c.put.ensures.goes_on c.in-Free.ensures.told) c.put.ensures.told
