-- One hint more was tried.
use Rattle.std.proofs.Common.{◌≡◌, refl, sym, ◌∙◌, subst}
use Rattle.word_table.specs.Seen.{Knowledge}
use Rattle.state_interner.specs.Interned.{GoesOn}
use Rattle.state_interner.proofs.Going.{goes_nowhere, goes_then}
use Rattle.state_interner.proofs.nearing.find_by_hints.Goals as goal
use Rattle.state_interner.proofs.nearing.find_by_hints.Goals.{in-Bucket+in_default, in-Other}

pub loop-turn-init : goal.loop-turn-init
loop-turn-init c = (goes_nowhere c.args.words.now c.args.pass.now c.requires.here, refl)

pub returns-in-Some-clause-goes_on : goal.returns-in-Some-clause-goes_on
returns-in-Some-clause-goes_on c =
    goes_then c.args.words.now c.args.pass.now c.loop-turn.pass c.try_bucket.new.pass c.loop-turn.invariant.0 c.try_bucket.ensures.goes_on

pub loop-turn-preserved : goal.loop-turn-preserved
loop-turn-preserved c =
    let b = c.args.words.now in let k = c.args.pass.now in
    elim c.match-hint.branch [
      | in-Bucket+in_default w ↦ subst (λ (l : Knowledge). GoesOn b k l × (l.view.spare ≡ k.view.spare)) (sym w.pass-is) (
        goes_then b k c.loop-turn.pass w.try_bucket.new.pass c.loop-turn.invariant.0 w.try_bucket.ensures.goes_on,
        w.try_bucket.ensures.spare ∙ c.loop-turn.invariant.1,
      )
      | in-Other w ↦ subst (λ (l : Knowledge). GoesOn b k l × (l.view.spare ≡ k.view.spare)) (sym w.pass-is) c.loop-turn.invariant
    ]
