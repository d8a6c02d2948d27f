-- Counts that are found, and a claim.
use Rattle.std.proofs.Common.{◌≡◌, None, rules, arith}
use Rattle.std.proofs.lemmas.Grind.{common_steps}
use Rattle.state_interner.proofs.Going.{goes_nowhere}
use Rattle.state_interner.proofs.Claims.{claims_begin, claims_more, claim_goes}
use Rattle.state_interner.proofs.claiming.take_spare.Goals as goal

pub loop-from-init : goal.loop-from-init
loop-from-init c =
    let none : c.args.pass.now.view.spare ≡ None = first_of (cc, search rules, grind (arith, common_steps)) in
    claims_begin c.args.words.now c.args.pass.now c.load_count-from.new.pass c.load_count-from.result
    (goes_nowhere c.args.words.now c.args.pass.now c.requires.here) none c.load_count-from.ensures.told c.load_count-from.ensures.seen

pub returns-in-Own-clause-goes_on : goal.returns-in-Own-clause-goes_on
returns-in-Own-clause-goes_on c =
    claim_goes c.args.words.now c.args.pass.now c.loop-from.pass c.claim.new.pass c.loop-from.from c.loop-from.invariant c.in-Own.ensures.1

pub loop-from-preserved : goal.loop-from-preserved
loop-from-preserved c =
    claims_more c.args.words.now c.args.pass.now c.loop-from.pass c.claim.new.pass c.loop-from.from c.in-Moved.found c.loop-from.invariant c.in-Moved.ensures
