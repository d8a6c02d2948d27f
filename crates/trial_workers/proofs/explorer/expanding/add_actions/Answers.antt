-- One open action more.
use Rattle.std.proofs.Common.{◌<◌, length, take, arith}
use Rattle.std.specs.Prelude.{flat_map}
use Rattle.decision_process.specs.Levels.{nexts}
use Rattle.ground_model.specs.Steps.{ground_process}
use Rattle.trial_workers.proofs.lemmas.explorer.Growth.{grows_images, all_images_past, still_listed}
use Rattle.trial_workers.proofs.explorer.expanding.add_actions.Goals as goal

pub add_choices-requires-clause-code : goal.add_choices-requires-clause-code
add_choices-requires-clause-code c = c.requires.codes c.loop-code.code-index 0 c.loop-code-test.true

pub add_choices-requires-clause-listed : goal.add_choices-requires-clause-listed
add_choices-requires-clause-listed c =
    still_listed c.args.most (flat_map (λ k. nexts (ground_process c.args.index.now) k c.args.state.now) (take c.loop-code.code-index c.args.codes.now))
    c.args.listing.now c.loop-code.listing c.args.state.now c.loop-code.invariant.grows c.requires.listed

pub returns-then-len-most-clause-grows : goal.returns-then-len-most-clause-grows
returns-then-len-most-clause-grows c =
    let past : c.args.most < length c.loop-code.listing = omega (arith, c.len.ensures.count, c.if-len-most.true) in
    all_images_past c.args.most c.args.codes.now c.loop-code.code-index (λ k. nexts (ground_process c.args.index.now) k c.args.state.now)
    c.args.listing.now c.loop-code.listing c.loop-code.invariant.grows past

pub loop-code-preserved : goal.loop-code-preserved
loop-code-preserved c = record {
  fits = c.add_choices.ensures.fits;
  grows = grows_images c.args.most c.args.codes.now c.loop-code.code-index (λ k. nexts (ground_process c.args.index.now) k c.args.state.now) 0
      c.args.listing.now c.loop-code.listing c.add_choices.new.listing c.loop-code-test.true c.loop-code.invariant.grows
      c.in_ok-add_choices.ensures.grows;
}
