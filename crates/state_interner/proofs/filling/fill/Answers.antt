-- One bucket more is noted.
use Rattle.std.proofs.Common.{refl, ◌∙◌}
use Rattle.state_interner.proofs.Going.{goes_nowhere, goes_then}
use Rattle.state_interner.proofs.filling.fill.Goals as goal

pub loop-bucket-init : goal.loop-bucket-init
loop-bucket-init c = (goes_nowhere c.args.words.now c.args.pass.now c.requires.here, refl)

pub loop-bucket-preserved : goal.loop-bucket-preserved
loop-bucket-preserved c = (
  goes_then c.args.words.now c.args.pass.now c.loop-bucket.pass c.note_bucket.new.pass c.loop-bucket.invariant.0 c.note_bucket.ensures.goes_on,
  c.note_bucket.ensures.spare ∙ c.loop-bucket.invariant.1,
)
