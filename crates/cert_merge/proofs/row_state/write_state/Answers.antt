use Rattle.std.proofs.Common.{length, ap, ◌∙◌}
use Rattle.ground_model.specs.Choices.{is_member}
use Rattle.ground_model.proofs.Packed.{length-packed}
use Rattle.cert_merge.proofs.row_state.write_state.Goals as goal

pub returns-clause-long : goal.returns-clause-long
returns-clause-long c = ap length c.state_of_atoms.ensures ∙ length-packed (is_member c.deref.result.now) (length c.args.room.now.state)
