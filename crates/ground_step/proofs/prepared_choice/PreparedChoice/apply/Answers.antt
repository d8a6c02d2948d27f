use Rattle.std.proofs.Common.{ap, ◌∙◌}
use Rattle.ground_model.specs.Choices.{next_state}
use Rattle.ground_step.proofs.prepared_choice.PreparedChoice.apply.Goals as goal

pub returns-clause-next : goal.returns-clause-next
returns-clause-next c = c.apply_acting.ensures.next ∙ ap (next_state c.args.state.now) c.self.view_is
