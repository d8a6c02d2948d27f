-- With nothing left out all open actions are kept.
use Rattle.std.proofs.Common.{filter, ap, ◌∙◌}
use Rattle.ground_model.specs.Ground.{Ground}
use Rattle.ground_model.specs.Steps.{ground_process}
use Rattle.applicable_actions.specs.LeftOut.{is_kept}
use Rattle.applicable_actions.proofs.Marks.{kept_of_none_left_out}
use Rattle.applicable_actions.proofs.open_actions.OpenActions.fill.Goals as goal

pub returns-clause-codes : goal.returns-clause-codes
returns-clause-codes c =
    c.fill.ensures.codes
    ∙ ap (λ left_out. filter (is_kept left_out) ((ground_process (c.self.inside.index).problem).choices c.args.state.now)) c.self.invariant
    ∙ kept_of_none_left_out ((ground_process (c.self.inside.index).problem).choices c.args.state.now)
    ∙ ap (λ (g : Ground). (ground_process g).choices c.args.state.now) c.self.view_is
