use Rattle.std.proofs.Common.{take, sym, ap, ◌∙◌}
use Rattle.std.proofs.lemmas.List.{take-map}
use Rattle.kept_transitions.specs.Rows.{Transitions}
use Rattle.kept_transitions.specs.Kinds.{action_of, actions_of}
use Rattle.kept_transitions.proofs.kept.Kept.cut.Goals as goal

pub returns-clause-actions : goal.returns-clause-actions
returns-clause-actions c =
    ap (actions_of c.self.inside.kinds) c.cut.ensures
    ∙ sym (take-map (action_of c.self.inside.kinds) c.args.actions c.self.inside.actions)
    ∙ ap (λ (t : Transitions). take c.args.actions t.actions) c.self.view_is
