use Rattle.std.proofs.Common.{◌∙◌, subst}
use Rattle.kept_transitions.specs.Rows.{Transitions, AddsAction}
use Rattle.kept_transitions.specs.Kinds.{actions_of}
use Rattle.kept_transitions.proofs.OfKinds.{actions_of_more, actions_are, are_of_kinds, adds_action}
use Rattle.kept_transitions.proofs.kept.Kept.push_action.Goals as goal

pub returns-in_default : goal.returns-in_default
returns-in_default c =
    let k = c.self.inside in
    let same = actions_of_more k.kinds c.place_of.new.self c.place_of.ensures.grown k.actions c.self.invariant.1 in
    (λ j. record { rows = k.rows.items; actions = same j; ids = k.ids.items }) ∙ c.self.view_is

pub invariant_of-self-2 : goal.invariant_of-self-2
invariant_of-self-2 c =
    let k = c.self.inside in (
      c.self.invariant.0,
      are_of_kinds k.kinds c.place_of.new.self c.place_of.ensures.grown k.actions c.self.invariant.1 c.in-Some.kind c.args.action
          c.in-Some.ensures.place c.push.result c.push.new.self c.push.ensures,
    )

pub returns : goal.returns
returns c =
    let k = c.self.inside in
    let are = actions_are k.kinds c.place_of.new.self c.place_of.ensures.grown k.actions c.self.invariant.1 c.in-Some.kind
    c.args.action c.in-Some.ensures.place c.push.result c.push.new.self c.push.ensures in
    let was : Transitions = record { rows = k.rows.items; actions = actions_of k.kinds k.actions; ids = k.ids.items } in
    let now = actions_of c.place_of.new.self c.push.new.self in
    subst (λ (t : Transitions). AddsAction t c.args.action c.push.result (record was { actions = now })) c.self.view_is
    (adds_action was c.args.action c.push.result now are)
