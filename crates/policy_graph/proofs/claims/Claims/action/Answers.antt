-- The code that the table has.
use Rattle.std.proofs.Common.{◌∙◌, ap}
use Rattle.certificate_check.specs.Claims.{act_codes}
use Rattle.certificate_check.proofs.Acts.{within}
use Rattle.policy_graph.specs.Claims.{Told}
use Rattle.policy_graph.proofs.Told.{code_at}
use Rattle.policy_graph.proofs.claims.Claims.action.Goals as goal

pub returns-in-Do : goal.returns-in-Do
returns-in-Do c =
    let codes = c.self.invariant.codes_are ∙ ap (λ (x : Told). act_codes x.problem x.certificate) c.self.view_is in
    code_at c.self.inside.actions.items (act_codes c.args.self.now.problem c.args.self.now.certificate) c.args.act c.in-Do.place
    c.index.result.now c.in-Do.is codes
    (within c.args.self.now.problem c.args.self.now.certificate c.self.inside.actions.items c.args.act c.in-Do.place c.in-Do.is codes c.requires)
    c.index.ensures
