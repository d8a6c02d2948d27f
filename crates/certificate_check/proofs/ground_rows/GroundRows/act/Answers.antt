-- The code that the table has.
use Rattle.std.proofs.Common.{◌∙◌, ap}
use Rattle.certificate_check.specs.Claims.{act_codes}
use Rattle.certificate_check.specs.GroundRows.{Claimed}
use Rattle.certificate_check.proofs.Acts.{act_is, within}
use Rattle.certificate_check.proofs.ground_rows.GroundRows.act.Goals as goal

pub returns-in-Do : goal.returns-in-Do
returns-in-Do c =
    let codes = c.self.invariant.codes_are ∙ ap (λ (x : Claimed). act_codes x.problem x.certificate) c.self.view_is in
    c.doing.ensures
    ∙ act_is c.self.inside.actions.items (act_codes c.args.self.now.problem c.args.self.now.certificate) c.args.act c.in-Do.place
    c.index.result.now c.in-Do.is codes
    (within c.args.self.now.problem c.args.self.now.certificate c.self.inside.actions.items c.args.act c.in-Do.place c.in-Do.is codes c.requires)
    c.index.ensures
