-- The place of a key is that of its name.
use Rattle.std.proofs.Common.{ap, ◌∙◌}
use Rattle.std.specs.Prelude.{nat_eq}
use Rattle.std.specs.Cmp.Lexicographic.{pointwise}
use Rattle.ground_step.specs.Names.{place_of}
use Rattle.ground_step.proofs.Names.{position-map}
use Rattle.ground_step.proofs.action_names.ActionNames.number.Goals as goal

pub returns-in-None : goal.returns-in-None
returns-in-None c =
    c.in-None.ensures.index
    ∙ position-map (pointwise nat_eq c.args.name.now) (λ name. name.now) c.self.inside.set.keys
    ∙ ap (λ names. place_of names c.args.name.now) c.self.view_is

pub returns-in-Some : goal.returns-in-Some
returns-in-Some c =
    c.in-Some.ensures.index
    ∙ position-map (pointwise nat_eq c.args.name.now) (λ name. name.now) c.self.inside.set.keys
    ∙ ap (λ names. place_of names c.args.name.now) c.self.view_is
