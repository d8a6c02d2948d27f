use Rattle.std.proofs.Common.{[], ◌∷◌, ◌++◌, ap, ◌∙◌, arith}
use Rattle.ground_meaning.specs.choices.Rising.{rising}
use Rattle.ground_meaning.specs.choices.Joint.{with_factor}
use Rattle.outcome_dist.proofs.lemmas.lists.MergedMaps.{length-factor}
use Rattle.grounder.specs.starts.Growing.{adding, grown}
use Rattle.grounder.proofs.lemmas.starts.Factors.{grown_more}
use Rattle.grounder.proofs.starts.growing.Growing.with_sure.Goals as goal

pub returns-clause-put : goal.returns-clause-put
returns-clause-put c =
    ap (grown c.self.inside.done.items)
    (c.in_ok-extend_from_slice.ensures.items ∙ ap (λ l. c.self.inside.sure.items ++ l) c.as_slice.ensures.value)
    ∙ grown_more c.self.inside.done.items c.self.inside.sure.items c.args.atoms.items
    ∙ ap (λ l. with_factor l (adding (rising c.args.atoms.items) ∷ [])) c.self.view_is

pub returns-clause-few : goal.returns-clause-few
returns-clause-few c =
    omega (arith, length-factor c.self.inside.done.items (adding c.extend_from_slice.new.self.items), c.self.invariant)
