-- Nothing was kept without a witness, and what is shared rests on what the new one has noted.
use Rattle.std.proofs.Common.{◌≡◌, None, sym, ap, ◌∙◌, subst}
use Rattle.std.specs.Arc.{arc_value}
use Rattle.ground_model.specs.Ground.{Ground}
use Rattle.bellman_backup.specs.Kept.{KeepsStates}
use Rattle.bellman_backup.specs.Scratches.{ScratchView}
use Rattle.bellman_backup.proofs.KeptRows.{keeping_first, keeps_is_keeping}
use Rattle.bellman_backup.proofs.scratch.Scratch.with_near.Goals as goal

pub invariant_of-result : goal.invariant_of-result
invariant_of-result c =
    let g : Ground = arc_value c.self.inside.index in let w = c.args.witness in let t = arc_value c.args.near in
    let same : g ≡ c.args.self.problem = ap (λ (v : ScratchView). v.problem) c.self.view_is in
    let fresh : c.self.inside.witness ≡ None = ap (λ (v : ScratchView). v.witness) c.self.view_is ∙ c.requires.fresh in (
      c.self.invariant.0,
      keeping_first g c.self.inside.witness w c.self.inside.kept fresh c.self.invariant.1,
      c.self.invariant.2,
      keeps_is_keeping g w t (subst (λ (p : Ground). KeepsStates p w.view t) (sym same) c.requires.kept),
    )
