-- The buffers fit, nothing is kept, and the weights are those of the problem's actions.
use Rattle.std.proofs.Common.{None, rules, map, refl, sym, ap, ◌∙◌}
use Rattle.std.specs.Arc.{arc_value}
use Rattle.ground_model.specs.Ground.{Ground}
use Rattle.kept_transitions.specs.Rows.{new_kept}
use Rattle.bellman_backup.specs.Odds.{odds_of}
use Rattle.bellman_backup.proofs.KeptRows.{new_is_keeping}
use Rattle.bellman_backup.proofs.scratch.Scratch.make.Goals as goal

pub invariant_of-result : goal.invariant_of-result
invariant_of-result c =
    let g : Ground = arc_value c.in_ok-try_clone.field-0 in (
      search rules,
      new_is_keeping g None c.args.ids c.in_ok-make-2.field-0 c.in_ok-make-2.ensures,
      c.in_ok-new.ensures ∙ ap (λ (p : Ground). map odds_of p.actions) (c.deref-2.ensures ∙ sym c.in_ok-try_clone.ensures),
      new_is_keeping g None 0 (new_kept 0) refl,
    )
