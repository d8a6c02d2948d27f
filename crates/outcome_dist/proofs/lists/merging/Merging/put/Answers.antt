use Rattle.std.proofs.Common.{◌≡◌, List, map, sym, ap, subst, ◌∙◌}
use Rattle.std.specs.Prelude.{IfSome}
use Rattle.std.specs.List.{position_or_len}
use Rattle.plain_list.specs.weighted.Merged.{with_item}
use Rattle.ground_model.specs.declared.action.Choice.{Choice}
use Rattle.ground_meaning.specs.choices.Joint.{added}
use Rattle.ground_meaning.specs.choices.Same.{same_choice}
use Rattle.outcome_dist.specs.lists.Keys.{key_of}
use Rattle.outcome_dist.specs.lists.Piles.{IsMerged}
use Rattle.outcome_dist.proofs.lemmas.lists.MergeSteps.{alike}
use Rattle.outcome_dist.proofs.lemmas.lists.MergedMaps.{merged_put}
use Rattle.outcome_dist.proofs.lists.merging.Merging.put.Goals as goal

pub put_at-requires-clause-place : goal.put_at-requires-clause-place
put_at-requires-clause-place c =
    c.in-Ok.ensures.place ∙ ap (position_or_len (alike c.args.draft)) c.as_slice.ensures.value

pub invariant_of-result : goal.invariant_of-result
invariant_of-result c =
    let xs : List Choice = c.self.inside.list.items in
    let new : c.put_at.new.list.items ≡ with_item same_choice added xs c.args.draft = c.in-Ok-put_at.ensures.put in (
      subst (λ l. IfSome c.in-Ok.keys (λ k. k.keys ≡ map key_of l))
          (ap (λ l. with_item same_choice added l c.args.draft) c.as_slice.ensures.value ∙ sym new) c.in-Ok.ensures.keyed,
      c.in-Ok-put_at.ensures.few,
      subst IsMerged (sym new) (merged_put xs c.args.draft c.self.invariant.2),
    )
