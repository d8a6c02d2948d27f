use Rattle.std.proofs.Common.{◌∙◌}
use Rattle.std.specs.List.{position_or_len}
use Rattle.indexmap.specs.IndexSet.{insert_key}
use Rattle.outcome_dist.proofs.lemmas.lists.MergeSteps.{same_key, insert_is, place_is}
use Rattle.outcome_dist.proofs.lists.merging.find.Goals as goal

pub returns-in-Ok-insert_full-clause-keyed : goal.returns-in-Ok-insert_full-clause-keyed
returns-in-Ok-insert_full-clause-keyed c =
    c.in-Ok-insert_full.ensures.keys ∙ (λ i. insert_key same_key (c.in_ok-keys.ensures i) (c.in-Ok.ensures i)) ∙ insert_is c.args.list.now c.args.draft.now

pub returns-in-Ok-insert_full-clause-place : goal.returns-in-Ok-insert_full-clause-place
returns-in-Ok-insert_full-clause-place c =
    c.in-Ok-insert_full.ensures.index ∙ (λ i. position_or_len (same_key (c.in-Ok.ensures i)) (c.in_ok-keys.ensures i)) ∙ place_is c.args.list.now c.args.draft.now
