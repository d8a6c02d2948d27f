use Rattle.std.proofs.Common.{rules, ◌≡◌, List, ◌∷◌, map, subst}
use Rattle.ground_model.specs.declared.action.Choice.{Choice}
use Rattle.ground_meaning.specs.choices.Joint.{scaled}
use Rattle.outcome_dist.specs.lists.Refusals.{IsTooMany}
use Rattle.outcome_dist.specs.lists.Piles.{merging}
use Rattle.outcome_dist.proofs.lemmas.lists.MergeSteps.{list_refused}
use Rattle.outcome_dist.proofs.lists.merging.Merging.put_all.Goals as goal

pub returns-in_err-merged-clause-refused : goal.returns-in_err-merged-clause-refused
returns-in_err-merged-clause-refused c =
    let list : List Choice = c.loop-draft.merged in
    let rest : List Choice = c.next.new.self.rest.items in
    let all : List Choice = c.into_iter-draft-iterator.result.rest.items in
    let whole : List Choice = merging c.args.self (map (scaled c.args.factor) all) in
    let kept : merging list (map (scaled c.args.factor) (c.in-Some.draft ∷ rest)) ≡ whole =
    subst (λ l. merging list (map (scaled c.args.factor) l) ≡ whole) c.in-Some.ensures.steps.0 c.loop-draft.invariant.2 in
    let given : all ≡ c.args.drafts.items = search (rules, c.into_iter-draft-iterator.ensures.into_iter_gives) in
    let k : IsTooMany c.in_err-merged.field-0.0 (merging c.args.self (map (scaled c.args.factor) c.args.drafts.items)) =
    subst (λ l. IsTooMany c.in_err-merged.field-0.0 (merging c.args.self (map (scaled c.args.factor) l))) given
    (list_refused c.in_err-merged.field-0.0 (scaled c.args.factor) list whole c.in-Some.draft rest kept c.in_err-merged.ensures.refused) in
    search (rules, k)
