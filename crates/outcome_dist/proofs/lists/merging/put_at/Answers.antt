use Rattle.std.proofs.Common.{◌≡◌, ◌≤◌, ◌<◌, ◌∷◌, ◌++◌, [], List, length, length-append, get_or, slice_set, sym, ap, ◌∙◌, arith}
use Rattle.plain_list.specs.weighted.Merged.{with_item}
use Rattle.ground_model.specs.declared.action.Choice.{Choice}
use Rattle.ground_meaning.specs.choices.Joint.{idle, added}
use Rattle.ground_meaning.specs.choices.Same.{same_choice}
use Rattle.outcome_dist.specs.lists.Piles.{with_more}
use Rattle.outcome_dist.proofs.lemmas.lists.MergeSteps.{placed_at, missing_at}
use Rattle.outcome_dist.proofs.lists.merging.put_at.Goals as goal

pub returns-then-place-len-clause-put : goal.returns-then-place-len-clause-put
returns-then-place-len-clause-put c =
    let xs : List Choice = c.args.list.now.items in
    let low : c.args.place < length xs = omega arith in
    let at = placed_at xs c.args.draft c.args.place c.requires.place low in
    let weight = ap (λ (d : Choice). d.weight) c.draft.view_is in
    c.in_ok-add_weight.ensures
    ∙ ap (λ k. slice_set xs c.args.place (with_more k (get_or xs c.args.place (idle 0)))) weight
    ∙ sym at.is

pub returns-then-len-ge-MOST_CHOICES-clause-refused : goal.returns-then-len-ge-MOST_CHOICES-clause-refused
returns-then-len-ge-MOST_CHOICES-clause-refused c =
    let xs : List Choice = c.args.list.now.items in
    let high : length xs ≤ c.args.place = omega arith in
    let long : length (with_item same_choice added xs c.args.draft) ≡ length (xs ++ c.args.draft ∷ []) =
    ap length (missing_at xs c.args.draft c.args.place c.requires.place high) in
    omega (arith, long, length-append xs (c.args.draft ∷ []))

pub returns-clause-put : goal.returns-clause-put
returns-clause-put c =
    let xs : List Choice = c.args.list.now.items in
    let high : length xs ≤ c.args.place = omega arith in
    c.in_ok-push.ensures.items ∙ sym (missing_at xs c.args.draft c.args.place c.requires.place high)
