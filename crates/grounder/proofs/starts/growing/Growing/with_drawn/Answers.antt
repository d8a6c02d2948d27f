use Rattle.std.proofs.Common.{◌≡◌, ◌∙◌, arith}
use Rattle.ground_meaning.specs.choices.Joint.{with_factor}
use Rattle.outcome_dist.proofs.lemmas.lists.MergedMaps.{length-factor}
use Rattle.grounder.specs.starts.Growing.{adding, grown}
use Rattle.grounder.proofs.lemmas.starts.Factors.{grown_nothing}
use Rattle.grounder.proofs.starts.growing.Growing.with_drawn.Goals as goal

pub returns-clause-put : goal.returns-clause-put
returns-clause-put c =
    let is : c.in_ok-done.done.items ≡ with_factor c.args.self c.args.drafts.items =
    c.in_ok-done.ensures.list
    ∙ (λ i. with_factor ((c.as_slice.ensures.value ∙ c.in_ok-before.ensures) i) (c.as_slice-2.ensures.value i)) in
    (λ i. grown (is i) (c.new.ensures.items i)) ∙ grown_nothing c.args.self c.args.drafts.items

pub returns-clause-few : goal.returns-clause-few
returns-clause-few c =
    omega (arith, length-factor c.in_ok-done.done.items (adding c.new.result.items), c.in_ok-done.ensures.few)
