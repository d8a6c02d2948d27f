use Rattle.std.proofs.Common.{◌≤◌, ℕ, List, [], ◌∷◌, ◌++◌, length, drop, ap, ◌∙◌, arith}
use Rattle.plain_list.specs.weighted.Mean.{positive}
use Rattle.ppddl_model.specs.declared.tree.InitBranch.{InitBranch}
use Rattle.ground_model.specs.declared.action.Choice.{Choice}
use Rattle.ground_meaning.specs.choices.Rising.{rising}
use Rattle.ground_meaning.specs.choices.Joint.{weight_of, with_weight}
use Rattle.outcome_dist.specs.conditions.Bindings.{numbering_of}
use Rattle.ground_terms.proofs.lemmas.sizes.ManyWays.{drop-all}
use Rattle.grounder.specs.starts.Growing.{adding, chance_choice}
use Rattle.grounder.proofs.lemmas.starts.Drawing.{gathered_list, with_the_rest}
use Rattle.grounder.proofs.starts.items.chance_choices.Goals as goal

pub returns : goal.returns
returns c =
    let f : InitBranch → Choice = chance_choice (numbering_of c.args.within.now) c.args.den in
    let branches : List InitBranch = c.args.branches.now in
    let drafts : List Choice = c.loop-branch.drafts.items in
    let i : ℕ = c.loop-branch.branch-index in
    let past : length branches ≤ i = omega (arith, c.loop-branch-test.false) in
    c.in_ok-append-2.ensures.items
    ∙ ap (λ l. drafts ++ l)
    (c.in_ok-rest.ensures ∙ (λ j. positive weight_of (with_weight (c.saturating_sub.ensures j) (adding (rising (c.new.ensures.items j))) ∷ [])))
    ∙ with_the_rest f drafts c.loop-branch.used c.args.den branches
    (gathered_list f drafts c.loop-branch.used (drop i branches) [] branches (drop-all i branches past) c.loop-branch.invariant)
