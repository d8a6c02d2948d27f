use Rattle.std.proofs.Common.{◌≡◌, List, length, subst, ◌∙◌}
use Rattle.std.specs.Prelude.{IfOk, IfErr}
use Rattle.ground_model.specs.declared.action.Choice.{Choice}
use Rattle.ground_meaning.specs.choices.Numbering.{Numbering}
use Rattle.ground_meaning.specs.choices.Joint.{with_factor}
use Rattle.ground_meaning.specs.refusals.Starts.{item_choices}
use Rattle.outcome_dist.specs.conditions.Bindings.{numbering_of}
use Rattle.grounder.specs.starts.Growing.{IsTooMany}
use Rattle.grounder.proofs.lemmas.starts.Drawing.{fact_is, chance_is}
use Rattle.grounder.proofs.starts.items.with_item.Goals as goal

pub returns-in_ok-with_sure-in-Fact-clause-put : goal.returns-in_ok-with_sure-in-Fact-clause-put
returns-in_ok-with_sure-in-Fact-clause-put c =
    c.in_ok-with_sure-in-Fact.ensures.put
    ∙ fact_is (numbering_of c.args.within.now) c.args.before c.in-Fact.atom c.args.item.now c.in_ok-atoms-in-Fact.atoms.items
    c.in-Fact.is c.in_ok-atoms-in-Fact.ensures

pub returns-in_ok-drafts-in-Chance-clause-put : goal.returns-in_ok-drafts-in-Chance-clause-put
returns-in_ok-drafts-in-Chance-clause-put c =
    let n : Numbering = numbering_of c.args.within.now in
    let is : with_factor c.args.before c.in_ok-drafts-in-Chance.drafts.items ≡ with_factor c.args.before (item_choices n c.args.item.now) =
    chance_is n c.args.before c.in_ok-drafts-in-Chance.drafts.items c.in_ok-den-in-Chance.den c.in-Chance.branches c.as_slice.result.now
    c.as_slice-in-Chance.result.now c.args.item.now c.in-Chance.is c.as_slice.ensures c.as_slice-in-Chance.ensures c.in_ok-den-in-Chance.ensures
    c.in_ok-drafts-in-Chance.ensures in
    subst (λ (l : List Choice). IfOk c.with_drawn.result (λ g. g ≡ l)) is c.with_drawn.ensures.put

pub returns-in_ok-drafts-in-Chance-clause-refused : goal.returns-in_ok-drafts-in-Chance-clause-refused
returns-in_ok-drafts-in-Chance-clause-refused c =
    let n : Numbering = numbering_of c.args.within.now in
    let is : with_factor c.args.before c.in_ok-drafts-in-Chance.drafts.items ≡ with_factor c.args.before (item_choices n c.args.item.now) =
    chance_is n c.args.before c.in_ok-drafts-in-Chance.drafts.items c.in_ok-den-in-Chance.den c.in-Chance.branches c.as_slice.result.now
    c.as_slice-in-Chance.result.now c.args.item.now c.in-Chance.is c.as_slice.ensures c.as_slice-in-Chance.ensures c.in_ok-den-in-Chance.ensures
    c.in_ok-drafts-in-Chance.ensures in
    subst (λ (l : List Choice). IfErr c.with_drawn.result (λ e. IsTooMany e (length l))) is c.with_drawn.ensures.refused
