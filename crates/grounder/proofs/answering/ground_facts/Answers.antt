use Rattle.std.proofs.Common.{◌≡◌, sym, ap, ◌∙◌}
use Rattle.std.specs.Prelude.{Ok}
use Rattle.std.proofs.lemmas.Result.{err_from_is_err_and}
use Rattle.ppddl_model.specs.declared.tree.Task.{Task}
use Rattle.ppddl_model.specs.Steps as model
use Rattle.ground_meaning.specs.refusals.Limits.{grounded}
use Rattle.grounder.specs.declared.parts.Parts.{Parts}
use Rattle.grounder.specs.Answers.{terms_of, Answers}
use Rattle.grounder.proofs.Limiting.{handed_on}
use Rattle.grounder.proofs.Standing.{asked, made_of, limits_refuse, parts_make, made_stands}
use Rattle.grounder.proofs.answering.ground_facts.Goals as goal

pub returns-in_err-penalty-clause-exact : goal.returns-in_err-penalty-clause-exact
returns-in_err-penalty-clause-exact c =
    let p = err_from_is_err_and c.from_residual.result c.from_residual.ensures.1 in
    handed_on (λ r. Answers r (grounded c.args.facts.now (terms_of c.args.terms.now))) c.from_residual.result c.in_err-penalty.field-0.0
    p.0 p.1 p.2 c.in_err-penalty.ensures.refused

pub returns-in_err-parts-clause-exact : goal.returns-in_err-parts-clause-exact
returns-in_err-parts-clause-exact c =
    let t : Task = c.args.facts.now in
    let terms : model.Terms = terms_of c.args.terms.now in
    let p = err_from_is_err_and c.from_residual-in_err-parts.result c.from_residual-in_err-parts.ensures.1 in
    let penalty = c.in_ok-penalty.penalty in
    let charged = c.in_ok-penalty.ensures.charged in
    handed_on (λ r. Answers r (grounded t terms)) c.from_residual-in_err-parts.result c.in_err-parts.field-0.0 p.0 p.1 p.2
    (limits_refuse t terms penalty charged c.in_err-parts.field-0.0
    (c.in_err-parts.ensures.exact (asked t terms penalty charged) (sym c.requires.base)))

pub new-requires : goal.new-requires
new-requires c =
    let t : Task = c.args.facts.now in
    let terms : model.Terms = terms_of c.args.terms.now in
    let penalty = c.in_ok-penalty.penalty in
    let charged = c.in_ok-penalty.ensures.charged in
    let x : Parts = c.in_ok-parts.parts in
    let made : grounded t terms ≡ Ok (made_of penalty x)
    = parts_make t terms penalty charged x (c.in_ok-parts.ensures.exact (asked t terms penalty charged) (sym c.requires.base)) in
    (made_stands c.grounding_laws.ensures.stands t terms (made_of penalty x) c.requires.well_formed c.requires.in_range made).3.is_problem

pub returns-clause-exact : goal.returns-clause-exact
returns-clause-exact c =
    let t : Task = c.args.facts.now in
    let terms : model.Terms = terms_of c.args.terms.now in
    let penalty = c.in_ok-penalty.penalty in
    let charged = c.in_ok-penalty.ensures.charged in
    let x : Parts = c.in_ok-parts.parts in
    parts_make t terms penalty charged x (c.in_ok-parts.ensures.exact (asked t terms penalty charged) (sym c.requires.base))
    ∙ ap Ok (sym c.new.ensures)

pub returns-clause-stands : goal.returns-clause-stands
returns-clause-stands c =
    let t : Task = c.args.facts.now in
    let terms : model.Terms = terms_of c.args.terms.now in
    let penalty = c.in_ok-penalty.penalty in
    let charged = c.in_ok-penalty.ensures.charged in
    let x : Parts = c.in_ok-parts.parts in
    made_stands c.grounding_laws.ensures.stands t terms c.new.result c.requires.well_formed c.requires.in_range
    (parts_make t terms penalty charged x (c.in_ok-parts.ensures.exact (asked t terms penalty charged) (sym c.requires.base))
    ∙ ap Ok (sym c.new.ensures))
