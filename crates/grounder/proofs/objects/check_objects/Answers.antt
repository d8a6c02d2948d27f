use Rattle.std.proofs.Common.{ap, sym, ◌∙◌}
use Rattle.std.specs.Option.{option_map}
use Rattle.grounder.specs.costs.Charges.{charged_with}
use Rattle.grounder.specs.Answers.{terms_of}
use Rattle.grounder.proofs.Counting.{no_penalty_first, too_many}
use Rattle.grounder.proofs.objects.check_objects.Goals as goal

pub returns-in-None : goal.returns-in-None
returns-in-None c =
    let terms = terms_of c.args.terms.now in
    no_penalty_first c.args.task.now terms c.args.base c.requires.base c.requires.none
    (c.penalty_of.ensures ∙ ap (option_map (charged_with terms.step_cost)) c.in-None.is)

pub returns-else-branch : goal.returns-else-branch
returns-else-branch c =
    let terms = terms_of c.args.terms.now in
    too_many c.args.task.now terms c.args.base c.requires.base c.requires.none c.in-Some.field-0
    (c.penalty_of.ensures ∙ ap (option_map (charged_with terms.step_cost)) c.in-Some.is)
    (sym c.in_ok-has_few_objects-in-Some.ensures ∙ c.if-branch.false)
