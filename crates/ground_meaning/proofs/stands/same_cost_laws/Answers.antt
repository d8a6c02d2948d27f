-- The laws of costs, by their lemmas.
use Rattle.ground_meaning.proofs.lemmas.stands.Same.{same_least, same_spend, same_still, plans_carried, plans_found}
use Rattle.ground_meaning.proofs.stands.same_cost_laws.Goals as goal

pub returns-clause-least : goal.returns-clause-least
returns-clause-least c = same_least

pub returns-clause-spend : goal.returns-clause-spend
returns-clause-spend c = same_spend

pub returns-clause-still : goal.returns-clause-still
returns-clause-still c = same_still

pub returns-clause-plans : goal.returns-clause-plans
returns-clause-plans c = plans_carried

pub returns-clause-plans_found : goal.returns-clause-plans_found
returns-clause-plans_found c = plans_found
