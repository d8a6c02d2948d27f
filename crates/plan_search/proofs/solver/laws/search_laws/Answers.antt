use Rattle.plan_search.proofs.lemmas.solver.Answering.{first_has_solved, later_has_solved, closing_is_solved}
use Rattle.plan_search.proofs.solver.laws.search_laws.Goals as goal

pub returns-clause-first : goal.returns-clause-first
returns-clause-first c = first_has_solved

pub returns-clause-later : goal.returns-clause-later
returns-clause-later c = later_has_solved

pub returns-clause-solved : goal.returns-clause-solved
returns-clause-solved c = closing_is_solved
