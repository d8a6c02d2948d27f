-- The laws of levels, by their lemmas.
use Rattle.ground_meaning.proofs.lemmas.stands.Same.{near_carried, near_found, same_depth}
use Rattle.ground_meaning.proofs.stands.same_level_laws.Goals as goal

pub returns-clause-near : goal.returns-clause-near
returns-clause-near c = near_carried

pub returns-clause-near_found : goal.returns-clause-near_found
returns-clause-near_found c = near_found

pub returns-clause-depth : goal.returns-clause-depth
returns-clause-depth c = same_depth
