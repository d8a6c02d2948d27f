-- The laws of what never changes, by their lemmas.
use Rattle.ppddl_model.proofs.Knowing.{known_holds, open_is_kept}
use Rattle.ppddl_model.proofs.Fixed.{step_agrees, starts_agree, reachable_agrees, has-state_of_texts, state_of_texts_agrees}
use Rattle.ppddl_model.proofs.laws.fixed_laws.Goals as goal

pub returns-clause-known : goal.returns-clause-known
returns-clause-known c = known_holds

pub returns-clause-kept : goal.returns-clause-kept
returns-clause-kept c = open_is_kept

pub returns-clause-starts : goal.returns-clause-starts
returns-clause-starts c = starts_agree

pub returns-clause-steps : goal.returns-clause-steps
returns-clause-steps c = step_agrees

pub returns-clause-reachable : goal.returns-clause-reachable
returns-clause-reachable c = reachable_agrees

pub returns-clause-texts : goal.returns-clause-texts
returns-clause-texts c = has-state_of_texts

pub returns-clause-texts_agree : goal.returns-clause-texts_agree
returns-clause-texts_agree c = state_of_texts_agrees
