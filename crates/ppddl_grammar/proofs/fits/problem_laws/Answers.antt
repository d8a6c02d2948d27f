-- Starts and goals fit, by the lemmas.
use Rattle.ppddl_grammar.proofs.lemmas.fits.Problems.{start-fits, start-draws, values-fit, goal-fits, goal_reward-fits}
use Rattle.ppddl_grammar.proofs.fits.problem_laws.Goals as goal

pub returns : goal.returns
returns c = record { items = start-fits; draws = start-draws; values = values-fit; goal = goal-fits; reward = goal_reward-fits }
