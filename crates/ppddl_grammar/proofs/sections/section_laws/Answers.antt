-- One language, by the lemmas.
use Rattle.ppddl_grammar.proofs.lemmas.sections.Types.{types-derived, types-accepted}
use Rattle.ppddl_grammar.proofs.lemmas.sections.Declarations.{predicates-derived, predicates-accepted}
use Rattle.ppddl_grammar.proofs.lemmas.sections.Functions.{functions-derived, functions-accepted}
use Rattle.ppddl_grammar.proofs.lemmas.sections.Actions.{action-derived, action-accepted}
use Rattle.ppddl_grammar.proofs.lemmas.sections.Problems.{start-derived, start-accepted, goal-derived, goal-accepted, reward-derived, reward-accepted}
use Rattle.ppddl_grammar.proofs.sections.section_laws.Goals as goal

pub returns : goal.returns
returns c = record {
  types_derived = types-derived;
  types_accepted = types-accepted;
  predicates_derived = predicates-derived;
  predicates_accepted = predicates-accepted;
  functions_derived = functions-derived;
  functions_accepted = functions-accepted;
  action_derived = action-derived;
  action_accepted = action-accepted;
  start_derived = start-derived;
  start_accepted = start-accepted;
  goal_derived = goal-derived;
  goal_accepted = goal-accepted;
  reward_derived = reward-derived;
  reward_accepted = reward-accepted;
}
