-- One language, by the lemmas.
use Rattle.ppddl_grammar.proofs.lemmas.definitions.Domains.{domain-derived, domain-accepted}
use Rattle.ppddl_grammar.proofs.lemmas.definitions.Problems.{problem-derived, problem-accepted}
use Rattle.ppddl_grammar.proofs.definitions.definition_laws.Goals as goal

pub returns : goal.returns
returns c = record { domain_derived = domain-derived; domain_accepted = domain-accepted; problem_derived = problem-derived; problem_accepted = problem-accepted }
