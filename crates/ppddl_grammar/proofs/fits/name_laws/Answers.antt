-- Names are in lower case, by the lemmas.
use Rattle.ppddl_grammar.proofs.lemmas.fits.Lower.{forms-lowered}
use Rattle.ppddl_grammar.proofs.lemmas.fits.Types.{types-have_names}
use Rattle.ppddl_grammar.proofs.lemmas.fits.Predicates.{predicates-have_names, functions-have_names}
use Rattle.ppddl_grammar.proofs.lemmas.fits.Objects.{objects-have_names}
use Rattle.ppddl_grammar.proofs.lemmas.fits.Actions.{action-has_name}
use Rattle.ppddl_grammar.proofs.fits.name_laws.Goals as goal

pub returns : goal.returns
returns c = record {
  forms = forms-lowered;
  types = types-have_names;
  predicates = predicates-have_names;
  functions = functions-have_names;
  objects = objects-have_names;
  action = action-has_name;
}
