-- What sections declare, by the lemmas.
use Rattle.ppddl_grammar.proofs.lemmas.fits.Types.{types-declared, types-keep_fit}
use Rattle.ppddl_grammar.proofs.lemmas.fits.Predicates.{predicates-declared, functions-declared, predicates-keep_fit, functions-keep_fit}
use Rattle.ppddl_grammar.proofs.lemmas.fits.Objects.{objects-keep_fit}
use Rattle.ppddl_grammar.proofs.fits.declaration_laws.Goals as goal

pub returns : goal.returns
returns c = record {
  types = types-declared;
  predicates = predicates-declared;
  functions = functions-declared;
  types_fit = types-keep_fit;
  predicates_fit = predicates-keep_fit;
  functions_fit = functions-keep_fit;
  objects_fit = objects-keep_fit;
}
