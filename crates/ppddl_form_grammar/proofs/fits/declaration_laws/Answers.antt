-- Declarations fit, by their lemmas.
use Rattle.ppddl_form_grammar.proofs.lemmas.fits.Declared.{distinct-grows, types-fit, declaration_fits}
use Rattle.ppddl_form_grammar.proofs.fits.declaration_laws.Goals as goal

pub returns : goal.returns
returns c = record {
  declaration = declaration_fits;
  types = types-fit;
  distinct = distinct-grows;
}
