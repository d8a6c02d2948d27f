-- What fits stays so, by the lemmas.
use Rattle.ppddl_form_grammar.proofs.lemmas.fits.Growth as growth
use Rattle.ppddl_form_grammar.proofs.lemmas.fits.Trees as tree
use Rattle.ppddl_form_grammar.proofs.lemmas.fits.Problem as problem
use Rattle.ppddl_form_grammar.proofs.lemmas.fits.Declared.{params-grow, objects-grow, declarations-grow}
use Rattle.ppddl_forms.specs.names.Declarations.{world_of}
use Rattle.ppddl_form_grammar.specs.fits.Growth.{domain_of}
use Rattle.ppddl_form_grammar.proofs.fits.growth_laws.Goals as goal

pub returns : goal.returns
returns c = record {
  now = growth.now;
  kept = growth.kept;
  condition = λ d w domain declared. tree.condition-grows (world_of d) w (domain_of d) domain (growth.later_from d w domain declared);
  effect = λ d w domain declared. tree.effect-grows (world_of d) w (domain_of d) domain (growth.later_from d w domain declared);
  item = λ d w domain declared. problem.item-grows (world_of d) w (domain_of d) domain (growth.later_from d w domain declared);
  values = λ d w domain declared. problem.values-grow (world_of d) w (domain_of d) domain (growth.later_from d w domain declared);
  params = params-grow;
  objects = objects-grow;
  declarations = declarations-grow;
}
