-- What is read fits, by the lemmas.
use Rattle.ppddl_form_grammar.proofs.lemmas.fits.Variables.{variables_fit}
use Rattle.ppddl_form_grammar.proofs.lemmas.fits.Reading as read
use Rattle.ppddl_form_grammar.proofs.lemmas.fits.Objects.{objects-fit}
use Rattle.ppddl_form_grammar.proofs.lemmas.fits.Items.{item-fits, item-draws, value-fits}
use Rattle.ppddl_form_grammar.proofs.lemmas.fits.Problem.{reward_fit}
use Rattle.ppddl_form_grammar.proofs.lemmas.fits.Declared.{name_is_plain}
use Rattle.ppddl_form_grammar.proofs.fits.reading_laws.Goals as goal

pub returns : goal.returns
returns c = record {
  variables = variables_fit;
  condition = read.condition-fits;
  effect = read.effect-fits;
  draws = read.effect-draws;
  objects = objects-fit;
  item = item-fits;
  item_draws = item-draws;
  value = value-fits;
  reward = reward_fit;
  name = name_is_plain;
}
