-- The grammar and the relation are one language, by their lemmas.
use Rattle.ppddl_form_grammar.proofs.lemmas.forms.Lists as list
use Rattle.ppddl_form_grammar.proofs.lemmas.forms.Conditions as condition
use Rattle.ppddl_form_grammar.proofs.lemmas.forms.Effects as effect
use Rattle.ppddl_form_grammar.proofs.forms.form_laws.Goals as goal

pub returns : goal.returns
returns c = record {
  list_derived = list.list_derived;
  list_accepted = list.list_accepted;
  condition_derived = condition.condition_derived;
  condition_accepted = condition.condition_accepted;
  effect_derived = effect.effect_derived;
  effect_accepted = effect.effect_accepted;
}
