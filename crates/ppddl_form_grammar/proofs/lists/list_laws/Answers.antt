-- The grammar and the relation are one language, by their lemmas.
use Rattle.ppddl_form_grammar.proofs.lemmas.lists.Objects.{objects_derived, objects_accepted}
use Rattle.ppddl_form_grammar.proofs.lemmas.lists.Items.{item_derived, item_accepted}
use Rattle.ppddl_form_grammar.proofs.lists.list_laws.Goals as goal

pub returns : goal.returns
returns c = record {
  objects_derived = objects_derived;
  objects_accepted = objects_accepted;
  item_derived = item_derived;
  item_accepted = item_accepted;
}
