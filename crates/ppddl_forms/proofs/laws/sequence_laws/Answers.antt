-- The laws of readings that are put together, by their lemmas.
use Rattle.ppddl_forms.proofs.Steps.{by_word_step, or_word_step, refused_step, many_behind_step, each_to_step}
use Rattle.ppddl_forms.proofs.laws.sequence_laws.Goals as goal

pub returns : goal.returns
returns g c = record {
  by_word = by_word_step;
  or_word = or_word_step;
  refused = refused_step;
  many_behind = many_behind_step;
  each_to = each_to_step;
}
