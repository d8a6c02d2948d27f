-- The laws of readers, by their lemmas.
use Rattle.ppddl_cursor.proofs.Steps.{word_step, word_or_group_step, checking_step, refused_if_step, located_step, group_step, with_step, then_step, then_step_of_text, giving_step, last_step, last_step_of_text, optional_step, each_step, each_step_of_text, adding_step, many_step}
use Rattle.ppddl_cursor.proofs.laws.reading_laws.Goals as goal

pub returns : goal.returns
returns g c = record {
  word = word_step;
  word_or_group = word_or_group_step;
  checking = checking_step;
  refused_if = refused_if_step;
  located = located_step;
  group = group_step;
  keyword_group = with_step;
  one_then = then_step;
  giving = giving_step;
  last = last_step;
  optional = optional_step;
  each = each_step;
  adding = adding_step;
  many = many_step;
  one_then_of_text = then_step_of_text;
  last_of_text = last_step_of_text;
  each_of_text = each_step_of_text;
}
