use Rattle.std.proofs.Common.{ap, ◌∙◌}
use Rattle.plain_list.specs.Texts.{compare_texts, rises}
use Rattle.ppddl_model.specs.Changing.{facts, changing_atoms}
use Rattle.ground_meaning.proofs.lemmas.refusals.Order.{texts_rise}
use Rattle.grounder.proofs.names.names_of.Goals as goal

pub name_set-requires : goal.name_set-requires
name_set-requires c = ap (rises compare_texts) c.requires ∙ texts_rise (changing_atoms c.args.facts.now)

pub name_set-requires-2 : goal.name_set-requires-2
name_set-requires-2 c = ap (rises compare_texts) (c.as_slice.ensures ∙ c.in_ok-texts.ensures) ∙ texts_rise (facts c.args.facts.now)
