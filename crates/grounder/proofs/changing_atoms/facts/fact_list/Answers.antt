use Rattle.std.proofs.Common.{[], ap, ◌∙◌}
use Rattle.std.specs.Prelude.{flat_map}
use Rattle.ppddl_model.specs.declared.tree.Task.{Task}
use Rattle.task_instances.proofs.lemmas.known_conditions.KnowSteps.{if_ok}
use Rattle.grounder.specs.texts.Texts.{with_texts, fact_texts}
use Rattle.grounder.proofs.lemmas.changing_atoms.Gathering.{facts_gathered}
use Rattle.grounder.proofs.changing_atoms.facts.fact_list.Goals as goal

pub returns : goal.returns
returns c =
    if_ok c.texts_of_set.result _ _ c.texts_of_set.ensures
    (facts_gathered c.args.facts.now c.in_ok-texts.texts.texts
    (c.in_ok-texts.ensures
    ∙ ap (λ l. with_texts [] (flat_map fact_texts l)) (c.as_slice.ensures ∙ ap (λ (t : Task). t.problem.init) c.task.ensures)))
