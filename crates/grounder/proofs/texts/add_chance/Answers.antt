use Rattle.std.proofs.Common.{sym, ap, subst, ◌∙◌}
use Rattle.std.specs.Prelude.{flat_map, IfOk}
use Rattle.grounder.specs.texts.Texts.{init_branch_texts, chance_texts}
use Rattle.grounder.specs.texts.Wanted.{IsPut}
use Rattle.grounder.proofs.lemmas.texts.Adding.{of_branches}
use Rattle.grounder.proofs.texts.add_chance.Goals as goal

pub returns-in-Chance : goal.returns-in-Chance
returns-in-Chance c =
    subst (λ l. IfOk c.add_branches.result (λ all. IsPut c.args.texts.now l all c.add_branches.new.texts))
    (ap (flat_map init_branch_texts) c.as_slice.ensures ∙ of_branches c.in-Chance.branches ∙ ap chance_texts (sym c.in-Chance.is))
    c.add_branches.ensures
