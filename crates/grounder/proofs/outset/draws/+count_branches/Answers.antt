use Rattle.std.proofs.Common.{[], ◌*◌, length, refl, sym, ap, ◌∙◌}
use Rattle.ppddl_model.specs.Objects.{bindings}
use Rattle.ground_terms.specs.sizes.Counted.{counted}
use Rattle.ground_terms.proofs.lemmas.sizes.Stopping.{counted-mul}
use Rattle.grounder.specs.outset.Draws.{branches}
use Rattle.grounder.proofs.lemmas.outset.Few.{begun-Both, begun-Chance, branches-For, branches-When}
use Rattle.grounder.proofs.outset.draws.+count_branches.Goals as goal

pub loop-part-init : goal.loop-part-init
loop-part-init t c = record {
  small = refl;
  rest = begun-Both c.args.table.now c.args.effect.now c.in-Both.parts c.as_slice-part-items.result.now c.in-Both.is c.as_slice-part-items.ensures;
}

pub loop-branch-init : goal.loop-branch-init
loop-branch-init t c = record {
  small = refl;
  rest = begun-Chance c.args.table.now c.args.effect.now c.in-Chance.branches c.as_slice-branch-items.result.now c.in-Chance.is c.as_slice-branch-items.ensures;
}

pub returns-in-Forall : goal.returns-in-Forall
returns-in-Forall t c =
    c.saturating_mul.ensures
    ∙ (λ j. counted (c.count_bindings.ensures j * c.count_branches-in-Forall.ensures j))
    ∙ counted-mul (length (bindings c.args.table.now c.as_slice.result.now [])) (branches c.args.table.now c.get.result.now)
    ∙ ap counted (branches-For c.args.table.now c.args.effect.now c.in-Forall.inner c.get.result.now c.in-Forall.variables c.as_slice.result.now
    c.in-Forall.is c.get.ensures c.as_slice.ensures)

pub returns-in-When : goal.returns-in-When
returns-in-When t c =
    c.count_branches-in-When.ensures
    ∙ ap counted (ap (branches c.args.table.now) c.get-in-When.ensures ∙ branches-When c.args.table.now c.in-When.field-0 c.in-When.inner
    ∙ ap (branches c.args.table.now) (sym c.in-When.is))
