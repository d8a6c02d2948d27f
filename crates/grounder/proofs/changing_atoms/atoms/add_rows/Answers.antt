use Rattle.std.proofs.Common.{◌<◌, ℕ, List, [], length, get_or, refl, sym, ap, subst, ◌∙◌, arith}
use Rattle.grounder.specs.texts.Wanted.{with_more, IsPut}
use Rattle.grounder.proofs.lemmas.texts.Wanting.{item_more, item_over}
use Rattle.grounder.specs.changing_atoms.Atoms.{row_texts}
use Rattle.grounder.proofs.lemmas.changing_atoms.Instances.{settled_rows}
use Rattle.grounder.proofs.changing_atoms.atoms.add_rows.Goals as goal

pub returns-then-are_settled : goal.returns-then-are_settled
returns-then-are_settled c =
    ap (with_more c.args.texts.now)
    (sym (settled_rows c.args.facts.now c.args.action.now c.args.atoms.now c.args.kept.now.rows
    (sym c.are_settled.ensures ∙ c.if-are_settled.true)))

pub loop-place-preserved : goal.loop-place-preserved
loop-place-preserved c =
    let texts : List ℕ → List (List ℕ) = row_texts c.args.facts.now c.args.action.now c.args.atoms.now in
    let within : c.loop-place.place < length c.args.kept.now.rows = omega (arith, c.len-place-end.ensures, c.loop-place-test.true) in
    item_more texts c.args.kept.now.rows c.loop-place.place (get_or c.args.kept.now.rows c.loop-place.place []) []
    c.loop-place.texts c.add_row.new.texts _ c.in_ok-add_row.field-0 within refl
    (subst (λ row. IsPut c.loop-place.texts (texts row) c.in_ok-add_row.field-0 c.add_row.new.texts) c.row.ensures c.in_ok-add_row.ensures)
    c.loop-place.invariant c.if-not-branch.false

pub returns-then-not-branch : goal.returns-then-not-branch
returns-then-not-branch c =
    let texts : List ℕ → List (List ℕ) = row_texts c.args.facts.now c.args.action.now c.args.atoms.now in
    let within : c.loop-place.place < length c.args.kept.now.rows = omega (arith, c.len-place-end.ensures, c.loop-place-test.true) in
    item_over texts c.args.kept.now.rows c.loop-place.place (get_or c.args.kept.now.rows c.loop-place.place []) []
    c.loop-place.texts c.add_row.new.texts _ c.in_ok-add_row.field-0 within refl
    (subst (λ row. IsPut c.loop-place.texts (texts row) c.in_ok-add_row.field-0 c.add_row.new.texts) c.row.ensures c.in_ok-add_row.ensures)
    c.loop-place.invariant c.if-not-branch.true
