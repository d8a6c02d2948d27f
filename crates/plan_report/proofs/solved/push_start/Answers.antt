use Rattle.std.proofs.Common.{◌++◌, ◌∙◌, ap}
use Rattle.std.specs.Prelude.{codes}
use Rattle.ground_step.specs.Atoms.{true_atoms}
use Rattle.fixed_round.specs.Words.{value_of}
use Rattle.bound_core.specs.ends.Closing.{act_in}
use Rattle.plan_report.specs.Units.{units}
use Rattle.plan_report.specs.Reports.{fraction_text, atoms_text}
use Rattle.plan_report.specs.StartRows.{row_act_text}
use Rattle.plan_report.proofs.Joining.{start_pieces}
use Rattle.plan_report.proofs.solved.push_start.Goals as goal

pub returns : goal.returns
returns c =
    let g = c.args.problem.now in let x = c.args.start.now in let row = c.args.row.now in
    let begun = c.in_ok-extend_from_slice.ensures.items in
    let chance = c.in_ok-push_fraction.ensures ∙ (λ j. begun j ++ fraction_text x.weight (c.start_den.ensures.value j)) in
    let lower = c.in_ok-push_units.ensures ∙ ap (λ l. l ++ (codes " " ++ units row.lower)) chance in
    let upper = c.in_ok-push_units-2.ensures ∙ (λ j. lower j ++ (codes " " ++ units (c.value.ensures j))) in
    let parted = c.in_ok-push.ensures.items ∙ ap (λ l. l ++ codes " ") upper in
    let acted = c.in_ok-push_act.ensures ∙ (λ j. parted j ++ row_act_text (c.actions.ensures.value j) (act_in row.upper)) in
    let atoms = c.in_ok-extend_from_slice-2.ensures.items ∙ ap (λ l. l ++ codes " :") acted in
    let named = c.in_ok-push_true_atoms.ensures ∙ (λ j. atoms j ++ atoms_text (c.atoms.ensures.value j) (true_atoms x.state)) in
    c.in_ok-push-2.ensures.items
    ∙ ap (λ l. l ++ codes "\n") named
    ∙ start_pieces c.args.out.now.items (codes "start ") (fraction_text x.weight g.start_den) (codes " ")
    (units row.lower) (units (value_of row.upper)) (row_act_text g.actions (act_in row.upper)) (codes " :") (atoms_text g.atoms (true_atoms x.state)) (codes "\n")
