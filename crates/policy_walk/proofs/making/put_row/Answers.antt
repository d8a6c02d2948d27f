-- The row's state takes its act.
use Rattle.std.proofs.Common.{length, ap, get_or, ◌<◌, ◌∙◌, sym, subst}
use Rattle.certificate.specs.Rows.{shown}
use Rattle.certificate.specs.Content.{IsAct}
use Rattle.certificate_check.specs.Claims.{taken, act_by, numbers_of}
use Rattle.decision_process.specs.Readings.{action_of}
use Rattle.ground_model.specs.Packed.{words_for}
use Rattle.ground_step.specs.Atoms.{state_of}
use Rattle.ground_step.specs.Names.{place_of, action_names}
use Rattle.std.proofs.lemmas.List.{length-map}
use Rattle.policy_walk.proofs.Rows.{all_from, row_put}
use Rattle.policy_walk.proofs.making.put_row.Goals as goal

pub row_state-requires : goal.row_state-requires
row_state-requires c k d below =
    let long = ap length (c.deref.ensures.value ∙ c.requires.tables.atoms) ∙ length-map c.args.certificate.now.atoms (place_of c.args.problem.now.atoms) in
    subst (λ n. get_or c.args.row.atoms.now k d < n) (sym long) (all_from (λ i. i < length c.args.certificate.now.atoms) c.args.row.atoms.now c.requires.row.atoms k d below)

pub action_taken-action-requires : goal.action_taken-action-requires
action_taken-action-requires c =
    let long = ap length (c.deref-2.ensures.value ∙ c.requires.tables.acts) ∙ length-map c.args.certificate.now.acts (place_of (action_names c.args.problem.now)) in
    subst (λ n. IsAct n c.args.row.act) (sym long) c.requires.row.act

pub returns : goal.returns
returns c =
    let g = c.args.problem.now in
    row_put g c.args.certificate.now (shown c.args.row) c.in_ok-state.state c.action_taken-action.result c.args.acts.now.entries c.insert.new.self.entries
    (c.in_ok-state.ensures ∙ ap (λ numbers. state_of (numbers_of numbers c.args.row.atoms.now) (words_for (length g.atoms))) (c.deref.ensures.value ∙ c.requires.tables.atoms))
    (c.action_taken-action.ensures ∙ ap (λ codes. action_of (taken (act_by codes c.args.row.act))) (c.deref-2.ensures.value ∙ c.requires.tables.acts))
    c.in-Ok.ensures.updates.0
