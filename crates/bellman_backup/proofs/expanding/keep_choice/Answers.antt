-- An idle choice leads to the state itself; of another one the id of the next state is kept.
use Rattle.std.proofs.Common.{◌≡◌, true, false, length, sym, ap, ◌∙◌, subst}
use Rattle.ground_model.specs.Packed.{has_bit}
use Rattle.ground_model.specs.Choices.{after}
use Rattle.ground_model.proofs.Packed.{length-packed}
use Rattle.ground_step.proofs.Outcomes.{cost_within}
use Rattle.kept_transitions.specs.Idle.{is_idle}
use Rattle.kept_transitions.proofs.Growth.{grown_all}
use Rattle.bellman_backup.specs.Growing.{HasKeptId}
use Rattle.bellman_backup.proofs.TransitionsKept.{idle_is_kept, id_is_kept}
use Rattle.bellman_backup.proofs.expanding.keep_choice.Goals as goal

pub returns-then-is_idle-clause-grown : goal.returns-then-is_idle-clause-grown
returns-then-is_idle-clause-grown c = grown_all c.args.kept.now

pub returns-then-is_idle-clause-kept : goal.returns-then-is_idle-clause-kept
returns-then-is_idle-clause-kept c = λ _.
    let idle : is_idle c.args.choice.now ≡ true = ap is_idle (sym c.choice.ensures) ∙ sym c.is_idle.ensures ∙ c.if-is_idle.true in
    idle_is_kept c.args.pass.now.view c.args.state.now c.args.choice.now c.args.kept.now idle (c.idle_law.ensures c.args.choice.now idle)

pub apply-paid-requires-clause-cost : goal.apply-paid-requires-clause-cost
apply-paid-requires-clause-cost c = cost_within (length c.args.words.now.problem.atoms) c.args.choice.now c.requires.choice (has_bit c.args.state.now)

pub keep_id-requires-clause-wide : goal.keep_id-requires-clause-wide
keep_id-requires-clause-wide c =
    ap length c.apply-paid.ensures.next ∙ length-packed (after (has_bit c.args.state.now) c.args.choice.now) (length c.args.state.now) ∙ c.requires.wide

pub returns-then-keep_id-clause-kept : goal.returns-then-keep_id-clause-kept
returns-then-keep_id-clause-kept c = λ _.
    let moves : is_idle c.args.choice.now ≡ false = ap is_idle (sym c.choice.ensures) ∙ sym c.is_idle.ensures ∙ c.if-is_idle.false in
    let w = c.keep_id.new.kept in
    id_is_kept c.args.pass.now.view c.keep_id.new.pass.view c.args.state.now c.args.choice.now c.args.kept.now w moves
    (subst (λ t. HasKeptId c.keep_id.new.pass.view t c.args.kept.now w) c.apply-paid.ensures.next (c.keep_id.ensures.kept c.if-keep_id.true))

pub returns-clause-fits : goal.returns-clause-fits
returns-clause-fits c = ap length c.apply-paid.ensures.next ∙ length-packed (after (has_bit c.args.state.now) c.args.choice.now) (length c.args.state.now)
