use Rattle.std.proofs.Common.{refl, sym, ◌∙◌}
use Rattle.std.specs.Prelude.{Some}
use Rattle.brtdp_trial.proofs.Walking.{goes_to, known_to}
use Rattle.brtdp_trial.proofs.turns.take_turn.Goals as goal

pub returns-in-None-clause-next : goal.returns-in-None-clause-next
returns-in-None-clause-next g c = λ next is goes.
    let drawn = c.draw_choice.ensures.drawn in
    known_to (g.B.Bounds.knows c.backup-backed.new.self) _ c.draw_choice.result.index drawn.to.0 c.draw_choice.result.id next
    c.backup-backed.ensures.known drawn.to.1 drawn.to.2
    (goes_to c.args.aim c.args.number c.args.new
    (record { id = c.args.id; code = c.backup-backed.result.code; den = c.backup-backed.result.den; total = c.total_of-total.result; drawn = Some c.draw_choice.result })
    c.draw_choice.result next is (sym c.stop_before.ensures ∙ c.in-None.is) refl goes)
