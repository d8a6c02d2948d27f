use Rattle.std.proofs.Common.{◌≡◌, sym, ap, subst, ◌∙◌}
use Rattle.std.specs.Prelude.{Option, ℕ}
use Rattle.brtdp_trial.specs.Draws.{Place, draw_of, draws_of}
use Rattle.brtdp_trial.specs.Paths.{PathView}
use Rattle.brtdp_trial.specs.Trials.{FromStart, IsStartDraw}
use Rattle.brtdp_trial.specs.declared.start_draw.StartDraw.{StartDraw}
use Rattle.brtdp_trial.specs.declared.start_draw.StartDrawn.{StartDrawn}
use Rattle.brtdp_trial.proofs.Unplaced.{start_is_full}
use Rattle.brtdp_trial.proofs.trials.trial.Goals as goal

pub returns-clause-trial : goal.returns-clause-trial
returns-clause-trial g c =
    let start_is : c.from_start-end.new.path.start ≡ c.draw_start-start.result =
    ap (λ (p : PathView). p.start) c.from_start-end.ensures.same ∙ ap (λ (p : PathView). p.start) c.note_start.ensures in
    let seed_is : c.new-draws.result.seed ≡ c.args.seed = ap (λ (p : Place). p.seed) c.new-draws.ensures in
    let number_is : c.new-draws.result.number ≡ c.args.number = ap (λ (p : Place). p.number) c.new-draws.ensures in
    let seed_then : c.draw_start-start.new.draws.seed ≡ c.args.seed = c.draw_start-start.ensures.same.0 ∙ seed_is in
    let number_then : c.draw_start-start.new.draws.number ≡ c.args.number = c.draw_start-start.ensures.same.1 ∙ number_is in
    let Opens : ℕ → ℕ → StartDraw → Type 0 = λ s n d. IsStartDraw (draw_of s n 0) c.read_starts-starts.result d in
    let opens : Opens c.args.seed c.args.number c.from_start-end.new.path.start =
    subst (λ d. Opens c.args.seed c.args.number d) (sym start_is)
    (subst (λ n. Opens c.args.seed n c.draw_start-start.result) number_is
    (subst (λ s. Opens s c.new-draws.result.number c.draw_start-start.result) seed_is c.draw_start-start.ensures.draw)) in
    let Turns : ℕ → ℕ → Option StartDrawn → Type 0 = λ s n d.
    FromStart g.B.Bounds.later g.B.Bounds.full g.B.Bounds.last g.B.Bounds.told (draw_of s n) c.args.tau c.args.depth c.args.ends d c.read_starts-starts.result
    c.from_start-end.new.path.turns c.read_starts-starts.new.bounds c.from_start-end.result c.from_start-end.new.bounds in
    let turned : Turns c.args.seed c.args.number c.from_start-end.new.path.start.drawn =
    subst (λ d. Turns c.args.seed c.args.number d) (sym (ap (λ (d : StartDraw). d.drawn) start_is))
    (subst (λ n. Turns c.args.seed n c.draw_start-start.result.drawn) number_then
    (subst (λ s. Turns s c.draw_start-start.new.draws.number c.draw_start-start.result.drawn) seed_then c.from_start-end.ensures.turns)) in
    record {
      steps = c.read_starts-starts.result;
      read = c.read_starts-starts.new.bounds;
      walked = c.from_start-end.new.bounds;
      follows = c.read_starts-starts.ensures.later;
      by_weight = c.read_starts-starts.ensures.weights;
      exact = c.read_starts-starts.ensures.told;
      opening = opens;
      turns = turned;
      back = c.back.ensures.back;
    }

pub returns-clause-unplaced : goal.returns-clause-unplaced
returns-clause-unplaced g c = λ ends.
    let m = g.met.B.Bounds in
    let read = c.read_starts-starts.new.bounds in let walked = c.from_start-end.new.bounds in
    m.full_stays c.args.bounds.now read walked c.back.new.bounds c.read_starts-starts.ensures.later
    (start_is_full g.B.Bounds.later g.B.Bounds.full g.B.Bounds.last g.B.Bounds.told (draws_of c.draw_start-start.new.draws) m.refl m.full_stays
    c.args.tau c.args.depth c.args.ends c.draw_start-start.result.drawn c.read_starts-starts.result c.from_start-end.new.path.turns read c.from_start-end.result walked
    c.from_start-end.ensures.turns ends)
    c.back.ensures.later
