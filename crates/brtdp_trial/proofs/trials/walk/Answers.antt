use Rattle.std.proofs.Common.{◌≡◌, ◌+◌, sym, ap, subst, ◌∙◌, [], ◌∷◌, ◌++◌, arith}
use Rattle.std.proofs.lemmas.List.{length_push}
use Rattle.std.proofs.lemmas.List.Elements.{All-push, All-weaker}
use Rattle.brtdp_trial.specs.Paths.{PathView}
use Rattle.brtdp_trial.specs.Draws.{Place, draws_of}
use Rattle.brtdp_trial.specs.Turns.{IsTurn, onward}
use Rattle.brtdp_trial.specs.declared.turn.Turn.{Turn}
use Rattle.brtdp_trial.specs.declared.ends.Onward.TheVariants.{Goes}
use Rattle.brtdp_trial.proofs.Walking.{goes_before, turns_more}
use Rattle.brtdp_trial.proofs.trials.walk.Invariants.{Stands}
use Rattle.brtdp_trial.proofs.trials.walk.Goals as goal

pub loop-end-preserved : goal.loop-end-preserved
loop-end-preserved g c =
    let v = c.loop-end.invariant in
    let m = g.met.B.Bounds in
    let s = c.args.bounds.now in
    let u = c.loop-end.bounds in
    let w = c.take_turn-turn.new.bounds in
    let a = c.args.aim in
    let p = c.loop-end.path in
    let t = c.take_turn-turn.result in
    let n = c.loop-end.pushed in
    let next = c.in-Goes.next in
    let is = c.in-Goes.is_new in
    let goes : onward a (n + 1) c.loop-end.new t ≡ Goes next is = sym c.onward_at.ensures ∙ c.in-Goes.is in
    let before : n + 1 ≡ a.depth → ⊥ = goes_before a (n + 1) c.loop-end.new t next is goes in
    let turn_is = subst (λ (x : Place). IsTurn g.B.Bounds.later g.B.Bounds.full g.B.Bounds.last g.B.Bounds.told (draws_of x) a (n + 1) c.loop-end.new u w t)
    v.draws c.take_turn-turn.ensures.turn in
    subst (λ (q : PathView). Stands g.B.Bounds.knows g.B.Bounds.later g.B.Bounds.full g.B.Bounds.last g.B.Bounds.told
    a c.args.draws.now c.take_turn-turn.new.draws c.args.path.now q s w c.args.first next is (n + 1)) (sym c.push.ensures)
    (record {
      since = m.trans s u w v.since c.take_turn-turn.ensures.later;
      known = c.take_turn-turn.ensures.next next is goes;
      count = let long = length_push p.turns t in let k = v.count in omega arith;
      few = let few = v.few in omega arith;
      same = ap (λ (x : PathView). record x { turns = p.turns ++ t ∷ [] }) v.same;
      draws = c.take_turn-turn.ensures.draws next is goes ∙ ap (λ (x : Place). record x { next = x.next + 1 }) v.draws;
      all_known = All-push (λ (x : Turn). g.B.Bounds.knows w x.id) p.turns t
          (All-weaker (λ (x : Turn). g.B.Bounds.knows u x.id) (λ (x : Turn). g.B.Bounds.knows w x.id)
          (λ x k. m.known_stays u w x.id c.take_turn-turn.ensures.later k) p.turns v.all_known)
          (subst (g.B.Bounds.knows w) (sym c.take_turn-turn.ensures.id) (m.known_stays u w c.loop-end.id c.take_turn-turn.ensures.later v.known));
      rest = turns_more g.B.Bounds.later g.B.Bounds.full g.B.Bounds.last g.B.Bounds.told (draws_of c.args.draws.now) a
          p.turns t n c.args.first c.loop-end.id next c.loop-end.new is s u w v.rest c.take_turn-turn.ensures.id
          turn_is goes;
    })
