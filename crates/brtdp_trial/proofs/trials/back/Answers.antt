use Rattle.std.proofs.Common.{◌≡◌, ◌<◌, ◌-◌, length, subst, sym, arith}
use Rattle.std.proofs.lemmas.List.Elements.{All-weaker}
use Rattle.brtdp_trial.proofs.Walking.{All_at, at_some, back_more}
use Rattle.brtdp_trial.specs.declared.turn.Turn.{Turn}
use Rattle.brtdp_trial.proofs.trials.back.Goals as goal

pub backup-requires : goal.backup-requires
backup-requires g c =
    let within : c.loop-left.left - 1 < length c.args.path.now.turns = let w = c.loop-left.invariant.within in let t = c.loop-left-test.true in omega arith in
    let got = at_some c.args.path.now.turns (c.loop-left.left - 1) within in
    subst (g.B.Bounds.knows c.loop-left.bounds) (sym (c.id_at.ensures got.0 got.1))
    (All_at (λ (t : Turn). g.B.Bounds.knows c.loop-left.bounds t.id) c.args.path.now.turns (c.loop-left.left - 1) got.0 c.loop-left.invariant.known got.1)

pub loop-left-preserved : goal.loop-left-preserved
loop-left-preserved g c =
    let v = c.loop-left.invariant in
    let within : c.loop-left.left - 1 < length c.args.path.now.turns = let w = v.within in let t = c.loop-left-test.true in omega arith in
    let got = at_some c.args.path.now.turns (c.loop-left.left - 1) within in
    let u = c.loop-left.bounds in
    let z = c.backup.new.self in
    record {
      since = g.met.B.Bounds.trans c.args.bounds.now u z v.since c.backup.ensures.later;
      within = omega arith;
      known = All-weaker (λ (t : Turn). g.B.Bounds.knows u t.id) (λ (t : Turn). g.B.Bounds.knows z t.id) (λ t k. g.met.B.Bounds.known_stays u z t.id c.backup.ensures.later k) c.args.path.now.turns v.known;
      rest = back_more g.B.Bounds.later g.B.Bounds.told c.args.path.now.turns c.loop-left.left got.0 c.args.bounds.now u z c.loop-left-test.true got.1 v.rest c.backup.ensures.later
          (λ tells. subst (λ id. z ≡ g.B.Bounds.told.after u id) (c.id_at.ensures got.0 got.1) (c.backup.ensures.told tells).1);
    }
