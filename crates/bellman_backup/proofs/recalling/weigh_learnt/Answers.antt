use Rattle.std.proofs.Common.{◌≡◌, Some, map, sym, ap, ◌∙◌, subst}
use Rattle.std.specs.Arc.{arc_value}
use Rattle.ground_model.specs.Ground.{Ground}
use Rattle.kept_transitions.specs.Rows.{Transitions, IsKept}
use Rattle.bellman_backup.specs.Odds.{odds_of}
use Rattle.bellman_backup.specs.Scratches.{ScratchView}
use Rattle.bellman_backup.specs.Kept.{IsKeeping}
use Rattle.bellman_backup.specs.Places.{near_of}
use Rattle.bellman_backup.proofs.Keeping.{keeps_again}
use Rattle.bellman_backup.proofs.Finishing.{has_weighed}
use Rattle.bellman_backup.proofs.KeptReads.{row_is_recalled, state_is_recalled}
use Rattle.bellman_backup.proofs.recalling.weigh_learnt.Goals as goal

pub best_of_kept-best-requires-clause-kept : goal.best_of_kept-best-requires-clause-kept
best_of_kept-best-requires-clause-kept c =
    let b = c.args.words.now in let g = b.problem in let k = c.args.pass.now in let k1 = c.recall.new.pass in
    let p = arc_value c.scratch.inside.index in let old = c.scratch.inside.witness in let t = c.place_of-place.result.kept.now in let row = c.place_of-place.result.row in
    let same : p ≡ g = ap (λ (v : ScratchView). v.problem) c.scratch.view_is ∙ c.requires.scratch.problem in
    let had : old ≡ Some c.in-Some.witness = sym c.take.ensures.value ∙ c.in-Some.is in
    let kept : IsKept row = c.is_kept.ensures.0 c.if-not-is_kept.false in
    let is = row_is_recalled g p old c.in-Some.witness k1.view c.args.id (near_of c.scratch.inside.near) c.scratch.inside.kept t row same
    c.scratch.invariant.3 c.scratch.invariant.1 had kept c.place_of-place.ensures c.recall.ensures.heard in
    (is.state, is.actions)

pub best_of_kept-best-requires-clause-weights : goal.best_of_kept-best-requires-clause-weights
best_of_kept-best-requires-clause-weights c =
    let same : arc_value c.scratch.inside.index ≡ c.args.words.now.problem = ap (λ (v : ScratchView). v.problem) c.scratch.view_is ∙ c.requires.scratch.problem in
    c.scratch.invariant.2 ∙ ap (λ (p : Ground). map odds_of p.actions) same

pub invariant_of-scratch : goal.invariant_of-scratch
invariant_of-scratch c =
    let p = arc_value c.scratch.inside.index in let old = c.scratch.inside.witness in
    let had : old ≡ Some c.recall.new.witness = sym c.take.ensures.value ∙ c.in-Some.is ∙ ap Some (sym c.recall.ensures.witness) in
    let still : (t : Transitions) → IsKeeping p old t → IsKeeping p (Some c.recall.new.witness) t = λ t keeping. subst (λ o. IsKeeping p o t) had keeping in (
      c.scratch.invariant.0,
      still c.scratch.inside.kept c.scratch.invariant.1,
      c.scratch.invariant.2,
      still (near_of c.scratch.inside.near) c.scratch.invariant.3,
    )

pub returns-clause-keeps : goal.returns-clause-keeps
returns-clause-keeps c =
    keeps_again c.args.words.now c.args.pass.now c.recall.new.pass c.best_of_kept-best.new.pass c.recall.ensures.keeps c.best_of_kept-best.ensures.keeps

pub returns-clause-told : goal.returns-clause-told
returns-clause-told c =
    let b = c.args.words.now in let g = b.problem in let k = c.args.pass.now in let k1 = c.recall.new.pass in
    let p = arc_value c.scratch.inside.index in let old = c.scratch.inside.witness in let t = c.place_of-place.result.kept.now in let row = c.place_of-place.result.row in
    let same : p ≡ g = ap (λ (v : ScratchView). v.problem) c.scratch.view_is ∙ c.requires.scratch.problem in
    let had : old ≡ Some c.in-Some.witness = sym c.take.ensures.value ∙ c.in-Some.is in
    let kept : IsKept row = c.is_kept.ensures.0 c.if-not-is_kept.false in
    let is = row_is_recalled g p old c.in-Some.witness k1.view c.args.id (near_of c.scratch.inside.near) c.scratch.inside.kept t row same
    c.scratch.invariant.3 c.scratch.invariant.1 had kept c.place_of-place.ensures c.recall.ensures.heard in
    let d = c.best_of_kept-best.ensures in
    has_weighed b k k1 c.best_of_kept-best.new.pass c.args.id is.state is.actions.codes c.best_of_kept-best.new.chosen c.best_of_kept-best.result
    d.problem is.off_goal c.recall.ensures.keeps (state_is_recalled g k.view k1.view c.args.id t row is c.recall.ensures.keeps.noted c.recall.ensures.state)
    c.recall.ensures.loads d.keeps (d.best is.state is.actions) is.actions.enough
