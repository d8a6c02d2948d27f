use Rattle.std.proofs.Common.{◌≡◌, Some, map, sym, ap, ◌∙◌, subst}
use Rattle.std.specs.Arc.{arc_value}
use Rattle.ground_model.specs.Ground.{Ground}
use Rattle.kept_transitions.specs.Rows.{Transitions, IsKept}
use Rattle.bellman_backup.specs.Odds.{odds_of}
use Rattle.bellman_backup.specs.Scratches.{ScratchView}
use Rattle.bellman_backup.specs.Kept.{IsKeeping}
use Rattle.bellman_backup.specs.Places.{near_of}
use Rattle.bellman_backup.proofs.KeptReads.{row_is_recalled}
use Rattle.bellman_backup.proofs.Keeping.{keeps_lower_load}
use Rattle.bellman_backup.proofs.Leasts.{can_narrow, narrow_keeps, narrow_narrows, narrow_places}
use Rattle.bellman_backup.proofs.unasked.narrow.Goals as goal

pub load_upper-upper-requires-clause-known : goal.load_upper-upper-requires-clause-known
load_upper-upper-requires-clause-known c =
    (keeps_lower_load c.args.words.now c.args.pass.now c.load_lower-lower.new.pass c.args.id c.load_lower-lower.result c.requires.here c.load_lower-lower.ensures.seen).noted.known
    c.args.id c.requires.known

pub least_of_kept-least-requires-clause-kept : goal.least_of_kept-least-requires-clause-kept
least_of_kept-least-requires-clause-kept c =
    let b = c.args.words.now in let g = b.problem in let k = c.args.pass.now in let k0 = c.load_upper-upper.new.pass in let k1 = c.recall.new.pass in
    let p = arc_value c.scratch.inside.index in let old = c.scratch.inside.witness in let t = c.place_of-place.result.kept.now in let row = c.place_of-place.result.row in
    let same : p ≡ g = ap (λ (v : ScratchView). v.problem) c.scratch.view_is ∙ c.requires.scratch.problem in
    let had : old ≡ Some c.in-Some.witness = sym c.take.ensures.value ∙ c.in-Some.is in
    let kept : IsKept row = c.is_kept.ensures.0 c.if-not-is_kept.false in
    let is = row_is_recalled g p old c.in-Some.witness k1.view c.args.id (near_of c.scratch.inside.near) c.scratch.inside.kept t row same
    c.scratch.invariant.3 c.scratch.invariant.1 had kept c.place_of-place.ensures c.recall.ensures.heard in
    (is.state, is.actions)

pub least_of_kept-least-requires-clause-weights : goal.least_of_kept-least-requires-clause-weights
least_of_kept-least-requires-clause-weights c =
    let same : arc_value c.scratch.inside.index ≡ c.args.words.now.problem = ap (λ (v : ScratchView). v.problem) c.scratch.view_is ∙ c.requires.scratch.problem in
    c.scratch.invariant.2 ∙ ap (λ (p : Ground). map odds_of p.actions) same

pub narrow_from-requires-clause-can : goal.narrow_from-requires-clause-can
narrow_from-requires-clause-can c =
    let b = c.args.words.now in let g = b.problem in let k = c.args.pass.now in let k0 = c.load_upper-upper.new.pass in let k1 = c.recall.new.pass in
    let p = arc_value c.scratch.inside.index in let old = c.scratch.inside.witness in let t = c.place_of-place.result.kept.now in let row = c.place_of-place.result.row in
    let same : p ≡ g = ap (λ (v : ScratchView). v.problem) c.scratch.view_is ∙ c.requires.scratch.problem in
    let had : old ≡ Some c.in-Some.witness = sym c.take.ensures.value ∙ c.in-Some.is in
    let kept : IsKept row = c.is_kept.ensures.0 c.if-not-is_kept.false in
    let is = row_is_recalled g p old c.in-Some.witness k1.view c.args.id (near_of c.scratch.inside.near) c.scratch.inside.kept t row same
    c.scratch.invariant.3 c.scratch.invariant.1 had kept c.place_of-place.ensures c.recall.ensures.heard in
    can_narrow b k c.load_lower-lower.new.pass k0 k1 c.least_of_kept-least.new.pass c.args.id c.load_lower-lower.result c.load_upper-upper.result t row c.least_of_kept-least.result
    c.requires.here c.requires.known c.load_lower-lower.ensures.seen c.load_upper-upper.ensures.seen c.recall.ensures.keeps c.recall.ensures.loads c.recall.ensures.state is
    c.least_of_kept-least.ensures.problem c.least_of_kept-least.ensures.keeps c.least_of_kept-least.ensures.least

pub invariant_of-scratch : goal.invariant_of-scratch
invariant_of-scratch c =
    let p = arc_value c.scratch.inside.index in let old = c.scratch.inside.witness in
    let had : old ≡ Some c.recall.new.witness = sym c.take.ensures.value ∙ c.in-Some.is ∙ ap Some (sym c.recall.ensures.witness) in
    let still : (t : Transitions) → IsKeeping p old t → IsKeeping p (Some c.recall.new.witness) t = λ t keeping. subst (λ o. IsKeeping p o t) had keeping in (
      c.scratch.invariant.0,
      still c.scratch.inside.kept c.scratch.invariant.1,
      c.scratch.invariant.2,
      still (near_of c.scratch.inside.near) c.scratch.invariant.3,
    )

pub returns-clause-keeps : goal.returns-clause-keeps
returns-clause-keeps c =
    let b = c.args.words.now in let g = b.problem in let k = c.args.pass.now in let k0 = c.load_upper-upper.new.pass in let k1 = c.recall.new.pass in
    let p = arc_value c.scratch.inside.index in let old = c.scratch.inside.witness in let t = c.place_of-place.result.kept.now in let row = c.place_of-place.result.row in
    let same : p ≡ g = ap (λ (v : ScratchView). v.problem) c.scratch.view_is ∙ c.requires.scratch.problem in
    let had : old ≡ Some c.in-Some.witness = sym c.take.ensures.value ∙ c.in-Some.is in
    let kept : IsKept row = c.is_kept.ensures.0 c.if-not-is_kept.false in
    let is = row_is_recalled g p old c.in-Some.witness k1.view c.args.id (near_of c.scratch.inside.near) c.scratch.inside.kept t row same
    c.scratch.invariant.3 c.scratch.invariant.1 had kept c.place_of-place.ensures c.recall.ensures.heard in
    narrow_keeps b k c.load_lower-lower.new.pass k0 k1 c.least_of_kept-least.new.pass c.args.id c.load_lower-lower.result c.load_upper-upper.result t row c.least_of_kept-least.result
    c.requires.here c.requires.known c.load_lower-lower.ensures.seen c.load_upper-upper.ensures.seen c.recall.ensures.keeps c.recall.ensures.loads c.recall.ensures.state is
    c.least_of_kept-least.ensures.problem c.least_of_kept-least.ensures.keeps c.least_of_kept-least.ensures.least
    c.narrow_from.new.pass c.narrow_from.ensures.one c.narrow_from.ensures.keeps c.narrow_from.ensures.raised c.narrow_from.ensures.sunk

pub returns-clause-narrows : goal.returns-clause-narrows
returns-clause-narrows c =
    let b = c.args.words.now in let g = b.problem in let k = c.args.pass.now in let k0 = c.load_upper-upper.new.pass in let k1 = c.recall.new.pass in
    let p = arc_value c.scratch.inside.index in let old = c.scratch.inside.witness in let t = c.place_of-place.result.kept.now in let row = c.place_of-place.result.row in
    let same : p ≡ g = ap (λ (v : ScratchView). v.problem) c.scratch.view_is ∙ c.requires.scratch.problem in
    let had : old ≡ Some c.in-Some.witness = sym c.take.ensures.value ∙ c.in-Some.is in
    let kept : IsKept row = c.is_kept.ensures.0 c.if-not-is_kept.false in
    let is = row_is_recalled g p old c.in-Some.witness k1.view c.args.id (near_of c.scratch.inside.near) c.scratch.inside.kept t row same
    c.scratch.invariant.3 c.scratch.invariant.1 had kept c.place_of-place.ensures c.recall.ensures.heard in
    narrow_narrows b k c.load_lower-lower.new.pass k0 k1 c.least_of_kept-least.new.pass c.args.id c.load_lower-lower.result c.load_upper-upper.result t row c.least_of_kept-least.result
    c.requires.here c.requires.known c.load_lower-lower.ensures.seen c.load_upper-upper.ensures.seen c.recall.ensures.keeps c.recall.ensures.loads c.recall.ensures.state is
    c.least_of_kept-least.ensures.problem c.least_of_kept-least.ensures.keeps c.least_of_kept-least.ensures.least
    c.narrow_from.new.pass c.narrow_from.ensures.one c.narrow_from.ensures.keeps c.narrow_from.ensures.raised c.narrow_from.ensures.sunk c.enough_laws.ensures.upper

pub returns-clause-places : goal.returns-clause-places
returns-clause-places c =
    let b = c.args.words.now in let g = b.problem in let k = c.args.pass.now in let k0 = c.load_upper-upper.new.pass in let k1 = c.recall.new.pass in
    let p = arc_value c.scratch.inside.index in let old = c.scratch.inside.witness in let t = c.place_of-place.result.kept.now in let row = c.place_of-place.result.row in
    let same : p ≡ g = ap (λ (v : ScratchView). v.problem) c.scratch.view_is ∙ c.requires.scratch.problem in
    let had : old ≡ Some c.in-Some.witness = sym c.take.ensures.value ∙ c.in-Some.is in
    let kept : IsKept row = c.is_kept.ensures.0 c.if-not-is_kept.false in
    let is = row_is_recalled g p old c.in-Some.witness k1.view c.args.id (near_of c.scratch.inside.near) c.scratch.inside.kept t row same
    c.scratch.invariant.3 c.scratch.invariant.1 had kept c.place_of-place.ensures c.recall.ensures.heard in
    narrow_places b k c.load_lower-lower.new.pass k0 k1 c.least_of_kept-least.new.pass c.args.id c.load_lower-lower.result c.load_upper-upper.result t row c.least_of_kept-least.result
    c.requires.here c.requires.known c.load_lower-lower.ensures.seen c.load_upper-upper.ensures.seen c.recall.ensures.keeps c.recall.ensures.loads c.recall.ensures.state is
    c.least_of_kept-least.ensures.problem c.least_of_kept-least.ensures.keeps c.least_of_kept-least.ensures.least
    c.narrow_from.new.pass c.narrow_from.ensures.one c.narrow_from.ensures.keeps c.narrow_from.ensures.raised c.narrow_from.ensures.sunk c.enough_laws.ensures.successors
