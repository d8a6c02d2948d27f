use Rattle.std.proofs.Common.{◌+◌, ◌≤◌, [], ◌∷◌, ◌++◌, refl, sym, ap, subst, arith}
use Rattle.std.proofs.lemmas.List.{take_all}
use Rattle.bellman_backup.proofs.PlacedWeights.{shares_long}
use Rattle.bellman_backup.proofs.KeptReads.{kept_begins, at_most_one, id_is_inside, id_is_known, choice_is_small, kept_goes_on, kept_ends}
use Rattle.bellman_backup.proofs.unasked.sum_kept.Goals as goal

pub loop-share-init : goal.loop-share-init
loop-share-init c =
    let cost = c.from-cost.ensures in let fits = c.fits-kept in record {
      steps = [];
      is = kept_begins c.args.words.now c.args.pass.now c.args.own c.args.ids.now c.args.action.now c.args.kept.now []
          (record { lower = c.from-cost.result; upper = c.from-cost.result }) c.args.kept.now.first c.requires.here refl cost cost (omega arith) refl;
    }

pub id_in-id-requires : goal.id_in-id-requires
id_in-id-requires c =
    id_is_inside c.args.words.now c.args.pass.now c.loop-share.pass c.args.own c.args.ids.now c.args.action.now c.args.kept.now
    c.loop-share.invariant.steps c.loop-share.sums c.loop-share.place c.loop-share.share-index c.loop-share.invariant.is c.requires.kept.0 c.requires.kept.1
    c.args.shares.now c.requires.shares c.loop-share-test.true

pub overflow_add-place : goal.overflow_add-place
overflow_add-place c =
    let room = c.loop-share.invariant.is.place_room in let fits = c.fits-kept in let count = c.requires.action.count in let below = c.loop-share-test.true in
    let one : c.from-place.result ≤ 1 = subst (λ n. n ≤ 1) (sym c.from-place.ensures) (at_most_one _) in
    let long = shares_long c.args.action.now c.args.shares.now c.requires.shares in omega arith

pub read_id-step-requires-clause-known : goal.read_id-step-requires-clause-known
read_id-step-requires-clause-known c =
    id_is_known c.args.words.now c.args.pass.now c.loop-share.pass c.args.own c.args.ids.now c.args.action.now c.args.kept.now
    c.loop-share.invariant.steps c.loop-share.sums c.loop-share.place c.loop-share.share-index c.loop-share.invariant.is c.requires.kept.0 c.requires.kept.1
    c.args.shares.now c.requires.shares c.loop-share-test.true c.id_in-id.result c.id_in-id.ensures

pub with-sums-requires-clause-small : goal.with-sums-requires-clause-small
with-sums-requires-clause-small c =
    choice_is_small c.args.words.now c.args.pass.now c.loop-share.pass c.args.own c.args.ids.now c.args.action.now c.args.kept.now
    c.loop-share.invariant.steps c.loop-share.sums c.loop-share.place c.loop-share.share-index c.loop-share.invariant.is c.requires.kept.0 c.requires.kept.1
    c.args.shares.now c.requires.shares c.loop-share-test.true c.id_in-id.result c.id_in-id.ensures
    c.read_id-step.new.pass c.read_id-step.result c.requires.action c.requires.penalty c.read_id-step.ensures.read

pub loop-share-preserved : goal.loop-share-preserved
loop-share-preserved c =
    let so = c.loop-share.invariant in record {
      steps = so.steps ++ c.read_id-step.result ∷ [];
      is = kept_goes_on c.args.words.now c.args.pass.now c.loop-share.pass c.args.own c.args.ids.now c.args.action.now c.args.kept.now
          so.steps c.loop-share.sums c.loop-share.place c.loop-share.share-index so.is c.requires.kept.0 c.requires.kept.1
          c.args.shares.now c.requires.shares c.loop-share-test.true c.id_in-id.result c.id_in-id.ensures
          c.read_id-step.new.pass c.read_id-step.result c.requires.action c.requires.penalty c.read_id-step.ensures.read
          c.read_id-step.ensures.keeps (so.steps ++ c.read_id-step.result ∷ []) c.with-sums.result (c.loop-share.place + c.from-place.result)
          (ap (λ n. c.loop-share.place + n) c.from-place.ensures) c.with-sums.ensures.lower c.with-sums.ensures.upper refl;
    }

pub returns-clause-summed : goal.returns-clause-summed
returns-clause-summed c =
    let a = c.args.action.now in let i = c.loop-share.share-index in let so = c.loop-share.invariant in
    let end = c.loop-share-test.false in let long = shares_long a c.args.shares.now c.requires.shares in record {
      steps = so.steps;
      is = λ s is. kept_ends c.args.words.now c.args.pass.now c.loop-share.pass c.args.own c.args.ids.now a c.args.kept.now so.steps c.loop-share.sums c.loop-share.place i
          so.is (take_all i a.choices (omega arith)) s is;
    }
