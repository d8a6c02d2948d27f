-- One more start.
use Rattle.std.proofs.Common.{◌≡◌, ◌<◌, ◌^◌, ◌∙◌, arith}
use Rattle.certificate_check.specs.Claims.{low_in, high_in}
use Rattle.certificate_check.proofs.lemmas.row_check.Totals.{start_fits, start_more, start_total}
use Rattle.cert_merge.specs.Drafts.{own}
use Rattle.cert_merge.proofs.Interval.{low_within, high_within}
use Rattle.cert_merge.proofs.ends.add_up.Goals as goal

pub overflow_add-lower : goal.overflow_add-lower
overflow_add-lower c =
    let g = c.args.problem.now in let m = own g c.args.draft.now in let v = low_in g m in
    let is : c.from.result ≡ v c.start-item.result.state = c.from.ensures ∙ c.in_ok-bounds.ensures.read.lower in
    let most = low_within g m c.requires.form c.requires.known c.start-item.result.state in
    let small : c.from.result < 2 ^ 64 = omega (arith, is, most) in
    omega (
      arith,
      start_fits g c.starts-start-items.ensures.valid c.starts-start-items.result.now c.loop-start.invariant.same c.loop-start.start-index
          c.start-item.result c.loop-start-test.true c.start-item.is v c.loop-start.lower c.from-weight.result c.from.result c.from-weight.ensures
          is small c.loop-start.invariant.lower,
    )

pub overflow_add-upper : goal.overflow_add-upper
overflow_add-upper c =
    let g = c.args.problem.now in let m = own g c.args.draft.now in let v = high_in g m in
    let is : c.from-in-loop-start.result ≡ v c.start-item.result.state = c.from-in-loop-start.ensures ∙ c.in_ok-bounds.ensures.read.upper in
    let most = high_within g m c.requires.form c.requires.known c.requires.form.penalty.1 c.start-item.result.state in
    let small : c.from-in-loop-start.result < 2 ^ 64 = omega (arith, is, most) in
    omega (
      arith,
      start_fits g c.starts-start-items.ensures.valid c.starts-start-items.result.now c.loop-start.invariant.same c.loop-start.start-index
          c.start-item.result c.loop-start-test.true c.start-item.is v c.loop-start.upper c.from-weight.result c.from-in-loop-start.result
          c.from-weight.ensures is small c.loop-start.invariant.upper,
    )

pub loop-start-preserved : goal.loop-start-preserved
loop-start-preserved c =
    let g = c.args.problem.now in let m = own g c.args.draft.now in let v = low_in g m in let w = high_in g m in
    let is : c.from.result ≡ v c.start-item.result.state = c.from.ensures ∙ c.in_ok-bounds.ensures.read.lower in
    let most = low_within g m c.requires.form c.requires.known c.start-item.result.state in
    let small : c.from.result < 2 ^ 64 = omega (arith, is, most) in
    let is' : c.from-in-loop-start.result ≡ w c.start-item.result.state = c.from-in-loop-start.ensures ∙ c.in_ok-bounds.ensures.read.upper in
    let most' = high_within g m c.requires.form c.requires.known c.requires.form.penalty.1 c.start-item.result.state in
    let small' : c.from-in-loop-start.result < 2 ^ 64 = omega (arith, is', most') in
    record {
      room = c.in_ok-bounds.ensures.room;
      same = c.loop-start.invariant.same;
      lower = start_more g c.starts-start-items.ensures.valid c.starts-start-items.result.now c.loop-start.invariant.same c.loop-start.start-index
          c.start-item.result c.loop-start-test.true c.start-item.is v c.loop-start.lower c.from-weight.result c.from.result c.from-weight.ensures
          is small c.loop-start.invariant.lower;
      upper = start_more g c.starts-start-items.ensures.valid c.starts-start-items.result.now c.loop-start.invariant.same c.loop-start.start-index
          c.start-item.result c.loop-start-test.true c.start-item.is w c.loop-start.upper c.from-weight.result c.from-in-loop-start.result
          c.from-weight.ensures is' small' c.loop-start.invariant.upper;
    }

pub returns-clause-lower : goal.returns-clause-lower
returns-clause-lower c =
    let g = c.args.problem.now in
    start_total g (low_in g (own g c.args.draft.now)) c.starts-start-items.result.now c.loop-start.start-index c.loop-start.lower
    c.loop-start.invariant.same c.loop-start-test.false c.loop-start.invariant.lower

pub returns-clause-upper : goal.returns-clause-upper
returns-clause-upper c =
    let g = c.args.problem.now in
    start_total g (high_in g (own g c.args.draft.now)) c.starts-start-items.result.now c.loop-start.start-index c.loop-start.upper
    c.loop-start.invariant.same c.loop-start-test.false c.loop-start.invariant.upper
