-- The means are in range.
use Rattle.std.proofs.Common.{◌≡◌, ◌/◌, ◌∙◌, arith}
use Rattle.certificate_check.specs.Claims.{low_in, high_in}
use Rattle.decision_process.specs.Process.{at_starts}
use Rattle.decision_process.specs.Backup.{floor, ceiling}
use Rattle.ground_model.specs.Steps.{ground_starts}
use Rattle.cert_merge.specs.Drafts.{own}
use Rattle.cert_merge.proofs.Interval.{low_within, high_within, floor_within, ceiling_within}
use Rattle.cert_merge.proofs.ends.ends_of.Goals as goal

pub overflow_cast-result : goal.overflow_cast-result
overflow_cast-result c =
    let g = c.args.problem.now in let m = own g c.args.draft.now in
    let is : c.in_ok-sums.sums.lower / c.from-den.result ≡ floor (at_starts (low_in g m) (ground_starts g)) g.start_den
    = λ j. floor (c.in_ok-sums.ensures.lower j) ((c.from-den.ensures ∙ c.start_den.ensures.value) j) in
    let most = floor_within g c.start_den.ensures.valid (low_in g m) (low_within g m c.requires.form c.requires.known) in
    omega (arith, is, most)

pub overflow_cast-result-2 : goal.overflow_cast-result-2
overflow_cast-result-2 c =
    let g = c.args.problem.now in let m = own g c.args.draft.now in
    let is : c.div_ceil.result ≡ ceiling (at_starts (high_in g m) (ground_starts g)) g.start_den
    = c.div_ceil.ensures ∙ (λ j. ceiling (c.in_ok-sums.ensures.upper j) ((c.from-den.ensures ∙ c.start_den.ensures.value) j)) in
    let most = ceiling_within g c.start_den.ensures.valid (high_in g m) (high_within g m c.requires.form c.requires.known c.requires.form.penalty.1) in
    omega (arith, is, most)

pub returns : goal.returns
returns c =
    let g = c.args.problem.now in let m = own g c.args.draft.now in
    let is : c.in_ok-sums.sums.lower / c.from-den.result ≡ floor (at_starts (low_in g m) (ground_starts g)) g.start_den
    = λ j. floor (c.in_ok-sums.ensures.lower j) ((c.from-den.ensures ∙ c.start_den.ensures.value) j) in
    let most = floor_within g c.start_den.ensures.valid (low_in g m) (low_within g m c.requires.form c.requires.known) in
    let is' : c.div_ceil.result ≡ ceiling (at_starts (high_in g m) (ground_starts g)) g.start_den
    = c.div_ceil.ensures ∙ (λ j. ceiling (c.in_ok-sums.ensures.upper j) ((c.from-den.ensures ∙ c.start_den.ensures.value) j)) in
    let most' = ceiling_within g c.start_den.ensures.valid (high_in g m) (high_within g m c.requires.form c.requires.known c.requires.form.penalty.1) in
    record {
      interval = record { floor_of_low = is; ceiling_of_high = is' };
      lower_in = omega (arith, is, most);
      upper_in = omega (arith, is', most');
    }
