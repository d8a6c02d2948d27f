-- The words behind the first one so far are 0.
use Rattle.std.proofs.Common.{◌≡◌, ◌<◌, ◌/◌, ◌^◌, ℕ, get_or}
use Rattle.plan_report.proofs.certificates.state_order.goes_on.Given as goal

abbrev pub invariant-loop-later : goal.invariant-loop-later
invariant-loop-later l = record {
  none : get_or l.words l.place 0 / 2 ^ l.bit ≡ 0;
  zeros : (k : ℕ) → l.place < k → k < l.later → get_or l.words k 0 ≡ 0;
}
