-- As many walks are made as were asked for.
use Rattle.std.proofs.Common.{ℕ, length, ap, ◌∙◌, arith}
use Rattle.std.proofs.lemmas.List.FromFn.{length-map-range_with_len}
use Rattle.brtdp_trial.specs.Draws.{draw_of}
use Rattle.policy_walk.specs.declared.ends.Walk.{Walk}
use Rattle.policy_walk.specs.Policies.{policy_by}
use Rattle.policy_walk.specs.Walks.{walk}
use Rattle.plan_app.proofs.walking.report_of_walks.Goals as goal

pub walk_report-requires-clause-few : goal.walk_report-requires-clause-few
walk_report-requires-clause-few c =
    let w = c.args.walking.now in
    let numbered : ℕ → Walk = λ i. walk c.args.problem.now (policy_by c.args.policy.now) (draw_of w.seed i) w.steps in
    let many = ap length (c.deref.ensures.value ∙ c.in_ok-walks.ensures.walks) ∙ length-map-range_with_len numbered 0 w.walks in
    omega (arith, many, c.requires.range.walks.1)
