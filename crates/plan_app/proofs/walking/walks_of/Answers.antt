-- One walk more.
use Rattle.std.proofs.Common.{◌≡◌, ℕ, ◌++◌, ◌∷◌, [], ◌≤◌, map, ap, sym, subst, ◌∙◌}
use Rattle.std.specs.Prelude.{All}
use Rattle.std.specs.List.{range_with_len}
use Rattle.std.proofs.lemmas.List.Elements.{All-push}
use Rattle.brtdp_trial.specs.Draws.{draw_of}
use Rattle.policy_walk.specs.declared.ends.Walk.{Walk}
use Rattle.policy_walk.specs.declared.limits.TheConstants.{MOST_WALK_COST}
use Rattle.policy_walk.specs.Policies.{policy_by}
use Rattle.policy_walk.specs.Walks.{walk}
use Rattle.plan_app.proofs.Numbered.{one_more}
use Rattle.plan_app.proofs.walking.walks_of.Goals as goal

pub loop-number-preserved : goal.loop-number-preserved
loop-number-preserved c =
    let now = c.loop-number in let w = c.args.walking.now in
    let numbered : ℕ → Walk = λ i. walk c.args.problem.now (policy_by c.args.policy.now) (draw_of w.seed i) w.steps in
    let this : c.walk-walk.result ≡ numbered now.number
    = c.walk-walk.ensures.walk ∙ ap numbered c.from.ensures in (
      c.walk-walk.ensures.buffer,
      c.in_ok-push.ensures.items ∙ ap (λ l. l ++ c.walk-walk.result ∷ []) now.invariant.1
          ∙ ap (λ x. map numbered (range_with_len 0 now.number) ++ x ∷ []) this
          ∙ sym (one_more numbered now.number),
      subst (All (λ (x : Walk). x.cost ≤ MOST_WALK_COST)) (sym c.in_ok-push.ensures.items)
          (All-push (λ (x : Walk). x.cost ≤ MOST_WALK_COST) now.walks.items c.walk-walk.result now.invariant.2 c.walk-walk.ensures.cost),
    )
