-- A walk as it is defined, turn by turn.
use Rattle.std.proofs.Common.{◌≡◌, ℕ, suc, ◌+◌, ◌-◌, ◌≤◌, Some, ap, sym, subst, ◌∙◌, arith}
use Rattle.std.proofs.lemmas.Option.{slice_get_within}
use Rattle.brtdp_trial.specs.Draws.{Place, draw_of}
use Rattle.ground_model.specs.Steps.{ground_process, ground_starts}
use Rattle.policy_walk.specs.declared.ends.WalkEnd.TheVariants.{GaveUp}
use Rattle.policy_walk.specs.Policies.{policy_by}
use Rattle.policy_walk.specs.Runs.{IsRunOf}
use Rattle.policy_walk.specs.Walks.{choice_drawn, ended, walk_on}
use Rattle.policy_walk.proofs.Runs.{walk_is_run}
use Rattle.policy_walk.proofs.Steps.{action_at}
use Rattle.policy_walk.proofs.Turns.{ends_at_goal, ends_giving_up, stays_open, goes_on}
use Rattle.policy_walk.proofs.walking.walk.Goals as goal

pub returns-in_default-clause-walk : goal.returns-in_default-clause-walk
returns-in_default-clause-walk c =
    let g = c.args.problem.now in let now = c.loop-draws in
    let off = sym c.is_goal.ensures ∙ c.loop-draws-test.true in
    let quits = sym c.act.ensures ∙ c.in_default.is in
    sym (now.invariant.rest
    ∙ ends_giving_up g (policy_by c.args.policy.now) now.made now.cost now.buffer.state (draw_of c.args.seed c.args.number) (c.args.steps - now.made) off quits
    ∙ ap (λ n. ended GaveUp now.made (now.cost + n)) (sym c.penalty.ensures.value))

pub returns-in_default-clause-run : goal.returns-in_default-clause-run
returns-in_default-clause-run c =
    let g = c.args.problem.now in let now = c.loop-draws in
    let off = sym c.is_goal.ensures ∙ c.loop-draws-test.true in
    let quits = sym c.act.ensures ∙ c.in_default.is in
    subst (IsRunOf (ground_process g) (ground_starts g) (policy_by c.args.policy.now) c.args.steps)
    (now.invariant.rest
    ∙ ends_giving_up g (policy_by c.args.policy.now) now.made now.cost now.buffer.state (draw_of c.args.seed c.args.number) (c.args.steps - now.made) off quits
    ∙ ap (λ n. ended GaveUp now.made (now.cost + n)) (sym c.penalty.ensures.value))
    (walk_is_run g c.enter.ensures.valid (policy_by c.args.policy.now) c.requires.policy (draw_of c.args.seed c.args.number) c.args.steps)

pub returns-then-made-steps-clause-run : goal.returns-then-made-steps-clause-run
returns-then-made-steps-clause-run c =
    let g = c.args.problem.now in let now = c.loop-draws in
    let off = sym c.is_goal.ensures ∙ c.loop-draws-test.true in
    let acts = sym c.act.ensures ∙ c.in-Some.is in
    let none : c.args.steps - now.made ≡ 0 = omega (arith, c.if-made-steps.true) in
    subst (IsRunOf (ground_process g) (ground_starts g) (policy_by c.args.policy.now) c.args.steps)
    (now.invariant.rest
    ∙ ap (λ n. walk_on g (policy_by c.args.policy.now) (draw_of c.args.seed c.args.number) n now.made now.cost now.buffer.state) none
    ∙ stays_open g (policy_by c.args.policy.now) now.made now.cost now.buffer.state (draw_of c.args.seed c.args.number) c.in-Some.action off acts)
    (walk_is_run g c.enter.ensures.valid (policy_by c.args.policy.now) c.requires.policy (draw_of c.args.seed c.args.number) c.args.steps)

pub make_step-cost-requires-clause-action : goal.make_step-cost-requires-clause-action
make_step-cost-requires-clause-action c =
    let g = c.args.problem.now in let s = c.loop-draws.buffer.state in
    let off = sym c.is_goal.ensures ∙ c.loop-draws-test.true in
    let acts = sym c.act.ensures ∙ c.in-Some.is in
    let found = action_at g c.enter.ensures.valid c.in-Some.action s (c.requires.policy s c.in-Some.action off acts) in
    slice_get_within g.actions c.in-Some.action found.0 found.1

pub loop-draws-preserved : goal.loop-draws-preserved
loop-draws-preserved c =
    let g = c.args.problem.now in let now = c.loop-draws in
    let policy = policy_by c.args.policy.now in let draw = draw_of c.args.seed c.args.number in
    let off = sym c.is_goal.ensures ∙ c.loop-draws-test.true in
    let acts = sym c.act.ensures ∙ c.in-Some.is in
    let step = c.make_step-cost.ensures.step in
    let few : now.made + 1 ≤ c.args.steps = omega (arith, now.invariant.few, c.if-made-steps.false) in
    let left : ℕ = c.args.steps - (now.made + 1) in
    let next : c.args.steps - now.made ≡ suc left = omega (arith, few) in
    let drawn : choice_drawn g c.in-Some.action (draw (now.made + 1)) ≡ Some step.choice
    = ap (λ (d : Place). choice_drawn g c.in-Some.action (draw_of d.seed d.number d.next)) (sym now.invariant.next_draw) ∙ step.is_drawn in
    record {
      room = c.make_step-cost.ensures.buffer;
      next_draw = c.make_step-cost.ensures.draws ∙ ap (λ (d : Place). record d { next = d.next + 1 }) now.invariant.next_draw;
      few = few;
      bounded = omega (arith, now.invariant.bounded, c.make_step-cost.ensures.within);
      rest = now.invariant.rest
          ∙ ap (λ n. walk_on g policy draw n now.made now.cost now.buffer.state) next
          ∙ goes_on g policy now.made now.cost now.buffer.state draw left c.in-Some.action step.choice off acts drawn
          ∙ (λ i. walk_on g policy draw left (now.made + 1) (now.cost + sym step.cost_is i) (sym step.next i));
    }

pub returns-clause-run : goal.returns-clause-run
returns-clause-run c =
    let g = c.args.problem.now in let now = c.loop-draws in
    let on = sym c.is_goal.ensures ∙ c.loop-draws-test.false in
    subst (IsRunOf (ground_process g) (ground_starts g) (policy_by c.args.policy.now) c.args.steps)
    (now.invariant.rest
    ∙ ends_at_goal g (policy_by c.args.policy.now) now.made now.cost now.buffer.state (draw_of c.args.seed c.args.number) (c.args.steps - now.made) on)
    (walk_is_run g c.enter.ensures.valid (policy_by c.args.policy.now) c.requires.policy (draw_of c.args.seed c.args.number) c.args.steps)
