-- What a certificate that was accepted says of the task by its names.
use Rattle.std.proofs.Common.{ℕ, ◌*◌, ◌^◌, ◌≤◌, subst}
use Rattle.decision_process.specs.Enclosing.{Encloses}
use Rattle.decision_process.specs.Policies.{still}
use Rattle.decision_process.specs.Readings.{Certificate, high, act, IsBalancedCertificate}
use Rattle.certificate.specs.Content.{Content}
use Rattle.certificate_check.specs.Claims.{IsBalancedFor}
use Rattle.ppddl_model.specs.declared.tree.Task.{Task}
use Rattle.ppddl_model.specs.Chances.{AllSumWithinOne}
use Rattle.ppddl_model.specs.State.{State, same_state}
use Rattle.ppddl_model.specs.Steps.{Instance, Charges, process, starts, start_den, step_den, least_step_cost}
use Rattle.ground_model.specs.Ground.{Ground}
use Rattle.ground_meaning.specs.stands.Stands.{IsGroundOf}
use Rattle.plan_app.specs.certificates.Named.{names_certificate}
use Rattle.plan_app.specs.certificates.Laws.{NamesAreCarried, BalanceIsCarried, TaskIsEnclosed, TaskPolicyEnds}
use Rattle.plan_app.specs.Verdicts.{PolicyEnds}

module _ (names : NamesAreCarried) (g : Ground) (task : Task) (charges : Charges) (stands : IsGroundOf g task charges) (c : Content)
    (for : IsBalancedFor g c) where
  pub names_balanced : BalanceIsCarried
      → IsBalancedCertificate (process task charges) same_state (starts task) (start_den task) (names_certificate task c)
  names_balanced carried =
      subst (IsBalancedCertificate (process task charges) same_state (starts task) (start_den task)) (names g task charges stands c for)
      ((carried g task charges stands c).0 for.balanced)

  pub names_enclose : TaskIsEnclosed
      → Encloses (process task charges) (starts task) (start_den task) c.lower c.upper (act same_state (names_certificate task c).rows)
  names_enclose enclosed =
      subst (λ (x : Certificate State Instance). Encloses (process task charges) (starts task) (start_den task) c.lower c.upper (act same_state x.rows))
      (names g task charges stands c for) (enclosed g task charges stands c for)

  pub names_end : TaskPolicyEnds → AllSumWithinOne task → PolicyEnds task charges c
  names_end ending sums =
      subst
      (λ (x : Certificate State Instance). (n : ℕ) (s : State)
      → n * least_step_cost task charges * still (process task charges) (act same_state x.rows) n s
      ≤ high (process task charges) same_state x.rows s * step_den task ^ n)
      (names g task charges stands c for) (ending g task charges stands sums c for)
