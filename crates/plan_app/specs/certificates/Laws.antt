-- The laws of certificates of tasks, as statements.
--     IsCarried            row by row, a certificate of the ground problem and that of the task say the same
--     NamesAreCarried      what a certificate that is balanced for the ground problem says of the task is what it says by its names
--     BalanceIsCarried     the one is balanced exactly where the other is
--     TaskIsEnclosed       no finite plans of the task cost less than the lower end of a certificate that is balanced for the ground
--                          problem, and the first n steps of its acts cost at most the upper end, for every n
--     TaskPolicyEnds       from each state, n times the least step cost of the task times the chance that its acts go on after n steps
--                          is at most the state's upper value, where the chances of the task sum to at most 1
use Rattle.std.specs.Prelude.{◌≡◌, ◌↔◌, ℕ, ◌*◌, ◌^◌, ◌≤◌}
use Rattle.certificate.specs.Content.{Content}
use Rattle.decision_process.specs.Enclosing.{Encloses}
use Rattle.decision_process.specs.Policies.{still}
use Rattle.decision_process.specs.Readings.{high, act, IsBalancedCertificate}
use Rattle.decision_process.specs.homomorphism.Counterparts.{IsCertificateOf}
use Rattle.ppddl_model.specs.declared.tree.Task.{Task}
use Rattle.ppddl_model.specs.Chances.{AllSumWithinOne}
use Rattle.ppddl_model.specs.State.{State, same_state}
use Rattle.ppddl_model.specs.Steps.{Charges, starts, start_den, step_den, least_step_cost, process}
use Rattle.ground_model.specs.Packed as packed
use Rattle.ground_model.specs.Ground.{Ground}
use Rattle.ground_model.specs.Steps.{ground_process, ground_starts}
use Rattle.ground_meaning.specs.stands.Stands.{by_atoms, IsGroundOf}
use Rattle.certificate_check.specs.Claims.{ground_certificate, IsBalancedFor}
use Rattle.plan_app.specs.certificates.Carried.{task_certificate}
use Rattle.plan_app.specs.certificates.Named.{names_certificate}

abbrev pub IsCarried : Type 0
IsCarried = (g : Ground) (task : Task) (charges : Charges) → IsGroundOf g task charges → (c : Content)
    → IsCertificateOf (by_atoms g task) (ground_certificate g c) (task_certificate g task c)

abbrev pub NamesAreCarried : Type 0
NamesAreCarried = (g : Ground) (task : Task) (charges : Charges) → IsGroundOf g task charges → (c : Content)
    → IsBalancedFor g c → task_certificate g task c ≡ names_certificate task c

abbrev pub BalanceIsCarried : Type 0
BalanceIsCarried = (g : Ground) (task : Task) (charges : Charges) → IsGroundOf g task charges → (c : Content)
    → IsBalancedCertificate (ground_process g) packed.same_state (ground_starts g) g.start_den (ground_certificate g c)
    ↔ IsBalancedCertificate (process task charges) same_state (starts task) (start_den task) (task_certificate g task c)

abbrev pub TaskIsEnclosed : Type 0
TaskIsEnclosed = (g : Ground) (task : Task) (charges : Charges) → IsGroundOf g task charges → (c : Content)
    → IsBalancedFor g c
    → Encloses (process task charges) (starts task) (start_den task) c.lower c.upper (act same_state (task_certificate g task c).rows)

abbrev pub TaskPolicyEnds : Type 0
TaskPolicyEnds = (g : Ground) (task : Task) (charges : Charges) → IsGroundOf g task charges → AllSumWithinOne task → (c : Content)
    → IsBalancedFor g c → (n : ℕ) (s : State)
    → n * least_step_cost task charges * still (process task charges) (act same_state (task_certificate g task c).rows) n s
    ≤ high (process task charges) same_state (task_certificate g task c).rows s * step_den task ^ n
