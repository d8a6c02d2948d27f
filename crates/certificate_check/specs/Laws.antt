-- What holds of each certificate, and of each that is balanced for a ground problem, as statements.
--     RowsDiffer             no two rows are of one state
--     AcceptedIsBalanced     no condition fails exactly where the certificate is balanced
--     BalancedEncloses       no finite plans cost less than the interval's lower end on average, and the first n steps of the
--                            certificate's acts cost at most its upper end, for every n
--     PolicyEnds             from each state, n times the least cost of a choice times the chance that the acts go on after n steps
--                            is at most the state's upper value
use Rattle.std.specs.Prelude.{◌≡◌, ◌↔◌, ℕ, Option, ◌*◌, ◌^◌, ◌≤◌}
use Rattle.certificate.specs.Content.{Content, IsCertificate}
use Rattle.decision_process.specs.Enclosing.{Encloses}
use Rattle.decision_process.specs.Policies.{still}
use Rattle.decision_process.specs.Readings as readings
use Rattle.ground_model.specs.Packed.{State, same_state}
use Rattle.ground_model.specs.Ground.{Ground}
use Rattle.ground_model.specs.Invariant.{IsGroundProblem}
use Rattle.ground_model.specs.Steps.{den_of, ground_process, ground_starts, least_choice_cost}
use Rattle.certificate_check.specs.declared.verdict.Verdict.{Verdict}
use Rattle.certificate_check.specs.declared.verdict.Verdict.TheVariants.{Accepted}
use Rattle.certificate_check.specs.Claims.{rows_of, high_in, IsBalancedFor}
use Rattle.certificate_check.specs.Verdicts.{IsVerdict}

abbrev pub act_in : Ground → Content → State → Option ℕ
act_in g c s = readings.act same_state (rows_of g c c.rows) s

abbrev pub RowsDiffer : Type 0
RowsDiffer = (g : Ground) (c : Content) → IsCertificate c → readings.HasDistinctStates (rows_of g c c.rows)

abbrev pub AcceptedIsBalanced : Type 0
AcceptedIsBalanced = (g : Ground) (c : Content) → IsCertificate c → (v : Verdict) → IsVerdict g c v → (v ≡ Accepted) ↔ IsBalancedFor g c

abbrev pub BalancedEncloses : Type 0
BalancedEncloses = (g : Ground) → IsGroundProblem g → (c : Content) → IsBalancedFor g c
    → Encloses (ground_process g) (ground_starts g) g.start_den c.lower c.upper (act_in g c)

abbrev pub PolicyEnds : Type 0
PolicyEnds = (g : Ground) → IsGroundProblem g → (c : Content) → IsBalancedFor g c → (n : ℕ) (s : State)
    → n * least_choice_cost g * still (ground_process g) (act_in g c) n s ≤ high_in g c s * den_of g.actions ^ n
