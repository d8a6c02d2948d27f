-- What a search of a ground problem finds, whatever its workers race for: a certificate, and what is told beside it.
--     IsFound g effort sizes c s    c is a balanced certificate of the problem, and s tells of the same search: the interval of c, how
--                                   the search ended, its rounds, and how many states it found.
--                                   It converged exactly where the interval is as narrow as was asked for, and else all rounds were made;
--                                   with rounds above 0, plain iteration of the rounds before the last is wider than that; the interval
--                                   lies within that of as many rounds of plain iteration as fit the swept depth; the states found are
--                                   distinct and can be reached, and those near the starts and those of the certificate's rows are among
--                                   them
-- Source: anytime bounds by BRTDP (McMahan, Likhachev and Gordon 2005), as certificates (decision_process).
use Rattle.std.specs.Prelude.{◌≡◌, ◌≢◌, ◌↔◌, ℕ, ◌+◌, ◌-◌, ◌<◌, ◌≤◌, List, length, Option, Contains, AllPairs}
use Rattle.decision_process.specs.Levels.{IsReachable, IsDepthWithin}
use Rattle.decision_process.specs.Readings.{Row}
use Rattle.decision_process.specs.Rounded.{plain_low, plain_high}
use Rattle.decision_process.specs.sweeps.Sweeps.{rounds_at, IsNear}
use Rattle.ground_model.specs.Packed.{State}
use Rattle.ground_model.specs.Ground.{Ground}
use Rattle.ground_model.specs.Steps.{ground_process, ground_starts}
use Rattle.certificate.specs.Content.{Content, IsCertificate}
use Rattle.certificate_check.specs.Claims.{ground_certificate, IsBalancedFor}
use Rattle.plan_request.specs.declared.effort.Effort.{Effort}
use Rattle.plan_request.specs.declared.sizes.Sizes.{Sizes}
use Rattle.plan_report.specs.declared.ending.Ending.TheVariants.{Converged, Budget, TableFull}
use Rattle.plan_report.specs.Solved.{Solved}

pub record IsFound (g : Ground) (effort : Effort) (sizes : Sizes) (c : Content) (s : Solved) : Type 0 where
  pub version : c.version ≡ 2
  pub certificate : IsCertificate c
  pub balanced : IsBalancedFor g c
  -- how it ended
  pub lower : s.lower ≡ c.lower
  pub upper : s.upper ≡ c.upper
  pub converged : (s.ending ≡ Converged) ↔ (c.upper ≤ c.lower + effort.gap)
  pub rounds : s.rounds ≤ effort.rounds
  pub all_rounds : s.ending ≢ Converged → s.rounds ≡ effort.rounds
  -- how narrow the interval is
  pub depth : Option ℕ
  pub fits : IsDepthWithin (ground_process g) (ground_starts g) sizes.sweep_states depth
  pub low : plain_low (ground_process g) (ground_starts g) g.start_den (rounds_at depth s.rounds 1)
      ≤ c.lower
  pub high : c.upper
      ≤ plain_high (ground_process g) (ground_starts g) g.start_den (rounds_at depth s.rounds 1)
  pub early : 0 < s.rounds
      → plain_low (ground_process g) (ground_starts g) g.start_den (rounds_at depth (s.rounds - 1) 1) + effort.gap
      < plain_high (ground_process g) (ground_starts g) g.start_den (rounds_at depth (s.rounds - 1) 1)
  -- which states were found
  pub states : List State
  pub count : s.states ≡ length states
  pub distinct : AllPairs (λ (t u : State). t ≢ u) states
  pub reached : (t : State) → Contains states t → IsReachable (ground_process g) (ground_starts g) t
  pub near : (t : State) → IsNear (ground_process g) (ground_starts g) depth t → Contains states t
  pub of_rows : (row : Row State ℕ) → Contains (ground_certificate g c).rows row
      → Contains states row.state
  -- how many
  pub few : s.states ≤ sizes.states + sizes.workers
  pub full : s.ending ≡ TableFull → sizes.states ≤ s.states
  pub room : s.ending ≡ Budget → s.states < sizes.states + sizes.workers
