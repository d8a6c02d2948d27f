-- The states that a search found, of the task.
use Rattle.std.proofs.Common.{◌≢◌, ℕ, List, map, length, sym, ap, ◌∙◌, subst, Option, Some, None}
use Rattle.std.specs.Prelude.{Contains}
use Rattle.std.proofs.Math.ListN.{length-map}
use Rattle.plain_list.proofs.Members.{Contains-map, Contains-map_cases}
use Rattle.decision_process.specs.Levels.{near, IsReachable}
use Rattle.decision_process.specs.Readings.{Row, Certificate}
use Rattle.decision_process.specs.sweeps.Sweeps.{IsNear}
use Rattle.certificate.specs.Content.{Content}
use Rattle.certificate_check.specs.Claims.{rows_of}
use Rattle.ppddl_model.specs.declared.tree.Task.{Task}
use Rattle.ppddl_model.specs.State.{State}
use Rattle.ppddl_model.specs.Steps.{Instance, Charges, process, starts}
use Rattle.ground_model.specs.Packed as packed
use Rattle.ground_model.specs.Ground.{Ground}
use Rattle.ground_model.specs.Steps.{ground_process, ground_starts}
use Rattle.ground_meaning.specs.stands.Laws.{StatesAreFound, NearIsCarried, NearIsFound, SameDepth}
use Rattle.ground_meaning.specs.stands.Stands.{IsInside, state_of, packed_of, IsGroundOf}
use Rattle.plan_request.specs.declared.effort.Effort.{Effort}
use Rattle.plan_request.specs.declared.sizes.Sizes.{Sizes}
use Rattle.plan_report.specs.Solved.{Solved}
use Rattle.plan_report.proofs.lemmas.certificates.Lists.{pairs_mapped}
use Rattle.plan_search.specs.Found.{IsFound}
use Rattle.plan_app.specs.certificates.Carried.{carried_row, task_certificate}
use Rattle.plan_app.specs.certificates.Laws.{NamesAreCarried}
use Rattle.plan_app.specs.certificates.Named.{names_certificate}
use Rattle.plan_app.specs.Solutions.{FindsStates}

module _ (back : StatesAreFound) (names : NamesAreCarried) (carried : NearIsCarried) (found_near : NearIsFound) (depths : SameDepth)
    (g : Ground) (task : Task) (charges : Charges) (stands : IsGroundOf g task charges) where
  -- a state of the ground problem that can be reached stands for one of the task
  inside : (s : packed.State) → IsReachable (ground_process g) (ground_starts g) s → IsInside g task s
  inside s (d, near_so) = (carried g task charges stands d s near_so).0

  there : (s : packed.State) → IsReachable (ground_process g) (ground_starts g) s
      → IsReachable (process task charges) (starts task) (state_of g task s)
  there s (d, near_so) = (d, (carried g task charges stands d s near_so).1)

  apart : (s t : packed.State) → IsReachable (ground_process g) (ground_starts g) s → IsReachable (ground_process g) (ground_starts g) t
      → s ≢ t → state_of g task s ≢ state_of g task t
  apart s t of_s of_t differ same =
      differ (sym (back g task charges stands s (inside s of_s)) ∙ ap (packed_of g task) same ∙ back g task charges stands t (inside t of_t))

  near_listed : (depth : Option ℕ) (states : List packed.State)
      → ((s : packed.State) → IsNear (ground_process g) (ground_starts g) depth s → Contains states s)
      → (t : State) → IsNear (process task charges) (starts task) depth t → Contains (map (state_of g task) states) t
  near_listed None states all t (d, near_so) =
      let s = found_near g task charges stands d t near_so in
      subst (Contains (map (state_of g task) states)) s.2 (Contains-map (state_of g task) states s.0 (all s.0 (d, s.1)))
  near_listed (Some d) states all t near_so =
      let s = found_near g task charges stands d t near_so in
      subst (Contains (map (state_of g task) states)) s.2 (Contains-map (state_of g task) states s.0 (all s.0 s.1))

  module _ (effort : Effort) (sizes : Sizes) (c : Content) (x : Solved) (found : IsFound g effort sizes c x) where
    reached_there : (t : State) → Contains (map (state_of g task) found.states) t → IsReachable (process task charges) (starts task) t
    reached_there t inside_so =
        let s = Contains-map_cases (state_of g task) found.states t inside_so in
        subst (IsReachable (process task charges) (starts task)) s.2 (there s.0 (found.reached s.0 s.1))

    rows_there : (row : Row State Instance) → Contains (task_certificate g task c).rows row
        → Contains (map (state_of g task) found.states) row.state
    rows_there row inside_so =
        let r = Contains-map_cases (carried_row g task) (rows_of g c c.rows) row inside_so in
        subst (λ (y : Row State Instance). Contains (map (state_of g task) found.states) y.state) r.2
        (Contains-map (state_of g task) found.states r.0.state (found.of_rows r.0 r.1))

    pub states_found : FindsStates task charges sizes.sweep_states (names_certificate task c).rows x.states
    states_found = record {
      depth = found.depth;
      fits = (depths g task charges stands sizes.sweep_states found.depth).0 found.fits;
      states = map (state_of g task) found.states;
      count_is = found.count ∙ sym (length-map found.states (state_of g task));
      distinct = pairs_mapped (λ (t u : State). t ≢ u) (state_of g task) (λ (s t : packed.State). s ≢ t) found.states found.distinct
          (λ s t of_s of_t. apart s t (found.reached s of_s) (found.reached t of_t));
      reached = reached_there;
      near = near_listed found.depth found.states found.near;
      of_rows = subst
          (λ (x : Certificate State Instance). (row : Row State Instance) → Contains x.rows row
          → Contains (map (state_of g task) found.states) row.state)
          (names g task charges stands c found.balanced) rows_there;
    }
