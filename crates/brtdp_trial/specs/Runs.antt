-- Runs of trials whose numbers follow each other.
--     run_alone n seed tau ends        the run of one trial
--     goes_on r n seed tau ends        trial n comes next in the run r
--     next_run r n seed tau ends       the run that trial n ends
use Rattle.std.specs.Prelude.{ℕ, ◌+◌, ◌==◌, ◌&&◌, Bool, cond, Option, Some, None}
use Rattle.brtdp_trial.specs.Endings.{same_ends}
use Rattle.brtdp_trial.specs.declared.ending.Ends.{Ends}
use Rattle.brtdp_trial.specs.declared.run.Run.{Run}

abbrev pub run_alone : ℕ → ℕ → ℕ → Ends → Run
run_alone n seed tau ends = record { seed = seed; tau = tau; ends = ends; first = n; last = n }

abbrev pub goes_on : Run → ℕ → ℕ → ℕ → Ends → Bool
goes_on r n seed tau ends =
    (r.last + 1 == n) && ((r.seed == seed) && ((r.tau == tau) && same_ends r.ends ends))

abbrev pub next_run : Option Run → ℕ → ℕ → ℕ → Ends → Run
next_run None n seed tau ends = run_alone n seed tau ends
next_run (Some r) n seed tau ends =
    cond (goes_on r n seed tau ends) (record r { last = n }) (run_alone n seed tau ends)
