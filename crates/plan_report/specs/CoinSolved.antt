-- Reports of two searches, which compute: of the coin of `ground_model`, and of one that shows heads at the start in three cases of ten.
use Rattle.std.specs.Prelude.{◌≡◌, ℕ, List, [], ◌∷◌, ◌++◌, codes}
use Rattle.std.specs.Fmt.{digits}
use Rattle.std.proofs.Common.{refl}
use Rattle.decision_process.specs.Readings.{Row, AtGoal, Takes}
use Rattle.ground_model.specs.Coin.{coin, heads, tails}
use Rattle.ground_model.specs.Ground.{Ground}
use Rattle.ground_model.specs.Packed.{State}
use Rattle.plan_report.specs.declared.ending.Ending.TheVariants.{Converged, Budget, TableFull}
use Rattle.plan_report.specs.Solved.{ending_of, solve_text}

-- what is known behind 23 rounds
abbrev pub known : List (Row State ℕ)
known =
    record { state = tails; lower = 1999999; upper = 2000001; act = Takes 0 }
    ∷ record { state = heads; lower = 0; upper = 0; act = AtGoal } ∷ []

as_narrow_as_asked_for : ending_of 2 1999999 2000001 2 65537 ≡ Converged
as_narrow_as_asked_for = refl

too_wide : ending_of 1 1999999 2000001 2 65537 ≡ Budget
too_wide = refl

-- where the interval is narrow it does not matter that all ids are given out
full : ending_of 1 1999999 2000001 65537 65537 ≡ TableFull
full = refl

narrow_and_full : ending_of 2 1999999 2000001 65537 65537 ≡ Converged
narrow_and_full = refl

coin_is_solved : solve_text coin known
    (record { ending = Converged; lower = 1999999; upper = 2000001; states = 2; rounds = 23 })
    ≡ codes "converged\ninterval 1.999999 2.000001\nstates 2\nrounds 23\n"
    ++ codes "start 1/1 1.999999 2.000001 (flip) :\n"
unfolding digits
coin_is_solved = refl

-- nothing is known of a state without a row
nothing_is_known : solve_text coin []
    (record { ending = Budget; lower = 0; upper = 10000000; states = 1; rounds = 0 })
    ≡ codes "stopped budget\ninterval 0.000000 10.000000\nstates 1\nrounds 0\n"
    ++ codes "start 1/1 0.000000 10.000000 give-up :\n"
unfolding digits
nothing_is_known = refl

abbrev pub chance_coin : Ground
chance_coin = record coin {
  starts = record { weight = 3; state = heads } ∷ record { weight = 7; state = tails } ∷ [];
  start_den = 10;
}

a_start_at_a_goal : solve_text chance_coin known
    (record { ending = TableFull; lower = 1399999; upper = 1400001; states = 2; rounds = 1 })
    ≡ codes "stopped table-full\ninterval 1.399999 1.400001\nstates 2\nrounds 1\n"
    ++ codes "start 3/10 0.000000 0.000000 goal : (heads)\n"
    ++ codes "start 7/10 1.999999 2.000001 (flip) :\n"
unfolding digits
a_start_at_a_goal = refl
