-- Worked examples, which compute.
use Rattle.std.specs.Prelude.{◌≡◌, true, false, Some, None, refl}
use Rattle.brtdp_trial.specs.Meaning.{is_new, spread}
use Rattle.brtdp_trial.specs.Runs.{next_run}
use Rattle.brtdp_trial.specs.Turns.{is_narrow, stop_at}
use Rattle.brtdp_trial.specs.declared.aim.Aim.{Aim}
use Rattle.brtdp_trial.specs.declared.ending.Ends.TheVariants as To
use Rattle.brtdp_trial.specs.declared.ends.TrialEnd.TheVariants.{Dead, Narrow, Depth, New}

abbrev aim : Aim
aim = record { gap = 8; tau = 10; depth = 5; ends = To.Depth }

abbrev to_new : Aim
to_new = record aim { ends = To.New }

spread-example : spread (record { weight = 3; id = None; lower = 2; upper = 6 }) ≡ 12
spread-example = refl

new-example : is_new (record { weight = 3; id = Some 7; lower = 0; upper = 6 }) ≡ true
new-example = refl

raised-example : is_new (record { weight = 3; id = Some 7; lower = 2; upper = 6 }) ≡ false
raised-example = refl

-- at a goal both are 0
goal-example : is_new (record { weight = 3; id = Some 7; lower = 0; upper = 0 }) ≡ false
goal-example = refl

-- a mean width of 1 is not below 8/10, and one of 3/4 is
wide-example : is_narrow aim 4 4 ≡ false
wide-example = refl

narrow-example : is_narrow aim 4 3 ≡ true
narrow-example = refl

-- giving up comes before what is narrow, that before a new state, and that before the depth
dead-example : stop_at to_new 5 true 65535 1 0 ≡ Some Dead
dead-example = refl

closed-example : stop_at to_new 5 true 0 1 0 ≡ Some Narrow
closed-example = refl

new-state-example : stop_at to_new 5 true 0 1 8 ≡ Some New
new-state-example = refl

deep-example : stop_at to_new 5 false 0 1 8 ≡ Some Depth
deep-example = refl

-- a new state is no end where trials end at the depth alone
new-onward-example : stop_at aim 4 true 0 1 8 ≡ None
new-onward-example = refl

onward-example : stop_at to_new 4 false 0 1 8 ≡ None
onward-example = refl

run-example :
    next_run (Some (record { seed = 1; tau = 10; ends = To.New; first = 4; last = 6 })) 7 1 10 To.New
    ≡ record { seed = 1; tau = 10; ends = To.New; first = 4; last = 7 }
run-example = refl

gap-in-a-run-example :
    next_run (Some (record { seed = 1; tau = 10; ends = To.New; first = 4; last = 6 })) 8 1 10 To.New
    ≡ record { seed = 1; tau = 10; ends = To.New; first = 8; last = 8 }
gap-in-a-run-example = refl

other-ends-example :
    next_run (Some (record { seed = 1; tau = 10; ends = To.Depth; first = 4; last = 6 })) 7 1 10 To.New
    ≡ record { seed = 1; tau = 10; ends = To.New; first = 7; last = 7 }
other-ends-example = refl
