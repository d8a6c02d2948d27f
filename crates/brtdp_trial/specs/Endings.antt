-- Where trials end.
--     stops_at_new e     a trial ends at a state that was new when it was drawn, behind its backup
--     same_ends x y      both are the same
use Rattle.std.specs.Prelude.{Bool, true, false, not}
use Rattle.brtdp_trial.specs.declared.ending.Ends.{Ends}
use Rattle.brtdp_trial.specs.declared.ending.Ends.TheVariants.{Depth, New}

abbrev pub stops_at_new : Ends → Bool
stops_at_new Depth = false
stops_at_new New = true

abbrev pub same_ends : Ends → Ends → Bool
same_ends Depth e = not (stops_at_new e)
same_ends New e = stops_at_new e
