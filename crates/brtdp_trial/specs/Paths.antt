-- What a path shows: the turns of its last trial, the draw of that trial's start, and the run that the trial ended.
--     PathView               all of this, and the room for turns
--     new_path depth         a path that shows no trial
--     ids_of turns           the states of the turns
use Rattle.std.specs.Prelude.{ℕ, Option, None, List, [], map}
use Rattle.brtdp_trial.specs.declared.run.Run.{Run}
use Rattle.brtdp_trial.specs.declared.start_draw.StartDraw.{StartDraw}
use Rattle.brtdp_trial.specs.declared.turn.Turn.{Turn}

pub record PathView : Type 0 where
  pub turns : List Turn
  pub start : StartDraw
  pub run : Option Run
  pub room : ℕ

abbrev pub no_draw : StartDraw
no_draw = record { total = 0; drawn = None }

abbrev pub new_path : ℕ → PathView
new_path depth = record { turns = []; start = no_draw; run = None; room = depth }

abbrev pub ids_of : List Turn → List ℕ
ids_of = map (λ t. t.id)
