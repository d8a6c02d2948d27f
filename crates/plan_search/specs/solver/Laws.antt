-- The laws of searches, as statements.
--     FirstHasSolved             behind the rounds of a crew that had the listed states, worker 0's pass has what they leave, by as many
--                                workers
--     LaterHasSolved             and so has a pass that has noted more
--     ClosingIsSolved            what such a pass closes the table with answers the search
use Rattle.std.specs.Prelude.{ℕ, List, length}
use Rattle.ground_model.specs.Packed.{State}
use Rattle.ground_model.specs.Ground.{Ground}
use Rattle.bound_core.specs.declared.image.Image.{Image}
use Rattle.word_table.specs.view.Laws.{HasMore}
use Rattle.word_table.specs.Seen.{Board, Knowledge, IsOf}
use Rattle.trial_workers.specs.declared.effort.Effort.{Effort}
use Rattle.trial_workers.specs.declared.effort.Solved.{Solved}
use Rattle.trial_workers.specs.declared.extent.Extent.{Extent}
use Rattle.trial_workers.specs.declared.worker.Worker.{Worker}
use Rattle.trial_workers.specs.Crews.{FirstHas, IsFirstPass}
use Rattle.plan_search.specs.declared.solver.closing.Closing.{Closing}
use Rattle.plan_search.specs.declared.solver.opening.Opening.{Opening}
use Rattle.plan_search.specs.declared.solver.sizes.Sizes.{Sizes}
use Rattle.plan_search.specs.solver.Opened.{IsOpened}
use Rattle.plan_search.specs.solver.Rounds.{HasMadeRounds, HasSolved}
use Rattle.plan_search.specs.solver.Ended.{IsEnded}
use Rattle.plan_search.specs.solver.Solved.{IsSolved}

abbrev pub FirstHasSolved : Type 0
FirstHasSolved = (b : Board) (effort : Effort) (states : List State) (x : Extent) (os ns : List Worker) (solved : Solved) (k : Knowledge)
    → FirstHas states os → HasMadeRounds b effort x os ns solved → IsFirstPass ns k
    → HasSolved b effort (length os) states x solved k

abbrev pub LaterHasSolved : Type 0
LaterHasSolved = (b : Board) (effort : Effort) (workers : ℕ) (states : List State) (x : Extent) (solved : Solved) (k l : Knowledge)
    → HasSolved b effort workers states x solved k → IsOf b l → HasMore k.view l.view
    → HasSolved b effort workers states x solved l

abbrev pub closing_of : Image → Solved → Closing
closing_of image solved = record { image = image; rounds = solved.rounds }

abbrev pub ClosingIsSolved : Type 0
ClosingIsSolved = (g : Ground) (sizes : Sizes) (effort : Effort) (o : Opening) (solved : Solved) (k : Knowledge) (image : Image)
    → (opened : IsOpened g sizes o) → HasSolved o.words effort sizes.workers opened.states o.extent solved k
    → IsEnded o.words k.view image → IsSolved g sizes effort (closing_of image solved)
