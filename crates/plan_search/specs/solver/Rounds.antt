-- What the rounds of a crew leave.
--     HasEnded effort solved     the ends of the answer are at most the gap apart, or all rounds were made
--     IsEarly g x effort solved  with rounds above 0, plain iteration of the rounds before the last is wider than the gap
--     HasTriedRound g effort workers number
--                                so many workers over words of the problem show the trials of the round of this number
--     HasMadeTrials g effort workers rounds
--                                where rounds were made, so it is of the last one
--     HasMadeRounds b effort x os ns solved
--                                the crew made rounds: each pass has noted more, the paths show the trials of the last round, the answer
--                                is no wider than as many rounds of plain rounded iteration, and worker 0 has seen no wider means; they
--                                ended as `HasEnded` and `IsEarly` say
--     HasSolved b effort workers states x solved k
--                                the same of one pass, which has the listed states with their places as ids, and of so many workers
use Rattle.std.specs.Prelude.{◌≡◌, ◌⊎◌, ℕ, ◌+◌, ◌-◌, ◌<◌, ◌≤◌, List, length}
use Rattle.ground_model.specs.Packed.{State}
use Rattle.ground_model.specs.Ground.{Ground}
use Rattle.word_table.specs.Seen.{Board, Knowledge, IsOf}
use Rattle.bellman_backup.specs.means.Means.{lower_mean, upper_mean}
use Rattle.trial_workers.specs.declared.effort.Effort.{Effort}
use Rattle.trial_workers.specs.declared.effort.Solved.{Solved}
use Rattle.trial_workers.specs.declared.extent.Extent.{Extent}
use Rattle.trial_workers.specs.declared.worker.Worker.{Worker}
use Rattle.trial_workers.specs.Workers.{HasListed}
use Rattle.trial_workers.specs.Crews.{IsCrewOf, HaveStayed, HaveTrials}
use Rattle.trial_workers.specs.Effort.{IsWithinPlain, IsPlainWide, FirstHasSeen}

abbrev pub HasEnded : Effort → Solved → Type 0
HasEnded effort solved =
    (solved.upper ≤ solved.lower + effort.gap) ⊎ (solved.rounds ≡ effort.rounds)

abbrev pub IsEarly : Ground → Extent → Effort → Solved → Type 0
IsEarly g x effort solved = 0 < solved.rounds → IsPlainWide g x.depth effort.gap (solved.rounds - 1)

pub record HasTriedRound (g : Ground) (effort : Effort) (workers number : ℕ) : Type 0 where
  pub words : Board
  pub of : words.problem ≡ g
  pub crew : List Worker
  pub count : length crew ≡ workers
  pub is : IsCrewOf words effort.depth crew
  pub trials : HaveTrials words effort number crew

abbrev pub HasMadeTrials : Ground → Effort → ℕ → ℕ → Type 0
HasMadeTrials g effort workers rounds = 0 < rounds → HasTriedRound g effort workers (rounds - 1)

pub record HasMadeRounds (b : Board) (effort : Effort) (x : Extent) (os ns : List Worker) (solved : Solved) :
    Type 0 where
  pub crew : IsCrewOf b effort.depth ns
  pub stayed : HaveStayed b os ns
  pub trials : 0 < solved.rounds → HaveTrials b effort (solved.rounds - 1) ns
  pub plain : IsWithinPlain b.problem x.depth solved
  pub most : solved.rounds ≤ effort.rounds
  pub early : IsEarly b.problem x effort solved
  pub end : HasEnded effort solved
  pub seen : FirstHasSeen b.problem solved ns

pub record HasSolved (b : Board) (effort : Effort) (workers : ℕ) (states : List State) (x : Extent) (solved : Solved)
    (k : Knowledge) : Type 0 where
  pub here : IsOf b k
  pub has : HasListed states k.view
  pub trials : HasMadeTrials b.problem effort workers solved.rounds
  pub plain : IsWithinPlain b.problem x.depth solved
  pub most : solved.rounds ≤ effort.rounds
  pub early : IsEarly b.problem x effort solved
  pub end : HasEnded effort solved
  pub lower : solved.lower ≤ lower_mean b.problem k.view
  pub upper : upper_mean b.problem k.view ≤ solved.upper
