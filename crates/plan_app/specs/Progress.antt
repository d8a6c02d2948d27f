-- What is put of the rounds of a search while they are made, beside the output.
--     progress_line r       the line of a reading: its rounds, its interval in units, and how many ids were given out
--     progress_lines rs     the lines of readings
--     TellsLine taken faults a r b
--                           lines that are live put the line of this reading, or a first part of it, and then end at the
--                           fault; those that are not stay as they are
--     PutsLines faults faults' old new rs
--                           a sink took the lines of these readings; or a first part of them, and its count of faults rose
--     TellsRounds taken faults old new fact
--                           such lines of readings were put, each before the next, of which this is a fact
--     rounds_asked asked    the search whose rounds are to be told, if a request has one
--     TellsAsked taken faults asked old new fact
--                           the same of that search; where there is none the sink is as it was
--     AreToldOf .. s rs     the text of a certificate that a search found is held under the name that it gives, and these are readings
--                           of the rounds of that search
--     IsToTell asked s, AsksToTell words s
--                           a request, or words, ask for this search, and that its rounds are told
--     AreRoundsOf s t now rs
--                           the certificate that such a search found for the ground problem of the texts is held now
--     AreRoundsOn before now status s rs
--                           the same where that search ended with a report, and the shelf tells of the texts and of the name
use Rattle.std.specs.Prelude.{◌≡◌, ◌≢◌, ◌⊎◌, ℕ, Bool, true, false, if◌then◌else◌, List, ◌++◌, flat_map, Option, Some, None, Ok, AllPairs, codes, decimal}
use Rattle.std.specs.Borrow.{Bor}
use Rattle.std.specs.Io.KnownBytes.{Appends}
use Rattle.shelf_io.specs.Causes.{Rose}
use Rattle.shelf_io.specs.Shelf.{Told, Untold, Holds, written}
use Rattle.shelf_io.specs.Streams.{PutsPrefix}
use Rattle.ground_model.specs.Ground.{Ground}
use Rattle.trial_workers.specs.declared.reading.Reading.{Reading}
use Rattle.trial_workers.specs.Watching.{IsBefore}
use Rattle.plan_report.specs.Units.{units}
use Rattle.plan_request.specs.Asked.{Solving, Asked, to_solve, to_check, to_serve, to_ground, to_bench, to_merge, to_walk, to_draw}
use Rattle.plan_sources.specs.declared.texts.Texts.{Texts}
use Rattle.plan_sources.specs.Laws.{HoldsTexts}
use Rattle.plan_sources.specs.Problems.{problem_of}
use Rattle.plan_sources.specs.Sources.{MayGiveProblem}
use Rattle.plan_search.specs.declared.answer.Answer.{Answer}
use Rattle.plan_search.specs.Telling.{AreToldBefore}
use Rattle.plan_app.specs.declared.progress_lines.ProgressLines.{ProgressLines}
use Rattle.plan_app.specs.Asking.{asked_by, IsToSearch}
use Rattle.plan_app.specs.Verdicts.{HasReport}

abbrev pub progress_line : Reading → List ℕ
progress_line r =
    codes "round " ++ decimal r.solved.rounds ++ codes " interval " ++ units r.solved.lower ++ codes " " ++ units r.solved.upper
    ++ codes " states " ++ decimal r.states ++ codes "\n"

abbrev pub progress_lines : List Reading → List ℕ
progress_lines = flat_map progress_line

-- ---- what a sink took

abbrev pub PutsLines : ℕ → ℕ → Option (List ℕ) → Option (List ℕ) → List Reading → Type 0
PutsLines faults faults' old new rs = Appends old new (progress_lines rs) ⊎ (Rose faults faults' × PutsPrefix old new (progress_lines rs))

module _ {P : Type 0} (taken : P → Option (List ℕ)) (faults : P → ℕ) where
  pub record PutsLine (a : ProgressLines P) (r : Reading) (b : ProgressLines P) : Type 0 where
    pub still : b.live ≡ true
    pub no_fault : faults b.sink ≡ faults a.sink
    pub put : Appends (taken a.sink) (taken b.sink) (progress_line r)

  pub record PutsLast (a : ProgressLines P) (r : Reading) (b : ProgressLines P) : Type 0 where
    pub closed : b.live ≡ false
    pub fault : Rose (faults a.sink) (faults b.sink)
    pub part : PutsPrefix (taken a.sink) (taken b.sink) (progress_line r)

  abbrev pub TellsWhile : Bool → ProgressLines P → Reading → ProgressLines P → Type 0
  TellsWhile true a r b = PutsLine a r b ⊎ PutsLast a r b
  TellsWhile false a r b = b ≡ a

  abbrev pub TellsLine : ProgressLines P → Reading → ProgressLines P → Type 0
  TellsLine a r b = TellsWhile a.live a r b

  abbrev pub TellsRounds : ProgressLines P → ProgressLines P → (List Reading → Type 0) → Type 0
  TellsRounds old new fact = (rs : List Reading) × AllPairs IsBefore rs
      × PutsLines (faults old.sink) (faults new.sink) (taken old.sink) (taken new.sink) rs × fact rs

  abbrev pub TellsAsked : Option Solving → ProgressLines P → ProgressLines P → (Solving → List Reading → Type 0) → Type 0
  TellsAsked None old new fact = new.sink ≡ old.sink
  TellsAsked (Some s) old new fact = TellsRounds old new (fact s)

-- ---- what is asked for

abbrev pub rounds_of : Solving → Option Solving
rounds_of s = if s.progress then Some s else None

abbrev pub rounds_asked : Asked → Option Solving
rounds_asked (to_solve s) = rounds_of s
rounds_asked (to_check s name) = None
rounds_asked (to_serve s) = rounds_of s
rounds_asked (to_ground s) = None
rounds_asked (to_bench places seed) = None
rounds_asked (to_merge m) = None
rounds_asked (to_walk w) = None
rounds_asked (to_draw d) = None

abbrev pub rounds_in : Option Asked → Option Solving
rounds_in None = None
rounds_in (Some q) = rounds_asked q

abbrev pub IsToTell : Option Asked → Solving → Type 0
IsToTell asked s = IsToSearch asked s × (s.progress ≡ true)

abbrev pub AsksToTell : List (Bor (List ℕ)) → Solving → Type 0
AsksToTell words s = IsToTell (asked_by words) s

-- ---- of which search it is told

module _ {S : Type 0} (held : S → List ℕ → Told) (old new : S) where
  pub record AreToldOf (s : Solving) (rs : List Reading) : Type 0 where
    pub g : Ground
    pub problem : MayGiveProblem (held old) s.sources (Ok g)
    pub answer : Answer
    pub told : AreToldBefore g s.effort s.sizes answer rs
    pub holds : held new s.certificate ≡ written (held old s.certificate) answer.certificate

pub record AreRoundsOf (s : Solving) (t : Texts) (now : Told) (rs : List Reading) : Type 0 where
  pub g : Ground
  pub problem : problem_of s.sources t ≡ Ok g
  pub answer : Answer
  pub told : AreToldBefore g s.effort s.sizes answer rs
  pub holds : now ≡ Holds answer.certificate

abbrev pub AreRoundsOn : (List ℕ → Told) → (List ℕ → Told) → ℕ → Solving → List Reading → Type 0
AreRoundsOn before now status s rs = (t : Texts) → HoldsTexts before s.sources t → before s.certificate ≢ Untold → HasReport status
    → AreRoundsOf s t (now s.certificate) rs
