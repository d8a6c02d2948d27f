-- Why a run was stopped, as it is said beside the output.
--     has_reason, HasReason status
--                              the status of a stop with a reason: the words, the texts, a certificate or a limit
--     stop_in ending           what stopped the run, if anything did
--     PutsAtMost faults faults' old new text
--                              a sink took the text; or a first part of it, and its count of faults rose; or nothing
--     PutsReason words status out faults faults' before now
--                              the line of the stop was put last, and behind what was noted before, at most its reason (`reason_of`)
use Rattle.std.specs.Prelude.{◌≡◌, ◌⊎◌, ℕ, Bool, ◌||◌, nat_eq, IsTrue, List, Option, Some, None, Ok, Err}
use Rattle.std.specs.Borrow.{Bor}
use Rattle.std.specs.Io.KnownBytes.{Appends}
use Rattle.shelf_io.specs.Causes.{Rose}
use Rattle.shelf_io.specs.Streams.{PutsPrefix}
use Rattle.plan_request.specs.words.Shown.{texts_of}
use Rattle.plan_request.specs.stop.Stop.{Ending, status_of, line_of}
use Rattle.plan_request.specs.reasons.Reasons.{reason_of}
use Rattle.plan_request.specs.declared.stop.Stop.{Stop}
use Rattle.plan_request.specs.declared.stop.status.TheConstants.{BAD_WORDS, REFUSED, NOT_ACCEPTED, LIMIT}

abbrev pub has_reason : ℕ → Bool
has_reason status = nat_eq status BAD_WORDS || nat_eq status REFUSED || nat_eq status NOT_ACCEPTED || nat_eq status LIMIT

abbrev pub HasReason : ℕ → Type 0
HasReason status = IsTrue (has_reason status)

abbrev pub stop_in : Ending → Option Stop
stop_in (Ok report) = None
stop_in (Err stop) = Some stop

abbrev pub PutsAtMost : ℕ → ℕ → Option (List ℕ) → Option (List ℕ) → List ℕ → Type 0
PutsAtMost faults faults' old new text = Appends old new text ⊎ ((Rose faults faults' × PutsPrefix old new text) ⊎ (new ≡ old))

abbrev pub IsPutLast : Option (List ℕ) → List ℕ → Type 0
IsPutLast out text = (earlier : Option (List ℕ)) × Appends earlier out text

pub record PutsReason (words : List (Bor (List ℕ))) (status : ℕ) (out : Option (List ℕ)) (faults faults' : ℕ)
    (before now : Option (List ℕ)) : Type 0 where
  pub stop : Stop
  pub status_is : status ≡ status_of stop
  pub line : IsPutLast out (line_of stop)
  pub reason : PutsAtMost faults faults' before now (reason_of (texts_of words) stop)
