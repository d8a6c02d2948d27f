-- What words ask for.
--     asked_by words          the request of words that are lent, if they have one
--     IsToSearch asked s      it asks to solve this task, with a server or without one
--     IsToServe asked         it asks for a server
--     Asks words q, AsksNothing words
--                             they ask for this, or for nothing
--     IsToWrite asked         it asks for a text that is written: the certificate of a search, a merged one, or that of a graph
--     AsksToServe, AsksToWrite words
--                             the same of words
use Rattle.std.specs.Prelude.{◌≡◌, ◌⊎◌, ℕ, List, Option, Some, None}
use Rattle.std.specs.Borrow.{Bor}
use Rattle.plan_request.specs.words.Shown.{texts_of}
use Rattle.plan_request.specs.Asked.{Solving, Merging, Drawing, Asked, to_solve, to_serve, to_merge, to_draw, request_of}

abbrev pub asked_by : List (Bor (List ℕ)) → Option Asked
asked_by words = request_of (texts_of words)

abbrev pub IsToSearch : Option Asked → Solving → Type 0
IsToSearch asked s = (asked ≡ Some (to_solve s)) ⊎ (asked ≡ Some (to_serve s))

abbrev pub IsToServe : Option Asked → Type 0
IsToServe asked = (s : Solving) × (asked ≡ Some (to_serve s))

abbrev pub IsToWrite : Option Asked → Type 0
IsToWrite asked = ((s : Solving) × IsToSearch asked s)
    ⊎ (((m : Merging) × (asked ≡ Some (to_merge m))) ⊎ ((d : Drawing) × (asked ≡ Some (to_draw d))))

module _ (words : List (Bor (List ℕ))) where
  abbrev pub Asks : Asked → Type 0
  Asks q = asked_by words ≡ Some q

  abbrev pub AsksNothing : Type 0
  AsksNothing = asked_by words ≡ None

  abbrev pub AsksToServe : Type 0
  AsksToServe = IsToServe (asked_by words)

  abbrev pub AsksToWrite : Type 0
  AsksToWrite = IsToWrite (asked_by words)
