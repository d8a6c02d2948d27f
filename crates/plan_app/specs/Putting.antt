-- What is put by the parts of a run.
--     PutsAnswers .. asked e  a sink took the answers of a server, and words with this request may end so behind them
--     CountsOn before now     a count that rises from there on has risen since before
--     PutsPart old new status text
--                             a first part of the text is put, and not all of it; or all of that of an ending with this status, which is
--                             nothing but the answers of a server
--     IsSaid ending said      what is said of an ending: itself, or that there was no memory for its line
--     SaysPut ending status old new
--                             the whole text of what is said is put, and its status answered
--     SaysCutShort ending old new
--                             a first part of it is put
use Rattle.std.specs.Prelude.{◌≡◌, ◌⊎◌, ◌≤◌, ℕ, List, Option, Err}
use Rattle.std.specs.Io.KnownBytes.{Appends}
use Rattle.shelf_io.specs.Causes.{one_more}
use Rattle.shelf_io.specs.Shelf.{Told}
use Rattle.shelf_io.specs.Streams.{PutsPrefix}
use Rattle.policy_server.specs.Serving.{Input}
use Rattle.plan_request.specs.Asked.{Asked}
use Rattle.plan_request.specs.declared.stop.status.TheConstants.{WRITE_FAILED}
use Rattle.plan_request.specs.declared.stop.Stop.TheVariants.{NoMemory}
use Rattle.plan_request.specs.stop.Stop.{Ending, ending_status, ending_text}
use Rattle.plan_app.specs.Endings.{exchange, MayEndWords}

pub record PutsAnswers {S : Type 0} (held : S → List ℕ → Told) (reads writes : S → ℕ) (old new : S) (from to : Input)
    (before after : Option (List ℕ)) (asked : Option Asked) (e : Ending) : Type 0 where
  pub answers : List ℕ
  pub put : Appends before after answers
  pub may_end : MayEndWords held reads writes old new (exchange from to answers) asked e

abbrev pub CountsOn : ℕ → ℕ → Type 0
CountsOn before now = one_more before ≤ one_more now

abbrev pub PutsPart : Option (List ℕ) → Option (List ℕ) → ℕ → List ℕ → Type 0
PutsPart old new status text = PutsPrefix old new text ⊎ ((status ≡ WRITE_FAILED) × Appends old new text)

abbrev pub IsSaid : Ending → Ending → Type 0
IsSaid ending said = (said ≡ ending) ⊎ (said ≡ Err NoMemory)

pub record SaysPut (ending : Ending) (status : ℕ) (old new : Option (List ℕ)) : Type 0 where
  pub said : Ending
  pub is_said : IsSaid ending said
  pub status_is : status ≡ ending_status said
  pub put : Appends old new (ending_text said)

pub record SaysCutShort (ending : Ending) (old new : Option (List ℕ)) : Type 0 where
  pub said : Ending
  pub is_said : IsSaid ending said
  pub put : PutsPart old new (ending_status said) (ending_text said)
