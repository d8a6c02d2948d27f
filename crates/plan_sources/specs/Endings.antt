-- How a call may end that takes something from a shelf: for want of memory, by a fault of the shelf, or with what the bytes say that
-- it holds. Where a shelf does not tell what it holds, "it holds" is read as "it may hold".
--     MayEnd fault gives result     the result is want of memory; a failed read, by this fault; or one that is given
--     MayGive read told result      the result is what is read of bytes that a name holds
--     IsFault reads old new lacks   a name is missing, or the count of failed reads rose
--     OnlyRead held reads writes old new
--                                   what a shelf holds stays, no count falls, and no count of failed writes rose
use Rattle.std.specs.Prelude.{◌≡◌, ◌≤◌, ◌⊎◌, ℕ, List, Result, Ok, Err}
use Rattle.shelf_io.specs.Causes.{Rose}
use Rattle.shelf_io.specs.Shelf.{Told, MayHold}
use Rattle.plan_request.specs.declared.stop.Stop.{Stop}
use Rattle.plan_request.specs.declared.stop.Stop.TheVariants.{BadWords, ReadFailed, WriteFailed, NoMemory, Refused, NotAccepted, SecondNotAccepted, Limit}

abbrev pub MayEnd : {A : Type 0} → Type 0 → (Result A Stop → Type 0) → Result A Stop → Type 0
MayEnd fault gives (Ok x) = gives (Ok x)
MayEnd fault gives (Err NoMemory) = Unit {0}
MayEnd fault gives (Err ReadFailed) = fault
MayEnd fault gives (Err BadWords) = gives (Err BadWords)
MayEnd fault gives (Err WriteFailed) = gives (Err WriteFailed)
MayEnd fault gives (Err (Refused code file line)) = gives (Err (Refused code file line))
MayEnd fault gives (Err (NotAccepted code row)) = gives (Err (NotAccepted code row))
MayEnd fault gives (Err (SecondNotAccepted code row)) = gives (Err (SecondNotAccepted code row))
MayEnd fault gives (Err (Limit code most)) = gives (Err (Limit code most))

abbrev pub MayGive : {A : Type 0} → (List ℕ → Result A Stop) → Told → Result A Stop → Type 0
MayGive read told result = (bytes : List ℕ) × MayHold told bytes × (read bytes ≡ result)

abbrev pub IsFault : {S : Type 0} → (S → ℕ) → S → S → Type 0 → Type 0
IsFault reads old new lacks = lacks ⊎ Rose (reads old) (reads new)

pub record OnlyRead {S : Type 0} (held : S → List ℕ → Told) (reads writes : S → ℕ) (old new : S) : Type 0 where
  pub held_same : held new ≡ held old
  pub later : reads old ≤ reads new
  pub no_write_fault : writes new ≡ writes old
