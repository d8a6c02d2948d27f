-- A run of the server, from the input that it takes to the lines that it puts and how it ends.
--     Input                     what a source has left, and its counts of ends and faults
--     Took i j bytes ended failed
--                               the bytes were taken, and then the input ended, or a take failed, or neither
--     long_text, due g rest rs  the line for a line that is too long; all lines that are due
--     EndsBy end rest ended n   n queries were answered, and this ended them
--     IsCutShort t t' front last
--                               a sink took the front, and then a part of the last line
--     Puts ..                   what a sink took
--     HasAnswered g i j t t' served replies
--                               the bytes of a run: the queries that were taken, and the replies that were put
--     IsRun b k l i j t t' served
--                               a run: these bytes, by replies that tell what the pass found
use Rattle.std.specs.Prelude.{◌≡◌, ◌⊎◌, ℕ, ◌+◌, ◌<◌, ◌≤◌, Bool, true, false, cond, nat_lt}
use Rattle.std.specs.Prelude.{List, [], ◌++◌, length, take, codes, Option}
use Rattle.std.specs.List.{AllByRecursion}
use Rattle.std.specs.Io.KnownBytes.{Consumes, Appends, IsAtEnd}
use Rattle.shelf_io.specs.Causes.{one_more}
use Rattle.ground_model.specs.Ground.{Ground}
use Rattle.word_table.specs.Seen.{Board, Knowledge}
use Rattle.policy_server.specs.declared.limits.TheConstants.{MOST_QUERIES, MOST_LINE}
use Rattle.policy_server.specs.declared.serve_end.ServeEnd.{ServeEnd}
use Rattle.policy_server.specs.declared.serve_end.ServeEnd.TheVariants as stop
use Rattle.policy_server.specs.declared.served.Served.{Served}
use Rattle.policy_server.specs.Lines.{cut_of, queries_of}
use Rattle.policy_server.specs.Replies.{Reply, texts, FitEach, Serves}

-- ---- what is taken

pub record Input : Type 0 where
  pub left : Option (List ℕ)
  pub ends : ℕ
  pub faults : ℕ

abbrev pub input : {I : Type 0} → (I → Option (List ℕ)) → (I → ℕ) → (I → ℕ) → I → Input
input left ends faults source =
    record { left = left source; ends = ends source; faults = faults source }

pub record Took (old new : Input) (bytes : List ℕ) (ended failed : Bool) : Type 0 where
  pub consumed : Consumes old.left new.left bytes
  pub ends : new.ends ≡ cond ended (one_more old.ends) old.ends
  pub faults : new.faults ≡ cond failed (one_more old.faults) old.faults
  pub nothing : ended ≡ true → IsAtEnd new.left

-- ---- what is put

abbrev pub long_line : List ℕ
long_line = codes "error line\n"

abbrev pub long_text : List ℕ → List ℕ
long_text rest = cond (nat_lt MOST_LINE (length rest)) long_line []

abbrev pub due : Ground → List ℕ → List Reply → List ℕ
due g rest rs = texts g rs ++ long_text rest

pub record IsCutShort (old new : Option (List ℕ)) (front last : List ℕ) : Type 0 where
  pub count : ℕ
  pub fewer : count < length last
  pub put : Appends old new (front ++ take count last)

-- ---- how it ends

abbrev pub is_read_fault : ServeEnd → Bool
is_read_fault stop.ReadFault = true
is_read_fault stop.Input = false
is_read_fault stop.Queries = false
is_read_fault stop.LongLine = false
is_read_fault stop.WriteFault = false

abbrev pub is_write_fault : ServeEnd → Bool
is_write_fault stop.WriteFault = true
is_write_fault stop.Input = false
is_write_fault stop.Queries = false
is_write_fault stop.LongLine = false
is_write_fault stop.ReadFault = false

-- no line is begun, or the input ended, or the line is one byte too long: no byte behind it was taken
abbrev pub IsDone : List ℕ → Bool → Type 0
IsDone rest ended = (rest ≡ []) ⊎ ((ended ≡ true) ⊎ (length rest ≡ MOST_LINE + 1))

abbrev pub EndsBy : ServeEnd → List ℕ → Bool → ℕ → Type 0
EndsBy stop.Input rest ended n = (ended ≡ true) × (n < MOST_QUERIES) × (length rest ≤ MOST_LINE)
EndsBy stop.Queries rest ended n =
    (n ≡ MOST_QUERIES) × (length rest ≤ MOST_LINE) × IsDone rest ended
EndsBy stop.LongLine rest ended n =
    (ended ≡ false) × (n < MOST_QUERIES) × (length rest ≡ MOST_LINE + 1)
EndsBy stop.ReadFault rest ended n =
    (ended ≡ false) × (n < MOST_QUERIES) × (length rest ≤ MOST_LINE)
EndsBy stop.WriteFault rest ended n = (n ≤ MOST_QUERIES) × IsDone rest ended

-- At a fault the line is cut short that was put last: that of the last reply, or of a line that is too long.
pub record IsFault (g : Ground) (old new : Option (List ℕ)) (rest : List ℕ) (rs : List Reply) (n : ℕ) :
    Type 0 where
  pub last : List ℕ
  pub whole : texts g (take n rs) ++ last ≡ due g rest rs
  pub short : IsCutShort old new (texts g (take n rs)) last
  pub replied : (n ≡ length rs) ⊎ ((n + 1 ≡ length rs) × (length rest ≤ MOST_LINE))

abbrev pub Puts : Ground → Option (List ℕ) → Option (List ℕ) → List ℕ → List Reply → Served
    → Type 0
Puts g old new rest rs served = elim (is_write_fault served.end) [
  | true ↦ IsFault g old new rest rs served.queries
  | false ↦ Appends old new (due g rest rs) × (served.queries ≡ length rs)
]

-- The bytes that were taken complete certain queries, and the sink took the lines of one reply for each, in order.
pub record HasAnswered (g : Ground) (i j : Input) (old new : Option (List ℕ)) (served : Served) (replies : List Reply) :
    Type 0 where
  pub bytes : List ℕ
  pub ended : Bool
  pub took : Took i j bytes ended (is_read_fault served.end)
  pub short : AllByRecursion (λ line. length line ≤ MOST_LINE) (cut_of bytes).lines
  pub fit : FitEach g (queries_of bytes ended) replies
  pub puts : Puts g old new (cut_of bytes).rest replies served
  pub end : EndsBy served.end (cut_of bytes).rest ended (length replies)

pub record IsRun (b : Board) (k l : Knowledge) (i j : Input) (old new : Option (List ℕ)) (served : Served) :
    Type 0 where
  pub replies : List Reply
  pub answered : HasAnswered b.problem i j old new served replies
  pub serves : Serves b k l replies
