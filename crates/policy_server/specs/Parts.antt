-- What the parts of the server tell each other.
--     Room                     the bytes of a buffer, and for how many there is room
--     BufferView               the line that was taken last, the words of the state, and the room for an answer
--     IsTextRoom r             room for the text of an atom of any line
--     IsReplyRoom g room       room for the line of each answer
--     IsBufferOf g v           the buffer of a server of the problem
--     IsPlace line p           a place of the line
--     ahead line p             the tokens from a place on
--     TellsNext                what comes next in a line
--     TellsAtom, TellsAtoms, Reads
--                              what the readers of an atom, of atoms, and of a line tell
--     TellsByte, TellsLine     what was taken
--     answer_text g a          the line of an answer
--     TellsState, TellsAnswer  what the answers about a state and to a query tell
--     TellsReply               what answering a line tells
--     turn_after put t         a turn, or a fault where what it put was not put whole
--     TellsTurn                what a turn tells
use Rattle.std.specs.Prelude.{◌≡◌, ℕ, ◌+◌, ◌*◌, ◌<◌, ◌≤◌, ◌⊎◌, Bool, true, false, cond}
use Rattle.std.specs.Prelude.{List, [], ◌∷◌, ◌++◌, length, codes, Option, Some, None, Result, Ok, Err, slice_range}
use Rattle.std.specs.Io.KnownBytes.{Appends}
use Rattle.plain_list.specs.Texts.{list_text}
use Rattle.shelf_io.specs.Causes.{one_more}
use Rattle.ppddl_lex.specs.Lexemes.{tokens_at}
use Rattle.ground_model.specs.Packed.{State}
use Rattle.ground_model.specs.Ground.{Ground}
use Rattle.ground_step.specs.Edits.{with_atom}
use Rattle.bound_core.specs.Core.{width}
use Rattle.word_table.specs.Seen.{Board, Knowledge}
use Rattle.policy_server.specs.declared.limits.TheConstants.{MOST_LINE}
use Rattle.policy_server.specs.declared.place.Place.{Place}
use Rattle.policy_server.specs.declared.tokens.Next.{Next}
use Rattle.policy_server.specs.declared.tokens.Next.TheVariants as next
use Rattle.policy_server.specs.declared.reading.Asked.{Asked}
use Rattle.policy_server.specs.declared.reading.Asked.TheVariants as asked
use Rattle.policy_server.specs.declared.taking.Taken.{Taken}
use Rattle.policy_server.specs.declared.taking.Taken.TheVariants as take
use Rattle.policy_server.specs.declared.line.Line.{Line}
use Rattle.policy_server.specs.declared.line.Line.TheVariants as lines
use Rattle.policy_server.specs.declared.answer.Answer.{Answer}
use Rattle.policy_server.specs.declared.answer.Answer.TheVariants as answer
use Rattle.policy_server.specs.declared.ending.Turn.{Turn}
use Rattle.policy_server.specs.declared.ending.Turn.TheVariants as turn
use Rattle.policy_server.specs.declared.serve_end.ServeEnd.{ServeEnd}
use Rattle.policy_server.specs.declared.serve_end.ServeEnd.TheVariants as stop
use Rattle.policy_server.specs.Lines.{fed, IsWhole}
use Rattle.policy_server.specs.Queries.{Piece, pieces_from, with_piece, Names, with_names, atoms_in, first_in}
use Rattle.policy_server.specs.Queries.{Query, query_of, query_behind}
use Rattle.policy_server.specs.Queries as query
use Rattle.policy_server.specs.Replies.{Reply, act_text, interval_text, text_of, Fits, Serves}
use Rattle.policy_server.specs.Replies as reply
use Rattle.policy_server.specs.Serving.{Input, Took, IsCutShort, long_line}

-- ---- buffers

pub record Room : Type 0 where
  pub bytes : List ℕ
  pub room : ℕ

pub record BufferView : Type 0 where
  pub line : List ℕ
  pub width : ℕ
  pub room : ℕ

abbrev pub IsTextRoom : Room → Type 0
IsTextRoom r = r.room ≡ 2 * MOST_LINE

abbrev pub IsReplyRoom : Ground → ℕ → Type 0
IsReplyRoom g room = (code : ℕ) → length (act_text g code) + 60 ≤ room

pub record IsBufferOf (g : Ground) (v : BufferView) : Type 0 where
  pub wide : v.width ≡ width g
  pub room : IsReplyRoom g v.room

-- ---- readers

pub record IsPlace (line : List ℕ) (p : Place) : Type 0 where
  pub within : p.offset ≤ length line
  pub rows : p.row ≤ 1 + p.offset

abbrev pub ahead : List ℕ → Place → Option (List Piece)
ahead line p = pieces_from line (tokens_at line p.offset p.row)

abbrev pub word_at : List ℕ → ℕ → Place → Piece
word_at line from p = query.Word (slice_range line from p.offset)

-- a token was passed
pub record Passes (line : List ℕ) (p : Place) (piece : Piece) (from : ℕ) (q : Place) : Type 0 where
  pub next : ahead line p ≡ with_piece piece (ahead line q)
  pub at : IsPlace line q
  pub behind : p.offset ≤ from
  pub nonempty : from < q.offset

abbrev pub TellsNext : List ℕ → Place → Next → Type 0
TellsNext line p (next.Left q) = Passes line p query.Left p.offset q
TellsNext line p (next.Right q) = Passes line p query.Right p.offset q
TellsNext line p (next.Word from q) = Passes line p (word_at line from q) from q
TellsNext line p next.End = ahead line p ≡ Some []
TellsNext line p next.Bad = ahead line p ≡ None

-- atoms that pieces spell, if there are pieces
abbrev pub in_pieces : {A : Type 0} → (List Piece → Option A) → Option (List Piece) → Option A
in_pieces read None = None
in_pieces read (Some ps) = read ps

pub record IsAtom (line : List ℕ) (p : Place) (text : List ℕ) (q : Place) : Type 0 where
  pub names : Names
  pub atom : in_pieces first_in (ahead line p) ≡ with_names names (in_pieces atoms_in (ahead line q))
  pub text_is : text ≡ list_text names
  pub at : IsPlace line q
  pub behind : p.offset < q.offset

abbrev pub TellsAtom : List ℕ → Place → List ℕ → Option Place → Type 0
TellsAtom line p text None = in_pieces first_in (ahead line p) ≡ None
TellsAtom line p text (Some q) = IsAtom line p text q

abbrev pub AddsAtom : Option ℕ → Bool → State → State → Type 0
AddsAtom None known old new = (known ≡ false) × (new ≡ old)
AddsAtom (Some atom) known old new = (known ≡ true) × (new ≡ with_atom old atom)

abbrev pub Reads : Asked → State → Query → Type 0
Reads asked.NoQuery s q = q ≡ query.NoQuery
Reads asked.NoAtom s q = q ≡ query.NoAtom
Reads asked.State s q = q ≡ query.Asks s

abbrev pub TellsAtoms : Ground → List ℕ → Place → Asked → State → Type 0
TellsAtoms g line p a s = Reads a s (query_behind g (Some []) (in_pieces atoms_in (ahead line p)))

-- ---- what is taken

abbrev pub TellsByte : Input → Input → Taken → Type 0
TellsByte i j (take.Byte b) = Took i j (b ∷ []) false false
TellsByte i j take.End = Took i j [] true false
TellsByte i j take.Fault = Took i j [] false true

-- a line without line feed
pub record IsLine (line : List ℕ) : Type 0 where
  pub whole : IsWhole line
  pub short : length line ≤ MOST_LINE

-- the bytes of a line that is too long, up to the first that is too many
pub record IsLong (line : List ℕ) : Type 0 where
  pub whole : IsWhole line
  pub long : length line ≡ MOST_LINE + 1

abbrev pub TellsLine : Input → Input → List ℕ → Line → Type 0
TellsLine i j line lines.Whole = IsLine line × Took i j (fed line) false false
TellsLine i j line lines.Last = IsLine line × Took i j line true false
TellsLine i j line lines.Long =
    (b : ℕ) × IsLong (line ++ b ∷ []) × Took i j (line ++ b ∷ []) false false
TellsLine i j line lines.Fault = IsLine line × Took i j line false true

-- ---- what is answered

abbrev pub answer_text : Ground → Answer → List ℕ
answer_text g answer.NoQuery = codes "error syntax\n"
answer_text g answer.NoAtom = codes "error atom\n"
answer_text g answer.Unvisited = codes "unvisited\n"
answer_text g (answer.Found i) = interval_text g i

abbrev pub TellsState : Board → Knowledge → Knowledge → State → Answer → Type 0
TellsState b k l s answer.NoQuery = ⊥
TellsState b k l s answer.NoAtom = ⊥
TellsState b k l s answer.Unvisited = Serves b k l (reply.Unvisited s ∷ [])
TellsState b k l s (answer.Found i) = (id : ℕ) × Serves b k l (reply.Found s id i ∷ [])

pub record TellsAnswer (b : Board) (k l : Knowledge) (q : Query) (a : Answer) : Type 0 where
  pub told : Reply
  pub fits : Fits q told
  pub text : text_of b.problem told ≡ answer_text b.problem a
  pub serves : Serves b k l (told ∷ [])

abbrev pub IsPut : {E : Type 0} → List ℕ → Option (List ℕ) → Option (List ℕ) → Result (Unit {0}) E → Type 0
IsPut bytes old new (Ok done) = Appends old new bytes
IsPut bytes old new (Err e) = IsCutShort old new [] bytes

pub record TellsReply {E : Type 0} (b : Board) (k l : Knowledge) (line : List ℕ) (old new : Option (List ℕ)) (r : Result (Unit {0}) E) :
    Type 0 where
  pub told : Reply
  pub fits : Fits (query_of b.problem line) told
  pub serves : Serves b k l (told ∷ [])
  pub put : IsPut (text_of b.problem told) old new r

-- ---- turns

-- the turn, or a fault where what it put was not put whole
abbrev pub turn_after : {E : Type 0} → Result (Unit {0}) E → Turn → Turn
turn_after (Ok done) t = t
turn_after (Err e) t = turn.Stopped stop.WriteFault

-- a line was taken and answered
pub record IsAnswered (b : Board) (k l : Knowledge) (i j : Input) (line : List ℕ) (ended : Bool) (told : Reply) : Type 0 where
  pub is_line : IsLine line
  pub took : Took i j (cond ended line (fed line)) ended false
  pub some : ended ≡ true → 0 < length line
  pub fits : Fits (query_of b.problem line) told
  pub serves : Serves b k l (told ∷ [])

-- its answer was put whole
pub record IsServed (b : Board) (k l : Knowledge) (i j : Input) (old new : Option (List ℕ)) (ended : Bool) : Type 0 where
  pub line : List ℕ
  pub told : Reply
  pub answered : IsAnswered b k l i j line ended told
  pub put : Appends old new (text_of b.problem told)

-- it was cut short
pub record IsRefused (b : Board) (k l : Knowledge) (i j : Input) (old new : Option (List ℕ)) : Type 0 where
  pub line : List ℕ
  pub ended : Bool
  pub told : Reply
  pub answered : IsAnswered b k l i j line ended told
  pub put : IsCutShort old new [] (text_of b.problem told)

-- a line that is too long
pub record IsLongTurn (k l : Knowledge) (i j : Input) : Type 0 where
  pub line : List ℕ
  pub is_long : IsLong line
  pub took : Took i j line false false
  pub same : l ≡ k

abbrev pub TellsStop : Board → Knowledge → Knowledge → Input → Input → Option (List ℕ) → Option (List ℕ) → ServeEnd → Type 0
TellsStop b k l i j old new stop.Input = Took i j [] true false × (l ≡ k) × (new ≡ old)
TellsStop b k l i j old new stop.Queries = ⊥
TellsStop b k l i j old new stop.LongLine = IsLongTurn k l i j × Appends old new long_line
TellsStop b k l i j old new stop.ReadFault =
    (line : List ℕ) × IsLine line × Took i j line false true × (l ≡ k) × (new ≡ old)
TellsStop b k l i j old new stop.WriteFault =
    IsRefused b k l i j old new ⊎ (IsLongTurn k l i j × IsCutShort old new [] long_line)

abbrev pub TellsTurn : Board → Knowledge → Knowledge → Input → Input → Option (List ℕ) → Option (List ℕ) → Turn → Type 0
TellsTurn b k l i j old new turn.Answered = IsServed b k l i j old new false
TellsTurn b k l i j old new turn.AnsweredLast = IsServed b k l i j old new true
TellsTurn b k l i j old new (turn.Stopped end) = TellsStop b k l i j old new end

abbrev pub TurnFaults : ℕ → ℕ → Turn → Type 0
TurnFaults old new (turn.Stopped stop.WriteFault) = new ≡ one_more old
TurnFaults old new (turn.Stopped stop.Input) = new ≡ old
TurnFaults old new (turn.Stopped stop.Queries) = new ≡ old
TurnFaults old new (turn.Stopped stop.LongLine) = new ≡ old
TurnFaults old new (turn.Stopped stop.ReadFault) = new ≡ old
TurnFaults old new turn.Answered = new ≡ old
TurnFaults old new turn.AnsweredLast = new ≡ old
