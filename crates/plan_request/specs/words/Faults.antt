-- What is at fault in words out of form: from the left, the first word with which they are so; behind the last word, what is
-- missing.
--     Fault                 what is at fault
--     Standing              where a reader of words stands: the positional words and the options that stood, and the one that
--                           waits for its value
--     behind_word at w      where it stands behind this word
--     word_fault f at w     the fault of this word, if it may not stand there
--     end_fault f at        what is missing where no word is left
--     form_fault f at ws    the first fault of the words that are left behind a command
--     fault_of words        the fault of words out of form
use Rattle.std.specs.Prelude.{ℕ, ◌+◌, nat_lt, cond, List, [], ◌∷◌, ◌++◌, find, length, slice_get, Option, Some, None, option_map}
use Rattle.std.specs.Str.{bytes_eq}
use Rattle.plan_request.specs.words.Words.{Text, Word, value, opens, gives, other, word_of, is_plain, is_among}
use Rattle.plan_request.specs.words.Table.{Form, forms}

pub data Fault : Type 0 where
  -- there is no word
  no_command : Fault
  -- no command has this name
  unknown : Text → Fault
  -- this is neither a name nor an option of the command with its value
  stray : Text → Fault
  -- this option stood before
  repeated : Text → Fault
  -- this option has no value
  unvalued : Text → Fault
  -- the command has all its names before this one
  excess : Text → Fault
  -- this name of the command is missing
  missing : Text → Fault

pub record Standing : Type 0 where
  pub plain : ℕ
  pub seen : List Text
  pub waiting : Option Text

abbrev pub behind_as : Standing → Word → Standing
behind_as at value = record at { plain = at.plain + 1 }
behind_as at (opens n) = record at { seen = at.seen ++ n ∷ []; waiting = Some n }
behind_as at (gives n v) = record at { seen = at.seen ++ n ∷ [] }
behind_as at other = at

abbrev pub behind_in : Standing → Option Text → Text → Standing
behind_in at (Some n) w = record at { waiting = None }
behind_in at None w = behind_as at (word_of w)

abbrev pub behind_word : Standing → Text → Standing
behind_word at w = behind_in at at.waiting w

abbrev pub name_fault : Form → Standing → Text → Text → Option Fault
name_fault f at w n = cond (is_among n f.options) (cond (is_among n at.seen) (Some (repeated n)) None) (Some (stray w))

abbrev pub fault_as : Form → Standing → Text → Word → Option Fault
fault_as f at w value = cond (nat_lt at.plain (length f.words)) None (Some (excess w))
fault_as f at w (opens n) = name_fault f at w n
fault_as f at w (gives n v) = name_fault f at w n
fault_as f at w other = Some (stray w)

abbrev pub fault_in : Form → Standing → Option Text → Text → Option Fault
fault_in f at (Some n) w = cond (is_plain w) None (Some (unvalued n))
fault_in f at None w = fault_as f at w (word_of w)

abbrev pub word_fault : Form → Standing → Text → Option Fault
word_fault f at w = fault_in f at at.waiting w

abbrev pub end_as : Form → Standing → Option Text → Option Fault
end_as f at (Some n) = Some (unvalued n)
end_as f at None = option_map missing (slice_get f.words at.plain)

abbrev pub end_fault : Form → Standing → Option Fault
end_fault f at = end_as f at at.waiting

abbrev pub or_else : {A : Type 0} → Option A → Option A → Option A
or_else (Some first) more = Some first
or_else None more = more

abbrev pub form_fault : Form → Standing → List Text → Option Fault
form_fault f at [] = end_fault f at
form_fault f at (w ∷ ws) = or_else (word_fault f at w) (form_fault f (behind_word at w) ws)

abbrev pub at_first : Standing
at_first = record { plain = 0; seen = []; waiting = None }

abbrev pub fault_behind : List Text → Option Form → Text → Option Fault
fault_behind ws None w = Some (unknown w)
fault_behind ws (Some f) w = form_fault f at_first ws

abbrev pub fault_of : List Text → Option Fault
fault_of [] = Some no_command
fault_of (w ∷ ws) = fault_behind ws (find (λ f. bytes_eq f.name w) forms) w
