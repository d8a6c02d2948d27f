-- Readings that are put together.
--     of_word read             what read makes of a word
--     in_group read            a group, whose forms are read
--     word_or_group word other a word is read by the one, and a group by the other
--     checking test read       what test makes of what is read, or why it refuses it
--     refused_if test c read   a form is read where the test fails, and else refused with the code c
--     group_with w read        a group that begins with the word w; the forms behind it are read
--     one_then first others    one form, and then the others by what it was
--     last x                   no form; the value is x
--     optional x read          no form, with the value x; or what is read
--     giving g read            what g makes of what is read
--     each one s               each form by what is known before it, which it changes
--     adding one seen          one more element behind those seen
--     many read                the list of what each form gives
--     located read             what is read, with the place where it begins
--     begun w h                the `(` and the first word w of a group are read at h
use Rattle.std.specs.Prelude.{ℕ, List, [], ◌∷◌, ◌++◌, Bool, if◌then◌else◌, Result, Ok}
use Rattle.plain_list.specs.Results.{◌>>=◌}
use Rattle.ppddl_model.specs.declared.refusal.TextCode.{TextCode}
use Rattle.ppddl_model.specs.declared.refusal.TextCode.TheVariants.{Expected}
use Rattle.ppddl_cursor.specs.declared.place.Place.{Place}
use Rattle.ppddl_cursor.specs.Ahead.{Ahead}
use Rattle.ppddl_cursor.specs.Forms.{Form, Forms, lone, group, none, more, begin_of}
use Rattle.ppddl_cursor.specs.Reading.{Fault, fails, one_at, ends, opened, wanted}

-- a group in its place is at fault
unfoldable pub of_word : {A : Type 0} → (List ℕ → Place → Result A Fault) → Form → Result A Fault
of_word read (lone w a) = read w a
of_word read (group a fs b) = fails Expected a

-- a word in its place is at fault
unfoldable pub in_group : {A : Type 0} → (Forms → Place → Result A Fault) → Form → Result A Fault
in_group read (lone w a) = fails Expected a
in_group read (group a fs b) = read fs b

unfoldable pub word_or_group : {A : Type 0} → (Form → Result A Fault) → (Form → Result A Fault) → Form → Result A Fault
word_or_group word other (lone w a) = word (lone w a)
word_or_group word other (group a fs b) = other (group a fs b)

unfoldable pub checking : {A B : Type 0} → (A → Result B Fault) → (Form → Result A Fault) → Form → Result B Fault
checking test read f = read f >>= test

unfoldable pub refused_if : {A : Type 0} → Bool → TextCode → (Form → Result A Fault) → Form → Result A Fault
refused_if test code read f = if test then fails code (begin_of f) else read f

-- where the form is missing, the end of the group is at fault
unfoldable pub one_then : {A B : Type 0} → (Form → Result A Fault) → (A → Forms → Place → Result B Fault) → Forms → Place → Result B Fault
one_then first others none b = fails Expected b
one_then first others (more f fs) b = first f >>= λ x. others x fs b

unfoldable pub last : {A : Type 0} → A → Forms → Place → Result A Fault
last x fs b = ends fs b >>= λ u. Ok x

unfoldable pub optional : {A : Type 0} → A → (Forms → Place → Result A Fault) → Forms → Place → Result A Fault
optional x read none b = Ok x
optional x read (more f fs) b = read (more f fs) b

unfoldable pub giving : {A B : Type 0} → (A → B) → (Forms → Place → Result A Fault) → Forms → Place → Result B Fault
giving g read fs b = read fs b >>= λ x. Ok (g x)

-- from what is known before the first to what is known behind the last
unfoldable pub each : {S : Type 0} → (S → Form → Result S Fault) → S → Forms → Place → Result S Fault
each one s none b = Ok s
each one s (more f fs) b = one s f >>= λ t. each one t fs b

unfoldable pub adding : {A : Type 0} → (List A → Form → Result A Fault) → List A → Form → Result (List A) Fault
adding one seen f = one seen f >>= λ x. Ok (seen ++ x ∷ [])

unfoldable pub many : {A : Type 0} → (Form → Result A Fault) → Forms → Place → Result (List A) Fault
many read none b = Ok []
many read (more f fs) b = read f >>= λ x. many read fs b >>= λ xs. Ok (x ∷ xs)

unfoldable pub located : {A : Type 0} → (Form → Result A Fault) → Form → Result (A × Place) Fault
located read f = read f >>= λ x. Ok (x, begin_of f)

-- this word, in the place of a keyword
unfoldable pub keyword : List ℕ → Form → Result (Unit {0}) Fault
keyword w = wanted w Expected

unfoldable pub group_with : {A : Type 0} → List ℕ → (Forms → Place → Result A Fault) → Form → Result A Fault
group_with w read = in_group (one_then (keyword w) (λ u. read))

unfoldable pub begun : List ℕ → Ahead → Result Ahead Fault
begun w h = opened h >>= λ k. one_at (keyword w) k >>= λ y. Ok y.1
