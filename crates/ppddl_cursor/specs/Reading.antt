-- What is read of forms, and what a call answers that reads them. Words are read in lower case.
--     Fault                a code and a place
--     one_at read h        one form is read at h, and what is ahead behind it
--     rest_at read h       the rest of the innermost group and its `)` are read at h, and what is ahead behind them
--     all_at read h        the rest of the text is read at h
--     ends                 no form is left
--     opened h             the `(` of a group is read at h
--     if_open next x y     x where a `(` is next, else y
--     word_at h            the word at h, as it stands in the text
--     wanted w code        the word w is read; another form is refused with this code
--     Gives view r read    what a call answered, seen by view, is what reading gives, unless memory ran out
--     ReadsOne, ReadsRest  a call reads one form, or the rest of a group, from what was ahead to what is
use Rattle.std.specs.Prelude.{◌≡◌, ℕ, List, Option, Some, None, Result, Ok, Err, cond}
use Rattle.plain_list.specs.Results.{◌>>=◌}
use Rattle.ppddl_lex.specs.declared.token_kind.TokenKind.{TokenKind}
use Rattle.ppddl_lex.specs.declared.token_kind.TokenKind.TheVariants.{Left, Right, Word}
use Rattle.ppddl_model.specs.declared.refusal.TextCode.{TextCode}
use Rattle.ppddl_model.specs.declared.refusal.TextCode.TheVariants.{Expected}
use Rattle.ppddl_model.specs.declared.refusal.TextRefusal.{TextRefusal}
use Rattle.ppddl_model.specs.declared.refusal.TextRefusal.TheVariants as refusal
use Rattle.ppddl_cursor.specs.declared.place.Place.{Place}
use Rattle.ppddl_cursor.specs.Forms.{Form, Forms, none, more, lone, group, begin_of, lowered_form, lowered_forms}
use Rattle.ppddl_cursor.specs.Ahead.{Ahead, top, inner, same, next_of, place_of, word_of, after}

pub record Fault : Type 0 where
  pub code : TextCode
  pub place : Place

-- what is made of a word, of one form, and of forms in front of an end
abbrev pub ReaderOfWord : Type 0 → Type 0
ReaderOfWord A = List ℕ → Place → Result A Fault

abbrev pub ReaderOfOne : Type 0 → Type 0
ReaderOfOne A = Form → Result A Fault

abbrev pub ReaderOfRest : Type 0 → Type 0
ReaderOfRest A = Forms → Place → Result A Fault

abbrev pub fails : {A : Type 0} → TextCode → Place → Result A Fault
fails code at = Err (record { code = code; place = at })

abbrev pub Fails : {Y : Type 0} → TextRefusal → Result Y Fault → Type 0
Fails refusal.Memory read = Unit {0}
Fails (refusal.At code file line) read = read ≡ fails code (record { file = file; line = line })

abbrev pub Gives : {X Y : Type 0} → (X → Y) → Result X TextRefusal → Result Y Fault → Type 0
Gives view (Ok x) read = read ≡ Ok (view x)
Gives view (Err e) read = Fails e read

-- a value, and what is ahead behind it
abbrev pub read_to : {A : Type 0} → A → Ahead → Result (A × Ahead) Fault
read_to x h = Ok (x, h)

-- where a form is missing, the end of the group or of the text is at fault
unfoldable pub one_at : {A : Type 0} → (Form → Result A Fault) → Ahead → Result (A × Ahead) Fault
one_at read (top none e) = fails Expected e
one_at read (top (more f fs) e) = read (lowered_form f) >>= λ x. read_to x (top fs e)
one_at read (inner none b out) = fails Expected b
one_at read (inner (more f fs) b out) = read (lowered_form f) >>= λ x. read_to x (inner fs b out)

-- outside every group there is no `)`, so the end of the text is at fault
unfoldable pub rest_at : {A : Type 0} → (Forms → Place → Result A Fault) → Ahead → Result (A × Ahead) Fault
rest_at read (top fs e) = read (lowered_forms fs) e >>= λ x. fails Expected e
rest_at read (inner fs b out) = read (lowered_forms fs) b >>= λ x. read_to x out

-- inside a group its `)` is at fault
unfoldable pub all_at : {A : Type 0} → (Forms → Place → Result A Fault) → Ahead → Result A Fault
all_at read (top fs e) = read (lowered_forms fs) e
all_at read (inner fs b out) = read (lowered_forms fs) b >>= λ x. fails Expected b

-- these forms are left in front of an end at b, where none may be
abbrev pub ends : Forms → Place → Result (Unit {0}) Fault
ends none b = Ok tt
ends (more f fs) b = fails Expected (begin_of f)

-- anything but a `(` is at fault
abbrev pub opened_by : Option TokenKind → Ahead → Result Ahead Fault
opened_by None h = fails Expected (place_of h)
opened_by (Some Left) h = Ok (after h)
opened_by (Some Right) h = fails Expected (place_of h)
opened_by (Some Word) h = fails Expected (place_of h)

unfoldable pub opened : Ahead → Result Ahead Fault
opened h = opened_by (next_of h) h

-- one of two values, by whether a `(` is next
abbrev pub if_open : {A : Type 0} → Option TokenKind → A → A → A
if_open None x y = y
if_open (Some Left) x y = x
if_open (Some Right) x y = y
if_open (Some Word) x y = y

-- anything but a word is at fault
abbrev pub word_by : Option TokenKind → Ahead → Result (List ℕ) Fault
word_by None h = fails Expected (place_of h)
word_by (Some Left) h = fails Expected (place_of h)
word_by (Some Right) h = fails Expected (place_of h)
word_by (Some Word) h = Ok (word_of h)

abbrev pub word_at : Ahead → Result (List ℕ) Fault
word_at h = word_by (next_of h) h

abbrev pub wanted : List ℕ → TextCode → Form → Result (Unit {0}) Fault
wanted w code (lone v a) = cond (same v w) (Ok tt) (fails code a)
wanted w code (group a fs b) = fails code a

abbrev pub ReadsOne : {A : Type 0} → (Form → Result A Fault) → Ahead → Ahead → Result A TextRefusal → Type 0
ReadsOne read old new answer = Gives (λ x. (x, new)) answer (one_at read old)

abbrev pub ReadsRest : {A : Type 0} → (Forms → Place → Result A Fault) → Ahead → Ahead → Result A TextRefusal → Type 0
ReadsRest read old new answer = Gives (λ x. (x, new)) answer (rest_at read old)
