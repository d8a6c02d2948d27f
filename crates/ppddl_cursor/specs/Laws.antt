-- The laws of readers, as statements. Each says of a reading that is put together what is read first at a place, and what is read on
-- from there, so that a walk over what lies ahead reads it step by step.
--     WordIsRead, WordOrGroupIsRead        of one form
--     CheckingIsRead, RefusedIfIsRead, LocatedIsRead
--     GroupIsRead, KeywordGroupIsRead      of a group
--     OneThenIsRead, GivingIsRead          of the rest of a group
--     LastIsRead, OptionalIsRead           of its end, and of a rest that may be missing
--     EachIsRead, AddingIsRead, ManyIsRead of a list
--     OneThenOfText, LastOfText            of the rest of a text, and of its end
--     EachOfText                           of a list up to the end of the text
use Rattle.std.specs.Prelude.{◌≡◌, ℕ, List, [], ◌∷◌, ◌++◌, Bool, ◌&&◌, Result, Ok, cond}
use Rattle.plain_list.specs.Results.{◌>>=◌}
use Rattle.ppddl_lex.specs.Words.{lowered}
use Rattle.ppddl_model.specs.declared.refusal.TextCode.{TextCode}
use Rattle.ppddl_cursor.specs.declared.place.Place.{Place}
use Rattle.ppddl_cursor.specs.Forms.{Form, Forms}
use Rattle.ppddl_cursor.specs.Ahead.{Ahead, after, next_of, has_form, place_of}
use Rattle.ppddl_cursor.specs.Reading.{Fault, fails, if_open, read_to, one_at, rest_at, all_at, ends, opened, word_at}
use Rattle.ppddl_cursor.specs.Sequences.{of_word, word_or_group, checking, refused_if, in_group, group_with, one_then, last, optional, giving, each, adding, many, located, begun}

abbrev pub WordIsRead : {A : Type 0} → (List ℕ → Place → Result A Fault) → Type 0
WordIsRead read = (h : Ahead) → one_at (of_word read) h ≡ (word_at h >>= λ w. read (lowered w) (place_of h) >>= λ x. read_to x (after h))

abbrev pub LocatedIsRead : {A : Type 0} → (Form → Result A Fault) → Type 0
LocatedIsRead read = (h : Ahead) → one_at (located read) h ≡ (one_at read h >>= λ y. read_to (y.0, place_of h) y.1)

abbrev pub WordOrGroupIsRead : {A : Type 0} → (Form → Result A Fault) → (Form → Result A Fault) → Type 0
WordOrGroupIsRead word other = (h : Ahead) → one_at (word_or_group word other) h ≡ if_open (next_of h) (one_at other h) (one_at word h)

abbrev pub CheckingIsRead : {A B : Type 0} → (A → Result B Fault) → (Form → Result A Fault) → Type 0
CheckingIsRead test read = (h : Ahead) → one_at (checking test read) h ≡ (one_at read h >>= λ y. test y.0 >>= λ x. read_to x y.1)

abbrev pub RefusedIfIsRead : {A : Type 0} → Bool → TextCode → (Form → Result A Fault) → Type 0
RefusedIfIsRead test code read = (h : Ahead) → one_at (refused_if test code read) h ≡ cond (has_form h && test) (fails code (place_of h)) (one_at read h)

abbrev pub GroupIsRead : {A : Type 0} → (Forms → Place → Result A Fault) → Type 0
GroupIsRead read = (h : Ahead) → one_at (in_group read) h ≡ (opened h >>= λ k. rest_at read k)

abbrev pub KeywordGroupIsRead : {A : Type 0} → List ℕ → (Forms → Place → Result A Fault) → Type 0
KeywordGroupIsRead w read = (h : Ahead) → one_at (group_with w read) h ≡ (begun w h >>= λ k. rest_at read k)

module _ {A B : Type 0} (first : Form → Result A Fault) (others : A → Forms → Place → Result B Fault) where
  abbrev pub OneThenIsRead : Type 0
  OneThenIsRead = (h : Ahead) → rest_at (one_then first others) h ≡ (one_at first h >>= λ y. rest_at (others y.0) y.1)

  abbrev pub OneThenOfText : Type 0
  OneThenOfText = (h : Ahead) → all_at (one_then first others) h ≡ (one_at first h >>= λ y. all_at (others y.0) y.1)

abbrev pub GivingIsRead : {A B : Type 0} → (A → B) → (Forms → Place → Result A Fault) → Type 0
GivingIsRead make read = (h : Ahead) → rest_at (giving make read) h ≡ (rest_at read h >>= λ y. read_to (make y.0) y.1)

abbrev pub LastIsRead : {A : Type 0} → A → Type 0
LastIsRead x = (h : Ahead) → rest_at (last x) h ≡ (rest_at ends h >>= λ y. read_to x y.1)

abbrev pub LastOfText : {A : Type 0} → A → Type 0
LastOfText x = (h : Ahead) → all_at (last x) h ≡ (all_at ends h >>= λ u. Ok x)

abbrev pub OptionalIsRead : {A : Type 0} → A → (Forms → Place → Result A Fault) → Type 0
OptionalIsRead x read = (h : Ahead) → rest_at (optional x read) h ≡ cond (has_form h) (rest_at read h) (rest_at ends h >>= λ y. read_to x y.1)

module _ {S : Type 0} (one : S → Form → Result S Fault) where
  abbrev pub EachIsRead : Type 0
  EachIsRead = (s : S) (h : Ahead)
      → rest_at (each one s) h ≡ cond (has_form h) (one_at (one s) h >>= λ y. rest_at (each one y.0) y.1) (rest_at ends h >>= λ y. read_to s y.1)

  abbrev pub EachOfText : Type 0
  EachOfText = (s : S) (h : Ahead)
      → all_at (each one s) h ≡ cond (has_form h) (one_at (one s) h >>= λ y. all_at (each one y.0) y.1) (all_at ends h >>= λ u. Ok s)

abbrev pub AddingIsRead : {A : Type 0} → (List A → Form → Result A Fault) → Type 0
AddingIsRead {A} one = (seen : List A) (h : Ahead) → one_at (adding one seen) h ≡ (one_at (one seen) h >>= λ y. read_to (seen ++ y.0 ∷ []) y.1)

-- a list is read element by element, behind those read before
abbrev pub ManyIsRead : {A : Type 0} → (Form → Result A Fault) → Type 0
ManyIsRead read = (h : Ahead) → rest_at (many read) h ≡ rest_at (each (adding (λ seen. read)) []) h
