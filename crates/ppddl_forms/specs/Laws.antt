-- The laws of the readings in `Sequences`, as statements: what is read first at a place, and what is read on from there.
--     ByWordIsRead, OrWordIsRead           of one form
--     RefusedIsRead                        of the rest of a group that is refused
--     ManyBehindIsRead, EachToIsRead       of a list
use Rattle.std.specs.Prelude.{◌≡◌, ℕ, List, [], ◌∷◌, ◌++◌, Bool, Result, cond}
use Rattle.plain_list.specs.Results.{◌>>=◌}
use Rattle.ppddl_lex.specs.Words.{lowered}
use Rattle.ppddl_model.specs.declared.refusal.TextCode.{TextCode}
use Rattle.ppddl_cursor.specs.declared.place.Place.{Place}
use Rattle.ppddl_cursor.specs.Forms.{Form}
use Rattle.ppddl_cursor.specs.Ahead.{Ahead, after, has_form, is_word, place_of}
use Rattle.ppddl_cursor.specs.Reading.{Fault, fails, read_to, one_at, rest_at, ends, word_at}
use Rattle.ppddl_forms.specs.Sequences.{by_word, or_word, many_behind, refused, each_to}

abbrev pub ByWordIsRead : {A : Type 0} → (List ℕ → Bool) → (Form → Result A Fault) → (Form → Result A Fault) → Type 0
ByWordIsRead test x y = (h : Ahead) → one_at (by_word test x y) h ≡ (word_at h >>= λ w. cond (test (lowered w)) (one_at x h) (one_at y h))

abbrev pub OrWordIsRead : {A : Type 0} → List ℕ → (Place → Result A Fault) → (Form → Result A Fault) → Type 0
OrWordIsRead w at other = (h : Ahead) → one_at (or_word w at other) h ≡ cond (is_word w h) (at (place_of h) >>= λ x. read_to x (after h)) (one_at other h)

abbrev pub RefusedIsRead : (A : Type 0) → TextCode → Place → Type 0
RefusedIsRead A code a = (h : Ahead) → rest_at (refused {A = A} code a) h ≡ fails code a

abbrev pub ManyBehindIsRead : {A : Type 0} → (Form → Result A Fault) → Type 0
ManyBehindIsRead {A} read = (seen : List A) (h : Ahead)
    → rest_at (many_behind read seen) h
    ≡ cond (has_form h) (one_at read h >>= λ y. rest_at (many_behind read (seen ++ y.0 ∷ [])) y.1) (rest_at ends h >>= λ y. read_to seen y.1)

abbrev pub EachToIsRead : {S A : Type 0} → (S → Form → Result S Fault) → (S → Place → Result A Fault) → Type 0
EachToIsRead {S} one finish = (s : S) (h : Ahead)
    → rest_at (each_to one finish s) h
    ≡ cond (has_form h) (one_at (one s) h >>= λ y. rest_at (each_to one finish y.0) y.1) (finish s (place_of h) >>= λ x. rest_at ends h >>= λ y. read_to x y.1)
