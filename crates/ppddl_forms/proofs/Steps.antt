-- Reading step by step, beside the steps of `ppddl_cursor`.
--     form_steps    the laws by which the readers of forms are proved
use Rattle.std.proofs.Common.{◌≡◌, ℕ, List, [], ◌∷◌, ◌++◌, Bool, true, false, cond, Result, refl, ap, ◌∙◌}
use Rattle.plain_list.specs.Results.{◌>>=◌}
use Rattle.plain_list.proofs.Results.{bind_assoc}
use Rattle.ppddl_lex.specs.Words.{lowered, is_same_word}
use Rattle.ppddl_model.specs.declared.refusal.TextCode.{TextCode}
use Rattle.ppddl_model.specs.declared.refusal.TextCode.TheVariants.{Expected}
use Rattle.ppddl_cursor.specs.declared.place.Place.{Place}
use Rattle.ppddl_cursor.specs.Forms.{Form, Forms, lone, group, none, more, lowered_form, lowered_forms}
use Rattle.ppddl_cursor.specs.Ahead.{Ahead, top, inner, after, has_form, is_word, next_of, word_of, place_of}
use Rattle.ppddl_cursor.specs.Reading.{Fault, fails, read_to, one_at, rest_at, ends, word_at}
use Rattle.ppddl_cursor.specs.Sequences.{adding, many}
use Rattle.ppddl_cursor.proofs.Results.{through}
use Rattle.ppddl_cursor.proofs.Steps.{reading_steps, each_step, adding_step, many_step}
use Rattle.ppddl_forms.specs.Sequences.{by_word, or_word, many_behind, refused, each_to}

-- a word by a test
pub by_word_step : {A : Type 0} (test : List ℕ → Bool) (x y : Form → Result A Fault) (h : Ahead)
    → one_at (by_word test x y) h ≡ (word_at h >>= λ w. cond (test (lowered w)) (one_at x h) (one_at y h))
unfolding by_word one_at next_of word_of place_of
by_word_step test x y (top none e) = refl
by_word_step test x y (top (more (lone v a) fs) e) = by_test (test (lowered v))
  where
    by_test : (t : Bool) → (cond t (x (lone (lowered v) a)) (y (lone (lowered v) a)) >>= λ z. read_to z (top fs e)) ≡ cond t (x (lone (lowered v) a) >>= λ z. read_to z (top fs e)) (y (lone (lowered v) a) >>= λ z. read_to z (top fs e))
    by_test true = refl
    by_test false = refl
by_word_step test x y (top (more (group a gs b) fs) e) = refl
by_word_step test x y (inner none b out) = refl
by_word_step test x y (inner (more (lone v a) fs) b out) = by_test (test (lowered v))
  where
    by_test : (t : Bool) → (cond t (x (lone (lowered v) a)) (y (lone (lowered v) a)) >>= λ z. read_to z (inner fs b out)) ≡ cond t (x (lone (lowered v) a) >>= λ z. read_to z (inner fs b out)) (y (lone (lowered v) a) >>= λ z. read_to z (inner fs b out))
    by_test true = refl
    by_test false = refl
by_word_step test x y (inner (more (group a gs c) fs) b out) = refl

-- a word, or another form
pub or_word_step : {A : Type 0} (w : List ℕ) (at : Place → Result A Fault) (other : Form → Result A Fault) (h : Ahead)
    → one_at (or_word w at other) h ≡ cond (is_word w h) (at (place_of h) >>= λ x. read_to x (after h)) (one_at other h)
unfolding or_word one_at is_word place_of after
or_word_step w at other (top none e) = refl
or_word_step w at other (top (more (lone v a) fs) e) = by_test (is_same_word v w)
  where
    by_test : (t : Bool) → (cond t (at a) (other (lone (lowered v) a)) >>= λ x. read_to x (top fs e)) ≡ cond t (at a >>= λ x. read_to x (top fs e)) (other (lone (lowered v) a) >>= λ x. read_to x (top fs e))
    by_test true = refl
    by_test false = refl
or_word_step w at other (top (more (group a gs b) fs) e) = refl
or_word_step w at other (inner none b out) = refl
or_word_step w at other (inner (more (lone v a) fs) b out) = by_test (is_same_word v w)
  where
    by_test : (t : Bool) → (cond t (at a) (other (lone (lowered v) a)) >>= λ x. read_to x (inner fs b out)) ≡ cond t (at a >>= λ x. read_to x (inner fs b out)) (other (lone (lowered v) a) >>= λ x. read_to x (inner fs b out))
    by_test true = refl
    by_test false = refl
or_word_step w at other (inner (more (group a gs c) fs) b out) = refl

-- readers of the rest of a group that agree read alike
pub rest_ext : {A : Type 0} (read other : Forms → Place → Result A Fault) → ((fs : Forms) (b : Place) → read fs b ≡ other fs b) → (h : Ahead) → rest_at read h ≡ rest_at other h
unfolding rest_at
rest_ext {A} read other agree (top fs e) = ap (λ (r : Result A Fault). r >>= λ x. fails Expected e) (agree (lowered_forms fs) e)
rest_ext {A} read other agree (inner fs b out) = ap (λ (r : Result A Fault). r >>= λ x. read_to x out) (agree (lowered_forms fs) b)

pub refused_step : {A : Type 0} (code : TextCode) (a : Place) (h : Ahead) → rest_at (refused {A = A} code a) h ≡ fails code a
unfolding refused rest_at
refused_step code a (top fs e) = refl
refused_step code a (inner fs b out) = refl

module _ {S A : Type 0} (one : S → Form → Result S Fault) (finish : S → Place → Result A Fault) where
  pub each_to_step : (s : S) (h : Ahead)
      → rest_at (each_to one finish s) h
      ≡ cond (has_form h) (one_at (one s) h >>= λ y. rest_at (each_to one finish y.0) y.1) (finish s (place_of h) >>= λ x. rest_at ends h >>= λ y. read_to x y.1)
  unfolding each_to one_at rest_at has_form place_of
  each_to_step s (top none e) = refl
  each_to_step s (top (more f fs) e) =
      through (one s (lowered_form f)) (top fs e) (λ t. each_to one finish t (lowered_forms fs) e) (λ x. fails Expected e) (λ y. rest_at (each_to one finish y.0) y.1) (λ x. refl)
  each_to_step s (inner none b out) = refl
  each_to_step s (inner (more f fs) b out) =
      through (one s (lowered_form f)) (inner fs b out) (λ t. each_to one finish t (lowered_forms fs) b) (λ x. read_to x out) (λ y. rest_at (each_to one finish y.0) y.1) (λ x. refl)

-- one more behind those that were read
pub many_behind_step : {A : Type 0} (read : Form → Result A Fault) (seen : List A) (h : Ahead)
    → rest_at (many_behind read seen) h
    ≡ cond (has_form h) (one_at read h >>= λ y. rest_at (many_behind read (seen ++ y.0 ∷ [])) y.1) (rest_at ends h >>= λ y. read_to seen y.1)
unfolding many_behind
many_behind_step {A} read seen h =
    each_step (adding (λ _. read)) seen h
    ∙ ap (λ (r : Result (List A × Ahead) Fault). cond (has_form h) r (rest_at ends h >>= λ y. read_to seen y.1))
    (ap (λ (r : Result (List A × Ahead) Fault). r >>= λ y. rest_at (many_behind read y.0) y.1) (adding_step (λ _. read) seen h)
    ∙ bind_assoc (one_at read h) (λ y. read_to (seen ++ y.0 ∷ []) y.1) (λ y. rest_at (many_behind read y.0) y.1))

pub many_is_behind : {A : Type 0} (read : Form → Result A Fault) (h : Ahead) → rest_at (many read) h ≡ rest_at (many_behind read []) h
unfolding many_behind
many_is_behind read h = many_step read h

pub ruleset form_steps = (
  reading_steps,
  by_word_step,
  or_word_step,
  refused_step,
  each_to_step,
  many_behind_step,
)
