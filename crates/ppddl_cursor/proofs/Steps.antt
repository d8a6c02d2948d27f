-- Reading step by step: what is read of one form, of the rest of a group and of the rest of a text, by what stands next.
--     reading_steps    these laws, by which readers are proved
use Rattle.std.proofs.Common.{◌≡◌, ℕ, List, [], ◌∷◌, ◌++◌, Bool, true, false, Result, Ok, Err, refl, sym, ap, ◌∙◌, append_assoc}
use Rattle.std.proofs.lemmas.List.{append-nil}
use Rattle.plain_list.specs.Results.{◌>>=◌}
use Rattle.plain_list.proofs.Results.{bind_assoc, bind_cong}
use Rattle.ppddl_model.specs.declared.refusal.TextCode.{TextCode}
use Rattle.ppddl_model.specs.declared.refusal.TextCode.TheVariants.{Expected}
use Rattle.ppddl_cursor.specs.declared.place.Place.{Place}
use Rattle.ppddl_cursor.specs.Forms.{Form, Forms, lone, group, none, more, begin_of, lowered_form, lowered_forms}
use Rattle.ppddl_cursor.specs.Ahead.{Ahead, top, inner, after, next_of, has_form, place_of, word_of}
use Rattle.ppddl_cursor.specs.Reading.{Fault, fails, read_to, one_at, rest_at, all_at, ends, opened}
use Rattle.ppddl_cursor.specs.Sequences.{of_word, word_or_group, checking, refused_if, in_group, group_with, one_then, last, optional, giving, each, adding, many, located, keyword, begun}
use Rattle.ppddl_cursor.specs.Laws.{WordIsRead, WordOrGroupIsRead, CheckingIsRead, RefusedIfIsRead, LocatedIsRead, GroupIsRead, KeywordGroupIsRead, OneThenIsRead, OneThenOfText, GivingIsRead, LastIsRead, LastOfText, OptionalIsRead, EachIsRead, EachOfText, AddingIsRead, ManyIsRead}
use Rattle.ppddl_cursor.proofs.Results.{through}

-- ---- one form

pub word_step : {A : Type 0} (read : List ℕ → Place → Result A Fault) → WordIsRead read
unfolding of_word one_at next_of word_of place_of after
word_step read (top none e) = refl
word_step read (top (more (lone w a) fs) e) = refl
word_step read (top (more (group a gs b) fs) e) = refl
word_step read (inner none b out) = refl
word_step read (inner (more (lone w a) fs) b out) = refl
word_step read (inner (more (group a gs c) fs) b out) = refl

begin-lowered : (f : Form) → begin_of (lowered_form f) ≡ begin_of f
begin-lowered (lone w a) = refl
begin-lowered (group a fs b) = refl

pub located_step : {A : Type 0} (read : Form → Result A Fault) → LocatedIsRead read
unfolding located one_at place_of
located_step read (top none e) = refl
located_step read (top (more f fs) e) =
    through (read (lowered_form f)) (top fs e) (λ x. Ok (x, begin_of (lowered_form f))) (λ x. read_to x (top fs e)) (λ y. read_to (y.0, begin_of f) y.1)
    (λ x. ap (λ a. read_to (x, a) (top fs e)) (begin-lowered f))
located_step read (inner none b out) = refl
located_step read (inner (more f fs) b out) =
    through (read (lowered_form f)) (inner fs b out) (λ x. Ok (x, begin_of (lowered_form f))) (λ x. read_to x (inner fs b out)) (λ y. read_to (y.0, begin_of f) y.1)
    (λ x. ap (λ a. read_to (x, a) (inner fs b out)) (begin-lowered f))

pub word_or_group_step : {A : Type 0} (word other : Form → Result A Fault) → WordOrGroupIsRead word other
unfolding word_or_group one_at next_of
word_or_group_step word other (top none e) = refl
word_or_group_step word other (top (more (lone w a) fs) e) = refl
word_or_group_step word other (top (more (group a gs b) fs) e) = refl
word_or_group_step word other (inner none b out) = refl
word_or_group_step word other (inner (more (lone w a) fs) b out) = refl
word_or_group_step word other (inner (more (group a gs c) fs) b out) = refl

pub checking_step : {A B : Type 0} (test : A → Result B Fault) (read : Form → Result A Fault) → CheckingIsRead test read
unfolding checking one_at
checking_step test read (top none e) = refl
checking_step test read (top (more f fs) e) =
    through (read (lowered_form f)) (top fs e) test (λ x. read_to x (top fs e)) (λ y. test y.0 >>= λ x. read_to x y.1) (λ x. refl)
checking_step test read (inner none b out) = refl
checking_step test read (inner (more f fs) b out) =
    through (read (lowered_form f)) (inner fs b out) test (λ x. read_to x (inner fs b out)) (λ y. test y.0 >>= λ x. read_to x y.1) (λ x. refl)

pub refused_if_step : {A : Type 0} (test : Bool) (code : TextCode) (read : Form → Result A Fault) → RefusedIfIsRead test code read
unfolding refused_if one_at has_form place_of
refused_if_step true code read (top none e) = refl
refused_if_step true code read (top (more f fs) e) = ap (λ a. fails code a) (begin-lowered f)
refused_if_step true code read (inner none b out) = refl
refused_if_step true code read (inner (more f fs) b out) = ap (λ a. fails code a) (begin-lowered f)
refused_if_step false code read (top none e) = refl
refused_if_step false code read (top (more f fs) e) = refl
refused_if_step false code read (inner none b out) = refl
refused_if_step false code read (inner (more f fs) b out) = refl

pub group_step : {A : Type 0} (read : Forms → Place → Result A Fault) → GroupIsRead read
unfolding in_group one_at opened next_of place_of after rest_at
group_step read (top none e) = refl
group_step read (top (more (lone w a) fs) e) = refl
group_step read (top (more (group a gs b) fs) e) = refl
group_step read (inner none b out) = refl
group_step read (inner (more (lone w a) fs) b out) = refl
group_step read (inner (more (group a gs c) fs) b out) = refl

-- ---- one form, and then the others by what was read of it

module _ {A B : Type 0} (first : Form → Result A Fault) (others : A → Forms → Place → Result B Fault) where
  pub then_step : OneThenIsRead first others
  unfolding one_then one_at rest_at
  then_step (top none e) = refl
  then_step (top (more f fs) e) =
      through (first (lowered_form f)) (top fs e) (λ x. others x (lowered_forms fs) e) (λ x. fails Expected e) (λ y. rest_at (others y.0) y.1) (λ x. refl)
  then_step (inner none b out) = refl
  then_step (inner (more f fs) b out) =
      through (first (lowered_form f)) (inner fs b out) (λ x. others x (lowered_forms fs) b) (λ x. read_to x out) (λ y. rest_at (others y.0) y.1) (λ x. refl)

  pub then_step_of_text : OneThenOfText first others
  unfolding one_then one_at all_at
  then_step_of_text (top none e) = refl
  then_step_of_text (top (more f fs) e) = sym (bind_assoc (first (lowered_form f)) (λ x. read_to x (top fs e)) (λ y. all_at (others y.0) y.1))
  then_step_of_text (inner none b out) = refl
  then_step_of_text (inner (more f fs) b out) =
      through (first (lowered_form f)) (inner fs b out) (λ x. others x (lowered_forms fs) b) (λ x. fails Expected b) (λ y. all_at (others y.0) y.1) (λ x. refl)

pub with_step : {A : Type 0} (w : List ℕ) (read : Forms → Place → Result A Fault) → KeywordGroupIsRead w read
unfolding group_with begun
with_step w read h =
    group_step (one_then (keyword w) (λ u. read)) h
    ∙ bind_cong (opened h) (λ k. rest_at (one_then (keyword w) (λ u. read)) k) (λ k. (one_at (keyword w) k >>= λ y. Ok y.1) >>= λ j. rest_at read j)
    (λ k. then_step (keyword w) (λ u. read) k ∙ sym (bind_assoc (one_at (keyword w) k) (λ y. Ok y.1) (λ j. rest_at read j)))
    ∙ sym (bind_assoc (opened h) (λ k. one_at (keyword w) k >>= λ y. Ok y.1) (λ j. rest_at read j))

-- ---- what is made of what is read

-- a value of the rest of a group
rest_value : {A B : Type 0} (r : Result A Fault) (g : A → B) (h : Ahead) → ((r >>= λ x. Ok (g x)) >>= λ x. read_to x h) ≡ ((r >>= λ x. read_to x h) >>= λ y. read_to (g y.0) y.1)
rest_value (Ok x) g h = refl
rest_value (Err e) g h = refl

-- and where no group is open
rest_missing : {A B : Type 0} (r : Result A Fault) (g : A → B) (b : Place)
    → ((r >>= λ x. Ok (g x)) >>= λ x. fails {A = B × Ahead} Expected b) ≡ ((r >>= λ x. fails {A = A × Ahead} Expected b) >>= λ y. read_to (g y.0) y.1)
rest_missing (Ok x) g b = refl
rest_missing (Err e) g b = refl

pub giving_step : {A B : Type 0} (make : A → B) (read : Forms → Place → Result A Fault) → GivingIsRead make read
unfolding giving rest_at
giving_step make read (top fs e) = rest_missing (read (lowered_forms fs) e) make e
giving_step make read (inner fs b out) = rest_value (read (lowered_forms fs) b) make out

-- ---- the end

pub last_step : {A : Type 0} (x : A) → LastIsRead x
unfolding last giving
last_step x h = giving_step (λ u. x) ends h

text_value : {A : Type 0} (r : Result (Unit {0}) Fault) (x : A) (b : Place) → ((r >>= λ u. Ok x) >>= λ y. fails {A = A} Expected b) ≡ ((r >>= λ u. fails {A = Unit {0}} Expected b) >>= λ u. Ok x)
text_value (Ok u) x b = refl
text_value (Err e) x b = refl

pub last_step_of_text : {A : Type 0} (x : A) → LastOfText x
unfolding last all_at
last_step_of_text x (top fs e) = refl
last_step_of_text x (inner fs b out) = text_value (ends (lowered_forms fs) b) x b

pub optional_step : {A : Type 0} (x : A) (read : Forms → Place → Result A Fault) → OptionalIsRead x read
unfolding optional rest_at has_form
optional_step x read (top none e) = refl
optional_step x read (top (more f fs) e) = refl
optional_step x read (inner none b out) = refl
optional_step x read (inner (more f fs) b out) = refl

-- ---- lists

module _ {S : Type 0} (one : S → Form → Result S Fault) where
  pub each_step : EachIsRead one
  unfolding each one_at rest_at has_form
  each_step s (top none e) = refl
  each_step s (top (more f fs) e) =
      through (one s (lowered_form f)) (top fs e) (λ t. each one t (lowered_forms fs) e) (λ x. fails Expected e) (λ y. rest_at (each one y.0) y.1) (λ x. refl)
  each_step s (inner none b out) = refl
  each_step s (inner (more f fs) b out) =
      through (one s (lowered_form f)) (inner fs b out) (λ t. each one t (lowered_forms fs) b) (λ x. read_to x out) (λ y. rest_at (each one y.0) y.1) (λ x. refl)

  pub each_step_of_text : EachOfText one
  unfolding each one_at all_at has_form
  each_step_of_text s (top none e) = refl
  each_step_of_text s (top (more f fs) e) = sym (bind_assoc (one s (lowered_form f)) (λ x. read_to x (top fs e)) (λ y. all_at (each one y.0) y.1))
  each_step_of_text s (inner none b out) = refl
  each_step_of_text s (inner (more f fs) b out) =
      through (one s (lowered_form f)) (inner fs b out) (λ t. each one t (lowered_forms fs) b) (λ x. fails Expected b) (λ y. all_at (each one y.0) y.1) (λ x. refl)

pub adding_step : {A : Type 0} (one : List A → Form → Result A Fault) → AddingIsRead one
unfolding adding one_at
adding_step one seen (top none e) = refl
adding_step one seen (top (more f fs) e) = rest_value (one seen (lowered_form f)) (λ x. seen ++ x ∷ []) (top fs e)
adding_step one seen (inner none b out) = refl
adding_step one seen (inner (more f fs) b out) = rest_value (one seen (lowered_form f)) (λ x. seen ++ x ∷ []) (inner fs b out)

-- elements behind those seen
one_behind : {A : Type 0} (r : Result A Fault) (others : Result (List A) Fault) (go : List A → Result (List A) Fault) (seen : List A)
    → ((x : A) → (others >>= λ xs. Ok ((seen ++ x ∷ []) ++ xs)) ≡ go (seen ++ x ∷ []))
    → ((r >>= λ x. others >>= λ xs. Ok (x ∷ xs)) >>= λ xs. Ok (seen ++ xs)) ≡ ((r >>= λ x. Ok (seen ++ x ∷ [])) >>= go)
one_behind {A} (Ok x) others go seen same =
    bind_assoc others (λ xs. Ok (x ∷ xs)) (λ xs. Ok (seen ++ xs))
    ∙ bind_cong others (λ xs. Ok (seen ++ x ∷ xs)) (λ xs. Ok ((seen ++ x ∷ []) ++ xs)) (λ (xs : List A). ap Ok (sym (append_assoc seen (x ∷ []) xs)))
    ∙ same x
one_behind (Err e) others go seen same = refl

many_behind : {A : Type 0} (read : Form → Result A Fault) (seen : List A) (fs : Forms) (b : Place) → (many read fs b >>= λ xs. Ok (seen ++ xs)) ≡ each (adding (λ _. read)) seen fs b
unfolding many each adding
many_behind read seen none b = ap Ok (append-nil seen)
many_behind read seen (more f fs) b =
    one_behind (read f) (many read fs b) (λ t. each (adding (λ _. read)) t fs b) seen (λ x. many_behind read (seen ++ x ∷ []) fs b)

all_kept : {A : Type 0} (r : Result (List A) Fault) → (r >>= λ xs. Ok ([] ++ xs)) ≡ r
all_kept (Ok xs) = refl
all_kept (Err e) = refl

many_is : {A : Type 0} (read : Form → Result A Fault) (fs : Forms) (b : Place) → many read fs b ≡ each (adding (λ _. read)) [] fs b
many_is read fs b = sym (all_kept (many read fs b)) ∙ many_behind read [] fs b

pub many_step : {A : Type 0} (read : Form → Result A Fault) → ManyIsRead read
unfolding rest_at
many_step {A} read (top fs e) = ap (λ (r : Result (List A) Fault). r >>= λ x. fails Expected e) (many_is read (lowered_forms fs) e)
many_step {A} read (inner fs b out) = ap (λ (r : Result (List A) Fault). r >>= λ x. read_to x out) (many_is read (lowered_forms fs) b)

pub ruleset reading_steps = (
  word_step,
  word_or_group_step,
  checking_step,
  refused_if_step,
  located_step,
  group_step,
  with_step,
  then_step,
  then_step_of_text,
  giving_step,
  last_step,
  last_step_of_text,
  optional_step,
  each_step,
  each_step_of_text,
  adding_step,
  many_step,
)
