-- Reading step by step, beside the steps of `ppddl_cursor` and of forms.
--     item_steps    the laws by which the readers of lists of objects and of items are proved
use Rattle.std.proofs.Common.{◌≡◌, ℕ, List, cond, Option, Some, None, Result, refl, ap}
use Rattle.plain_list.specs.Results.{◌>>=◌}
use Rattle.ppddl_lex.specs.declared.token_kind.TokenKind.{TokenKind}
use Rattle.ppddl_lex.specs.declared.token_kind.TokenKind.TheVariants.{Left, Right, Word}
use Rattle.ppddl_lex.specs.Words.{lowered}
use Rattle.ppddl_model.specs.declared.refusal.TextCode.TheVariants.{Expected, Unsupported}
use Rattle.ppddl_cursor.specs.declared.place.Place.{Place}
use Rattle.ppddl_cursor.specs.Forms.{Form, Forms, lone, group, none, more, lowered_form, lowered_forms}
use Rattle.ppddl_cursor.specs.Ahead.{Ahead, top, inner, has_form, next_of, word_of, place_of}
use Rattle.ppddl_cursor.specs.Reading.{Fault, fails, read_to, one_at, rest_at, ends, word_at}
use Rattle.ppddl_cursor.specs.Sequences.{one_then}
use Rattle.ppddl_cursor.proofs.Results.{through}
use Rattle.ppddl_forms.proofs.Steps.{form_steps}
use Rattle.ppddl_forms.specs.items.Sequences.{unsupported, by_head, pairs, second_of}

-- one of two values, by whether a form is next
abbrev pub if_form : {A : Type 0} → Option TokenKind → A → A → A
if_form None x y = y
if_form (Some Left) x y = x
if_form (Some Right) x y = y
if_form (Some Word) x y = x

pub unsupported_step : {A : Type 0} (h : Ahead) → one_at (unsupported {A = A}) h ≡ if_form (next_of h) (fails Unsupported (place_of h)) (fails Expected (place_of h))
unfolding unsupported one_at next_of place_of
unsupported_step (top none e) = refl
unsupported_step (top (more (lone w a) fs) e) = refl
unsupported_step (top (more (group a gs b) fs) e) = refl
unsupported_step (inner none b out) = refl
unsupported_step (inner (more (lone w a) fs) b out) = refl
unsupported_step (inner (more (group a gs c) fs) b out) = refl

pub by_head_step : {K A : Type 0} (head : List ℕ → K) (read : K → Forms → Place → Result A Fault) (h : Ahead)
    → rest_at (by_head head read) h ≡ (word_at h >>= λ w. rest_at (read (head (lowered w))) h)
unfolding by_head rest_at next_of word_of place_of
by_head_step head read (top none e) = refl
by_head_step head read (top (more (lone w a) fs) e) = refl
by_head_step head read (top (more (group a gs b) fs) e) = refl
by_head_step head read (inner none b out) = refl
by_head_step head read (inner (more (lone w a) fs) b out) = refl
by_head_step head read (inner (more (group a gs c) fs) b out) = refl

module _ {S A : Type 0} (first : S → Form → Result A Fault) (second : S → A → Form → Result S Fault) where
  second_is : (s : S) (x : A) (fs : Forms) (b : Place) → second_of first second s x fs b ≡ one_then (second s x) (λ t. pairs first second t) fs b
  unfolding second_of one_then
  second_is s x none b = refl
  second_is s x (more f fs) b = refl

  pub pairs_step : (s : S) (h : Ahead)
      → rest_at (pairs first second s) h
      ≡ cond (has_form h) (one_at (first s) h >>= λ y. rest_at (one_then (second s y.0) (λ t. pairs first second t)) y.1) (rest_at ends h >>= λ y. read_to s y.1)
  unfolding pairs one_at rest_at has_form
  pairs_step s (top none e) = refl
  pairs_step s (top (more f fs) e) =
      through (first s (lowered_form f)) (top fs e) (λ x. second_of first second s x (lowered_forms fs) e) (λ x. fails Expected e)
      (λ y. rest_at (one_then (second s y.0) (λ t. pairs first second t)) y.1)
      (λ x. ap (λ (r : Result S Fault). r >>= λ t. fails Expected e) (second_is s x (lowered_forms fs) e))
  pairs_step s (inner none b out) = refl
  pairs_step s (inner (more f fs) b out) =
      through (first s (lowered_form f)) (inner fs b out) (λ x. second_of first second s x (lowered_forms fs) b) (λ x. read_to x out)
      (λ y. rest_at (one_then (second s y.0) (λ t. pairs first second t)) y.1)
      (λ x. ap (λ (r : Result S Fault). r >>= λ t. read_to t out) (second_is s x (lowered_forms fs) b))

pub ruleset item_steps = (
  form_steps,
  unsupported_step,
  by_head_step,
  pairs_step,
)
