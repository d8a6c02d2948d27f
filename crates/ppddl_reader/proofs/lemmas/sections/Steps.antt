-- Reading step by step, beside the steps of `ppddl_cursor` and `ppddl_forms`.
--     section_steps    the laws by which the readers of sections are proved
use Rattle.std.proofs.Common.{◌≡◌, Bool, true, false, cond, Result, Ok, Err, refl, sym, ◌∙◌}
use Rattle.plain_list.specs.Results.{◌>>=◌}
use Rattle.plain_list.proofs.Results.{bind_assoc}
use Rattle.ppddl_lex.specs.Words.{lowered, is_same_word}
use Rattle.ppddl_model.specs.declared.refusal.TextCode.{TextCode}
use Rattle.ppddl_model.specs.declared.refusal.TextCode.TheVariants.{Expected}
use Rattle.ppddl_cursor.specs.declared.place.Place.{Place}
use Rattle.ppddl_cursor.specs.Forms.{Form, Forms, lone, group, none, more, lowered_form, lowered_forms}
use Rattle.ppddl_cursor.specs.Ahead.{Ahead, top, inner, after, has_form, is_word, place_of}
use Rattle.ppddl_cursor.specs.Reading.{Fault, fails, read_to, one_at, rest_at, ends}
use Rattle.ppddl_cursor.proofs.Results.{through}
use Rattle.ppddl_forms.specs.declared.symbols.TheConstants.{DASH}
use Rattle.ppddl_forms.proofs.lemmas.items.Steps.{item_steps}
use Rattle.ppddl_reader.specs.sections.Sequences.{typed_list, typing_behind, or_refused, whole_or}

-- what follows on a `-`
on_dash : {A B C : Type 0} (r : Result A Fault) (f : A → Result B Fault) (k : B → Result C Fault) (g : A → Result C Fault)
    → ((x : A) → (f x >>= k) ≡ g x) → ((r >>= f) >>= k) ≡ (r >>= g)
on_dash (Ok x) f k g same = same x
on_dash (Err e) f k g same = refl

module _ {S A : Type 0} (item : S → Form → Result S Fault) (dash : S → Place → Result (Unit {0}) Fault) (kind : S → Form → Result S Fault) (finish : S → Place → Result A Fault) where
  abbrev behind : S → Forms → Place → Result A Fault
  behind = typed_list item dash kind finish

  -- from behind a `-` on
  typing_step : (s : S) (h : Ahead) → rest_at (typing_behind item dash kind finish s) h ≡ (one_at (kind s) h >>= λ y. rest_at (behind y.0) y.1)
  unfolding typing_behind one_at rest_at
  typing_step s (top none e) = refl
  typing_step s (top (more f fs) e) =
      through (kind s (lowered_form f)) (top fs e) (λ t. behind t (lowered_forms fs) e) (λ x. fails Expected e) (λ y. rest_at (behind y.0) y.1) (λ x. refl)
  typing_step s (inner none b out) = refl
  typing_step s (inner (more f fs) b out) =
      through (kind s (lowered_form f)) (inner fs b out) (λ t. behind t (lowered_forms fs) b) (λ x. read_to x out) (λ y. rest_at (behind y.0) y.1) (λ x. refl)

  -- a `-` or an item, at the end of the text and of a group
  choice_of_text : (t : Bool) (s : S) (f : Form) (a e : Place) (fs : Forms)
      → (cond t (dash s a >>= λ u. typing_behind item dash kind finish s (lowered_forms fs) e) (item s f >>= λ t. behind t (lowered_forms fs) e) >>= λ x. fails {A = A × Ahead} Expected e)
      ≡ cond t ((dash s a >>= λ u. one_at (kind s) (top fs e)) >>= λ y. rest_at (behind y.0) y.1) ((item s f >>= λ x. read_to x (top fs e)) >>= λ y. rest_at (behind y.0) y.1)
  unfolding rest_at
  choice_of_text true s f a e fs =
      on_dash (dash s a) (λ u. typing_behind item dash kind finish s (lowered_forms fs) e) (λ x. fails {A = A × Ahead} Expected e) (λ u. one_at (kind s) (top fs e) >>= λ y. rest_at (behind y.0) y.1) (λ u. typing_step s (top fs e))
      ∙ sym (bind_assoc (dash s a) (λ u. one_at (kind s) (top fs e)) (λ y. rest_at (behind y.0) y.1))
  choice_of_text false s f a e fs =
      through (item s f) (top fs e) (λ t. behind t (lowered_forms fs) e) (λ x. fails Expected e) (λ y. rest_at (behind y.0) y.1) (λ x. refl)

  choice_of_group : (t : Bool) (s : S) (f : Form) (a b : Place) (fs : Forms) (out : Ahead)
      → (cond t (dash s a >>= λ u. typing_behind item dash kind finish s (lowered_forms fs) b) (item s f >>= λ t. behind t (lowered_forms fs) b) >>= λ x. read_to x out)
      ≡ cond t ((dash s a >>= λ u. one_at (kind s) (inner fs b out)) >>= λ y. rest_at (behind y.0) y.1) ((item s f >>= λ x. read_to x (inner fs b out)) >>= λ y. rest_at (behind y.0) y.1)
  unfolding rest_at
  choice_of_group true s f a b fs out =
      on_dash (dash s a) (λ u. typing_behind item dash kind finish s (lowered_forms fs) b) (λ x. read_to x out) (λ u. one_at (kind s) (inner fs b out) >>= λ y. rest_at (behind y.0) y.1) (λ u. typing_step s (inner fs b out))
      ∙ sym (bind_assoc (dash s a) (λ u. one_at (kind s) (inner fs b out)) (λ y. rest_at (behind y.0) y.1))
  choice_of_group false s f a b fs out =
      through (item s f) (inner fs b out) (λ t. behind t (lowered_forms fs) b) (λ x. read_to x out) (λ y. rest_at (behind y.0) y.1) (λ x. refl)

  pub typed_list_step : (s : S) (h : Ahead)
      → rest_at (behind s) h
      ≡ cond (has_form h)
      (cond (is_word DASH.now h)
      ((dash s (place_of h) >>= λ u. one_at (kind s) (after h)) >>= λ y. rest_at (behind y.0) y.1)
      (one_at (item s) h >>= λ y. rest_at (behind y.0) y.1))
      (finish s (place_of h) >>= λ x. rest_at ends h >>= λ y. read_to x y.1)
  unfolding typed_list one_at rest_at has_form is_word place_of after
  typed_list_step s (top none e) = refl
  typed_list_step s (top (more (lone v a) fs) e) = choice_of_text (is_same_word v DASH.now) s (lone (lowered v) a) a e fs
  typed_list_step s (top (more (group a gs b) fs) e) = choice_of_text false s (group a (lowered_forms gs) b) a e fs
  typed_list_step s (inner none b out) = refl
  typed_list_step s (inner (more (lone v a) fs) b out) = choice_of_group (is_same_word v DASH.now) s (lone (lowered v) a) a b fs out
  typed_list_step s (inner (more (group a gs c) fs) b out) = choice_of_group false s (group a (lowered_forms gs) c) a b fs out

or_refused_on : {A : Type 0} (code : TextCode) (a : Place) (r : Result A Fault) (h : Ahead)
    → (or_refused code a r >>= λ x. read_to x h) ≡ or_refused code a (r >>= λ x. read_to x h)
or_refused_on code a (Ok x) h = refl
or_refused_on code a (Err e) h = refl

pub whole_or_step : {A : Type 0} (code : TextCode) (read : Form → Result A Fault) (h : Ahead)
    → one_at (whole_or code read) h ≡ cond (has_form h) (or_refused code (place_of h) (one_at read h)) (fails Expected (place_of h))
unfolding whole_or one_at has_form place_of
whole_or_step code read (top none e) = refl
whole_or_step code read (top (more (lone w a) fs) e) = or_refused_on code a (read (lone (lowered w) a)) (top fs e)
whole_or_step code read (top (more (group a gs b) fs) e) = or_refused_on code a (read (group a (lowered_forms gs) b)) (top fs e)
whole_or_step code read (inner none b out) = refl
whole_or_step code read (inner (more (lone w a) fs) b out) = or_refused_on code a (read (lone (lowered w) a)) (inner fs b out)
whole_or_step code read (inner (more (group a gs c) fs) b out) = or_refused_on code a (read (group a (lowered_forms gs) c)) (inner fs b out)

pub ruleset section_steps = (
  item_steps,
  typed_list_step,
  whole_or_step,
)
