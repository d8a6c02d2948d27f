-- Typed lists of variables, read a variable, or a `-` and types, at a time.
--     variables_step         what is read behind some variables, the first of which have their types
--     variables_is           that nothing stands before a list
use Rattle.std.proofs.Common.{◌≡◌, ℕ, List, [], ◌++◌, length, Bool, true, false, ◌==◌, cond, Result, Ok, refl, sym, ap, ◌∙◌, ◌-◌}
use Rattle.std.specs.Prelude.{replicate}
use Rattle.plain_list.specs.Results.{◌>>=◌}
use Rattle.plain_list.proofs.Results.{bind_assoc}
use Rattle.ppddl_model.specs.declared.refusal.TextCode.TheVariants.{Expected}
use Rattle.ppddl_model.specs.declared.tree.Param.{Param}
use Rattle.ppddl_forms.specs.names.Declarations.{Declared}
use Rattle.ppddl_cursor.specs.declared.place.Place.{Place}
use Rattle.ppddl_cursor.specs.Forms.{Form, Forms, lone, group, none, more}
use Rattle.ppddl_cursor.specs.Ahead.{Ahead, top, inner, after, has_form, is_word, place_of}
use Rattle.ppddl_cursor.specs.Reading.{Fault, fails, read_to, one_at, rest_at, ends}
use Rattle.ppddl_cursor.specs.Sequences.{checking, adding, keyword}
use Rattle.ppddl_cursor.proofs.Steps.{checking_step}
use Rattle.ppddl_forms.specs.declared.symbols.TheConstants.{DASH}
use Rattle.ppddl_forms.specs.Sequences.{each_to}
use Rattle.ppddl_forms.specs.Variables.{Listed, listed, listed_by, all_listed, with_types, with_names, at_dash, types_of, types_at, other_variable, variables, variables_behind}
use Rattle.ppddl_forms.proofs.Steps.{or_word_step, each_to_step}

-- a form that is missing
pub one_missing : {A : Type 0} (read : Form → Result A Fault) (h : Ahead) → has_form h ≡ false → one_at read h ≡ fails Expected (place_of h)
unfolding one_at has_form place_of
one_missing read (top none e) is = refl
one_missing read (top (more f fs) e) is = absurd cc
one_missing read (inner none b out) is = refl
one_missing read (inner (more f fs) b out) is = absurd cc

-- a word that is next is read
pub keyword_stands : (w : List ℕ) (h : Ahead) → is_word w h ≡ true → one_at (keyword w) h ≡ read_to tt (after h)
unfolding keyword one_at is_word after
keyword_stands w (top none e) is = absurd cc
keyword_stands w (top (more (lone v a) fs) e) is = rw is refl
keyword_stands w (top (more (group a gs b) fs) e) is = absurd cc
keyword_stands w (inner none b out) is = absurd cc
keyword_stands w (inner (more (lone v a) fs) b out) is = rw is refl
keyword_stands w (inner (more (group a gs c) fs) b out) is = absurd cc

-- a value that is checked, and the way on
checked_on : {A B C : Type 0} (test : A → B) (read : Form → Result A Fault) (h : Ahead) (on : B × Ahead → Result C Fault)
    → (one_at (checking (λ x. Ok (test x)) read) h >>= on) ≡ (one_at read h >>= λ y. on (test y.0, y.1))
checked_on {A} {B} {C} test read h on =
    ap (λ (r : Result (B × Ahead) Fault). r >>= on) (checking_step (λ x. Ok (test x)) read h) ∙ bind_assoc (one_at read h) (λ y. read_to (test y.0) y.1) on

module _ (d : Declared) where
  abbrev behind : Listed → Forms → Place → Result (List Param) Fault
  behind s = each_to (listed d) all_listed s

  -- types are read behind a `-`
  typing_step : (names : List (List ℕ)) (kinds : List (List (List ℕ))) (h : Ahead)
      → rest_at (behind (record { names = names; kinds = kinds; is_typing = true })) h
      ≡ (one_at (types_of d) h >>= λ y. rest_at (variables_behind d names (kinds ++ replicate (length names - length kinds) y.0)) y.1)
  unfolding listed listed_by
  typing_step names kinds h = each_to_step (listed d) all_listed (record { names = names; kinds = kinds; is_typing = true }) h ∙ by_form (has_form h) refl
    where
      by_form : (t : Bool) → has_form h ≡ t
          → cond t (one_at (listed d (record { names = names; kinds = kinds; is_typing = true })) h >>= λ y. rest_at (behind y.0) y.1)
          (all_listed (record { names = names; kinds = kinds; is_typing = true }) (place_of h) >>= λ x. rest_at ends h >>= λ y. read_to x y.1)
          ≡ (one_at (types_of d) h >>= λ y. rest_at (variables_behind d names (kinds ++ replicate (length names - length kinds) y.0)) y.1)
      by_form true is = checked_on (λ given. with_types (record { names = names; kinds = kinds; is_typing = true }) given) (types_of d) h (λ y. rest_at (behind y.0) y.1)
      by_form false is = rw (one_missing (types_of d) h is) refl

  abbrev at : List (List ℕ) → List (List (List ℕ)) → Listed
  at names kinds = record { names = names; kinds = kinds; is_typing = false }

  pub variables_step : (names : List (List ℕ)) (kinds : List (List (List ℕ))) (h : Ahead)
      → rest_at (variables_behind d names kinds) h
      ≡ cond (has_form h)
      (cond (is_word DASH.now h)
      (types_at d (length names) kinds h >>= λ y. rest_at (variables_behind d names y.0) y.1)
      (one_at (adding other_variable names) h >>= λ y. rest_at (variables_behind d y.0 kinds) y.1))
      (all_listed (record { names = names; kinds = kinds; is_typing = false }) (place_of h) >>= λ x. rest_at ends h >>= λ y. read_to x y.1)
  unfolding listed listed_by
  variables_step names kinds h =
      each_to_step (listed d) all_listed (at names kinds) h
      ∙ ap (λ (r : Result (List Param × Ahead) Fault). cond (has_form h) r (all_listed (at names kinds) (place_of h) >>= λ x. rest_at ends h >>= λ y. read_to x y.1))
      (ap (λ (r : Result (Listed × Ahead) Fault). r >>= λ y. rest_at (behind y.0) y.1) (or_word_step DASH.now (at_dash (at names kinds)) (checking (λ vs. Ok (with_names (at names kinds) vs)) (adding other_variable names)) h)
      ∙ by_word (is_word DASH.now h))
    where
      by_count : (t : Bool) → ((cond t (fails Expected (place_of h)) (Ok (record { names = names; kinds = kinds; is_typing = true })) >>= λ x. read_to x (after h)) >>= λ y. rest_at (behind y.0) y.1)
          ≡ (cond t (fails Expected (place_of h)) (one_at (types_of d) (after h) >>= λ y. read_to (kinds ++ replicate (length names - length kinds) y.0) y.1) >>= λ y. rest_at (variables_behind d names y.0) y.1)
      by_count true = refl
      by_count false =
          typing_step names kinds (after h)
          ∙ sym (bind_assoc (one_at (types_of d) (after h)) (λ y. read_to (kinds ++ replicate (length names - length kinds) y.0) y.1) (λ y. rest_at (variables_behind d names y.0) y.1))

      by_word : (t : Bool) → (cond t (at_dash (at names kinds) (place_of h) >>= λ x. read_to x (after h)) (one_at (checking (λ vs. Ok (with_names (at names kinds) vs)) (adding other_variable names)) h) >>= λ y. rest_at (behind y.0) y.1)
          ≡ cond t
          (types_at d (length names) kinds h >>= λ y. rest_at (variables_behind d names y.0) y.1)
          (one_at (adding other_variable names) h >>= λ y. rest_at (variables_behind d y.0 kinds) y.1)
      by_word true = by_count (length kinds == length names)
      by_word false = checked_on (λ vs. with_names (at names kinds) vs) (adding other_variable names) h (λ y. rest_at (behind y.0) y.1)

  pub variables_is : (h : Ahead) → rest_at (variables d) h ≡ rest_at (variables_behind d [] []) h
  unfolding variables
  variables_is h = refl
