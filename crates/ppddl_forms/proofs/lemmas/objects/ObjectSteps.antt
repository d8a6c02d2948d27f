-- Typed lists of objects, read a name, or a `-` and a type, at a time.
--     step_reads, step_refuses    a name, or a `-` and a type
--     end_refuses, end_closes     the end of the list
use Rattle.std.proofs.Common.{◌≡◌, ℕ, List, [], ◌++◌, length, Bool, true, false, ◌==◌, cond, Option, Some, None, Result, Ok, Err, refl, sym, ap, ◌∙◌}
use Rattle.std.specs.List.{find}
use Rattle.std.specs.Option.{option_map, option_or}
use Rattle.std.proofs.lemmas.List.Folds.{find-append}
use Rattle.plain_list.specs.Results.{◌>>=◌}
use Rattle.plain_list.proofs.Results.{bind_assoc, bind_cong}
use Rattle.ppddl_model.specs.declared.refusal.TextCode.TheVariants.{Expected}
use Rattle.ppddl_model.specs.declared.refusal.TextRefusal.{TextRefusal}
use Rattle.ppddl_model.specs.declared.refusal.TextRefusal.TheVariants as refusal
use Rattle.ppddl_model.specs.declared.tree.ObjectDecl.{ObjectDecl}
use Rattle.ppddl_model.specs.State.{same_name}
use Rattle.ppddl_forms.specs.names.Declarations.{Declared, kind_named}
use Rattle.ppddl_cursor.specs.declared.place.Place.{Place}
use Rattle.ppddl_cursor.specs.Forms.{Form, Forms}
use Rattle.ppddl_cursor.specs.Ahead.{Ahead, after, has_form, is_word, place_of}
use Rattle.ppddl_cursor.specs.Reading.{Fault, Fails, Gives, fails, read_to, one_at, rest_at, ends}
use Rattle.ppddl_cursor.specs.Sequences.{checking, adding}
use Rattle.ppddl_cursor.proofs.Steps.{checking_step}
use Rattle.ppddl_forms.specs.declared.name.Name.{Name}
use Rattle.ppddl_forms.specs.declared.symbols.TheConstants.{DASH, OBJECT}
use Rattle.ppddl_forms.specs.Sequences.{each_to}
use Rattle.ppddl_forms.specs.Words.{name}
use Rattle.ppddl_forms.proofs.Steps.{or_word_step, each_to_step}
use Rattle.ppddl_forms.proofs.Listing.{one_missing}
use Rattle.ppddl_forms.specs.objects.Objects.{object_type, all_typed, typed, Listed, listed_so, at_dash, listed, listed_by, all_listed, typing_at, listed_at, objects_behind}

-- a value that is checked and then made, and the way on
checked_on : {A T B C : Type 0} (test : A → Result T Fault) (make : T → B) (read : Form → Result A Fault) (h : Ahead) (on : B × Ahead → Result C Fault)
    → (one_at (checking (λ x. test x >>= λ t. Ok (make t)) read) h >>= on) ≡ (one_at read h >>= λ y. test y.0 >>= λ t. on (make t, y.1))
checked_on {A} {T} {B} {C} test make read h on =
    ap (λ (r : Result (B × Ahead) Fault). r >>= on) (checking_step (λ x. test x >>= λ t. Ok (make t)) read h)
    ∙ bind_assoc (one_at read h) (λ y. (test y.0 >>= λ t. Ok (make t)) >>= λ x. read_to x y.1) on
    ∙ bind_cong (one_at read h) (λ y. ((test y.0 >>= λ t. Ok (make t)) >>= λ x. read_to x y.1) >>= on) (λ y. test y.0 >>= λ t. on (make t, y.1))
    (λ y. made (test y.0) y.1)
  where
    made : (r : Result T Fault) (k : Ahead) → (((r >>= λ t. Ok (make t)) >>= λ x. read_to x k) >>= on) ≡ (r >>= λ t. on (make t, k))
    made (Ok t) k = refl
    made (Err e) k = refl

-- what refuses a reading refuses what goes on from it
refused_on : {A B : Type 0} (e : TextRefusal) (r : Result A Fault) (on : A → Result B Fault) → Fails e r → Fails e (r >>= on)
refused_on refusal.Memory r on refuses = tt
refused_on (refusal.At code file line) r on refuses = rw refuses refl

module _ (d : Declared) where
  abbrev behind : Listed → Forms → Place → Result (List ObjectDecl) Fault
  behind s = each_to (listed d) (all_listed d) s

  abbrev Rest : List ObjectDecl → List Name → Forms → Place → Result (List ObjectDecl) Fault
  Rest done waiting = behind (listed_so done waiting false)

  -- a type is read behind a `-`
  typing_step : (done : List ObjectDecl) (waiting : List Name) (h : Ahead)
      → rest_at (behind (listed_so done waiting true)) h ≡ (one_at object_type h >>= λ y. typed d done waiting y.0 >>= λ more. rest_at (Rest more []) y.1)
  unfolding listed listed_by
  typing_step done waiting h = each_to_step (listed d) (all_listed d) (listed_so done waiting true) h ∙ by_form (has_form h) refl
    where
      by_form : (t : Bool) → has_form h ≡ t
          → cond t (one_at (listed d (listed_so done waiting true)) h >>= λ y. rest_at (behind y.0) y.1)
          (all_listed d (listed_so done waiting true) (place_of h) >>= λ x. rest_at ends h >>= λ y. read_to x y.1)
          ≡ (one_at object_type h >>= λ y. typed d done waiting y.0 >>= λ more. rest_at (Rest more []) y.1)
      by_form true is = checked_on (typed d done waiting) (λ more. listed_so more [] false) object_type h (λ y. rest_at (behind y.0) y.1)
      by_form false is = rw (one_missing object_type h is) refl

  rest_step : (done : List ObjectDecl) (waiting : List Name) (h : Ahead)
      → rest_at (Rest done waiting) h
      ≡ cond (has_form h)
      (cond (is_word DASH.now h)
      (typing_at d done waiting h >>= λ y. rest_at (Rest y.0 []) y.1)
      (one_at (adding (λ seen. name) waiting) h >>= λ y. rest_at (Rest done y.0) y.1))
      (all_typed d OBJECT.now done waiting >>= λ x. rest_at ends h >>= λ y. read_to x y.1)
  unfolding listed listed_by
  rest_step done waiting h =
      each_to_step (listed d) (all_listed d) (listed_so done waiting false) h
      ∙ ap (λ (r : Result (List ObjectDecl × Ahead) Fault). cond (has_form h) r (all_typed d OBJECT.now done waiting >>= λ x. rest_at ends h >>= λ y. read_to x y.1))
      (ap (λ (r : Result (Listed × Ahead) Fault). r >>= λ y. rest_at (behind y.0) y.1)
      (or_word_step DASH.now (at_dash (listed_so done waiting false)) (checking (λ ns. Ok (listed_so done ns false)) (adding (λ seen. name) waiting)) h)
      ∙ by_word (is_word DASH.now h))
    where
      assoc : (y : Name × Ahead)
          → (typed d done waiting y.0 >>= λ more. rest_at (Rest more []) y.1) ≡ ((typed d done waiting y.0 >>= λ more. read_to more y.1) >>= λ z. rest_at (Rest z.0 []) z.1)
      assoc y = sym (bind_assoc (typed d done waiting y.0) (λ more. read_to more y.1) (λ z. rest_at (Rest z.0 []) z.1))

      by_count : (t : Bool) → ((cond t (fails Expected (place_of h)) (Ok (listed_so done waiting true)) >>= λ x. read_to x (after h)) >>= λ y. rest_at (behind y.0) y.1)
          ≡ (cond t (fails Expected (place_of h)) (one_at object_type (after h) >>= λ y. typed d done waiting y.0 >>= λ more. read_to more y.1) >>= λ y. rest_at (Rest y.0 []) y.1)
      by_count true = refl
      by_count false =
          typing_step done waiting (after h)
          ∙ bind_cong (one_at object_type (after h)) (λ y. typed d done waiting y.0 >>= λ more. rest_at (Rest more []) y.1)
          (λ y. (typed d done waiting y.0 >>= λ more. read_to more y.1) >>= λ z. rest_at (Rest z.0 []) z.1) assoc
          ∙ sym (bind_assoc (one_at object_type (after h)) (λ y. typed d done waiting y.0 >>= λ more. read_to more y.1) (λ z. rest_at (Rest z.0 []) z.1))

      by_word : (t : Bool) → (cond t (at_dash (listed_so done waiting false) (place_of h) >>= λ x. read_to x (after h)) (one_at (checking (λ ns. Ok (listed_so done ns false)) (adding (λ seen. name) waiting)) h) >>= λ y. rest_at (behind y.0) y.1)
          ≡ cond t
          (typing_at d done waiting h >>= λ y. rest_at (Rest y.0 []) y.1)
          (one_at (adding (λ seen. name) waiting) h >>= λ y. rest_at (Rest done y.0) y.1)
      by_word true = by_count (length waiting == 0)
      by_word false = checked_on (λ ns. Ok ns) (λ ns. listed_so done ns false) (adding (λ seen. name) waiting) h (λ y. rest_at (behind y.0) y.1)

  listed_step : (done : List ObjectDecl) (waiting : List Name) (h : Ahead)
      → rest_at (objects_behind d done waiting) h
      ≡ cond (has_form h)
      (listed_at d done waiting h >>= λ y. rest_at (objects_behind d y.0.0 y.0.1) y.1)
      (all_typed d OBJECT.now done waiting >>= λ x. rest_at ends h >>= λ y. read_to x y.1)
  unfolding objects_behind
  listed_step done waiting h =
      rest_step done waiting h
      ∙ ap (λ (r : Result (List ObjectDecl × Ahead) Fault). cond (has_form h) r (all_typed d OBJECT.now done waiting >>= λ x. rest_at ends h >>= λ y. read_to x y.1)) (by_word (is_word DASH.now h))
    where
      by_word : (t : Bool) → cond t (typing_at d done waiting h >>= λ y. rest_at (Rest y.0 []) y.1) (one_at (adding (λ seen. name) waiting) h >>= λ y. rest_at (Rest done y.0) y.1)
          ≡ (cond t (typing_at d done waiting h >>= λ y. read_to {A = List ObjectDecl × List Name} (y.0, []) y.1) (one_at (adding (λ seen. name) waiting) h >>= λ y. read_to {A = List ObjectDecl × List Name} (done, y.0) y.1) >>= λ y. rest_at (Rest y.0.0 y.0.1) y.1)
      by_word true = sym (bind_assoc (typing_at d done waiting h) (λ y. read_to {A = List ObjectDecl × List Name} (y.0, []) y.1) (λ y. rest_at (Rest y.0.0 y.0.1) y.1))
      by_word false = sym (bind_assoc (one_at (adding (λ seen. name) waiting) h) (λ y. read_to {A = List ObjectDecl × List Name} (done, y.0) y.1) (λ y. rest_at (Rest y.0.0 y.0.1) y.1))

  -- a step of the list: what it reads is read of the list, and what refuses it refuses the list
  pub step_reads : (done more : List ObjectDecl) (waiting others : List Name) (h next : Ahead)
      → has_form h ≡ true → listed_at d done waiting h ≡ read_to (more, others) next
      → rest_at (objects_behind d more others) next ≡ rest_at (objects_behind d done waiting) h
  step_reads done more waiting others h next stands reads = sym (listed_step done waiting h ∙ rw (stands, reads) refl)

  pub step_refuses : (e : TextRefusal) (done : List ObjectDecl) (waiting : List Name) (h : Ahead)
      → has_form h ≡ true → Fails e (listed_at d done waiting h) → Fails e (rest_at (objects_behind d done waiting) h)
  step_refuses e done waiting h stands refuses =
      rw (listed_step done waiting h, stands) (refused_on e (listed_at d done waiting h) (λ y. rest_at (objects_behind d y.0.0 y.0.1) y.1) refuses)

  -- the end of the list
  pub end_refuses : (e : TextRefusal) (done : List ObjectDecl) (waiting : List Name) (h : Ahead)
      → has_form h ≡ false → Fails e (all_typed d OBJECT.now done waiting) → Fails e (rest_at (objects_behind d done waiting) h)
  end_refuses e done waiting h ended refuses =
      rw (listed_step done waiting h, ended) (refused_on e (all_typed d OBJECT.now done waiting) (λ x. rest_at ends h >>= λ y. read_to x y.1) refuses)

  pub end_closes : (result : Result (Unit {0}) TextRefusal) (done all : List ObjectDecl) (waiting : List Name) (h next : Ahead)
      → has_form h ≡ false → all_typed d OBJECT.now done waiting ≡ Ok all → Gives (λ _. (tt, next)) result (rest_at ends h)
      → Gives (λ _. (all, next)) result (rest_at (objects_behind d done waiting) h)
  end_closes (Ok u) done all waiting h next ended typed closes = listed_step done waiting h ∙ rw (ended, typed, closes) refl
  end_closes (Err e) done all waiting h next ended typed closes =
      rw (listed_step done waiting h, ended, typed) (refused_on e (rest_at ends h) (λ y. read_to all y.1) closes)

-- the type of an object that is declared before a list or in it
abbrev kind_of : ObjectDecl → List ℕ
kind_of x = x.kind

first_kind : (x y : Option ObjectDecl) → option_map kind_of (option_or x y) ≡ option_or (option_map kind_of x) (option_map kind_of y)
first_kind None y = refl
first_kind (Some x) y = refl

pub kind_named-append : (before done : List ObjectDecl) (o : List ℕ) → kind_named (before ++ done) o ≡ option_or (kind_named before o) (kind_named done o)
kind_named-append before done o =
    let named : ObjectDecl → Bool = λ x. same_name x.name o in
    ap (option_map kind_of) (find-append named before done) ∙ first_kind (find named before) (find named done)
