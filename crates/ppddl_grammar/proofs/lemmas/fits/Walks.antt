-- Readings of many forms keep what each of their steps keeps.
--     AllForms Q fs       Q holds of each form
--     each-keeps          forms by what is known before each
--     pairs-keep          two forms at a time
--     typed-gives         a typed list, up to what is made of it at its end
--     name-read           a name, in lower case where its form is
use Rattle.std.proofs.Common.{◌≡◌, Bool, true, false, cond, Result, Ok, subst}
use Rattle.plain_list.specs.Results.{◌>>=◌}
use Rattle.plain_list.proofs.Results.{bind_ok, ok_is, test_passes}
use Rattle.ppddl_lex.specs.Words.{lowered, is_name}
use Rattle.ppddl_cursor.specs.declared.place.Place.{Place}
use Rattle.ppddl_cursor.specs.Forms.{Form, Forms, lone, group, none, more, begin_of}
use Rattle.ppddl_cursor.specs.Reading.{Fault}
use Rattle.ppddl_cursor.specs.Sequences.{of_word, each}
use Rattle.ppddl_forms.specs.declared.name.Name.{Name}
use Rattle.ppddl_forms.specs.Words.{name}
use Rattle.ppddl_forms.specs.items.Sequences.{pairs, second_of}
use Rattle.ppddl_reader.specs.sections.Sequences.{is_dash, typed_list, typing_behind}
use Rattle.ppddl_grammar.specs.fits.Names.{IsLower}

abbrev pub AllForms : (Form → Type 0) → Forms → Type 0
AllForms Q none = Unit {0}
AllForms Q (more f fs) = Q f × AllForms Q fs

-- nothing is asked of a form
abbrev pub Any : Form → Type 0
Any f = Unit {0}

pub any-forms : (fs : Forms) → AllForms Any fs
any-forms none = tt
any-forms (more f fs) = (tt, any-forms fs)

-- a value that is one of two, by a test
pub either_way : {A R : Type 0} (b : Bool) (x y z : A) → (x ≡ z → R) → (y ≡ z → R) → cond b x y ≡ z → R
either_way true x y z on off is = on is
either_way false x y z on off is = off is

-- ---- forms by what is known before each

module _ {S : Type 0} (one : S → Form → Result S Fault) (P : S → Type 0) (Q : Form → Type 0)
    (step : (s : S) (f : Form) (t : S) → P s → Q f → one s f ≡ Ok t → P t) where
  pub each-keeps : (s : S) (fs : Forms) (b : Place) (t : S) → P s → AllForms Q fs → each one s fs b ≡ Ok t → P t
  unfolding each
  each-keeps s none b t holds forms is = subst P (ok_is {E = Fault} s t is) holds
  each-keeps s (more f fs) b t holds forms is =
      let r = bind_ok (one s f) (λ u. each one u fs b) t is in each-keeps r.0 fs b t (step s f r.0 holds forms.0 r.1) forms.1 r.2

-- ---- two forms at a time

module _ {S A : Type 0} (first : S → Form → Result A Fault) (second : S → A → Form → Result S Fault) (P : S → Type 0)
    (step : (s : S) (f : Form) (x : A) (g : Form) (t : S) → P s → first s f ≡ Ok x → second s x g ≡ Ok t → P t) where
  mutual
    unfolding pairs second_of

    pub pairs-keep : (s : S) (fs : Forms) (b : Place) (t : S) → P s → pairs first second s fs b ≡ Ok t → P t
    pairs-keep s none b t holds is = subst P (ok_is {E = Fault} s t is) holds
    pairs-keep s (more f fs) b t holds is =
        let r = bind_ok (first s f) (λ x. second_of first second s x fs b) t is in second-keeps s f r.0 fs b t holds r.1 r.2

    second-keeps : (s : S) (f : Form) (x : A) (fs : Forms) (b : Place) (t : S) → P s → first s f ≡ Ok x → second_of first second s x fs b ≡ Ok t → P t
    second-keeps s f x none b t holds is own = absurd cc
    second-keeps s f x (more g fs) b t holds is own =
        let r = bind_ok (second s x g) (λ u. pairs first second u fs b) t own in pairs-keep r.0 fs b t (step s f x g r.0 holds is r.1) r.2

-- ---- typed lists

module _ {S A : Type 0} (item : S → Form → Result S Fault) (dash : S → Place → Result (Unit {0}) Fault) (kind : S → Form → Result S Fault) (finish : S → Place → Result A Fault)
    (P : S → Type 0) (Q : Form → Type 0) (R : A → Type 0)
    (items : (s : S) (f : Form) (t : S) → P s → Q f → item s f ≡ Ok t → P t)
    (kinds : (s : S) (f : Form) (t : S) → P s → Q f → kind s f ≡ Ok t → P t)
    (finishes : (s : S) (b : Place) (x : A) → P s → finish s b ≡ Ok x → R x) where
  mutual
    unfolding typed_list typing_behind

    pub typed-gives : (s : S) (fs : Forms) (b : Place) (x : A) → P s → AllForms Q fs → typed_list item dash kind finish s fs b ≡ Ok x → R x
    typed-gives s none b x holds forms is = finishes s b x holds is
    typed-gives s (more f fs) b x holds forms is =
        either_way (is_dash f) (dash s (begin_of f) >>= λ u. typing_behind item dash kind finish s fs b) (item s f >>= λ t. typed_list item dash kind finish t fs b) (Ok x)
        (λ dashed. typing-gives s fs b x holds forms.1 (bind_ok (dash s (begin_of f)) (λ u. typing_behind item dash kind finish s fs b) x dashed).2)
        (λ other.
        let r = bind_ok (item s f) (λ t. typed_list item dash kind finish t fs b) x other in
        typed-gives r.0 fs b x (items s f r.0 holds forms.0 r.1) forms.1 r.2) is

    typing-gives : (s : S) (fs : Forms) (b : Place) (x : A) → P s → AllForms Q fs → typing_behind item dash kind finish s fs b ≡ Ok x → R x
    typing-gives s none b x holds forms is = absurd cc
    typing-gives s (more f fs) b x holds forms is =
        let r = bind_ok (kind s f) (λ t. typed_list item dash kind finish t fs b) x is in typed-gives r.0 fs b x (kinds s f r.0 holds forms.0 r.1) forms.1 r.2

-- ---- names

pub name-read : (f : Form) (n : Name) → name f ≡ Ok n → (is_name n.text ≡ true) × (IsLower f → lowered n.text ≡ n.text)
unfolding name of_word
name-read (lone w a) n is =
    let t = test_passes (is_name w) (record { text = w; place = a }) _ n is in
    (subst (λ m. is_name m.text ≡ true) t.1 t.0, λ lower. subst (λ m. lowered m.text ≡ m.text) t.1 lower)
name-read (group a fs b) n is = absurd cc
