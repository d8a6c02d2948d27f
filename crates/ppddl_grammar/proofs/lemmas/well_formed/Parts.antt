-- What readings that gave a value read, part by part.
--     Split                a first form, and what stands behind it
--     then-split, group-split, giving-split
--     lower-inside, lower-rest
--                          what stands in a form in lower case is
--     each_to-gives        forms by what is known before each
--     text-split           a whole text
use Rattle.std.proofs.Common.{◌≡◌, Result, Ok, Err, refl, subst}
use Rattle.plain_list.specs.Results.{◌>>=◌}
use Rattle.plain_list.proofs.Results.{bind_ok, ok_is}
use Rattle.ppddl_model.specs.declared.refusal.TextCode.TheVariants.{Expected}
use Rattle.ppddl_cursor.specs.declared.place.Place.{Place}
use Rattle.ppddl_cursor.specs.Ahead.{Ahead, top, inner}
use Rattle.ppddl_cursor.specs.Forms.{Form, Forms, lone, group, none, more, lowered_forms}
use Rattle.ppddl_cursor.specs.Reading.{Fault, fails, all_at}
use Rattle.ppddl_cursor.specs.Sequences.{in_group, one_then, giving}
use Rattle.ppddl_forms.specs.Sequences.{each_to}
use Rattle.ppddl_grammar.specs.fits.Names.{IsLower, AreLower}
use Rattle.ppddl_grammar.proofs.lemmas.fits.Walks.{AllForms}

pub record Split {A B : Type 0} (first : Form → Result A Fault) (others : A → Forms → Place → Result B Fault) (fs : Forms) (b : Place) (y : B) : Type 0 where
  pub form : Form
  pub rest : Forms
  pub value : A
  pub forms : fs ≡ more form rest
  pub one : first form ≡ Ok value
  pub behind : others value rest b ≡ Ok y

pub then-split : {A B : Type 0} (first : Form → Result A Fault) (others : A → Forms → Place → Result B Fault) (fs : Forms) (b : Place) (y : B)
    → one_then first others fs b ≡ Ok y → Split first others fs b y
unfolding one_then
then-split first others none b y is = absurd cc
then-split first others (more f fs) b y is =
    let r = bind_ok (first f) (λ x. others x fs b) y is in record { form = f; rest = fs; value = r.0; forms = refl; one = r.1; behind = r.2 }

pub record Inside {A : Type 0} (read : Forms → Place → Result A Fault) (f : Form) (x : A) : Type 0 where
  pub start : Place
  pub forms : Forms
  pub end : Place
  pub whole : f ≡ group start forms end
  pub gives : read forms end ≡ Ok x

pub group-split : {A : Type 0} (read : Forms → Place → Result A Fault) (f : Form) (x : A) → in_group read f ≡ Ok x → Inside read f x
unfolding in_group
group-split read (lone w a) x is = absurd cc
group-split read (group a fs b) x is = record { start = a; forms = fs; end = b; whole = refl; gives = is }

pub giving-split : {A B : Type 0} (g : A → B) (read : Forms → Place → Result A Fault) (fs : Forms) (b : Place) (y : B)
    → giving g read fs b ≡ Ok y → (x : A) × (read fs b ≡ Ok x) × (g x ≡ y)
unfolding giving
giving-split g read fs b y is = let r = bind_ok (read fs b) (λ x. Ok (g x)) y is in (r.0, r.1, ok_is {E = Fault} (g r.0) y r.2)

-- ---- what stands in a form in lower case is

pub lower-inside : (f : Form) (a b : Place) (fs : Forms) → f ≡ group a fs b → IsLower f → AreLower fs
lower-inside f a b fs whole lower = subst IsLower whole lower

pub lower-rest : (fs rest : Forms) (f : Form) → fs ≡ more f rest → AreLower fs → AreLower rest
lower-rest fs rest f forms lower = let parts : AreLower (more f rest) = subst AreLower forms lower in parts.1

-- ---- many forms

-- forms by what is known before each, and what is made of the last of it
module _ {S A : Type 0} (one : S → Form → Result S Fault) (finish : S → Place → Result A Fault) (P : S → Type 0) (Q : Form → Type 0) (R : A → Type 0)
    (step : (s : S) (f : Form) (t : S) → P s → Q f → one s f ≡ Ok t → P t)
    (ends : (s : S) (b : Place) (x : A) → P s → finish s b ≡ Ok x → R x) where
  pub each_to-gives : (s : S) (fs : Forms) (b : Place) (x : A) → P s → AllForms Q fs → each_to one finish s fs b ≡ Ok x → R x
  unfolding each_to
  each_to-gives s none b x holds forms is = ends s b x holds is
  each_to-gives s (more f fs) b x holds forms is =
      let r = bind_ok (one s f) (λ t. each_to one finish t fs b) x is in each_to-gives r.0 fs b x (step s f r.0 holds forms.0 r.1) forms.1 r.2

-- what is read of a whole text is read of forms in lower case
pub record OfText {A : Type 0} (read : Forms → Place → Result A Fault) (x : A) : Type 0 where
  pub forms : Forms
  pub end : Place
  pub gives : read (lowered_forms forms) end ≡ Ok x

pub text-split : {A : Type 0} (read : Forms → Place → Result A Fault) (h : Ahead) (x : A) → all_at read h ≡ Ok x → OfText read x
unfolding all_at
text-split read (top fs e) x is = record { forms = fs; end = e; gives = is }
text-split {A} read (inner fs b out) x is = absurd (none_behind (read (lowered_forms fs) b) b x is)
  where
    none_behind : (r : Result A Fault) (b : Place) (x : A) → (r >>= λ y. fails Expected b) ≡ Ok x → ⊥
    none_behind (Ok y) b x is = cc
    none_behind (Err e) b x is = cc
