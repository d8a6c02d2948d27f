-- Forms one behind the other: what is read is what is spelled.
use Rattle.std.proofs.Common.{◌≡◌, Result, Ok, refl, ap, subst, ◌∙◌}
use Rattle.plain_list.specs.Results.{◌>>=◌}
use Rattle.plain_list.proofs.Results.{bind_ok, ok_is, test_passes}
use Rattle.ppddl_lex.specs.Words.{is_flag}
use Rattle.ppddl_cursor.specs.declared.place.Place.{Place}
use Rattle.ppddl_cursor.specs.Forms.{Form, Forms, lone, group, none, more}
use Rattle.ppddl_cursor.specs.Reading.{Fault}
use Rattle.ppddl_cursor.specs.Sequences.{of_word, each}
use Rattle.ppddl_forms.specs.Sequences.{each_to}
use Rattle.ppddl_forms.specs.Words.{flag}
use Rattle.ppddl_reader.specs.sections.Goals.{flags}
use Rattle.ppddl_grammar.specs.definitions.Folds as by
use Rattle.ppddl_grammar.specs.definitions.Folds.{Fold, AreFlags}

module _ {S : Type 0} (one : S → Form → Result S Fault) (R : S → Form → S → Type 0) where
  module _ (derived : (s : S) (f : Form) (t : S) → one s f ≡ Ok t → R s f t) where
    pub each-derived : (s : S) (fs : Forms) (b : Place) (t : S) → each one s fs b ≡ Ok t → Fold R s fs t
    unfolding each
    each-derived s none b t is = subst (Fold R s none) (ok_is {E = Fault} s t is) by.ended
    each-derived s (more f fs) b t is =
        let r = bind_ok (one s f) (λ u. each one u fs b) t is in by.one_more (derived s f r.0 r.1) (each-derived r.0 fs b t r.2)

    -- with what is made of the last
    pub each_to-derived : {A : Type 0} (finish : S → Place → Result A Fault) (s : S) (fs : Forms) (b : Place) (x : A) → each_to one finish s fs b ≡ Ok x
        → (t : S) × Fold R s fs t × (finish t b ≡ Ok x)
    unfolding each_to
    each_to-derived finish s none b x is = (s, by.ended, is)
    each_to-derived finish s (more f fs) b x is =
        let r = bind_ok (one s f) (λ u. each_to one finish u fs b) x is in
        let rest = each_to-derived finish r.0 fs b x r.2 in
        (rest.0, by.one_more (derived s f r.0 r.1) rest.1, rest.2)

  module _ (accepted : (s : S) (f : Form) (t : S) → R s f t → one s f ≡ Ok t) where
    pub each-accepted : (s : S) (fs : Forms) (t : S) → Fold R s fs t → (b : Place) → each one s fs b ≡ Ok t
    unfolding each
    each-accepted s fs t by.ended b = refl
    each-accepted s fs t (by.one_more {t = u} {f = f} {fs = gs} is rest) b = ap (λ r. r >>= λ v. each one v gs b) (accepted s f u is) ∙ each-accepted u gs t rest b

    pub each_to-accepted : {A : Type 0} (finish : S → Place → Result A Fault) (s : S) (fs : Forms) (t : S) → Fold R s fs t → (b : Place) → each_to one finish s fs b ≡ finish t b
    unfolding each_to
    each_to-accepted finish s fs t by.ended b = refl
    each_to-accepted finish s fs t (by.one_more {t = u} {f = f} {fs = gs} is rest) b =
        ap (λ r. r >>= λ v. each_to one finish v gs b) (accepted s f u is) ∙ each_to-accepted finish u gs t rest b

-- ---- flags

flag-derived : (f : Form) (fs : Forms) (u : Unit {0}) → flag f ≡ Ok u → AreFlags fs → AreFlags (more f fs)
unfolding flag of_word
flag-derived (lone w a) fs u is others = by.flag (test_passes (is_flag w) tt _ u is).0 others
flag-derived (group a gs b) fs u is others = absurd cc

pub flags-derived : (fs : Forms) (b : Place) (u : Unit {0}) → flags fs b ≡ Ok u → AreFlags fs
unfolding flags each
flags-derived none b u is = by.no_flag
flags-derived (more f fs) b u is = let r = bind_ok (flag f) (λ v. flags fs b) u is in flag-derived f fs r.0 r.1 (flags-derived fs b u r.2)

pub flags-accepted : (fs : Forms) → AreFlags fs → (b : Place) → flags fs b ≡ Ok tt
unfolding flags each flag of_word
flags-accepted fs by.no_flag b = refl
flags-accepted fs (by.flag {fs = gs} is rest) b = rw is (flags-accepted gs rest b)
