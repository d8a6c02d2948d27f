-- What readings that gave a value read, part by part.
--     by_test                   a value by a test, with what the test says
--     name_derived, ..          a word
--     then_ok, last_ok, ..      the forms of a group
use Rattle.std.proofs.Common.{◌≡◌, ℕ, List, Bool, true, false, cond, ◌||◌, true≢false, nat_lt, Result, Ok, Err, refl, sym, ap, subst, ◌∙◌}
use Rattle.std.specs.Cmp.Lexicographic.{bytes_decides}
use Rattle.plain_list.proofs.Results.{bind_ok, ok_is, test_passes, test_fails}
use Rattle.exact_fraction.specs.declared.fraction.Fraction.{Fraction}
use Rattle.exact_fraction.specs.declared.refusal.NumberRefusal.{NumberRefusal}
use Rattle.exact_fraction.specs.Numbers.{amount_of, probability_of}
use Rattle.ppddl_lex.specs.Words.{is_name, is_variable}
use Rattle.ppddl_cursor.specs.declared.place.Place.{Place}
use Rattle.ppddl_cursor.specs.Ahead.{same}
use Rattle.ppddl_cursor.specs.Forms.{Form, Forms, lone, group, none, more}
use Rattle.ppddl_cursor.specs.Reading.{Fault, ends}
use Rattle.ppddl_cursor.specs.Sequences.{of_word, in_group, one_then, last, giving, keyword}
use Rattle.ppddl_forms.specs.declared.name.Name.{Name}
use Rattle.ppddl_forms.specs.Words.{name, variable, amount_by, amount, probability_by, probability}
use Rattle.ppddl_form_grammar.specs.forms.Words as by
use Rattle.ppddl_form_grammar.specs.forms.Words.{IsName, IsVariable, IsChance}

-- ---- tests

pub by_test : {P : Type 0} (b : Bool) → (b ≡ true → P) → (b ≡ false → P) → P
by_test true on off = on refl
by_test false on off = off refl

pub same_word : (v w : List ℕ) → same v w ≡ true → v ≡ w
same_word v w is = (bytes_decides v w).0 is

pub is_same : (w : List ℕ) → same w w ≡ true
is_same w = (bytes_decides w w).1 refl

pub on_true : {A : Type 0} (b : Bool) (x y z : A) → b ≡ true → cond b x y ≡ z → x ≡ z
on_true true x y z on is = is
on_true false x y z on is = absurd (true≢false (sym on))

pub on_false : {A : Type 0} (b : Bool) (x y z : A) → b ≡ false → cond b x y ≡ z → y ≡ z
on_false true x y z off is = absurd (true≢false off)
on_false false x y z off is = is

-- a value that is one of two, by a test
pub branch : {K : Type 0} (P : K → Type 0) (b : Bool) (x y : K) → (b ≡ true → P x) → (b ≡ false → P y) → P (cond b x y)
branch P true x y on off = on refl
branch P false x y on off = off refl

-- ---- groups

pub then_ok : {A B : Type 0} (first : Form → Result A Fault) (others : A → Forms → Place → Result B Fault) (b : Place) (Spell : Forms → B → Type 0)
    → ((f : Form) (x : A) → first f ≡ Ok x → (fs : Forms) (y : B) → others x fs b ≡ Ok y → Spell (more f fs) y)
    → (fs : Forms) (y : B) → one_then first others fs b ≡ Ok y → Spell fs y
unfolding one_then
then_ok first others b Spell each none y is = absurd cc
then_ok first others b Spell each (more f fs) y is = let s = bind_ok (first f) (λ x. others x fs b) y is in each f s.0 s.1 fs y s.2

pub ends_ok : (fs : Forms) (b : Place) (u : Unit {0}) → ends fs b ≡ Ok u → fs ≡ none
ends_ok none b u is = refl
ends_ok (more f fs) b u is = absurd cc

pub last_ok : {A : Type 0} (x y : A) (fs : Forms) (b : Place) → last x fs b ≡ Ok y → (fs ≡ none) × (x ≡ y)
unfolding last
last_ok x y none b is = (refl, cc)
last_ok x y (more f fs) b is = absurd cc

pub giving_ok : {A B : Type 0} (g : A → B) (read : Forms → Place → Result A Fault) (fs : Forms) (b : Place) (y : B) → giving g read fs b ≡ Ok y → (x : A) × (read fs b ≡ Ok x) × (g x ≡ y)
unfolding giving
giving_ok g read fs b y is = let s = bind_ok (read fs b) (λ x. Ok (g x)) y is in (s.0, s.1, cc s.2)

pub group_ok : {A : Type 0} (read : Forms → Place → Result A Fault) (Spells : Form → A → Type 0)
    → ((a b : Place) (fs : Forms) (x : A) → read fs b ≡ Ok x → Spells (group a fs b) x)
    → (f : Form) (x : A) → in_group read f ≡ Ok x → Spells f x
unfolding in_group
group_ok read Spells each (lone w a) x is = absurd cc
group_ok read Spells each (group a fs b) x is = each a b fs x is

pub keyword_ok : (w : List ℕ) (P : Form → Type 0) → ((c : Place) → P (lone w c)) → (f : Form) (u : Unit {0}) → keyword w f ≡ Ok u → P f
unfolding keyword
keyword_ok w P at (lone v c) u is = let t = test_passes (same v w) tt _ u is in subst (λ z. P (lone z c)) (sym (same_word v w t.0)) (at c)
keyword_ok w P at (group a fs b) u is = absurd cc

-- ---- words

pub name_derived : (f : Form) (n : Name) → name f ≡ Ok n → IsName f n.text
unfolding name of_word
name_derived (lone w a) n is =
    let s = test_passes (is_name w) (record { text = w; place = a }) _ n is in
    subst (λ (m : Name). IsName (lone w a) m.text) s.1 (by.name s.0)
name_derived (group a fs b) n is = absurd cc

-- with the word that it is
pub name_is : (P : Form → Name → Type 0) → ((w : List ℕ) (a : Place) → is_name w ≡ true → P (lone w a) (record { text = w; place = a }))
    → (f : Form) (n : Name) → name f ≡ Ok n → P f n
unfolding name of_word
name_is P at (lone w a) n is =
    let s = test_passes (is_name w) (record { text = w; place = a }) _ n is in
    subst (λ (m : Name). P (lone w a) m) s.1 (at w a s.0)
name_is P at (group a fs b) n is = absurd cc

pub variable_derived : (f : Form) (n : Name) → variable f ≡ Ok n → IsVariable f n.text
unfolding variable of_word
variable_derived (lone w a) n is =
    let s = test_passes (is_variable w) (record { text = w; place = a }) _ n is in
    subst (λ (m : Name). IsVariable (lone w a) m.text) s.1 (by.variable s.0)
variable_derived (group a fs b) n is = absurd cc

pub name_accepted : (f : Form) (w : List ℕ) → IsName f w → (n : Name) × (name f ≡ Ok n) × (n.text ≡ w)
unfolding name of_word
name_accepted f w (by.name {a = a} is) = (record { text = w; place = a }, rw is refl, refl)

pub variable_accepted : (f : Form) (w : List ℕ) → IsVariable f w → (n : Name) × (variable f ≡ Ok n) × (n.text ≡ w)
unfolding variable of_word
variable_accepted f w (by.variable {a = a} is) = (record { text = w; place = a }, rw is refl, refl)

probability_ok : (a : Place) (r : Result Fraction NumberRefusal) (p : Fraction) → probability_by a r ≡ Ok p → r ≡ Ok p
probability_ok a (Ok q) p is = cc
probability_ok a (Err e) p is = absurd cc

pub chance_derived : (f : Form) (p : Fraction) → probability f ≡ Ok p → IsChance f p
unfolding probability of_word
chance_derived (lone w a) p is = by.chance (probability_ok a (probability_of w) p is)
chance_derived (group a fs b) p is = absurd cc

pub chance_accepted : (f : Form) (p : Fraction) → IsChance f p → probability f ≡ Ok p
unfolding probability of_word
chance_accepted f p (by.chance is) = rw is refl

amount_ok : (a : Place) (r : Result ℕ NumberRefusal) (n : ℕ) → amount_by 0 a r ≡ Ok n → r ≡ Ok n
amount_ok a (Ok m) n is = let t = test_fails (nat_lt m 0) _ (Ok m) n is in ap (λ k. Ok k) (ok_is {E = Fault} m n t.1)
amount_ok a (Err e) n is = absurd cc

pub amount_derived : (most : ℕ) (w : List ℕ) (a : Place) (n : ℕ) → amount 0 most (lone w a) ≡ Ok n → amount_of w most ≡ Ok n
unfolding amount of_word
amount_derived most w a n is = amount_ok a (amount_of w most) n is

-- ---- words that are no names

-- the other of two values, where the test fails
pub pass : {K : Type 0} (b : Bool) (x y z : K) → b ≡ false → y ≡ z → cond b x y ≡ z
pass true x y z off is = absurd (true≢false off)
pass false x y z off is = is

pub either_fails : (a b : Bool) → a ≡ false → b ≡ false → (a || b) ≡ false
either_fails true b off other = absurd (true≢false off)
either_fails false b off other = other

pub no_keyword : (w v : List ℕ) → is_name w ≡ true → is_name v ≡ false → same w v ≡ false
no_keyword w v named reserved = by_test (same w v)
    (λ yes. absurd (true≢false (sym named ∙ ap is_name (same_word w v yes) ∙ reserved)))
    (λ no. no)
