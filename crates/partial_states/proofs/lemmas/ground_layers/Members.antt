-- The members of lists of atoms.
use Rattle.std.proofs.Common.{◌≡◌, ◌⊎◌, ℕ, Bool, true, false, ◌&&◌, ◌||◌, List, [], ◌∷◌, ◌++◌, map, refl, ap, subst, inl, inr, ◌∙◌}
use Rattle.std.specs.Prelude.{nat_eq}
use Rattle.std.specs.List.{list_any}
use Rattle.std.proofs.lemmas.Bool.{cases_Bool, eqb-true, eq-eqb, or_cases}
use Rattle.ground_model.specs.Choices.{is_member}

pub and_true : (b : Bool) → (b && true) ≡ b
and_true true = refl
and_true false = refl

or_right : (a b : Bool) → b ≡ true → (a || b) ≡ true
or_right true b on = refl
or_right false b on = on

or_left : (a b : Bool) → a ≡ true → (a || b) ≡ true
or_left true b on = refl
or_left false b on = absurd cc

member_first : (a : ℕ) (atoms : List ℕ) → is_member (a ∷ atoms) a ≡ true
member_first a atoms = or_left (nat_eq a a) (is_member atoms a) (eq-eqb a a refl)

member_later : (a : ℕ) (atoms : List ℕ) (q : ℕ) → is_member atoms q ≡ true → is_member (a ∷ atoms) q ≡ true
member_later a atoms q inside = or_right (nat_eq q a) (is_member atoms q) inside

pub member_append_left : (xs ys : List ℕ) (q : ℕ) → is_member xs q ≡ true → is_member (xs ++ ys) q ≡ true
member_append_left [] ys q inside = absurd cc
member_append_left (x ∷ xs) ys q inside = elim (or_cases (nat_eq q x) (is_member xs q) inside) [
  | inl here ↦ or_left (nat_eq q x) (is_member (xs ++ ys) q) here
  | inr there ↦ or_right (nat_eq q x) (is_member (xs ++ ys) q) (member_append_left xs ys q there)
]

pub member_append_right : (xs ys : List ℕ) (q : ℕ) → is_member ys q ≡ true → is_member (xs ++ ys) q ≡ true
member_append_right [] ys q inside = inside
member_append_right (x ∷ xs) ys q inside = or_right (nat_eq q x) (is_member (xs ++ ys) q) (member_append_right xs ys q inside)

pub member_append_cases : (xs ys : List ℕ) (q : ℕ) → is_member (xs ++ ys) q ≡ true → (is_member xs q ≡ true) ⊎ (is_member ys q ≡ true)
member_append_cases [] ys q inside = inr inside
member_append_cases (x ∷ xs) ys q inside = elim (or_cases (nat_eq q x) (is_member (xs ++ ys) q) inside) [
  | inl here ↦ inl (or_left (nat_eq q x) (is_member xs q) here)
  | inr there ↦ elim (member_append_cases xs ys q there) [
    | inl left ↦ inl (or_right (nat_eq q x) (is_member xs q) left)
    | inr right ↦ inr right
  ]
]

pub off_or_on : (b : Bool) {X : Type 0} → b ≡ true → b ≡ false → X
off_or_on b on off = absurd cc

some_touched : (atoms literals : List ℕ) (q : ℕ) → is_member atoms q ≡ true → is_member literals q ≡ true
    → list_any (is_member atoms) literals ≡ true
some_touched atoms [] q inside there = absurd cc
some_touched atoms (x ∷ literals) q inside there = elim (or_cases (nat_eq q x) (is_member literals q) there) [
  | inl here ↦
      or_left (is_member atoms x) (list_any (is_member atoms) literals)
      (subst (λ z. is_member atoms z ≡ true) (eqb-true q x here) inside)
  | inr later ↦ or_right (is_member atoms x) (list_any (is_member atoms) literals) (some_touched atoms literals q inside later)
]

-- of a list that has none of these atoms, none is a member
pub none_touched : (atoms literals : List ℕ) (q : ℕ) → list_any (is_member atoms) literals ≡ false → is_member atoms q ≡ true
    → is_member literals q ≡ false
none_touched atoms literals q none inside = elim (cases_Bool (is_member literals q)) [
  | inl there ↦ off_or_on (list_any (is_member atoms) literals) (some_touched atoms literals q inside there) none
  | inr apart ↦ apart
]

pub same_truths_of : (f h : ℕ → Bool) (atoms : List ℕ) → ((q : ℕ) → is_member atoms q ≡ true → f q ≡ h q) → map f atoms ≡ map h atoms
same_truths_of f h [] same = refl
same_truths_of f h (a ∷ atoms) same =
    ap (λ b. b ∷ map f atoms) (same a (member_first a atoms))
    ∙ ap (λ bs. h a ∷ bs) (same_truths_of f h atoms (λ q inside. same q (member_later a atoms q inside)))
