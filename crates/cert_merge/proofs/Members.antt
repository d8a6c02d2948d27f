-- Members of lists, where each has a property.
use Rattle.std.proofs.Common.{◌≡◌, ◌≢◌, ◌⊎◌, inl, inr, ℕ, suc, ◌≤◌, List, [], ◌∷◌, length, refl, sym, ap, subst, ◌∙◌, arith}
use Rattle.std.specs.Prelude.{Contains, AllPairs}
use Rattle.std.specs.List.{AllByRecursion}
use Rattle.certificate.specs.Numbering.{Among}
use Rattle.plain_list.proofs.Members.{Contains-first, Contains-later, Contains-cons_cases, Contains-nil}
use Rattle.plain_list.proofs.Related.{AllPairs-head, AllPairs-tail}

module _ {X : Type 0} (P : X → Type 0) where
  pub all_member : (xs : List X) (x : X) → AllByRecursion P xs → Contains xs x → P x
  all_member [] x all inside = absurd (Contains-nil x inside)
  all_member (y ∷ xs) x all inside = elim (Contains-cons_cases y xs x inside) [
    | inl here ↦ subst P here all.0
    | inr later ↦ all_member xs x all.1 later
  ]

  pub members_all : (xs : List X) → ((x : X) → Contains xs x → P x) → AllByRecursion P xs
  members_all [] each = tt
  members_all (x ∷ xs) each = (each x (Contains-first x xs), members_all xs (λ y inside. each y (Contains-later x xs y inside)))

pub among_member : (texts : List (List ℕ)) (text : List ℕ) → Contains texts text → Among texts text
among_member [] text inside = absurd (Contains-nil text inside)
among_member (first ∷ more) text inside = elim (Contains-cons_cases first more text inside) [
  | inl here ↦ inl here
  | inr later ↦ inr (among_member more text later)
]

pub member_among : (texts : List (List ℕ)) (text : List ℕ) → Among texts text → Contains texts text
member_among [] text among = absurd among
member_among (first ∷ more) text (inl here) = subst (Contains (first ∷ more)) here (Contains-first first more)
member_among (first ∷ more) text (inr later) = Contains-later first more text (member_among more text later)

-- ---- lists of different items

module _ {X : Type 0} where
  -- a list without one of its members
  take_out : (few : List X) (x : X) → Contains few x
      → (rest : List X) × (length few ≡ suc (length rest)) × ((y : X) → Contains few y → (x ≡ y) ⊎ Contains rest y)
  take_out [] x inside = absurd (Contains-nil x inside)
  take_out (z ∷ zs) x inside = elim (Contains-cons_cases z zs x inside) [
    | inl same ↦ (zs, refl, λ y h. elim (Contains-cons_cases z zs y h) [ inl e ↦ inl (sym same ∙ e) | inr i ↦ inr i ])
    | inr later ↦ let r = take_out zs x later in (
      z ∷ r.0,
      ap suc r.1,
      λ y h. elim (Contains-cons_cases z zs y h) [
        | inl e ↦ inr (subst (Contains (z ∷ r.0)) e (Contains-first z r.0))
        | inr i ↦ elim (r.2 y i) [ inl e ↦ inl e | inr j ↦ inr (Contains-later z r.0 y j) ]
      ],
    )
  ]

  -- different items that all stand in a list are no more than it has
  pub different_within : (xs few : List X) → AllPairs (λ x y. x ≢ y) xs → ((x : X) → Contains xs x → Contains few x) → length xs ≤ length few
  different_within [] few d within = omega arith
  different_within (x ∷ xs) few d within =
      let r = take_out few x (within x (Contains-first x xs)) in
      let rest : length xs ≤ length r.0
      = different_within xs r.0 (AllPairs-tail (λ (a b : X). a ≢ b) x xs d)
      (λ y h. elim (r.2 y (within y (Contains-later x xs y h))) [
        | inl e ↦ absurd (AllPairs-head (λ (a b : X). a ≢ b) x xs d y h e)
        | inr i ↦ i
      ]) in
      omega (arith, r.1)

-- of a list whose members differ by their keys, two members with one key are one
pub one_of_key : {X K : Type 0} (key : X → K) (xs : List X) → AllPairs (λ x y. key x ≢ key y) xs
    → (a b : X) → Contains xs a → Contains xs b → key a ≡ key b → a ≡ b
one_of_key key [] pairs a b here there same = absurd (Contains-nil a here)
one_of_key {X} {K} key (x ∷ xs) pairs a b here there same = elim (Contains-cons_cases x xs a here) [
  | inl first ↦ elim (Contains-cons_cases x xs b there) [
    | inl second ↦ sym first ∙ second
    | inr later ↦ absurd (AllPairs-head (λ (x y : X). key x ≢ key y) x xs pairs b later (ap key first ∙ same))
  ]
  | inr earlier ↦ elim (Contains-cons_cases x xs b there) [
    | inl second ↦ absurd (AllPairs-head (λ (x y : X). key x ≢ key y) x xs pairs a earlier (ap key second ∙ sym same))
    | inr later ↦ one_of_key key xs (AllPairs-tail (λ (x y : X). key x ≢ key y) x xs pairs) a b earlier later same
  ]
]
