-- A list of plain names is told by its text.
use Rattle.std.proofs.Common.{◌≡◌, ◌⊎◌, inl, inr, ℕ, ◌≤◌, Bool, true, not, ◌&&◌, nat_eq, List, [], ◌∷◌, ◌++◌, refl, sym, ap, ◌∙◌, arith}
use Rattle.std.specs.Prelude.{nat_le}
use Rattle.std.specs.List.{list_all, join_with_byte}
use Rattle.std.proofs.lemmas.Bool.{and_parts, not-true, eqb-false, leb-true}
use Rattle.std.proofs.lemmas.List.{append_assoc}
use Rattle.plain_list.specs.Texts.{list_text}
use Rattle.ppddl_model.specs.State.{Name}
use Rattle.ppddl_model.specs.WellFormed.{is_plain}

-- a byte of a plain name
abbrev is_plain_byte : ℕ → Bool
is_plain_byte b = nat_le 33 b && not (nat_eq b 40) && not (nat_eq b 41)

plain_bytes : (name : Name) → is_plain name ≡ true → list_all is_plain_byte name ≡ true
plain_bytes [] plain = absurd cc
plain_bytes (b ∷ name) plain = plain

plain_byte : (b : ℕ) → is_plain_byte b ≡ true → (33 ≤ b) × (b ≡ 41 → ⊥)
plain_byte b plain =
    let last = and_parts (nat_le 33 b && not (nat_eq b 40)) (not (nat_eq b 41)) plain in
    let first = and_parts (nat_le 33 b) (not (nat_eq b 40)) last.0 in
    (leb-true 33 b first.0, eqb-false b 41 (not-true (nat_eq b 41) last.1))

head_of : {X : Type 0} {x y : X} {xs ys : List X} → x ∷ xs ≡ y ∷ ys → x ≡ y
head_of e = cc

tail_of : {X : Type 0} {x y : X} {xs ys : List X} → x ∷ xs ≡ y ∷ ys → xs ≡ ys
tail_of e = cc

-- a blank or the closing parenthesis stands behind a name
record IsEnding (r : List ℕ) : Type 0 where
  pub first : ℕ
  pub rest : List ℕ
  pub is : r ≡ first ∷ rest
  pub ends : (first ≡ 32) ⊎ (first ≡ 41)

no_ending : (b : ℕ) (name r : List ℕ) → is_plain_byte b ≡ true → IsEnding r → r ≡ b ∷ name → ⊥
no_ending b name r plain ending e =
    let same : ending.first ≡ b = head_of (sym ending.is ∙ e) in
    elim ending.ends [
      | inl blank ↦ omega (arith, plain_byte b plain, same, blank)
      | inr close ↦ (plain_byte b plain).1 (sym same ∙ close)
    ]

same_first : (w v r r' : List ℕ) → list_all is_plain_byte w ≡ true → list_all is_plain_byte v ≡ true
    → IsEnding r → IsEnding r' → w ++ r ≡ v ++ r' → (w ≡ v) × (r ≡ r')
same_first [] [] r r' plain plain' ending ending' e = (refl, e)
same_first [] (b ∷ v) r r' plain plain' ending ending' e =
    absurd (no_ending b (v ++ r') r (and_parts (is_plain_byte b) (list_all is_plain_byte v) plain').0 ending e)
same_first (a ∷ w) [] r r' plain plain' ending ending' e =
    absurd (no_ending a (w ++ r) r' (and_parts (is_plain_byte a) (list_all is_plain_byte w) plain).0 ending' (sym e))
same_first (a ∷ w) (b ∷ v) r r' plain plain' ending ending' e =
    let first : a ≡ b = cc in
    let rest = same_first w v r r' (and_parts (is_plain_byte a) (list_all is_plain_byte w) plain).1
    (and_parts (is_plain_byte b) (list_all is_plain_byte v) plain').1 ending ending' cc in
    (ap (λ z. z ∷ w) first ∙ ap (λ z. b ∷ z) rest.0, rest.1)

-- the names behind the first, up to the closing parenthesis
behind : List Name → List ℕ
behind [] = 41 ∷ []
behind (m ∷ names) = 32 ∷ (join_with_byte 32 (m ∷ names) ++ 41 ∷ [])

behind_ends : (names : List Name) → IsEnding (behind names)
unfolding behind
behind_ends [] = record { first = 41; rest = []; is = refl; ends = inr refl }
behind_ends (m ∷ names) = record { first = 32; rest = join_with_byte 32 (m ∷ names) ++ 41 ∷ []; is = refl; ends = inl refl }

first_of : (n : Name) (names : List Name) → join_with_byte 32 (n ∷ names) ++ 41 ∷ [] ≡ n ++ behind names
unfolding behind
first_of n [] = refl
first_of n (m ∷ names) = append_assoc n (32 ∷ join_with_byte 32 (m ∷ names)) (41 ∷ [])

behind_nothing : behind [] ≡ 41 ∷ []
unfolding behind
behind_nothing = refl

behind_more : (m : Name) (names : List Name) → behind (m ∷ names) ≡ 32 ∷ (m ++ behind names)
unfolding behind
behind_more m names = ap (λ z. 32 ∷ z) (first_of m names)

nothing_is_other : (m : Name) (names : List Name) → behind [] ≡ behind (m ∷ names) → ⊥
nothing_is_other m names e =
    let same : 41 ∷ [] ≡ 32 ∷ (m ++ behind names) = sym behind_nothing ∙ e ∙ behind_more m names in
    let first : 41 ≡ 32 = head_of same in omega (arith, first)

-- a plain name is not empty
closes : (m : Name) (others : List Name) → list_all is_plain (m ∷ others) ≡ true → 41 ∷ [] ≡ m ++ behind others → ⊥
closes [] others plain e = absurd cc
closes (b ∷ m) others plain e =
    no_ending b (m ++ behind others) (41 ∷ [])
    (and_parts (is_plain_byte b) (list_all is_plain_byte m) (and_parts (is_plain (b ∷ m)) (list_all is_plain others) plain).0).0
    (record { first = 41; rest = []; is = refl; ends = inr refl }) e

module _ (n m : Name) (names others : List Name) (plain : list_all is_plain (n ∷ names) ≡ true) (plain' : list_all is_plain (m ∷ others) ≡ true)
    (e : n ++ behind names ≡ m ++ behind others) where
  both_parts : (n ≡ m) × (behind names ≡ behind others)
  both_parts =
      same_first n m (behind names) (behind others) (plain_bytes n (and_parts (is_plain n) (list_all is_plain names) plain).0)
      (plain_bytes m (and_parts (is_plain m) (list_all is_plain others) plain').0) (behind_ends names) (behind_ends others) e

same_behind : (names others : List Name) → list_all is_plain names ≡ true → list_all is_plain others ≡ true
    → behind names ≡ behind others → names ≡ others
same_behind [] [] plain plain' e = refl
same_behind [] (m ∷ others) plain plain' e = absurd (nothing_is_other m others e)
same_behind (n ∷ names) [] plain plain' e = absurd (nothing_is_other n names (sym e))
same_behind (n ∷ names) (m ∷ others) plain plain' e =
    let both = both_parts n m names others plain plain' (tail_of (sym (behind_more n names) ∙ e ∙ behind_more m others)) in
    ap (λ z. z ∷ names) both.0 ∙ ap (λ z. m ∷ z)
    (same_behind names others (and_parts (is_plain n) (list_all is_plain names) plain).1
    (and_parts (is_plain m) (list_all is_plain others) plain').1 both.1)

pub text_tells_names : (names others : List Name) → list_all is_plain names ≡ true → list_all is_plain others ≡ true
    → list_text names ≡ list_text others → names ≡ others
text_tells_names [] [] plain plain' e = refl
text_tells_names [] (m ∷ others) plain plain' e = absurd (closes m others plain' (tail_of e ∙ first_of m others))
text_tells_names (n ∷ names) [] plain plain' e = absurd (closes n names plain (tail_of (sym e) ∙ first_of n names))
text_tells_names (n ∷ names) (m ∷ others) plain plain' e =
    let both = both_parts n m names others plain plain' (sym (first_of n names) ∙ tail_of e ∙ first_of m others) in
    ap (λ z. z ∷ names) both.0 ∙ ap (λ z. m ∷ z)
    (same_behind names others (and_parts (is_plain n) (list_all is_plain names) plain).1
    (and_parts (is_plain m) (list_all is_plain others) plain').1 both.1)
