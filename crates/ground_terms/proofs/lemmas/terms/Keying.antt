-- The keys of two atoms are equal exactly where the atoms are.
use Rattle.std.proofs.Common.{◌≡◌, ℕ, suc, Bool, true, false, cond, List, [], ◌∷◌, ◌++◌, length, refl, sym, ap, ◌∙◌, true≢false, arith}
use Rattle.std.specs.Prelude.{get_or, drop, nat_le}
use Rattle.std.proofs.lemmas.Bool.{leb-false}
use Rattle.ppddl_model.specs.State.{Name, same_name, GroundAtom, same_atom}
use Rattle.ppddl_model.proofs.States.{same_name-Decides, same_atom-Decides}
use Rattle.ground_terms.specs.terms.Keys.{name_key, key_of}

abbrev head_of : List ℕ → ℕ
head_of xs = get_or xs 0 2

abbrev tail_of : List ℕ → List ℕ
tail_of xs = drop 1 xs

record Same (m n : Name) (r s : List ℕ) : Type 0 where
  pub names : m ≡ n
  pub rests : r ≡ s

record Apart (x y : ℕ) (u v : List ℕ) : Type 0 where
  pub bytes : x ≡ y
  pub rests : u ≡ v

-- the key of a byte by whether it stands behind a 1
abbrev key_by : Bool → ℕ → List ℕ
key_by small byte = cond small (1 ∷ byte ∷ []) (byte ∷ [])

bytes_apart : (a b : Bool) (x y : ℕ) → nat_le x 1 ≡ a → nat_le y 1 ≡ b → (u v r s : List ℕ)
    → (key_by a x ++ u) ++ r ≡ (key_by b y ++ v) ++ s → Apart x y (u ++ r) (v ++ s)
bytes_apart true true x y is_a is_b u v r s same = record { bytes = ap (λ l. head_of (tail_of l)) same; rests = ap (λ l. tail_of (tail_of l)) same }
bytes_apart false false x y is_a is_b u v r s same = record { bytes = ap head_of same; rests = ap tail_of same }
bytes_apart true false x y is_a is_b u v r s same =
    let first : ◌≡◌ {A = ℕ} 1 y = ap head_of same in absurd (omega (arith, leb-false y 1 is_b, first))
bytes_apart false true x y is_a is_b u v r s same =
    let first : ◌≡◌ {A = ℕ} x 1 = ap head_of same in absurd (omega (arith, leb-false x 1 is_a, first))

-- no byte's key begins as the end of a name does, and none is empty
end_apart : (b : Bool) (y : ℕ) → nat_le y 1 ≡ b → (u r s : List ℕ) → 0 ∷ r ≡ (key_by b y ++ u) ++ s → ⊥
end_apart true y is u r s same = let first : ◌≡◌ {A = ℕ} 0 1 = ap head_of same in omega (arith, first)
end_apart false y is u r s same = let first : ◌≡◌ {A = ℕ} 0 y = ap head_of same in omega (arith, leb-false y 1 is, first)

none_apart : (b : Bool) (y : ℕ) (u s : List ℕ) → [] ≡ (key_by b y ++ u) ++ s → ⊥
none_apart true y u s same = let long : ◌≡◌ {A = ℕ} 0 (suc (suc (length (u ++ s)))) = ap length same in omega (arith, long)
none_apart false y u s same = let long : ◌≡◌ {A = ℕ} 0 (suc (length (u ++ s))) = ap length same in omega (arith, long)

names_apart : (m n : Name) (r s : List ℕ) → name_key m ++ r ≡ name_key n ++ s → Same m n r s
names_apart [] [] r s same = record { names = refl; rests = ap tail_of same }
names_apart [] (y ∷ n) r s same = absurd (end_apart (nat_le y 1) y refl (name_key n) r s same)
names_apart (x ∷ m) [] r s same = absurd (end_apart (nat_le x 1) x refl (name_key m) s r (sym same))
names_apart (x ∷ m) (y ∷ n) r s same =
    let parts = bytes_apart (nat_le x 1) (nat_le y 1) x y refl refl (name_key m) (name_key n) r s same in
    let later = names_apart m n r s parts.rests in
    record { names = λ i. parts.bytes i ∷ later.names i; rests = later.rests }

keys_apart : (p q : GroundAtom) → key_of p ≡ key_of q → p ≡ q
keys_apart [] [] same = refl
keys_apart [] ([] ∷ q) same = let wrong : ◌≡◌ {A = ℕ} 2 0 = ap head_of same in absurd (cc)
keys_apart [] ((y ∷ n) ∷ q) same = absurd (none_apart (nat_le y 1) y (name_key n) (key_of q) same)
keys_apart ([] ∷ p) [] same = let wrong : ◌≡◌ {A = ℕ} 0 2 = ap head_of same in absurd (cc)
keys_apart ((x ∷ m) ∷ p) [] same = absurd (none_apart (nat_le x 1) x (name_key m) (key_of p) (sym same))
keys_apart (m ∷ p) (n ∷ q) same =
    let parts = names_apart m n (key_of p) (key_of q) same in
    λ i. parts.names i ∷ keys_apart p q parts.rests i

by_test : {P : Type 0} (b : Bool) → (b ≡ true → P) → (b ≡ false → P) → P
by_test true on off = on refl
by_test false on off = off refl

-- both tests say whether the atoms are equal
pub keys_tell : (p q : GroundAtom) → same_name (key_of p) (key_of q) ≡ same_atom q p
keys_tell p q = by_test (same_atom q p)
    (λ e. (same_name-Decides (key_of p) (key_of q)).1 (ap key_of (sym ((same_atom-Decides q p).0 e))) ∙ sym e)
    (λ e. by_test (same_name (key_of p) (key_of q))
    (λ t. absurd (true≢false (sym ((same_atom-Decides q p).1 (sym (keys_apart p q ((same_name-Decides (key_of p) (key_of q)).0 t)))) ∙ e)))
    (λ f. f ∙ sym e))
