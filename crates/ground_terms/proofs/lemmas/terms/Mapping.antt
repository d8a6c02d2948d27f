-- Entries of a map from names to numbers.
use Rattle.std.proofs.Common.{◌≡◌, ℕ, Bool, true, false, cond, if◌then◌else◌, List, [], ◌∷◌, map, nat_eq, Some, None, refl, sym, ap, ◌∙◌, true≢false, Vec}
use Rattle.std.specs.Map.{lookup}
use Rattle.std.specs.Cmp.Lexicographic.{pointwise, texts_ties}
use Rattle.ppddl_model.specs.State.{Name, same_name}
use Rattle.ppddl_model.proofs.States.{same_name-Decides}
use Rattle.indexmap.specs.IndexMap.{insert_entry}
use Rattle.ground_terms.specs.terms.Maps.{entry_of, number_in, with_number}

pub by_test : {P : Type 0} (b : Bool) → (b ≡ true → P) → (b ≡ false → P) → P
by_test true on off = on refl
by_test false on off = off refl

same_name-sym : (a b : Name) → same_name a b ≡ same_name b a
same_name-sym a b = by_test (same_name b a)
    (λ e. (same_name-Decides a b).1 (sym ((same_name-Decides b a).0 e)) ∙ sym e)
    (λ e. by_test (same_name a b)
    (λ t. absurd (true≢false (sym ((same_name-Decides b a).1 (sym ((same_name-Decides a b).0 t))) ∙ e)))
    (λ f. f ∙ sym e))

-- the number of a name once another, or the same, was given one
pub number-with_number : (entries : List (Name × ℕ)) (name : Name) (n : ℕ) (q : Name)
    → number_in (with_number entries name n) q ≡ cond (same_name name q) (Some n) (number_in entries q)
number-with_number [] name n q = ap (λ b. cond b (Some n) None) (same_name-sym q name)
number-with_number (e ∷ entries) name n q = by_test (same_name name e.0)
    (λ here.
    ap (λ b. number_in (if b then (e.0, n) ∷ entries else e ∷ with_number entries name n) q) here
    ∙ one_name (same_name q e.0) (same_name name q)
    (same_name-sym q e.0 ∙ ap (λ x. same_name x q) (sym ((same_name-Decides name e.0).0 here))))
    (λ there.
    ap (λ b. number_in (if b then (e.0, n) ∷ entries else e ∷ with_number entries name n) q) there
    ∙ ap (cond (same_name q e.0) (Some e.1)) (number-with_number entries name n q)
    ∙ two_names (same_name q e.0) (same_name name q)
    (λ first second. true≢false (sym ((same_name-Decides name e.0).1 ((same_name-Decides name q).0 second ∙ (same_name-Decides q e.0).0 first)) ∙ there)))
  where
    one_name : (b c : Bool) → b ≡ c → cond b (Some n) (number_in entries q) ≡ cond c (Some n) (cond b (Some e.1) (number_in entries q))
    one_name true c same = ap (λ t. cond t (Some n) (Some e.1)) same
    one_name false c same = ap (λ t. cond t (Some n) (number_in entries q)) same

    two_names : (b c : Bool) → (b ≡ true → c ≡ true → ⊥) → cond b (Some e.1) (cond c (Some n) (number_in entries q)) ≡ cond c (Some n) (cond b (Some e.1) (number_in entries q))
    two_names true true apart = absurd (apart refl refl)
    two_names true false apart = refl
    two_names false c apart = refl

module _ {A : Type 0} where
  abbrev pub is_vector_of : Name → Vec ℕ A → Bool
  is_vector_of name v = pointwise nat_eq name v.items

  pub number-entries : (es : List (Vec ℕ A × ℕ)) (name : Name) → lookup (is_vector_of name) es ≡ number_in (map entry_of es) name
  number-entries [] name = refl
  number-entries (e ∷ es) name = λ i. cond (texts_ties name e.0.items i) (Some e.1) (number-entries es name i)

  pub inserted : (es : List (Vec ℕ A × ℕ)) (key : Vec ℕ A) (n : ℕ)
      → map entry_of (insert_entry (λ v w. pointwise nat_eq v.items w.items) es key n) ≡ with_number (map entry_of es) key.items n
  inserted [] key n = refl
  inserted (e ∷ es) key n =
      one_entry (pointwise nat_eq key.items e.0.items)
      ∙ (λ i. if texts_ties key.items e.0.items i then (e.0.items, n) ∷ map entry_of es else (e.0.items, e.1) ∷ inserted es key n i)
    where
      one_entry : (b : Bool)
          → map entry_of (if b then (e.0, n) ∷ es else e ∷ insert_entry (λ v w. pointwise nat_eq v.items w.items) es key n)
          ≡ (if b then (e.0.items, n) ∷ map entry_of es else (e.0.items, e.1) ∷ map entry_of (insert_entry (λ v w. pointwise nat_eq v.items w.items) es key n))
      one_entry true = refl
      one_entry false = refl
