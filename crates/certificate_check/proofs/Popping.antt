-- States from which the atoms of a row are taken again, its last one first.
use Rattle.std.proofs.Common.{◌≡◌, inl, inr, ℕ, zero, suc, ◌+◌, ◌*◌, ◌<◌, Bool, true, false, ◌&&◌, ◌||◌, not, List, [], ◌∷◌, ◌++◌, Option, Some, length, take, get_or, refl, sym, ap, subst, ◌∙◌, arith}
use Rattle.std.specs.Prelude.{Contains, IsTrue, nat_eq}
use Rattle.std.specs.List.{slice_get}
use Rattle.std.specs.Ordering.{nat_cmp}
use Rattle.std.proofs.lemmas.Bool.{cases_Bool, lt-ltb, eqb-true}
use Rattle.std.proofs.lemmas.List.Folds.{list_any-append}
use Rattle.std.proofs.lemmas.Map.Views.{Contains-from_any}
use Rattle.plain_list.specs.Texts.{rises}
use Rattle.plain_list.proofs.Members.{Contains-cons_cases, Contains-nil}
use Rattle.certificate.specs.Rows.{Row}
use Rattle.ground_model.specs.Packed.{has_bit, packed}
use Rattle.ground_model.specs.Choices.{is_member}
use Rattle.ground_model.proofs.Packed.{length-packed, has_bit-packed, same_packed}
use Rattle.ground_step.specs.Atoms.{state_of}
use Rattle.ground_step.specs.Edits.{without_atom}
use Rattle.certificate_check.specs.Claims.{number_at, numbers_of, listed}
use Rattle.certificate_check.specs.Packing.{NumbersDiffer, AtomsRise}
use Rattle.certificate_check.proofs.Distinct.{number_from}
use Rattle.certificate_check.proofs.Rising.{Above, Rising, rising}
use Rattle.certificate_check.proofs.Stating.{numbers_more}

-- a row among those whose atoms rise
pub rise_at : (rows : List Row) (k : ℕ) (r : Row) → AtomsRise rows → slice_get rows k ≡ Some r → IsTrue (rises nat_cmp r.atoms)
rise_at [] k r rise at = absurd cc
rise_at (s ∷ rows) zero r rise at = let same : s ≡ r = cc at in subst (λ (x : Row). IsTrue (rises nat_cmp x.atoms)) same rise.0
rise_at (s ∷ rows) (suc k) r rise at = rise_at rows k r rise.1 at

-- ---- what stands before an atom

above_at : (x : ℕ) (ys : List ℕ) → Above x ys → (i : ℕ) → i < length ys → x < get_or ys i 0
above_at x [] above i within = absurd (omega arith)
above_at x (y ∷ ys) above zero within = above.0
above_at x (y ∷ ys) above (suc i) within = above_at x ys above.1 i (omega arith)

earlier_less : (xs : List ℕ) → Rising xs → (i : ℕ) → i < length xs → (z : ℕ) → Contains (take i xs) z → z < get_or xs i 0
earlier_less [] rise i within z inside = absurd (omega arith)
earlier_less (x ∷ xs) rise zero within z inside = absurd (Contains-nil z inside)
earlier_less (x ∷ xs) rise (suc i) within z inside = elim (Contains-cons_cases x (take i xs) z inside) [
  | inl here ↦ subst (λ n. n < get_or xs i 0) here (above_at x xs rise.0 i (omega arith))
  | inr later ↦ earlier_less xs rise.1 i (omega arith) z later
]

-- ---- an atom that is taken from a state

member_less : (e m : Bool) → (e ≡ true → m ≡ false) → (not e && (m || (e || false))) ≡ m
member_less true m off = sym (off refl)
member_less false true off = refl
member_less false false off = refl

atom_less : (atoms : List ℕ) (a n : ℕ) → is_member atoms a ≡ false → without_atom (state_of (atoms ++ a ∷ []) n) a ≡ state_of atoms n
atom_less atoms a n off =
    let all = state_of (atoms ++ a ∷ []) n in
    ap (λ m. packed (λ q. not (nat_eq q a) && has_bit all q) m) (length-packed (is_member (atoms ++ a ∷ [])) n)
    ∙ same_packed (λ q. not (nat_eq q a) && has_bit all q) (is_member atoms) n
    (λ q within.
    ap (λ b. not (nat_eq q a) && b)
    (has_bit-packed (is_member (atoms ++ a ∷ [])) n q
    ∙ ap (λ b. b && is_member (atoms ++ a ∷ []) q) (lt-ltb q (64 * n) within)
    ∙ list_any-append (nat_eq q) atoms (a ∷ []))
    ∙ member_less (nat_eq q a) (is_member atoms q) (λ e. subst (λ z. is_member atoms z ≡ false) (sym (eqb-true q a e)) off))

module _ (numbers : List (Option ℕ)) (differ : NumbersDiffer numbers) (atoms : List ℕ) (rise : IsTrue (rises nat_cmp atoms)) (i : ℕ)
    (within : i < length atoms) (q : ℕ) (some : number_at numbers (get_or atoms i 0) ≡ Some q) where
  not_before : is_member (numbers_of numbers (take i atoms)) q ≡ false
  not_before = elim (cases_Bool (is_member (numbers_of numbers (take i atoms)) q)) [
    | inl on ↦
        let from = number_from numbers (take i atoms) q (Contains-from_any (λ x y same. eqb-true x y same) q (numbers_of numbers (take i atoms)) on) in
        let same : from.0 ≡ get_or atoms i 0 = differ from.0 (get_or atoms i 0) q from.2 some in
        let less : from.0 < get_or atoms i 0 = earlier_less atoms (rising atoms rise) i within from.0 from.1 in
        absurd (omega (arith, same, less))
    | inr off ↦ off
  ]

  pub state_popped : (n : ℕ) → without_atom (state_of (numbers_of numbers (take (i + 1) atoms)) n) q
      ≡ state_of (numbers_of numbers (take i atoms)) n
  state_popped n =
      ap (λ xs. without_atom (state_of xs n) q)
      (numbers_more numbers atoms i within ∙ ap (λ o. numbers_of numbers (take i atoms) ++ listed o) some)
      ∙ atom_less (numbers_of numbers (take i atoms)) q n not_before
