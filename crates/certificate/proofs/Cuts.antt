-- Where a text is cut, by places.
use Rattle.std.proofs.Common.{◌≡◌, ℕ, zero, suc, ◌+◌, ◌-◌, ◌<◌, true, false, cond, ◌&&◌, eqb, List, [], ◌∷◌, ◌++◌, length, take, drop, Option, Some, None, option_map, refl, ap, sym, ◌∙◌, arith, inl, inr, MatchOption, nat_eq}
use Rattle.std.specs.Prelude.{length}
use Rattle.std.specs.Option.{option_copied}
use Rattle.std.specs.Borrow.{Bor}
use Rattle.std.specs.Cmp.Lexicographic.{pointwise}
use Rattle.std.specs.List.{list_any}
use Rattle.std.proofs.Math.Seq.{take-length}
use Rattle.std.proofs.lemmas.Bool.{eq-eqb, eqb-true, false_from_ne_true}
use Rattle.memchr.specs.Find.{Nowhere, Passes, IsFirstByte, is_byte}
use Rattle.std.proofs.lemmas.Bool.Decides.{eqb_tells}
use Rattle.std.proofs.lemmas.List.{length-drop}
use Rattle.certificate.specs.Decoding.{behind, cut}
use Rattle.certificate.proofs.Steps.{some_is, kept, mapped, or_parts}

behind_is : (front text : List ℕ) → behind front text ≡ cond (pointwise nat_eq (take (length front) text) front) (Some (drop (length front) text)) None
behind_is [] text = refl
behind_is (b ∷ front) [] = refl
behind_is (b ∷ front) (c ∷ text) =
    elim (eqb c b) as (λ v. cond v (behind front text) None ≡ cond (v && pointwise nat_eq (take (length front) text) front) (Some (drop (length front) text)) None) [
      | true ↦ behind_is front text
      | false ↦ refl
    ]

pub behind_found : (front text : List ℕ) (found : Option (Bor (List ℕ)))
    → MatchOption found (pointwise nat_eq (take (length front) text) front ≡ false)
    (λ rest. (pointwise nat_eq (take (length front) text) front ≡ true) × (rest.now ≡ drop (length front) text) × (length rest.now + length front ≡ length text))
    → option_copied found ≡ behind front text
behind_found front text None is = sym (rw (behind_is front text, is) refl)
behind_found front text (Some rest) is = rw (behind_is front text, is.0, is.1) refl

cut_first : (c : ℕ) (text : List ℕ) (i : ℕ) → i < length text → Nowhere (Passes (is_byte c) text) 0 i → Passes (is_byte c) text i → cut c text ≡ Some (take i text, drop (suc i) text)
cut_first c [] i lt before here = absurd (omega arith)
cut_first c (b ∷ text) zero lt before here = rw here refl
cut_first c (b ∷ text) (suc i) lt before here =
    let apart : eqb b c ≡ false = false_from_ne_true (eqb b c) (before 0 (omega arith) (omega arith)) in
    let rest : cut c text ≡ Some (take i text, drop (suc i) text) = cut_first c text i (omega arith) (λ k low lt. before (suc k) (omega arith) (omega arith)) here in
    rw (apart, rest) refl

cut_none : (c : ℕ) (text : List ℕ) → Nowhere (Passes (is_byte c) text) 0 (length text) → cut c text ≡ None
cut_none c [] apart = refl
cut_none c (b ∷ text) apart =
    let here : eqb b c ≡ false = false_from_ne_true (eqb b c) (apart 0 (omega arith) (omega arith)) in
    let rest : cut c text ≡ None = cut_none c text (λ k low lt. apart (suc k) (omega arith) (omega arith)) in
    rw (here, rest) refl

-- where the byte stands first, if it stands there
pub cut_at : (c : ℕ) (text : List ℕ) (place : Option ℕ) → IsFirstByte (is_byte c) text place → cut c text ≡ option_map (λ i. (take i text, drop (suc i) text)) place
cut_at c text None none = cut_none c text none
cut_at c text (Some i) first = cut_first c text i first.0.high first.0.before first.1

-- what a slice from n on holds
pub take_rest : (n : ℕ) (text : List ℕ) → take (length text - n) (drop n text) ≡ drop n text
take_rest n text = rw (← length-drop n text) (take-length (drop n text))

-- what stands behind a front
pub behind_is_rest : (front text rest : List ℕ) → behind front text ≡ Some rest → text ≡ front ++ rest
behind_is_rest [] text rest e = some_is text rest e
behind_is_rest (b ∷ front) [] rest e = absurd cc
behind_is_rest (b ∷ front) (c ∷ text) rest e =
    let p = kept (eqb c b) (behind front text) rest e in
    let head : c ≡ b = eqb-true c b p.0 in
    rw (head, behind_is_rest front text rest p.1) refl

-- a text that was cut is its parts with the byte between them
pub cut_is_parts : (c : ℕ) (text front rest : List ℕ) → cut c text ≡ Some (front, rest) → text ≡ front ++ c ∷ rest
cut_is_parts c [] front rest e = absurd cc
cut_is_parts c (b ∷ text) front rest e =
    let joined : List ℕ × List ℕ → List ℕ = λ p. p.0 ++ c ∷ p.1 in
    elim (eqb_tells b c) [
      | inl here ↦ (
          let at : Some ([], text) ≡ Some (front, rest) = rw here.0 at e in
          ap (λ (x : ℕ). x ∷ text) here.1 ∙ ap joined (some_is ([], text) (front, rest) at)
          )
      | inr apart ↦ (
          let later : option_map (λ (p : List ℕ × List ℕ). (b ∷ p.0, p.1)) (cut c text) ≡ Some (front, rest) = rw apart.0 at e in
          let p = mapped (λ (p : List ℕ × List ℕ). (b ∷ p.0, p.1)) (cut c text) (front, rest) later in
          ap (λ (x : List ℕ). b ∷ x) (cut_is_parts c text p.0.0 p.0.1 p.1) ∙ ap joined p.2
          )
    ]

-- a text without the byte, then the byte and more
pub cut_again : (c : ℕ) (front rest : List ℕ) → list_any (λ b. eqb b c) front ≡ false → cut c (front ++ c ∷ rest) ≡ Some (front, rest)
cut_again c [] rest lacks = rw (eq-eqb c c refl) refl
cut_again c (b ∷ front) rest lacks =
    let p = or_parts (eqb b c) (list_any (λ b. eqb b c) front) lacks in
    rw (p.0, cut_again c front rest p.1) refl
