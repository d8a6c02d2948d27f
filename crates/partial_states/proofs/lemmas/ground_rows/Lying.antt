-- The states that lie in a partial state.
use Rattle.std.proofs.Common.{◌≡◌, ℕ, Bool, true, false, cond, not, ◌&&◌, List, [], ◌∷◌, Option, None, Some, refl, sym, ap, subst, inl, inr, ◌∙◌}
use Rattle.std.specs.Prelude.{All, IsTrue, nat_eq}
use Rattle.std.specs.List.{list_all}
use Rattle.std.proofs.lemmas.Bool.{eqb-true, and_parts, or_cases}
use Rattle.std.proofs.lemmas.List.Elements.{All-head, All-tail}
use Rattle.ground_model.specs.Packed.{State, has_bit, is_inside}
use Rattle.ground_model.specs.Choices.{is_member}
use Rattle.partial_states.specs.Known.{Admits, AdmitsEach}
use Rattle.partial_states.specs.ground_rows.GroundRows.{PartialState, known_at, lies_in, Entails}
use Rattle.partial_states.specs.ground_rows.Laws as laws

all_member : (p : ℕ → Bool) (atoms : List ℕ) (q : ℕ) → list_all p atoms ≡ true → is_member atoms q ≡ true → p q ≡ true
all_member p [] q each inside = absurd cc
all_member p (a ∷ atoms) q each inside =
    let parts = and_parts (p a) (list_all p atoms) each in
    elim (or_cases (nat_eq q a) (is_member atoms q) inside) [
      | inl here ↦ ap p (eqb-true q a here) ∙ parts.0
      | inr there ↦ all_member p atoms q parts.1 there
    ]

not_true : (b : Bool) → not b ≡ true → b ≡ false
not_true true e = sym e
not_true false e = refl

admits_literal : (in_trues in_falses b : Bool) → (in_trues ≡ true → b ≡ true) → (in_falses ≡ true → b ≡ false)
    → Admits (cond in_trues (Some true) (cond in_falses (Some false) None)) b
admits_literal true in_falses b on off = on refl
admits_literal false true b on off = off refl
admits_literal false false b on off = tt

module _ (n : ℕ) (s : State) (t : PartialState) (lies : lies_in n s t ≡ true) where
  lies_parts : (list_all (has_bit s) t.trues ≡ true) × (list_all (λ q. not (has_bit s q)) t.falses ≡ true)
  lies_parts =
      and_parts (list_all (has_bit s) t.trues) (list_all (λ q. not (has_bit s q)) t.falses)
      (and_parts (is_inside n s) (list_all (has_bit s) t.trues && list_all (λ q. not (has_bit s q)) t.falses) lies).1

  pub lies_inside : IsTrue (is_inside n s)
  lies_inside =
      (and_parts (is_inside n s) (list_all (has_bit s) t.trues && list_all (λ q. not (has_bit s q)) t.falses) lies).0

  pub lies_admitted : AdmitsEach (known_at t) (has_bit s)
  lies_admitted q =
      admits_literal (is_member t.trues q) (is_member t.falses q) (has_bit s q)
      (λ inside. all_member (has_bit s) t.trues q lies_parts.0 inside)
      (λ inside. not_true (has_bit s q) (all_member (λ z. not (has_bit s z)) t.falses q lies_parts.1 inside))

pub lying_is_admitted : laws.LyingIsAdmitted
lying_is_admitted n s t lies = lies_admitted n s t lies

-- all literals that are known hold
all_known : (bit p : ℕ → Bool) (known : ℕ → Option Bool) (b : Bool) → AdmitsEach known bit → ((q : ℕ) → bit q ≡ b → p q ≡ true)
    → (atoms : List ℕ) → All (λ q. known q ≡ Some b) atoms → list_all p atoms ≡ true
all_known bit p known b admitted holds [] each = refl
all_known bit p known b admitted holds (a ∷ atoms) each =
    let here : p a ≡ true
    = holds a (subst (λ x. Admits x (bit a)) (All-head (λ q. known q ≡ Some b) a atoms each) (admitted a)) in
    ap (λ z. z && list_all p atoms) here
    ∙ all_known bit p known b admitted holds atoms (All-tail (λ q. known q ≡ Some b) a atoms each)

pub entailed_lies : (n : ℕ) (s : State) (t : PartialState) (known : ℕ → Option Bool) → IsTrue (is_inside n s) → AdmitsEach known (has_bit s)
    → Entails known t → lies_in n s t ≡ true
entailed_lies n s t known inside admitted within =
    let trues : list_all (has_bit s) t.trues ≡ true
    = all_known (has_bit s) (has_bit s) known true admitted (λ q e. e) t.trues within.trues in
    let falses : list_all (λ q. not (has_bit s q)) t.falses ≡ true
    = all_known (has_bit s) (λ q. not (has_bit s q)) known false admitted (λ q e. ap not e) t.falses within.falses in
    ap (λ z. z && (list_all (has_bit s) t.trues && list_all (λ q. not (has_bit s q)) t.falses)) inside
    ∙ ap (λ z. z && list_all (λ q. not (has_bit s q)) t.falses) trues ∙ falses
