-- The atoms that hold in a state, and the state that they give back.
use Rattle.std.proofs.Common.{◌≡◌, inl, inr, ℕ, ◌+◌, ◌*◌, ◌/◌, ◌<◌, ◌≤◌, true, ◌&&◌, List, length, sym, ap, subst, ◌∙◌, arith}
use Rattle.std.specs.Prelude.{Contains, AllPairs, IsTrue, nat_lt}
use Rattle.std.specs.List.{range_with_len}
use Rattle.std.specs.Cmp.{nat_eq_equiv}
use Rattle.std.proofs.lemmas.Bool.{cases_Bool, true≢false, lt-ltb, eqb-true, and_right}
use Rattle.std.proofs.lemmas.List.Kept.{AllPairs-filter}
use Rattle.std.proofs.lemmas.Map.Views.{list_any-from_Contains, Contains-from_any}
use Rattle.ground_model.specs.Packed.{State, has_bit, words_for, is_inside}
use Rattle.ground_model.specs.Choices.{is_member}
use Rattle.ground_model.proofs.Packed.{same_packed, inside_is_its_bits, bit_inside, length-inside}
use Rattle.ground_step.specs.Atoms.{state_of, true_atoms}
use Rattle.plan_report.proofs.lemmas.certificates.Lists.{Contains-filter, Contains-filter_cases, range_member, range_rises}

pub member_is : (atoms : List ℕ) (q : ℕ) → Contains atoms q → is_member atoms q ≡ true
member_is atoms q inside = list_any-from_Contains nat_eq_equiv q atoms inside

pub is_member_of : (atoms : List ℕ) (q : ℕ) → is_member atoms q ≡ true → Contains atoms q
is_member_of atoms q on = Contains-from_any (λ x y same. eqb-true x y same) q atoms on

pub atoms_rise : (s : State) → AllPairs (λ p q. p < q) (true_atoms s)
atoms_rise s = AllPairs-filter (λ p q. p < q) (has_bit s) (range_with_len 0 (64 * length s)) (range_rises 0 (64 * length s))

pub atom_holds : (s : State) (q : ℕ) → Contains (true_atoms s) q → has_bit s q ≡ true
atom_holds s q inside = (Contains-filter_cases (has_bit s) (range_with_len 0 (64 * length s)) q inside).1

pub holding_atom : (s : State) (q : ℕ) → has_bit s q ≡ true → q < 64 * length s → Contains (true_atoms s) q
holding_atom s q on within = Contains-filter (has_bit s) (range_with_len 0 (64 * length s)) q (range_member q (64 * length s) within) on

module _ (n : ℕ) (s : State) (inside : IsTrue (is_inside n s)) where
  pub atom_below : (q : ℕ) → Contains (true_atoms s) q → q < n
  atom_below q there = bit_inside n s inside q (atom_holds s q there)

  within_words : (q : ℕ) → q < n → q < 64 * length s
  within_words q below =
      let all : q < 64 * words_for n = omega (arith, below) in
      subst (λ k. q < 64 * k) (sym (length-inside n s inside)) all

  same_bit : (q : ℕ) → is_member (true_atoms s) q ≡ (nat_lt q n && has_bit s q)
  same_bit q = elim (cases_Bool (has_bit s q)) [
    | inl on ↦
        let below : q < n = bit_inside n s inside q on in
        member_is (true_atoms s) q (holding_atom s q on (within_words q below))
        ∙ sym (ap (λ b. b && has_bit s q) (lt-ltb q n below) ∙ on)
    | inr off ↦ elim (cases_Bool (is_member (true_atoms s) q)) [
      | inl there ↦ absurd (true≢false (sym (atom_holds s q (is_member_of (true_atoms s) q there)) ∙ off))
      | inr none ↦ none ∙ sym (and_right (nat_lt q n) (has_bit s q) off)
    ]
  ]

  pub state_back : state_of (true_atoms s) (words_for n) ≡ s
  state_back =
      same_packed (is_member (true_atoms s)) (λ q. nat_lt q n && has_bit s q) (words_for n) (λ q _. same_bit q)
      ∙ sym (inside_is_its_bits n s inside)

pub few_words : (atoms : ℕ) → atoms ≤ 1024 → words_for atoms ≤ 16
few_words atoms few = let words : (atoms + 63) / 64 ≤ 16 = omega arith in omega arith
