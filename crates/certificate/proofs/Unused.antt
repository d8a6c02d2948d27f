-- Tables whose entries are all used.
use Rattle.std.proofs.Common.{◌≡◌, ℕ, zero, suc, ◌+◌, ◌<◌, ◌≤◌, Bool, true, List, Option, Some, None, option_map, Ok, refl, ap, ◌∙◌, arith, inl, inr}
use Rattle.std.specs.Option.{option_or}
use Rattle.std.proofs.lemmas.Bool.{cases_Bool, cases_lt}
use Rattle.certificate.specs.Rows.{Row}
use Rattle.certificate.specs.Content.{uses_atom, uses_act}
use Rattle.certificate.specs.Reading.{first_unused, unused_line, or_unused}

some_is_none : {A : Type 0} (x : A) → Some x ≡ None → ⊥
some_is_none x e = absurd cc

pub all_used : (used : ℕ → Bool) (i n : ℕ) → first_unused used i n ≡ None → (k : ℕ) → i ≤ k → k < i + n → used k ≡ true
all_used used i zero e k low lt = absurd (omega (arith, low, lt))
all_used used i (suc n) e k low lt =
    elim (cases_Bool (used i)) [
      | inl here ↦ elim (cases_lt i k) [
        | inl later ↦ all_used used (i + 1) n (rw here at e) k (omega (arith, later)) (omega (arith, lt))
        | inr same ↦ ap used (omega (arith, low, same)) ∙ here
      ]
      | inr apart ↦ absurd (some_is_none i (rw apart at e))
    ]

pub none_unused : (used : ℕ → Bool) (i n : ℕ) → ((k : ℕ) → i ≤ k → k < i + n → used k ≡ true) → first_unused used i n ≡ None
none_unused used i zero all = refl
none_unused used i (suc n) all = rw (all i (omega arith) (omega arith), none_unused used (i + 1) n (λ k low lt. all k (omega (arith, low)) (omega (arith, lt)))) refl

-- ---- both tables

module _ (atoms acts : ℕ) (rows : List Row) where
  pub uses_are : (u : Unit {0}) → or_unused (unused_line atoms acts rows) ≡ Ok u → ((i : ℕ) → i < atoms → uses_atom rows i ≡ true) × ((i : ℕ) → i < acts → uses_act rows i ≡ true)
  uses_are u e = by (first_unused (uses_atom rows) 0 atoms) (first_unused (uses_act rows) 0 acts) refl refl e
    where
      by : (o p : Option ℕ) → first_unused (uses_atom rows) 0 atoms ≡ o → first_unused (uses_act rows) 0 acts ≡ p
          → or_unused (option_or (option_map (λ i. 5 + i) o) (option_map (λ i. 6 + atoms + i) p)) ≡ Ok u
          → ((i : ℕ) → i < atoms → uses_atom rows i ≡ true) × ((i : ℕ) → i < acts → uses_act rows i ≡ true)
      by (Some i) p is_o is_p e = absurd cc
      by None (Some j) is_o is_p e = absurd cc
      by None None is_o is_p e = (
        λ i lt. all_used (uses_atom rows) 0 atoms is_o i (omega arith) (omega (arith, lt)),
        λ i lt. all_used (uses_act rows) 0 acts is_p i (omega arith) (omega (arith, lt)),
      )

  pub uses_again : ((i : ℕ) → i < atoms → uses_atom rows i ≡ true) → ((i : ℕ) → i < acts → uses_act rows i ≡ true) → or_unused (unused_line atoms acts rows) ≡ Ok tt
  uses_again used_atoms used_acts =
      rw (
        none_unused (uses_atom rows) 0 atoms (λ k low lt. used_atoms k (omega (arith, lt))),
        none_unused (uses_act rows) 0 acts (λ k low lt. used_acts k (omega (arith, lt))),
      ) refl
