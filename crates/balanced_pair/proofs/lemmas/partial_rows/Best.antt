-- The partial row of the least upper value among those that hold a state.
use Rattle.std.proofs.Common.{◌≡◌, ◌⊎◌, ℕ, ◌<◌, ◌≤◌, ltb, ◌&&◌, Bool, true, false, List, [], ◌∷◌, None, Some, refl, ap, inl, inr, ◌∙◌, arith}
use Rattle.std.specs.Prelude.{Contains}
use Rattle.std.proofs.lemmas.Bool.{cases_Bool, ltb-false}
use Rattle.plain_list.proofs.Members.{Contains-first, Contains-later, Contains-cons_cases, Contains-nil}
use Rattle.balanced_pair.specs.partial_rows.PartialRows.{PartialRow, value_of, best_row}

both : (a b : Bool) → (a && b) ≡ true → (a ≡ true) × (b ≡ true)
both true b e = (refl, e)
both false b e = absurd cc

not_both : (a b : Bool) → (a && b) ≡ false → a ≡ true → b ≡ false
not_both true b e on = e
not_both false b e on = absurd cc

ltb-true : (m n : ℕ) → ltb m n ≡ true → m < n
ltb-true m n e = grind arith

module _ {S A : Type 0} (quit : ℕ) where
  best_here : (row : PartialRow S A) (rows : List (PartialRow S A)) (s : S)
      → (row.holds s && ltb row.upper (value_of quit (best_row quit rows s))) ≡ true
      → best_row quit (row ∷ rows) s ≡ Some row
  best_here row rows s on = ap (λ b. elim b [ true ↦ Some row | false ↦ best_row quit rows s ]) on

  best_later : (row : PartialRow S A) (rows : List (PartialRow S A)) (s : S)
      → (row.holds s && ltb row.upper (value_of quit (best_row quit rows s))) ≡ false
      → best_row quit (row ∷ rows) s ≡ best_row quit rows s
  best_later row rows s off = ap (λ b. elim b [ true ↦ Some row | false ↦ best_row quit rows s ]) off

  -- no row is best, or one that holds the state
  pub best_cases : (rows : List (PartialRow S A)) (s : S)
      → (best_row quit rows s ≡ None)
      ⊎ ((row : PartialRow S A) × Contains rows row × (row.holds s ≡ true) × (best_row quit rows s ≡ Some row))
  best_cases [] s = inl refl
  best_cases (row ∷ rows) s =
      elim (cases_Bool (row.holds s && ltb row.upper (value_of quit (best_row quit rows s)))) [
        | inl on ↦
            inr (
              row,
              Contains-first row rows,
              (both (row.holds s) (ltb row.upper (value_of quit (best_row quit rows s))) on).0,
              best_here row rows s on,
            )
        | inr off ↦ elim (best_cases rows s) [
          | inl none ↦ inl (best_later row rows s off ∙ none)
          | inr found ↦ inr (found.0, Contains-later row rows found.0 found.1, found.2, best_later row rows s off ∙ found.3)
        ]
      ]

  -- it is the least
  pub best-le_quit : (rows : List (PartialRow S A)) (s : S) → value_of quit (best_row quit rows s) ≤ quit
  best-le_quit [] s = omega arith
  best-le_quit (row ∷ rows) s =
      elim (cases_Bool (row.holds s && ltb row.upper (value_of quit (best_row quit rows s)))) [
        | inl on ↦
            let less : row.upper < value_of quit (best_row quit rows s)
            = ltb-true row.upper (value_of quit (best_row quit rows s))
            (both (row.holds s) (ltb row.upper (value_of quit (best_row quit rows s))) on).1 in
            omega (arith, less, best-le_quit rows s, ap (value_of quit) (best_here row rows s on))
        | inr off ↦ omega (arith, best-le_quit rows s, ap (value_of quit) (best_later row rows s off))
      ]

  pub best-le_row : (rows : List (PartialRow S A)) (s : S) (row : PartialRow S A) → Contains rows row → row.holds s ≡ true
      → value_of quit (best_row quit rows s) ≤ row.upper
  best-le_row [] s row inside holds = absurd (Contains-nil row inside)
  best-le_row (first ∷ rows) s row inside holds =
      elim (cases_Bool (first.holds s && ltb first.upper (value_of quit (best_row quit rows s)))) [
        | inl on ↦
            let here : value_of quit (best_row quit (first ∷ rows) s) ≡ first.upper = ap (value_of quit) (best_here first rows s on) in
            let less : first.upper < value_of quit (best_row quit rows s)
            = ltb-true first.upper (value_of quit (best_row quit rows s))
            (both (first.holds s) (ltb first.upper (value_of quit (best_row quit rows s))) on).1 in
            elim (Contains-cons_cases first rows row inside) [
              | inl same ↦ omega (arith, here, ap (λ (r : PartialRow S A). r.upper) same)
              | inr later ↦ omega (arith, here, less, best-le_row rows s row later holds)
            ]
        | inr off ↦
            let there : value_of quit (best_row quit (first ∷ rows) s) ≡ value_of quit (best_row quit rows s)
            = ap (value_of quit) (best_later first rows s off) in
            elim (Contains-cons_cases first rows row inside) [
              | inl same ↦
                  let more : ltb first.upper (value_of quit (best_row quit rows s)) ≡ false
                  = not_both (first.holds s) (ltb first.upper (value_of quit (best_row quit rows s))) off
                  (ap (λ (r : PartialRow S A). r.holds s) same ∙ holds) in
                  omega (
                    arith,
                    there,
                    ltb-false first.upper (value_of quit (best_row quit rows s)) more,
                    ap (λ (r : PartialRow S A). r.upper) same,
                  )
              | inr later ↦ omega (arith, there, best-le_row rows s row later holds)
            ]
      ]
