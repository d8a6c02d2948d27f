-- What the rows of a certificate say of a state, row by row; means over the starts are no greater than the values.
use Rattle.std.proofs.Common.{◌≡◌, ◌⊎◌, inl, inr, ℕ, ◌+◌, ◌*◌, ◌≤◌, Bool, true, false, cond, List, [], ◌∷◌, length, drop, Option, Some, None, refl, sym, ap, subst, ◌∙◌, arith}
use Rattle.std.specs.Prelude.{Contains}
use Rattle.std.specs.List.{slice_get}
use Rattle.std.proofs.Math.Nat.{mul-le-mul_right}
use Rattle.std.proofs.lemmas.Bool.{cases_Bool, cases_lt}
use Rattle.std.proofs.lemmas.List.{at_drop_all, drop_more}
use Rattle.std.proofs.lemmas.Option.{none-some, slice_get_within, get_or_from_slice_get}
use Rattle.plain_list.proofs.Members.{Contains-map_cases, Contains-first, Contains-later}
use Rattle.plain_list.proofs.lemmas.weighted.Totals.{total-map, total-times, total-weighted_le}
use Rattle.certificate.specs.declared.named.NamedRow.{NamedRow}
use Rattle.certificate.specs.Rows.{Row}
use Rattle.certificate.specs.Content.{Content, IsCertificate, IsRow, named_row, named_rows}
use Rattle.certificate_check.specs.Claims.{numbers_of, atom_numbers, knows, row_state, row_of, rows_of, low_in, high_in}
use Rattle.certificate_check.proofs.Distinct.{rows_known}
use Rattle.decision_process.specs.Process.{Start, at_starts}
use Rattle.decision_process.specs.Backup.{floor, ceiling}
use Rattle.decision_process.specs.Readings as readings
use Rattle.decision_process.specs.Readings.{row_at}
use Rattle.decision_process.proofs.Rounding.{floor-times_le, ceiling-le}
use Rattle.ground_model.specs.Packed.{State, same_state, words_for}
use Rattle.ground_model.specs.Ground.{Ground}
use Rattle.ground_model.specs.Invariant.{IsGroundProblem}
use Rattle.ground_model.specs.Steps.{ground_process, ground_starts, start_of}
use Rattle.ground_step.specs.Atoms.{state_of}
use Rattle.cert_merge.proofs.Members.{all_member}
use Rattle.cert_merge.proofs.Grounded.{ground_rows}
use Rattle.cert_merge.specs.Grounded.{ground_row}

abbrev pub Line : Type 0
Line = readings.Row State ℕ

module _ (g : Ground) (c : Content) (is : IsCertificate c) (known : (r : Row) → Contains c.rows r → knows g c r ≡ true) where
  pub state_is : (numbers : List (Option ℕ)) (n : ℕ) (r : Row) → numbers ≡ atom_numbers g c → n ≡ words_for (length g.atoms)
      → state_of (numbers_of numbers r.atoms) n ≡ row_state g c r
  state_is numbers n r same width = λ j. state_of (numbers_of (same j) r.atoms) (width j)

  module _ (s : State) where
    abbrev at : List Row → Option Line
    at l = row_at same_state (rows_of g c l) s

    module _ (i : ℕ) (r : Row) (there : slice_get c.rows i ≡ Some r) where
      rest : List Row
      rest = drop (i + 1) c.rows

      inside : Contains c.rows r
      inside = (i, slice_get_within c.rows i r there, get_or_from_slice_get c.rows i r r there)

      next : rows_of g c (drop i c.rows) ≡ row_of g c r ∷ rows_of g c (drop (i + 1) c.rows)
      next =
          ap (rows_of g c) (drop_more c.rows i r (slice_get_within c.rows i r there))
          ∙ ap (λ (x : Row). rows_of g c (x ∷ drop (i + 1) c.rows)) (get_or_from_slice_get c.rows i r r there)
          ∙ rows_known g c is.atoms_rise r (drop (i + 1) c.rows) (known r inside)

      pub step_on : same_state (row_state g c r) s ≡ true → row_at same_state (rows_of g c (drop i c.rows)) s ≡ Some (row_of g c r)
      step_on on =
          ap (λ (l : List Line). row_at same_state l s) next
          ∙ ap (λ b. elim b [ true ↦ Some (row_of g c r) | false ↦ row_at same_state (rows_of g c (drop (i + 1) c.rows)) s ]) on

      pub step_off : same_state (row_state g c r) s ≡ false
          → row_at same_state (rows_of g c (drop i c.rows)) s ≡ row_at same_state (rows_of g c (drop (i + 1) c.rows)) s
      step_off off =
          ap (λ (l : List Line). row_at same_state l s) next
          ∙ ap (λ b. elim b [ true ↦ Some (row_of g c r) | false ↦ row_at same_state (rows_of g c (drop (i + 1) c.rows)) s ]) off

    pub at_end : (i : ℕ) → length c.rows ≤ i → row_at same_state (rows_of g c (drop i c.rows)) s ≡ None
    at_end i past = at_drop_all (λ (l : List Row). row_at same_state (rows_of g c l) s) c.rows i past

  -- ---- how large values are

  row_cases : (rows : List Line) (s : State) → (row_at same_state rows s ≡ None) ⊎ ((row : Line) × Contains rows row × (row_at same_state rows s ≡ Some row))
  row_cases [] s = inl refl
  row_cases (row ∷ rows) s = elim (cases_Bool (same_state row.state s)) [
    | inl on ↦ inr (row, Contains-first row rows, ap (λ b. elim b [ true ↦ Some row | false ↦ row_at same_state rows s ]) on)
    | inr off ↦ elim (row_cases rows s) [
      | inl none ↦ inl (ap (λ b. elim b [ true ↦ Some row | false ↦ row_at same_state rows s ]) off ∙ none)
      | inr found ↦
          inr (found.0, Contains-later row rows found.0 found.1, ap (λ b. elim b [ true ↦ Some row | false ↦ row_at same_state rows s ]) off ∙ found.2)
    ]
  ]

  line_within : (row : Line) → Contains (rows_of g c c.rows) row → (row.lower ≤ 100000000000000) × (row.upper ≤ 100000000000000)
  line_within row inside =
      let a = Contains-map_cases (ground_row g) (named_rows c) row (subst (λ (l : List Line). Contains l row) (ground_rows g c is known) inside) in
      let b = Contains-map_cases (named_row c.atoms c.acts) c.rows a.0 a.1 in
      let form = all_member (IsRow (length c.atoms) (length c.acts)) c.rows b.0 is.rows b.1 in
      let lower : b.0.lower ≡ row.lower = ap (λ (x : NamedRow). x.lower) b.2 ∙ ap (λ (x : Line). x.lower) a.2 in
      let upper : b.0.upper ≡ row.upper = ap (λ (x : NamedRow). x.upper) b.2 ∙ ap (λ (x : Line). x.upper) a.2 in
      ((let most = form.lower in omega arith), (let most = form.upper in omega arith))

  abbrev lower_of : Option Line → ℕ
  lower_of o = elim o [ None ↦ 0 | Some x ↦ x.lower ]

  abbrev upper_of : Option Line → ℕ
  upper_of o = elim o [ None ↦ g.penalty | Some x ↦ x.upper ]

  lower_capped : (o : Option Line) → ((x : Line) → o ≡ Some x → x.lower ≤ 100000000000000) → lower_of o ≤ 100000000000000
  lower_capped None most = omega arith
  lower_capped (Some x) most = most x refl

  upper_capped : (b : Bool) (o : Option Line) → g.penalty ≤ 100000000000000 → ((x : Line) → o ≡ Some x → x.upper ≤ 100000000000000)
      → cond b 0 (upper_of o) ≤ 100000000000000
  upper_capped true o quit most = omega arith
  upper_capped false None quit most = quit
  upper_capped false (Some x) quit most = most x refl

  some_line : (x y : Line) → Some x ≡ Some y → x ≡ y
  some_line x y e = cc

  row_within : (s : State) (x : Line) → row_at same_state (rows_of g c c.rows) s ≡ Some x → (x.lower ≤ 100000000000000) × (x.upper ≤ 100000000000000)
  row_within s x at = elim (row_cases (rows_of g c c.rows) s) [
    | inl none ↦ absurd (none-some x (sym none ∙ at))
    | inr found ↦
        subst (λ (y : Line). (y.lower ≤ 100000000000000) × (y.upper ≤ 100000000000000)) (some_line found.0 x (sym found.2 ∙ at))
        (line_within found.0 found.1)
  ]

  pub low_within : (s : State) → low_in g c s ≤ 100000000000000
  low_within s = lower_capped (row_at same_state (rows_of g c c.rows) s) (λ x at. (row_within s x at).0)

  pub high_within : g.penalty ≤ 100000000000000 → (s : State) → high_in g c s ≤ 100000000000000
  high_within quit s =
      upper_capped ((ground_process g).goal s) (row_at same_state (rows_of g c c.rows) s) quit (λ x at. (row_within s x at).1)

module _ (g : Ground) (valid : IsGroundProblem g) (f : State → ℕ) (most : (s : State) → f s ≤ 100000000000000) where
  pub starts_within : at_starts f (ground_starts g) ≤ 100000000000000 * g.start_den
  starts_within =
      let a = total-weighted_le (λ (x : Start State). x.weight) (λ (x : Start State). f x.state) (λ (x : Start State). 100000000000000) (ground_starts g)
      (λ x _. most x.state) in
      let b = total-times (λ (x : Start State). x.weight) 100000000000000 (ground_starts g) in
      let d = total-map (λ (x : Start State). x.weight) start_of g.starts in
      let e = valid.starts_weights.sum in
      omega arith

  pub floor_within : floor (at_starts f (ground_starts g)) g.start_den ≤ 100000000000000
  floor_within = elim (cases_lt 100000000000000 (floor (at_starts f (ground_starts g)) g.start_den)) [
    | inl above ↦
        (let more : (100000000000000 + 1) * g.start_den ≤ floor (at_starts f (ground_starts g)) g.start_den * g.start_den
        = mul-le-mul_right g.start_den (omega (arith, above)) in
        let down = floor-times_le (at_starts f (ground_starts g)) g.start_den in
        let positive = valid.starts_weights.den_above in
        let all = starts_within in absurd (omega arith))
    | inr within ↦ omega (arith, within)
  ]

  pub ceiling_within : ceiling (at_starts f (ground_starts g)) g.start_den ≤ 100000000000000
  ceiling_within = ceiling-le (at_starts f (ground_starts g)) 100000000000000 g.start_den valid.starts_weights.den_above starts_within
