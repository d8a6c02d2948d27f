-- The rows of a layer: what is tested of each row holds of all truths of the atoms.
use Rattle.std.proofs.Common.{◌≡◌, ◌⊎◌, ℕ, ◌*◌, ◌≤◌, Bool, true, false, cond, not, List, [], ◌∷◌, refl, sym, ap, subst, inl, inr, ◌∙◌, arith}
use Rattle.std.specs.Prelude.{Contains}
use Rattle.std.proofs.lemmas.Bool.{cases_Bool, and_parts}
use Rattle.plain_list.proofs.Members.{Contains-first, Contains-later}
use Rattle.ground_model.specs.declared.action.GroundAction.{GroundAction}
use Rattle.ground_model.specs.Ground.{Ground}
use Rattle.ppddl_model.specs.Known.{is_not_false}
use Rattle.partial_states.specs.Known.{kleene}
use Rattle.partial_states.specs.ground_layers.GroundLayers.{GroundLayer, atoms_of, known_by, touches, paid_by, IsGroundLayer}
use Rattle.partial_states.specs.ground_layers.LayerRows.{LayerRow, same_truths, low_in, with_rows, IsLayerRow}
use Rattle.partial_states.specs.ground_layers.Laws as laws

same_truth : (a b : Bool) → cond a b (not b) ≡ true → a ≡ b
same_truth true b e = sym e
same_truth false true e = e
same_truth false false e = refl

truths_are : (v w : List Bool) → same_truths v w ≡ true → v ≡ w
truths_are [] [] e = refl
truths_are [] (b ∷ w) e = absurd cc
truths_are (a ∷ v) [] e = absurd cc
truths_are (a ∷ v) (b ∷ w) e =
    let parts = and_parts (cond a b (not b)) (same_truths v w) e in
    ap (λ x. x ∷ v) (same_truth a b parts.0) ∙ ap (λ xs. b ∷ xs) (truths_are v w parts.1)

-- a value is 0, or that of a row
low_cases : (rows : List LayerRow) (v : List Bool)
    → (low_in rows v ≡ 0) ⊎ ((row : LayerRow) × Contains rows row × (row.truths ≡ v) × (low_in rows v ≡ row.lower))
low_cases [] v = inl refl
low_cases (row ∷ rows) v = elim (cases_Bool (same_truths row.truths v)) [
  | inl on ↦
      inr (row, Contains-first row rows, truths_are row.truths v on, ap (λ b. cond b row.lower (low_in rows v)) on)
  | inr off ↦
      let later : low_in (row ∷ rows) v ≡ low_in rows v = ap (λ b. cond b row.lower (low_in rows v)) off in
      elim (low_cases rows v) [
        | inl none ↦ inl (later ∙ none)
        | inr found ↦ inr (found.0, Contains-later row rows found.0 found.1, found.2, later ∙ found.3)
      ]
]

module _ (g : Ground) (group : List GroundLayer) (own others : List ℕ) (penalty : ℕ) (rows : List LayerRow)
    (each : (row : LayerRow) → Contains rows row → IsLayerRow g group (with_rows own others penalty rows) row) where
  passes_at : (v : List Bool) (row : LayerRow) → Contains rows row → row.truths ≡ v
      → IsLayerRow g group (with_rows own others penalty rows) (record { truths = v; lower = row.lower })
  passes_at v row inside is =
      subst (λ w. IsLayerRow g group (with_rows own others penalty rows) (record { truths = w; lower = row.lower })) is (each row inside)

  value_within : (v : List Bool) → low_in rows v ≤ penalty
  value_within v = elim (low_cases rows v) [
    | inl none ↦ omega (arith, none)
    | inr found ↦ omega (arith, found.3, (each found.0 found.1).within_penalty)
  ]

  value_at_goal : (v : List Bool) → is_not_false (kleene (known_by (atoms_of (with_rows own others penalty rows)) v) g.goal) ≡ true
      → low_in rows v ≡ 0
  value_at_goal v on = elim (low_cases rows v) [
    | inl none ↦ none
    | inr found ↦ found.3 ∙ (passes_at v found.0 found.1 found.2).at_goal on
  ]

  value_within_step : (a : GroundAction) → Contains g.actions a → (v : List Bool)
      → is_not_false (kleene (known_by (atoms_of (with_rows own others penalty rows)) v) g.goal) ≡ false
      → is_not_false (kleene (known_by (atoms_of (with_rows own others penalty rows)) v) a.condition) ≡ true
      → touches (atoms_of (with_rows own others penalty rows)) a ≡ true
      → low_in rows v * a.den ≤ paid_by group (with_rows own others penalty rows) a v
  value_within_step a member v closed opens touched = elim (low_cases rows v) [
    | inl none ↦
        let times : low_in rows v * a.den ≡ 0 = ap (λ n. n * a.den) none ∙ omega arith in
        omega (arith, times)
    | inr found ↦
        let times : low_in rows v * a.den ≡ found.0.lower * a.den = ap (λ n. n * a.den) found.3 in
        omega (arith, times, (passes_at v found.0 found.1 found.2).within_step a member closed opens touched)
  ]

  rows_pass : IsGroundLayer g group (with_rows own others penalty rows)
  rows_pass = record {
    within_penalty = value_within;
    at_goal = value_at_goal;
    within_step = value_within_step;
  }

pub layer_rows_pass : (g : Ground) → laws.LayerRowsPass g
layer_rows_pass g group own others penalty rows each = rows_pass g group own others penalty rows each
