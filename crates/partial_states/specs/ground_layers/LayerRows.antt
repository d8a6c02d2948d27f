-- The rows of a layer, and the test of one.
--     LayerRow               the truths of a layer's atoms, with a lower value
--     low_in rows v          the first row's value of these truths, 0 without one
--     with_rows own others penalty rows
--                            the layer of these rows
--     IsLayerRow g group l row
--                            what is tested of a layer holds of the truths and the value of the row
use Rattle.std.specs.Prelude.{◌≡◌, ℕ, ◌*◌, ◌≤◌, Bool, true, false, cond, not, ◌&&◌, List, [], ◌∷◌, Contains}
use Rattle.ppddl_model.specs.Known.{is_not_false}
use Rattle.ground_model.specs.declared.action.GroundAction.{GroundAction}
use Rattle.ground_model.specs.Ground.{Ground}
use Rattle.partial_states.specs.Known.{kleene}
use Rattle.partial_states.specs.ground_layers.GroundLayers.{GroundLayer, atoms_of, known_by, touches, paid_by}

pub record LayerRow : Type 0 where
  pub truths : List Bool
  pub lower : ℕ

abbrev pub same_truths : List Bool → List Bool → Bool
same_truths [] [] = true
same_truths [] (b ∷ w) = false
same_truths (a ∷ v) [] = false
same_truths (a ∷ v) (b ∷ w) = cond a b (not b) && same_truths v w

abbrev pub low_in : List LayerRow → List Bool → ℕ
low_in [] v = 0
low_in (row ∷ rows) v = cond (same_truths row.truths v) row.lower (low_in rows v)

abbrev pub with_rows : List ℕ → List ℕ → ℕ → List LayerRow → GroundLayer
with_rows own others penalty rows =
    record { own = own; others = others; penalty = penalty; low = low_in rows }

module _ (g : Ground) (group : List GroundLayer) (l : GroundLayer) where
  pub record IsLayerRow (row : LayerRow) : Type 0 where
    pub within_penalty : row.lower ≤ l.penalty
    pub at_goal : is_not_false (kleene (known_by (atoms_of l) row.truths) g.goal) ≡ true
        → row.lower ≡ 0
    pub within_step : (a : GroundAction) → Contains g.actions a
        → is_not_false (kleene (known_by (atoms_of l) row.truths) g.goal) ≡ false
        → is_not_false (kleene (known_by (atoms_of l) row.truths) a.condition) ≡ true
        → touches (atoms_of l) a ≡ true
        → row.lower * a.den ≤ paid_by group l a row.truths
