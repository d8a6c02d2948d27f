-- Open actions by their codes.
use Rattle.std.proofs.Common.{◌≡◌, ℕ, suc, zero, ◌<◌, true, List, [], ◌∷◌, length, filter, arith}
use Rattle.std.specs.Prelude.{Contains}
use Rattle.std.specs.List.{range_with_len, slice_get}
use Rattle.std.proofs.lemmas.List.Elements.{All-contains, filter_passes}
use Rattle.ground_model.specs.declared.action.GroundAction.{GroundAction}
use Rattle.ground_model.specs.Packed.{State}
use Rattle.ground_model.specs.Ground.{Ground}
use Rattle.ground_model.specs.Steps.{is_open_at, is_open, ground_process}

open_within : (actions : List GroundAction) (k : ℕ) (s : State) → is_open_at (slice_get actions k) s ≡ true → k < length actions
open_within [] k s opens = absurd cc
open_within (a ∷ actions) zero s opens = omega arith
open_within (a ∷ actions) (suc k) s opens =
    (let below : k < length actions = open_within actions k s opens in omega (arith, below))

pub code_within : (g : Ground) (s : State) (k : ℕ) → Contains ((ground_process g).choices s) k → k < length g.actions
code_within g s k chosen =
    open_within g.actions k s
    (All-contains (λ j. is_open g j s ≡ true) (filter (λ j. is_open g j s) (range_with_len 0 (length g.actions))) k
    (filter_passes (λ j. is_open g j s) (range_with_len 0 (length g.actions))) chosen)
