-- What is known after a choice, where some of its guarded parts are picked: deletes act before adds, and what is touched is known.
--     picked_adds, picked_deletes, picked_cost
--                            what the picked parts add, delete and cost; there is one flag for each part
--     step_known known c picked
--                            what is known of each atom afterwards
--     held bit parts         which parts hold: those whose condition does
--     picks known parts      all flags that pick each part known to hold, none known not to, and any of the others
--     Decides known parts picked
--                            of each part it is known whether it holds, and those that do are picked
-- Source: the successors of a partial state, where what is not known is left open (progression; Rintanen 2008 has the way back, by
-- regression).
use Rattle.std.specs.Prelude.{◌≡◌, ℕ, ◌+◌, Bool, true, false, cond, List, [], ◌∷◌, ◌++◌, map, Option, Some, None}
use Rattle.ground_model.specs.declared.action.Guarded.{Guarded}
use Rattle.ground_model.specs.declared.action.Choice.{Choice}
use Rattle.ground_model.specs.Truth.{truth}
use Rattle.ground_model.specs.Choices.{is_member}
use Rattle.partial_states.specs.Known.{kleene}

abbrev pub picked_adds : List Bool → List Guarded → List ℕ
picked_adds [] parts = []
picked_adds (b ∷ picked) [] = []
picked_adds (b ∷ picked) (x ∷ parts) = cond b x.adds [] ++ picked_adds picked parts

abbrev pub picked_deletes : List Bool → List Guarded → List ℕ
picked_deletes [] parts = []
picked_deletes (b ∷ picked) [] = []
picked_deletes (b ∷ picked) (x ∷ parts) = cond b x.deletes [] ++ picked_deletes picked parts

abbrev pub picked_cost : List Bool → List Guarded → ℕ
picked_cost [] parts = 0
picked_cost (b ∷ picked) [] = 0
picked_cost (b ∷ picked) (x ∷ parts) = cond b x.cost 0 + picked_cost picked parts

abbrev pub touched : List ℕ → List ℕ → Option Bool → ℕ → Option Bool
touched adds deletes before q =
    cond (is_member adds q) (Some true) (cond (is_member deletes q) (Some false) before)

abbrev pub step_known : (ℕ → Option Bool) → Choice → List Bool → ℕ → Option Bool
step_known known c picked q =
    touched (c.adds ++ picked_adds picked c.guarded)
    (c.deletes ++ picked_deletes picked c.guarded) (known q) q

abbrev pub held : (ℕ → Bool) → List Guarded → List Bool
held bit parts = map (λ (x : Guarded). truth bit x.condition) parts

module _ (known : ℕ → Option Bool) where
  abbrev pub picks : List Guarded → List (List Bool)
  picks [] = [] ∷ []
  picks (x ∷ parts) =
      elim (kleene known x.condition) [
        | None ↦
            map (λ flags. true ∷ flags) (picks parts) ++ map (λ flags. false ∷ flags) (picks parts)
        | Some b ↦ map (λ flags. b ∷ flags) (picks parts)
      ]

  abbrev pub Decides : List Guarded → List Bool → Type 0
  Decides [] [] = Unit {0}
  Decides [] (b ∷ picked) = ⊥
  Decides (x ∷ parts) [] = ⊥
  Decides (x ∷ parts) (b ∷ picked) =
      (kleene known x.condition ≡ Some b) × Decides parts picked
