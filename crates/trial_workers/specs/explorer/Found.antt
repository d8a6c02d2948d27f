-- Lists of states that grow.
--     IsAdded old new s          s was listed, or stands behind the others now
--     Grows most found old new   new is old with some of the found states behind it, and with all of them where it has at most
--                                `most` states; it has at most one state more than that
--     IsRoomFor g scratch        the scratch has a state of the problem's length, and room for the codes of all actions
use Rattle.std.specs.Prelude.{◌≡◌, ◌⊎◌, ℕ, ◌+◌, ◌≤◌, List, [], ◌∷◌, ◌++◌, length, Contains}
use Rattle.ground_model.specs.Packed.{words_for}
use Rattle.ground_model.specs.Ground.{Ground}
use Rattle.trial_workers.specs.declared.explorer.scratch.Scratch.{Scratch}

abbrev pub IsAdded : {X : Type 0} → List X → List X → X → Type 0
IsAdded old new x =
    ((new ≡ old) × Contains old x) ⊎ ((new ≡ old ++ x ∷ []) × (Contains old x → ⊥))

pub record Grows {X : Type 0} (most : ℕ) (found old new : List X) : Type 0 where
  pub more : List X
  pub is : new ≡ old ++ more
  pub within : (x : X) → Contains more x → Contains found x
  pub all : length new ≤ most → (x : X) → Contains found x → Contains new x
  pub few : length old ≤ most + 1 → length new ≤ most + 1

pub record IsRoomFor (g : Ground) (scratch : Scratch) : Type 0 where
  pub next : length scratch.next ≡ words_for (length g.atoms)
  pub codes : length g.actions ≤ scratch.codes.room
