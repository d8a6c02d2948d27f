-- Codes of open actions, and the room for them.
--     Codes                      for how many codes there is room, and the codes that are written
--     HasRoom marks codes count  each marked bit has a place among the codes, and its number fits
use Rattle.std.specs.Prelude.{◌≡◌, ℕ, ◌*◌, ◌≤◌, List, length}
use Rattle.ground_model.specs.Packed.{State}

pub record Codes : Type 0 where
  pub room : ℕ
  pub codes : List ℕ

pub record HasRoom (marks : State) (codes : List ℕ) (count : ℕ) : Type 0 where
  pub room : length codes ≡ 64 * length marks
  pub few : length marks ≤ 1024
  pub within : count ≤ length codes
