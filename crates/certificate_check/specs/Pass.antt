-- The pass over the rows.
--     HasRoomFor g room          its states are as long as those of the problem, which are short, and there is room for all actions
--     low_of, high_of x s        the values of a state, as the certificate gives them
--     TellsOfRow x place v       v says of the row in this place that it is sound, or what fails
--     TellsOfRows x v            v says of all rows that they are, or what fails first
use Rattle.std.specs.Prelude.{◌≡◌, ℕ, ◌+◌, ◌≤◌, length, Option, Some}
use Rattle.std.specs.List.{slice_get}
use Rattle.certificate.specs.Rows.{Row}
use Rattle.ground_model.specs.Packed.{State, words_for}
use Rattle.ground_model.specs.Ground.{Ground}
use Rattle.certificate_check.specs.declared.rows.Room.{Room}
use Rattle.certificate_check.specs.declared.verdict.Verdict.{Verdict}
use Rattle.certificate_check.specs.Claims.{low_in, high_in}
use Rattle.certificate_check.specs.GroundRows.{Claimed}
use Rattle.certificate_check.specs.Verdicts.{IsRowVerdict, AreRowsVerdict}

pub record HasRoomFor (g : Ground) (room : Room) : Type 0 where
  pub state : length room.state ≡ words_for (length g.atoms)
  pub few : words_for (length g.atoms) ≤ 16
  pub next : length room.scratch.next ≡ words_for (length g.atoms)
  pub codes : length g.actions ≤ room.scratch.codes.room

module _ (x : Claimed) where
  abbrev pub low_of : State → ℕ
  low_of = low_in x.problem x.certificate

  abbrev pub high_of : State → ℕ
  high_of = high_in x.problem x.certificate

  abbrev pub TellsOfRow : ℕ → Option Verdict → Type 0
  TellsOfRow place v =
      (r : Row) → slice_get x.certificate.rows place ≡ Some r → IsRowVerdict x.problem x.certificate low_of high_of r (place + 1) v

  abbrev pub TellsOfRows : Option Verdict → Type 0
  TellsOfRows v = AreRowsVerdict x.problem x.certificate low_of high_of v
