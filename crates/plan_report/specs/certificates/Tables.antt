-- Rows by the places of their atoms and acts.
--     ArePlaces numbers places     each number has its place among them
--     place_in places q            the place of a number
--     act_for acts name            to take the action of this name, by its place in the table; to give up where there is no name
--     in_place place               to take the action in a place of the table; to give up where there is none
--     act_at places word           the same by the places of the actions' names, by code
--     AreTaken g taken names       the names rise, and have the name of each action that is marked as taken
--     AreActPlaces g acts places   of some of the actions whose names the table has, their places there, by code
--     IsPlaced places code         there is a place for the action of this code
--     HasMorePlaces old new        so there is for each that had one
--     HasActPlace places word      and for the action that the word names, if it names one
--     HaveActPlaces places rows n  and for each action that the first n rows take
--     HasActIn g acts word         the table has the name of the action that the word names
--     HaveActsIn g acts rows       the table has the names of the actions that rows take
--     numbered_row g places acts r the row by these places
use Rattle.std.specs.Prelude.{◌≡◌, ℕ, ◌<◌, Bool, true, false, List, Option, Some, None, get_or, length, map, Contains}
use Rattle.std.specs.List.{slice_get}
use Rattle.std.specs.List.Sorted.{IsStrictlySortedBy}
use Rattle.plain_list.specs.Texts.{compare_texts}
use Rattle.fixed_round.specs.Words.{value_of, code_of}
use Rattle.ground_model.specs.Ground.{Ground}
use Rattle.certificate.specs.declared.act.Act.{Act}
use Rattle.certificate.specs.declared.act.Act.TheVariants.{GiveUp, Do}
use Rattle.certificate.specs.Rows.{Row}
use Rattle.certificate.specs.Numbering.{Among, place_of}
use Rattle.plan_report.specs.certificates.RowsKept.{KeptRow}
use Rattle.plan_report.specs.certificates.Kept.{act_name, name_of_code}

abbrev pub place_in : List ℕ → ℕ → ℕ
place_in places q = get_or places q 0

abbrev pub ArePlaces : List ℕ → List ℕ → Type 0
ArePlaces numbers places = (k q : ℕ) → slice_get numbers k ≡ Some q → place_in places q ≡ k

abbrev pub act_for : List (List ℕ) → Option (List ℕ) → Act
act_for acts None = GiveUp
act_for acts (Some name) = Do (place_of acts name)

abbrev pub in_place : Option (Option ℕ) → Act
in_place (Some (Some place)) = Do place
in_place _ = GiveUp

abbrev pub act_at : List (Option ℕ) → ℕ → Act
act_at places word = in_place (slice_get places (code_of word))

pub record AreTaken (g : Ground) (taken : List Bool) (names : List (List ℕ)) : Type 0 where
  pub long : length taken ≡ length g.actions
  pub sorted : IsStrictlySortedBy compare_texts names
  pub had : (code : ℕ) (name : List ℕ) → get_or taken code false ≡ true
      → name_of_code g code ≡ Some name → Among names name

pub record AreActPlaces (g : Ground) (acts : List (List ℕ)) (places : List (Option ℕ)) : Type 0 where
  pub long : length places ≡ length g.actions
  pub placed : (code place : ℕ) (name : List ℕ) → get_or places code None ≡ Some place
      → name_of_code g code ≡ Some name → Among acts name → place ≡ place_of acts name

abbrev pub IsPlaced : List (Option ℕ) → ℕ → Type 0
IsPlaced places code = (place : ℕ) × (get_or places code None ≡ Some place)

abbrev pub HasMorePlaces : List (Option ℕ) → List (Option ℕ) → Type 0
HasMorePlaces old new = (length new ≡ length old) × ((code : ℕ) → IsPlaced old code → IsPlaced new code)

abbrev pub HasActPlace : List (Option ℕ) → ℕ → Type 0
HasActPlace places word = code_of word < length places → IsPlaced places (code_of word)

abbrev pub HaveActPlaces : List (Option ℕ) → List KeptRow → ℕ → Type 0
HaveActPlaces places rows n = (k : ℕ) (r : KeptRow) → k < n → slice_get rows k ≡ Some r
    → HasActPlace places r.upper

abbrev pub HasActIn : Ground → List (List ℕ) → ℕ → Type 0
HasActIn g acts word = (name : List ℕ) → act_name g word ≡ Some name → Among acts name

abbrev pub HaveActsIn : Ground → List (List ℕ) → List KeptRow → Type 0
HaveActsIn g acts rows = (r : KeptRow) → Contains rows r → HasActIn g acts r.upper

abbrev pub numbered_row : Ground → List ℕ → List (List ℕ) → KeptRow → Row
numbered_row g places acts r = record {
  lower = r.lower;
  upper = value_of r.upper;
  act = act_for acts (act_name g r.upper);
  atoms = map (place_in places) r.atoms;
}
