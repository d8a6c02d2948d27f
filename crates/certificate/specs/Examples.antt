-- Worked examples, which compute: a certificate of two states and its two texts, and texts that miss
-- them.
use Rattle.std.specs.Prelude.{◌≡◌, ℕ, List, [], ◌∷◌, ◌++◌, Ok, Err, codes}
use Rattle.std.proofs.Common.{refl}
use Rattle.std.specs.List.{flat_map}
use Rattle.certificate.specs.declared.act.Act.TheVariants.{Goal, Do}
use Rattle.certificate.specs.declared.refusal.CertRefusal.TheVariants.{Syntax, Order, Count, Unused}
use Rattle.certificate.specs.Content.{Content, content_of, ended}
use Rattle.certificate.specs.Decoding.{header_of, penalty_of, interval_of, count_of, list_of}
use Rattle.certificate.specs.Decoding.{named_row_of, row_of, field_at, place_at, number_at}
use Rattle.certificate.specs.Decoding.{number_of, named_act_at, act_at, list_at, atom_at, atom_of}
use Rattle.certificate.specs.Counted.{said_at, item_at, items_at, stop_at}
use Rattle.certificate.specs.Reading.{read_named, read_numbered, read_lines, read_of}

-- a toss costs one unit and is done with probability one half; giving up costs ten units
abbrev coin : ℕ → Content
coin version =
    content_of version 10000000 1999999 2000001 (codes "(done)" ∷ []) (codes "(flip)" ∷ []) (
    record { lower = 1999999; upper = 2000001; act = Do 0; atoms = [] }
    ∷ record { lower = 0; upper = 0; act = Goal; atoms = 0 ∷ [] } ∷ []
    )

abbrev text : List ℕ → List (List ℕ) → List ℕ
text version others =
    flat_map ended (
    version ∷ codes "penalty 10000000" ∷ codes "interval 1999999 2000001" ∷ others
    )

-- ---- version 1

abbrev named_flip : List ℕ
named_flip = codes "1999999 2000001 (flip) :"

abbrev named_done : List ℕ
named_done = codes "0 0 goal : (done)"

-- the text with this count of states, and these lines behind it
abbrev named_text : List ℕ → List (List ℕ) → List ℕ
named_text states others = text (codes "cert 1") (states ∷ others)

-- ---- version 2

abbrev flip : List ℕ
flip = codes "1999999 2000001 0 :"

abbrev done : List ℕ
done = codes "0 0 goal : 0"

-- the text with these entries of the table of acts, and these lines behind its count of states
abbrev numbered_text : List (List ℕ) → List (List ℕ) → List ℕ
numbered_text acts others =
    text (codes "cert 2") (
    codes "atoms 1" ∷ codes "(done)" ∷ acts ++ codes "states 2" ∷ others
    )

abbrev acts : List (List ℕ)
acts = codes "acts 1" ∷ codes "(flip)" ∷ []

record Examples : Type 0 where
  -- and so, by the laws, these are the texts of `coin`
  named_is_read :
      read_of (named_text (codes "states 2") (named_flip ∷ named_done ∷ codes "end" ∷ []))
      ≡ Ok (coin 1)
  is_read : read_of (numbered_text acts (flip ∷ done ∷ codes "end" ∷ [])) ≡ Ok (coin 2)
  -- the rows rise by their atoms
  rows_fall :
      read_of (named_text (codes "states 2") (named_done ∷ named_flip ∷ codes "end" ∷ []))
      ≡ Err (Order 6)
  row_too_few :
      read_of (named_text (codes "states 2") (named_flip ∷ codes "end" ∷ [])) ≡ Err (Count 6)
  row_too_many :
      read_of (named_text (codes "states 1") (named_flip ∷ named_done ∷ codes "end" ∷ []))
      ≡ Err (Count 6)
  leading_zero :
      read_of (named_text (codes "states 02") (named_flip ∷ named_done ∷ codes "end" ∷ []))
      ≡ Err (Syntax 4)
  -- the last line wants its line feed
  cut :
      read_of (named_text (codes "states 2") (named_flip ∷ named_done ∷ []) ++ codes "end")
      ≡ Err (Syntax 7)
  -- behind `end` stands nothing
  line_behind :
      read_of (numbered_text acts (flip ∷ done ∷ codes "end" ∷ []) ++ 10 ∷ []) ≡ Err (Syntax 12)
  -- a number is below the length of its table
  out_of_range :
      read_of (numbered_text acts (flip ∷ codes "0 0 goal : 1" ∷ codes "end" ∷ [])) ≡ Err (Syntax 10)
  -- what stands behind a table stops it
  entry_too_few : read_of (numbered_text (codes "acts 1" ∷ []) (flip ∷ [])) ≡ Err (Count 7)
  -- no row uses the first entry
  unused :
      read_of (
      numbered_text (codes "acts 2" ∷ codes "(flap)" ∷ codes "(flip)" ∷ []) (
      codes "1999999 2000001 1 :" ∷ done ∷ codes "end" ∷ []
      )
      )
      ≡ Err (Unused 7)

they_compute : Examples
unfolding
    read_of read_lines read_named read_numbered said_at items_at item_at stop_at
    header_of penalty_of interval_of count_of list_of named_row_of row_of
    field_at place_at number_at number_of named_act_at act_at list_at atom_at atom_of
they_compute = record {
  named_is_read = refl;
  is_read = refl;
  rows_fall = refl;
  row_too_few = refl;
  row_too_many = refl;
  leading_zero = refl;
  cut = refl;
  line_behind = refl;
  out_of_range = refl;
  entry_too_few = refl;
  unused = refl;
}
