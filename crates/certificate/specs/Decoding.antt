-- What a line says, if it has the form of its place.
--     behind front text      what stands behind the front, if the text begins with it
--     cut c text             the text before the first c, and the text behind it
--     parts c text           the text cut at each c; nothing ends the last part
--     number_of text         the number of at most MOST_UNITS that the text is in decimal, without
--                            leading zeros
--     number_at text         the number whose digits the text begins with, and what stands behind it
--     list_at text           the list of names that the text begins with, and what stands behind it
--     header_of, penalty_of, interval_of, count_of, list_of, named_row_of, row_of
--                            what a line says in its place
use Rattle.std.specs.Prelude.{ℕ, ◌+◌, ◌-◌, ◌*◌, leb, ltb, eqb, Bool, true, false, cond, not, ◌&&◌}
use Rattle.std.specs.Prelude.{List, [], ◌∷◌, ◌++◌, length, codes}
use Rattle.std.specs.Prelude.{Option, Some, None, option_map, option_and_then}
use Rattle.std.specs.List.{list_all, slice_split}
use Rattle.std.specs.Option.{option_or}
use Rattle.std.specs.Char.{is_ascii_digit}
use Rattle.std.specs.Str.{all_ascii_digits, bytes_eq}
use Rattle.certificate.specs.declared.limits.TheConstants.{MOST_UNITS, MOST_COUNT}
use Rattle.certificate.specs.declared.act.Act.{Act}
use Rattle.certificate.specs.declared.act.Act.TheVariants.{GiveUp, Goal, Do}
use Rattle.certificate.specs.declared.named.NamedAct.{NamedAct}
use Rattle.certificate.specs.declared.named.NamedAct.TheVariants as named
use Rattle.certificate.specs.declared.named.NamedRow.{NamedRow}
use Rattle.certificate.specs.Names.{is_lower_name}
use Rattle.certificate.specs.Rows.{Row}

infixl 10 ◌>>=◌
abbrev pub ◌>>=◌ : {A B : Type 0} → Option A → (A → Option B) → Option B
o >>= f = option_and_then f o

abbrev pub only_if : {A : Type 0} → Bool → A → Option A
only_if test x = cond test (Some x) None

abbrev pub behind : List ℕ → List ℕ → Option (List ℕ)
behind [] text = Some text
behind (b ∷ front) [] = None
behind (b ∷ front) (c ∷ text) = cond (eqb c b) (behind front text) None

abbrev pub cut : ℕ → List ℕ → Option (List ℕ × List ℕ)
cut c [] = None
cut c (b ∷ text) = cond (eqb b c) (Some ([], text)) (option_map (λ p. (b ∷ p.0, p.1)) (cut c text))

abbrev pub parts : ℕ → List ℕ → List (List ℕ)
parts c text = slice_split (λ b. eqb b c) text

-- ---- numbers

-- one byte or more, the first no 0 unless it stands alone
abbrev pub is_plain : List ℕ → Bool
is_plain [] = false
is_plain (d ∷ []) = true
is_plain (d ∷ e ∷ ds) = not (eqb d 48)

-- the number that digits write behind those of n
abbrev pub number_after : ℕ → List ℕ → ℕ
number_after n [] = n
number_after n (d ∷ ds) = number_after (n * 10 + (d - 48)) ds

unfoldable pub number_of : List ℕ → Option ℕ
number_of text =
    only_if (is_plain text && all_ascii_digits text && leb (number_after 0 text) MOST_UNITS)
    (number_after 0 text)

-- the digits that the text begins with, and what stands behind them
abbrev pub digits_at : List ℕ → List ℕ × List ℕ
digits_at [] = ([], [])
digits_at (b ∷ text) =
    cond (is_ascii_digit b) (b ∷ (digits_at text).0, (digits_at text).1) ([], b ∷ text)

unfoldable pub number_at : List ℕ → Option (ℕ × List ℕ)
number_at text = option_map (λ n. (n, (digits_at text).1)) (number_of (digits_at text).0)

-- a number that a blank ends, and what stands behind it
unfoldable pub field_at : List ℕ → Option (ℕ × List ℕ)
field_at text = do
  found ← number_at text
  rest ← behind (codes " ") found.1
  Some (found.0, rest)

-- the number below n that the text begins with, and what stands behind it
unfoldable pub place_at : ℕ → List ℕ → Option (ℕ × List ℕ)
place_at n text = do
  found ← number_at text
  only_if (ltb found.0 n) found

-- the numbers below n of a text that was cut at each blank, behind its first part
abbrev pub places_of : ℕ → List (List ℕ) → Option (List ℕ)
places_of n [] = Some []
places_of n (part ∷ more) = do
  number ← number_of part
  others ← places_of n more
  only_if (ltb number n) (number ∷ others)

-- the numbers below n, each behind a blank, of a text that was cut at each blank
abbrev pub spaced_places : ℕ → List (List ℕ) → Option (List ℕ)
spaced_places n [] = None
spaced_places n (first ∷ more) = cond (eqb (length first) 0) (places_of n more) None

-- ---- names

-- names, with one blank between two
abbrev pub are_names : List ℕ → Bool
are_names text = list_all is_lower_name (parts 32 text)

abbrev pub enclosed : List ℕ → List ℕ
enclosed names = 40 ∷ names ++ 41 ∷ []

unfoldable pub list_at : List ℕ → Option (List ℕ × List ℕ)
list_at text = do
  opened ← behind (codes "(") text
  found ← cut 41 opened
  only_if (are_names found.0) (enclosed found.0, found.1)

-- the list behind a blank whose `)` ended this part of a text
unfoldable pub atom_of : List ℕ → Option (List ℕ)
atom_of part = do
  names ← behind (codes " (") part
  only_if (are_names names) (enclosed names)

-- the list behind a blank that a text begins with, and what stands behind it
unfoldable pub atom_at : List ℕ → Option (List ℕ × List ℕ)
atom_at text = do
  found ← cut 41 text
  atom ← atom_of found.0
  Some (atom, found.1)

-- the lists, each behind a blank, of a text that was cut at each `)`
abbrev pub atoms_of : List (List ℕ) → Option (List (List ℕ))
atoms_of [] = None
atoms_of (part ∷ []) = only_if (eqb (length part) 0) []
atoms_of (part ∷ next ∷ more) = do
  atom ← atom_of part
  others ← atoms_of (next ∷ more)
  Some (atom ∷ others)

-- ---- lines before the rows

unfoldable pub header_of : List ℕ → Option ℕ
header_of line =
    option_or (only_if (bytes_eq line (codes "cert 1")) 1) (only_if (bytes_eq line (codes "cert 2")) 2)

unfoldable pub penalty_of : List ℕ → Option ℕ
penalty_of line = do
  text ← behind (codes "penalty ") line
  v ← number_of text
  only_if (ltb 0 v) v

unfoldable pub interval_of : List ℕ → Option (ℕ × ℕ)
interval_of line = do
  text ← behind (codes "interval ") line
  lower ← field_at text
  upper ← number_of lower.1
  Some (lower.0, upper)

-- the count that stands behind the word and its blank
unfoldable pub count_of : List ℕ → List ℕ → Option ℕ
count_of word line = do
  text ← behind word line
  n ← number_of text
  only_if (leb n MOST_COUNT) n

-- a line that is one list of names
unfoldable pub list_of : List ℕ → Option (List ℕ)
list_of line = do
  found ← list_at line
  only_if (eqb (length found.1) 0) found.0

-- ---- rows

-- an act that is one word, and what stands behind it
abbrev pub word_at : {A : Type 0} → List ℕ → A → List ℕ → Option (A × List ℕ)
word_at word act text = option_map (λ rest. (act, rest)) (behind word text)

-- the act that the text begins with, and what stands behind it
unfoldable pub named_act_at : List ℕ → Option (NamedAct × List ℕ)
named_act_at text =
    option_or (word_at (codes "give-up") named.GiveUp text) (
    option_or (word_at (codes "goal") named.Goal text)
    (option_map (λ list. (named.Do list.0, list.1)) (list_at text))
    )

-- a row of version 1
unfoldable pub named_row_of : List ℕ → Option NamedRow
named_row_of line = do
  lower ← field_at line
  upper ← field_at lower.1
  act ← named_act_at upper.1
  list ← behind (codes " :") act.1
  atoms ← atoms_of (parts 41 list)
  Some (record { lower = lower.0; upper = upper.0; act = act.0; atoms = atoms })

-- the act that the text begins with, over a table of so many names, and what stands behind it
unfoldable pub act_at : ℕ → List ℕ → Option (Act × List ℕ)
act_at acts text =
    option_or (word_at (codes "give-up") GiveUp text) (
    option_or (word_at (codes "goal") Goal text)
    (option_map (λ place. (Do place.0, place.1)) (place_at acts text))
    )

-- a row of version 2, over tables of so many entries
unfoldable pub row_of : ℕ → ℕ → List ℕ → Option Row
row_of atoms acts line = do
  lower ← field_at line
  upper ← field_at lower.1
  act ← act_at acts upper.1
  list ← behind (codes " :") act.1
  numbers ← spaced_places atoms (parts 32 list)
  Some (record { lower = lower.0; upper = upper.0; act = act.0; atoms = numbers })
