-- Rows of two certificates, by the names of their atoms, as rows of one.
--     untold penalty atoms       what is known off goals of a state without a row, as a row
--     meet r s                   the greater lower and the smaller upper value, with the act of the smaller
--     first_alone, second_alone penalty r
--                                a row of the first, or of the second, whose state the other has no row of
--     merged penalty rows others the rows of both in order, those of one state as one; each list is in order
--     Origin (of code)           the places of the row, or of the two rows, that a row is made of
--     row_of_origin penalty rows others o
--                                the row that is made of these
--     IsOrigin n m o             the places are among n rows of the first and m of the second
--     taken_first, taken_second o
--                                how many rows of each it takes
--     merged_of c d              the rows of two certificates
--     AreOrigins c d origins     these are the origins of those rows, one by one
--     PlacesAgree c d ours theirs
--                                places of the atoms of both in one table are in the order of the atoms' texts
--     IsNext c d i j o           the first of the rows that are left, where i rows of the first and j of the second are taken
use Rattle.std.specs.Prelude.{◌≡◌, ℕ, ◌+◌, ◌<◌, ◌≤◌, max, min, nat_le, cond, List, [], ◌∷◌, length, map, get_or, drop}
use Rattle.std.specs.List.{All}
use Rattle.std.specs.Ordering.{nat_cmp, match_ordering}
use Rattle.plain_list.specs.Texts.{compare_texts}
use Rattle.certificate.specs.declared.named.NamedAct.TheVariants as named
use Rattle.certificate.specs.declared.named.NamedRow.{NamedRow}
use Rattle.certificate.specs.Content.{Content, name_at, named_rows}
use Rattle.certificate.specs.Reading.{compare_named_rows}
use Rattle.cert_merge.specs.declared.origin.Origin.{Origin}
use Rattle.cert_merge.specs.declared.origin.Origin.TheVariants.{First, Second, Both}
use Rattle.cert_merge.specs.Tables.{place_in}

abbrev pub untold : ℕ → List (List ℕ) → NamedRow
untold penalty atoms = record { lower = 0; upper = penalty; act = named.GiveUp; atoms = atoms }

abbrev pub meet : NamedRow → NamedRow → NamedRow
meet r s = record {
  lower = max r.lower s.lower;
  upper = min r.upper s.upper;
  act = cond (nat_le r.upper s.upper) r.act s.act;
  atoms = r.atoms;
}

abbrev pub row_in : List NamedRow → ℕ → NamedRow
row_in rows i = get_or rows i (untold 0 [])

module _ (penalty : ℕ) where
  abbrev pub first_alone : NamedRow → NamedRow
  first_alone r = meet r (untold penalty r.atoms)

  abbrev pub second_alone : NamedRow → NamedRow
  second_alone r = meet (untold penalty r.atoms) r

  -- a row of the first before the others, whose own are merged by `rest`
  abbrev pub merged_behind : NamedRow → (List NamedRow → List NamedRow) → List NamedRow → List NamedRow
  merged_behind r rest [] = first_alone r ∷ rest []
  merged_behind r rest (s ∷ others) =
      match_ordering (compare_named_rows r s)
      (first_alone r ∷ rest (s ∷ others))
      (meet r s ∷ rest others)
      (second_alone s ∷ merged_behind r rest others)

  abbrev pub merged : List NamedRow → List NamedRow → List NamedRow
  merged [] others = map second_alone others
  merged (r ∷ rows) others = merged_behind r (merged rows) others

  abbrev pub row_of_origin : List NamedRow → List NamedRow → Origin → NamedRow
  row_of_origin rows others (First i) = first_alone (row_in rows i)
  row_of_origin rows others (Second j) = second_alone (row_in others j)
  row_of_origin rows others (Both i j) = meet (row_in rows i) (row_in others j)

abbrev pub IsOrigin : ℕ → ℕ → Origin → Type 0
IsOrigin n m (First i) = i < n
IsOrigin n m (Second j) = j < m
IsOrigin n m (Both i j) = (i < n) × (j < m)

abbrev pub taken_first : Origin → ℕ
taken_first (First i) = 1
taken_first (Second j) = 0
taken_first (Both i j) = 1

abbrev pub taken_second : Origin → ℕ
taken_second (First i) = 0
taken_second (Second j) = 1
taken_second (Both i j) = 1

module _ (c d : Content) where
  abbrev pub merged_of : List NamedRow
  merged_of = merged c.penalty (named_rows c) (named_rows d)

  abbrev pub row_of : Origin → NamedRow
  row_of o = row_of_origin c.penalty (named_rows c) (named_rows d) o

  abbrev pub IsOriginOf : Origin → Type 0
  IsOriginOf o = IsOrigin (length c.rows) (length d.rows) o

  pub record AreOrigins (origins : List Origin) : Type 0 where
    pub rows : map row_of origins ≡ merged_of
    pub within : All IsOriginOf origins

  abbrev pub PlacesAgree : List ℕ → List ℕ → Type 0
  PlacesAgree ours theirs = (i j : ℕ) → i < length c.atoms → j < length d.atoms
      → compare_texts (name_at c.atoms i) (name_at d.atoms j) ≡ nat_cmp (place_in ours i) (place_in theirs j)

  abbrev pub left : ℕ → ℕ → List NamedRow
  left i j = merged c.penalty (drop i (named_rows c)) (drop j (named_rows d))

  pub record IsNext (i j : ℕ) (o : Origin) : Type 0 where
    pub next : left i j ≡ row_of o ∷ left (i + taken_first o) (j + taken_second o)
    pub within : IsOriginOf o
    pub first_within : i + taken_first o ≤ length c.rows
    pub second_within : j + taken_second o ≤ length d.rows
