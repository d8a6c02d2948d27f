-- What a hierarchy of types keeps.
--     IsRowOf types k row             a row that tells of each type by number whether the type k is under it
--     members_of types kinds k        the objects, by number, whose type is under k; their types are given in order
--     AreMembers types kinds rows     a row has the objects of each type
--     IsAdded types k old x new       the object x was put behind those of each type above k
--     IsHierarchy names links above   the names are those of the links' declarations, and what stands above each is told
use Rattle.std.specs.Prelude.{◌≡◌, ◌<◌, ℕ, nat_eq, List, map, filter, length, slice_index_or, Contains, Vec}
use Rattle.std.specs.List.{IsDistinct, range_with_len}
use Rattle.ppddl_model.specs.declared.tree.TypeDecl.{TypeDecl}
use Rattle.ppddl_model.specs.State.{Name}
use Rattle.type_table.specs.declared.link.Link.{Link}
use Rattle.type_table.specs.Reading.{items_of, type_of}
use Rattle.type_table.specs.declared.above.Above.{Above}
use Rattle.type_table.specs.Above.{rows_of, IsSound}
use Rattle.type_table.specs.Rows.{row_at, in_row, EachRow, AddsObject}
use Rattle.type_table.specs.Types.{type_names, under}

pub record IsRowOf (types : List TypeDecl) (k : ℕ) (row : List ℕ) : Type 0 where
  pub distinct : IsDistinct nat_eq row
  pub within : (x : ℕ) → Contains row x → x < length (type_names types)
  pub exact : (o : ℕ) → o < length (type_names types) → in_row row o ≡ under types k o

abbrev pub members_of : List TypeDecl → List ℕ → ℕ → List ℕ
members_of types kinds k = filter (λ o. under types (slice_index_or kinds o 0) k) (range_with_len 0 (length kinds))

abbrev pub AreMembers : {A : Type 0} → List TypeDecl → List ℕ → List (Vec ℕ A) → Type 0
AreMembers types kinds rows =
    EachRow (length (type_names types)) (λ k row. row ≡ members_of types kinds k) (map items_of rows)

-- an object was put behind those of each type above its own
pub record IsAdded {A : Type 0} (types : List TypeDecl) (k : ℕ) (old : List (Vec ℕ A)) (x : ℕ) (new : List (Vec ℕ A)) : Type 0 where
  pub row : List ℕ
  pub is : IsRowOf types k row
  pub added : AddsObject old row x new

pub record IsHierarchy (names : List Name) (links : List Link) (above : Above) : Type 0 where
  pub named : names ≡ type_names (map (type_of names) links)
  pub many : length (rows_of above) ≡ length names
  pub each : (k : ℕ) → k < length names → IsRowOf (map (type_of names) links) k (row_at (rows_of above) k)
  pub sound : IsSound above
