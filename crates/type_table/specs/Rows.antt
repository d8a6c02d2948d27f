-- Rows of numbers: for each type the types directly above it, those that are reached from it, and its objects.
--     row_at rows k               the row of a number
--     pushed rows k x             the rows, with x behind the row of k
--     IsPushed old k x new        so has it become
--     EachRow count P rows        there are so many rows, and each meets P with its number
--     parents_of links k          the parents that declarations give to a type
--     AreWithin rows              each number in a row has a row
--     Adds old xs new             new has what old has in its order, and behind it those of xs that it lacks
--     AreEmpty, AreParents, AreReached
--                                 rows with nothing in them, those of the parents of each type, and those of what is reached from each
--     IsReached rows k reached    what is reached from k, by going from a number to those of its row any number of times
--     in_row row o                o is `object` or stands in the row
--     IsGrown rows kinds x k row  the row of k with x behind it where k is one of the kinds
--     IsMember rows kinds x k row the same also where k is `object`
--     AddsToRow, AddsObject       each row has become so
--     Leads rows a b              b is reached from a
--     HasRound rows               a type that is reached from its own parent, or `object` where it has one
--     AreEnds count l             both numbers of a declaration are below the count
--     is_round rows l             a declaration that leads back to its own type; `object - object` says nothing
use Rattle.std.specs.Prelude.{◌≡◌, ◌<◌, ◌==◌, ◌⊎◌, ℕ, Bool, true, not, ◌&&◌, ◌||◌, nat_eq, cond, List, [], ◌∷◌, ◌++◌, map, filter, length, slice_index_or, slice_set, Contains, Vec}
use Rattle.std.specs.List.{list_any, IsDistinct}
use Rattle.type_table.specs.declared.link.Link.{Link}
use Rattle.type_table.specs.Reading.{items_of}

abbrev pub row_at : List (List ℕ) → ℕ → List ℕ
row_at rows k = slice_index_or rows k []

abbrev pub pushed : List (List ℕ) → ℕ → ℕ → List (List ℕ)
pushed rows k x = slice_set rows k (row_at rows k ++ x ∷ [])

abbrev pub IsPushed : {A : Type 0} → List (Vec ℕ A) → ℕ → ℕ → List (Vec ℕ A) → Type 0
IsPushed old k x new = map items_of new ≡ pushed (map items_of old) k x

pub record EachRow (count : ℕ) (P : ℕ → List ℕ → Type 0) (rows : List (List ℕ)) : Type 0 where
  pub many : length rows ≡ count
  pub each : (k : ℕ) → k < count → P k (row_at rows k)

abbrev pub parents_of : List Link → ℕ → List ℕ
parents_of links k = map (λ (l : Link). l.parent) (filter (λ (l : Link). l.child == k) links)

abbrev pub AreEmpty : {A : Type 0} → ℕ → List (Vec ℕ A) → Type 0
AreEmpty count rows = EachRow count (λ _ row. row ≡ []) (map items_of rows)

abbrev pub AreParents : {A : Type 0} → List Link → ℕ → List (Vec ℕ A) → Type 0
AreParents links count rows = EachRow count (λ k row. row ≡ parents_of links k) (map items_of rows)

abbrev pub AreWithin : List (List ℕ) → Type 0
AreWithin rows = (k x : ℕ) → Contains (row_at rows k) x → x < length rows

pub record Adds (old xs new : List ℕ) : Type 0 where
  pub more : List ℕ
  pub is : new ≡ old ++ more
  pub from : (x : ℕ) → Contains more x → Contains xs x
  pub all : (x : ℕ) → Contains xs x → Contains new x

abbrev pub IsClosed : List (List ℕ) → (ℕ → Bool) → Type 0
IsClosed rows inside = (a x : ℕ) → inside a ≡ true → Contains (row_at rows a) x → inside x ≡ true

pub record IsReached (rows : List (List ℕ)) (k : ℕ) (reached : List ℕ) : Type 0 where
  pub distinct : IsDistinct nat_eq reached
  pub within : (x : ℕ) → Contains reached x → x < length rows
  pub itself : Contains reached k
  pub closed : (a x : ℕ) → Contains reached a → Contains (row_at rows a) x → Contains reached x
  pub least : (inside : ℕ → Bool) → IsClosed rows inside → inside k ≡ true → (a : ℕ) → Contains reached a → inside a ≡ true

abbrev pub AreReached : {A : Type 0} → List (Vec ℕ A) → List (List ℕ) → Type 0
AreReached parents = EachRow (length parents) (IsReached (map items_of parents))

-- 0 is the number of `object`
abbrev pub in_row : List ℕ → ℕ → Bool
in_row row o = (o == 0) || list_any (λ x. nat_eq x o) row

abbrev pub is_round : List (List ℕ) → Link → Bool
is_round rows l = not ((l.child == 0) && (l.parent == 0)) && in_row (row_at rows l.parent) l.child

-- a set of numbers that has a and the row of each of its numbers has b
abbrev pub Leads : List (List ℕ) → ℕ → ℕ → Type 0
Leads rows a b = (inside : ℕ → Bool) → IsClosed rows inside → inside a ≡ true → inside b ≡ true

pub record HasRound (rows : List (List ℕ)) : Type 0 where
  pub child : ℕ
  pub parent : ℕ
  pub declared : Contains (row_at rows child) parent
  pub real : child ≡ 0 → parent ≡ 0 → ⊥
  pub back : (child ≡ 0) ⊎ Leads rows parent child

pub record AreEnds (count : ℕ) (l : Link) : Type 0 where
  pub child : l.child < count
  pub parent : l.parent < count

abbrev pub IsGrown : List (List ℕ) → List ℕ → ℕ → ℕ → List ℕ → Type 0
IsGrown rows kinds x k row = row ≡ row_at rows k ++ cond (list_any (λ y. nat_eq y k) kinds) (x ∷ []) []

abbrev pub IsMember : List (List ℕ) → List ℕ → ℕ → ℕ → List ℕ → Type 0
IsMember rows kinds x k row = row ≡ row_at rows k ++ cond (in_row kinds k) (x ∷ []) []

abbrev pub AddsToRow : {A : Type 0} → List (Vec ℕ A) → List ℕ → ℕ → List (Vec ℕ A) → Type 0
AddsToRow old kinds x new = EachRow (length old) (IsGrown (map items_of old) kinds x) (map items_of new)

abbrev pub AddsObject : {A : Type 0} → List (Vec ℕ A) → List ℕ → ℕ → List (Vec ℕ A) → Type 0
AddsObject old kinds x new = EachRow (length old) (IsMember (map items_of old) kinds x) (map items_of new)
