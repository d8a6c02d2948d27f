-- Rows of numbers of one width.
--     Table                  a width, and rows
--     no_rows width          none
--     with_row t row         the rows, and one behind them
--     rows_of w n xs         the first n rows of w numbers each
use Rattle.std.specs.Prelude.{ℕ, suc, zero, List, [], ◌∷◌, ◌++◌, take, drop}

pub record Table : Type 0 where
  pub width : ℕ
  pub rows : List (List ℕ)

abbrev pub no_rows : ℕ → Table
no_rows width = record { width = width; rows = [] }

abbrev pub with_row : Table → List ℕ → Table
with_row t row = record { width = t.width; rows = t.rows ++ row ∷ [] }

abbrev pub rows_of : ℕ → ℕ → List ℕ → List (List ℕ)
rows_of w zero xs = []
rows_of w (suc n) xs = take w xs ∷ rows_of w n (drop w xs)
