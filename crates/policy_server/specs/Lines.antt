-- Lines of an input. A line ends with a line feed; the last one may lack it. There is no public standard of the protocol: a query is
-- one line of text, and so is its answer.
--     fed line                the line with its line feed
--     IsWhole line            no line feed stands in it
--     cut_of bytes            the lines that a line feed ends, and the rest behind the last line feed
--     queries_of bytes ended  the queries that the bytes complete: each line that a line feed ends; where the input ended behind them,
--                             also the rest, if it is not empty
use Rattle.std.specs.Prelude.{◌≢◌, ℕ, ◌==◌, Bool, true, false, cond, List, [], ◌∷◌, ◌++◌}
use Rattle.std.specs.List.{AllByRecursion}

abbrev pub fed : List ℕ → List ℕ
fed line = line ++ 10 ∷ []

abbrev pub IsWhole : List ℕ → Type 0
IsWhole line = AllByRecursion (λ b. b ≢ 10) line

pub record Cut : Type 0 where
  pub lines : List (List ℕ)
  pub rest : List ℕ

abbrev pub cut_with : List (List ℕ) → List ℕ → Cut
cut_with lines rest = record { lines = lines; rest = rest }

-- a byte in front of the first line
abbrev pub in_front : ℕ → List (List ℕ) → List ℕ → Cut
in_front b [] rest = cut_with [] (b ∷ rest)
in_front b (line ∷ lines) rest = cut_with ((b ∷ line) ∷ lines) rest

abbrev pub cut_of : List ℕ → Cut
cut_of [] = cut_with [] []
cut_of (b ∷ bs) =
    cond (b == 10) (cut_with ([] ∷ (cut_of bs).lines) (cut_of bs).rest)
    (in_front b (cut_of bs).lines (cut_of bs).rest)

-- the last line, which lacks its line feed
abbrev pub last_line : Bool → List ℕ → List (List ℕ)
last_line false rest = []
last_line true [] = []
last_line true (b ∷ bs) = (b ∷ bs) ∷ []

abbrev pub queries_of : List ℕ → Bool → List (List ℕ)
queries_of bytes ended = (cut_of bytes).lines ++ last_line ended (cut_of bytes).rest
