-- Sets of numbers as rising lists.
--     insert x xs       the rising list xs with x in it, once
--     rising xs         the numbers of xs in rising order, each once
--     less xs gone      the numbers of xs that are not in gone
use Rattle.std.specs.Prelude.{ℕ, not, true, false, nat_eq, nat_lt, List, [], ◌∷◌, filter}
use Rattle.ground_model.specs.Choices.{is_member}

abbrev pub insert : ℕ → List ℕ → List ℕ
insert x [] = x ∷ []
insert x (y ∷ ys) = elim (nat_lt x y) [
  | true ↦ x ∷ y ∷ ys
  | false ↦ elim (nat_eq x y) [ true ↦ y ∷ ys | false ↦ y ∷ insert x ys ]
]

abbrev pub rising : List ℕ → List ℕ
rising [] = []
rising (x ∷ xs) = insert x (rising xs)

abbrev pub less : List ℕ → List ℕ → List ℕ
less xs gone = filter (λ q. not (is_member gone q)) xs
