-- What holds at all places of a list.
use Rattle.std.proofs.Common.{◌≡◌, suc, List, ◌∷◌, All, subst, arith}

-- what holds of all items holds of all behind the first
pub all_behind : {X : Type 0} (P : X → Type 0) {xs rest : List X} {x : X} → xs ≡ x ∷ rest → All P xs → All P rest
all_behind P is all k d below = subst (All P) is all (suc k) d (omega arith)
