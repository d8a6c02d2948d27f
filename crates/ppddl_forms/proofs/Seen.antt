-- Lists that grow: names that were seen, in a set that keeps their order, and items that are repeated.
use Rattle.std.proofs.Common.{◌≡◌, ℕ, suc, ◌-◌, ◌<◌, List, [], ◌∷◌, ◌++◌, length, false, refl, sym, ap, ◌∙◌, append_assoc, length-append, arith}
use Rattle.std.specs.Prelude.{replicate}
use Rattle.std.specs.List.{list_any}
use Rattle.indexmap.specs.IndexSet.{insert_key}
use Rattle.ppddl_cursor.specs.Ahead.{same}

-- a new name goes last
pub insert_new : (seen : List (List ℕ)) (w : List ℕ) → list_any (same w) seen ≡ false → insert_key same seen w ≡ seen ++ w ∷ []
insert_new seen w fresh = rw fresh refl

-- one more of those that are repeated
pub replicate_next : {A : Type 0} (xs : List A) (n : ℕ) (x : A) → length xs < n
    → (xs ++ x ∷ []) ++ replicate (n - length (xs ++ x ∷ [])) x ≡ xs ++ replicate (n - length xs) x
replicate_next {A} xs n x below =
    let left : n - length xs ≡ suc (n - length (xs ++ x ∷ [])) = omega (arith, length-append xs (x ∷ [])) in
    append_assoc xs (x ∷ []) (replicate (n - length (xs ++ x ∷ [])) x) ∙ ap (λ k. xs ++ replicate k x) (sym left)
