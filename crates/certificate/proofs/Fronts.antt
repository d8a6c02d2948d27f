-- Items that a loop has read, before those that are still to be read.
use Rattle.std.proofs.Common.{◌≡◌, List, [], ◌∷◌, ◌++◌, Option, Some, None, option_map, refl, ap, sym, append_assoc}
use Rattle.certificate.specs.Decoding.{◌>>=◌}

-- what was read before, and what is still read
abbrev pub with_front : {A : Type 0} → List A → Option (List A) → Option (List A)
with_front front read = option_map (λ others. front ++ others) read

pub regroup : {A : Type 0} (front : List A) (x : A) (read : Option (List A)) → with_front front (read >>= λ others. Some (x ∷ others)) ≡ with_front (front ++ x ∷ []) read
regroup front x None = refl
regroup {A} front x (Some others) = ap (λ (items : List A). Some items) (sym (append_assoc front (x ∷ []) others))
