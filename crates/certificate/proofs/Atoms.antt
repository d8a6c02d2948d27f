-- Atoms one after the other, as a loop reads them.
use Rattle.std.proofs.Common.{◌≡◌, ℕ, ◌<◌, false, eqb, List, [], ◌∷◌, ◌++◌, length, Option, Some, None, option_map, refl, ap, sym, ◌∙◌, arith, append_assoc, length-append}
use Rattle.std.proofs.lemmas.List.{append-nil, nil_from_length}
use Rattle.certificate.specs.Decoding.{◌>>=◌, cut, parts, atom_of, atom_at, atoms_of}
use Rattle.certificate.proofs.Steps.{some_is, chained}
use Rattle.certificate.proofs.Cuts.{cut_is_parts}
use Rattle.certificate.proofs.Parts.{HasFirst-parts, parts_cut, parts_whole}

-- what was read before, and what is still read
abbrev pub with_front : List (List ℕ) → Option (List (List ℕ)) → Option (List (List ℕ))
with_front front read = option_map (λ others. front ++ others) read

regroup : (front : List (List ℕ)) (atom : List ℕ) (read : Option (List (List ℕ))) → with_front front (read >>= λ others. Some (atom ∷ others)) ≡ with_front (front ++ atom ∷ []) read
regroup front atom None = refl
regroup front atom (Some others) = ap (λ (atoms : List (List ℕ)). Some atoms) (sym (append_assoc front (atom ∷ []) others))

abbrev before : List ℕ → List ℕ → Option (List ℕ × List ℕ)
before rest atom = Some (atom, rest)

-- an atom, and those behind it
pub atoms_more : (text atom rest : List ℕ) → atom_at text ≡ Some (atom, rest) → atoms_of (parts 41 text) ≡ (atoms_of (parts 41 rest) >>= λ others. Some (atom ∷ others))
unfolding atom_at
atoms_more text atom rest e =
    let found = chained (cut 41 text) (λ p. atom_of p.0 >>= λ a. Some (a, p.1)) (atom, rest) e in
    let one = chained (atom_of found.0.0) (λ a. Some (a, found.0.1)) (atom, rest) found.2 in
    let is = some_is (one.0, found.0.1) (atom, rest) one.2 in
    let same : one.0 ≡ atom = ap (λ (p : List ℕ × List ℕ). p.0) is in
    let after : found.0.1 ≡ rest = ap (λ (p : List ℕ × List ℕ). p.1) is in
    let first : atom_of found.0.0 ≡ Some atom = one.1 ∙ ap (λ (a : List ℕ). Some a) same in
    let ended : parts 41 text ≡ found.0.0 ∷ parts 41 rest = parts_cut 41 text found.0.0 found.0.1 found.1 ∙ ap (λ (r : List ℕ). found.0.0 ∷ parts 41 r) after in
    let next = HasFirst-parts 41 rest in
    rw (ended, next.is, first) refl

-- no atom where something stands
pub atoms_fail : (text : List ℕ) → eqb (length text) 0 ≡ false → atom_at text ≡ None → atoms_of (parts 41 text) ≡ None
unfolding atom_at
atoms_fail text some e = by (cut 41 text) refl
  where
    no_atom : (o : Option (List ℕ)) (rest : List ℕ) → (o >>= before rest) ≡ None → o ≡ None
    no_atom None rest e = refl
    no_atom (Some a) rest e = absurd cc

    by : (o : Option (List ℕ × List ℕ)) → cut 41 text ≡ o → atoms_of (parts 41 text) ≡ None
    by None is = rw (parts_whole 41 text is, some) refl
    by (Some p) is =
        let failed : (atom_of p.0 >>= before p.1) ≡ None = rw is at e in
        let next = HasFirst-parts 41 p.1 in
        rw (parts_cut 41 text p.0 p.1 is, next.is, no_atom (atom_of p.0) p.1 failed) refl

pub goes_on : (front : List (List ℕ)) (text atom rest : List ℕ) (whole : Option (List (List ℕ))) → Some (atom, rest) ≡ atom_at text
    → with_front front (atoms_of (parts 41 text)) ≡ whole → with_front (front ++ atom ∷ []) (atoms_of (parts 41 rest)) ≡ whole
goes_on front text atom rest whole found so_far = sym (ap (with_front front) (atoms_more text atom rest (sym found)) ∙ regroup front atom (atoms_of (parts 41 rest))) ∙ so_far

pub ends : (front : List (List ℕ)) (text : List ℕ) (whole : Option (List (List ℕ))) → length text ≡ 0 → with_front front (atoms_of (parts 41 text)) ≡ whole → whole ≡ Some front
ends front text whole nothing so_far =
    let nil : text ≡ [] = nil_from_length text nothing in
    let done : with_front front (atoms_of (parts 41 text)) ≡ Some front = rw nil (ap (λ (atoms : List (List ℕ)). Some atoms) (append-nil front)) in
    sym so_far ∙ done

pub fails : (front : List (List ℕ)) (text : List ℕ) (whole : Option (List (List ℕ))) → eqb (length text) 0 ≡ false → None ≡ atom_at text → with_front front (atoms_of (parts 41 text)) ≡ whole → whole ≡ None
fails front text whole some found so_far = sym so_far ∙ ap (with_front front) (atoms_fail text some (sym found))

-- each atom leaves less
pub atom_shortens : (text atom rest : List ℕ) → Some (atom, rest) ≡ atom_at text → length rest < length text
unfolding atom_at
atom_shortens text atom rest e =
    let found = chained (cut 41 text) (λ p. atom_of p.0 >>= λ a. Some (a, p.1)) (atom, rest) (sym e) in
    let one = chained (atom_of found.0.0) (λ a. Some (a, found.0.1)) (atom, rest) found.2 in
    let after : found.0.1 ≡ rest = ap (λ (p : List ℕ × List ℕ). p.1) (some_is (one.0, found.0.1) (atom, rest) one.2) in
    let whole : text ≡ found.0.0 ++ 41 ∷ rest = cut_is_parts 41 text found.0.0 found.0.1 found.1 ∙ ap (λ (r : List ℕ). found.0.0 ++ 41 ∷ r) after in
    omega (arith, ap length whole, length-append found.0.0 (41 ∷ rest))
