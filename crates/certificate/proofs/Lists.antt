-- Lists of names at the front of a text.
use Rattle.std.proofs.Common.{◌≡◌, ℕ, ◌+◌, ◌≤◌, true, List, [], ◌∷◌, ◌++◌, length, take, drop, ◌-◌, Some, refl, ap, sym, ◌∙◌, arith, append_assoc, length-append}
use Rattle.std.specs.Prelude.{codes}
use Rattle.std.proofs.lemmas.List.{take_at}
use Rattle.certificate.specs.Decoding.{behind, cut, are_names, enclosed, list_at, atom_of, atom_at}
use Rattle.certificate.proofs.Cuts.{behind_is_rest, cut_is_parts}

length-enclosed : (names : List ℕ) → length (enclosed names) ≡ length names + 2
length-enclosed names = omega (arith, length-append names (41 ∷ []))

-- a list that was opened and closed
pub list_found : (text opened names rest : List ℕ) → Some opened ≡ behind (codes "(") text → Some (names, rest) ≡ cut 41 opened → text ≡ enclosed names ++ rest
list_found text opened names rest opens closes =
    let after : text ≡ 40 ∷ opened = behind_is_rest (codes "(") text opened (sym opens) in
    let inner : opened ≡ names ++ 41 ∷ rest = cut_is_parts 41 opened names rest (sym closes) in
    after ∙ ap (λ (x : List ℕ). 40 ∷ x) (inner ∙ sym (append_assoc names (41 ∷ []) rest))

pub list_fits : (text names rest : List ℕ) → text ≡ enclosed names ++ rest → length names + 2 ≤ length text
list_fits text names rest e = omega (arith, length-enclosed names, length-append (enclosed names) rest, ap length e)

pub list_taken : (text names rest : List ℕ) → text ≡ enclosed names ++ rest → take (length names + 2) text ≡ enclosed names
list_taken text names rest e = rw e (take_at (enclosed names) rest (length names + 2) (length-enclosed names))

pub list_is : (text opened names rest : List ℕ) → Some opened ≡ behind (codes "(") text → Some (names, rest) ≡ cut 41 opened → are_names names ≡ true → list_at text ≡ Some (enclosed names, rest)
unfolding list_at
list_is text opened names rest opens closes named = rw (← opens, ← closes, named) refl

-- a list behind a blank
pub atom_found : (text part names rest : List ℕ) → Some (part, rest) ≡ cut 41 text → Some names ≡ behind (codes " (") part → text ≡ 32 ∷ (enclosed names ++ rest)
atom_found text part names rest closes opens =
    let whole : text ≡ part ++ 41 ∷ rest = cut_is_parts 41 text part rest (sym closes) in
    let inner : part ≡ 32 ∷ 40 ∷ names = behind_is_rest (codes " (") part names (sym opens) in
    whole ∙ ap (λ (x : List ℕ). x ++ 41 ∷ rest) inner ∙ ap (λ (x : List ℕ). 32 ∷ 40 ∷ x) (sym (append_assoc names (41 ∷ []) rest))

pub atom_fits : (text names rest : List ℕ) → text ≡ 32 ∷ (enclosed names ++ rest) → length names + 3 ≤ length text
atom_fits text names rest e = omega (arith, length-enclosed names, length-append (enclosed names) rest, ap length e)

pub atom_taken : (text names rest : List ℕ) → text ≡ 32 ∷ (enclosed names ++ rest) → take (length names + 3 - 1) (drop 1 text) ≡ enclosed names
atom_taken text names rest e =
    let count : length names + 3 - 1 ≡ length names + 2 = omega arith in
    rw (count, e) (take_at (enclosed names) rest (length names + 2) (length-enclosed names))

pub atom_is : (text part names rest : List ℕ) → Some (part, rest) ≡ cut 41 text → Some names ≡ behind (codes " (") part → are_names names ≡ true → atom_at text ≡ Some (enclosed names, rest)
unfolding atom_at atom_of
atom_is text part names rest closes opens named = rw (← closes, ← opens, named) refl
