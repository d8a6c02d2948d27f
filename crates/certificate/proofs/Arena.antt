-- Rows in an arena: earlier rows stay where numbers are put behind.
use Rattle.std.proofs.Common.{◌≡◌, ℕ, ◌-◌, List, [], ◌∷◌, ◌++◌, length, map, take, drop, refl, ap, ◌∙◌, arith, length-append}
use Rattle.std.specs.List.{AllByRecursion}
use Rattle.std.proofs.lemmas.List.{length-drop, take-append-le, drop-append-le}
use Rattle.std.proofs.Math.Seq.{take-length, drop-append_seam}
use Rattle.certificate.specs.declared.rows.Head.{Head}
use Rattle.certificate.specs.Rows.{Row, row_within, IsWithin}

row_stays : (numbers more : List ℕ) (h : Head) → IsWithin (length numbers) h → row_within (numbers ++ more) h ≡ row_within numbers h
row_stays numbers more h is =
    let kept : take (h.to - h.from) (drop h.from (numbers ++ more)) ≡ take (h.to - h.from) (drop h.from numbers) =
    ap (take (h.to - h.from)) (drop-append-le h.from numbers more (omega (arith, is.0, is.1)))
    ∙ take-append-le (h.to - h.from) (drop h.from numbers) more (omega (arith, is.0, is.1, length-drop h.from numbers)) in
    ap (λ (atoms : List ℕ). record { lower = h.lower; upper = h.upper; act = h.act; atoms = atoms }) kept

rows_stay : (numbers more : List ℕ) (heads : List Head) → AllByRecursion (IsWithin (length numbers)) heads → map (row_within (numbers ++ more)) heads ≡ map (row_within numbers) heads
rows_stay numbers more [] are = refl
rows_stay numbers more (h ∷ heads) are =
    ap (λ (r : Row). r ∷ map (row_within (numbers ++ more)) heads) (row_stays numbers more h are.0)
    ∙ ap (λ (rows : List Row). row_within numbers h ∷ rows) (rows_stay numbers more heads are.1)

map-append : (f : Head → Row) (xs ys : List Head) → map f (xs ++ ys) ≡ map f xs ++ map f ys
map-append f [] ys = refl
map-append f (x ∷ xs) ys = ap (λ (rows : List Row). f x ∷ rows) (map-append f xs ys)

pub row_pushed : (numbers more : List ℕ) (heads : List Head) (h : Head) → AllByRecursion (IsWithin (length numbers)) heads → h.from ≡ length numbers → h.to ≡ length (numbers ++ more)
    → map (row_within (numbers ++ more)) (heads ++ h ∷ []) ≡ map (row_within numbers) heads ++ record { lower = h.lower; upper = h.upper; act = h.act; atoms = more } ∷ []
row_pushed numbers more heads h are from to =
    let behind : drop h.from (numbers ++ more) ≡ more = ap (λ (n : ℕ). drop n (numbers ++ more)) from ∙ drop-append_seam numbers more in
    let count : h.to - h.from ≡ length more = omega (arith, from, to, length-append numbers more) in
    let own : take (h.to - h.from) (drop h.from (numbers ++ more)) ≡ more = ap (take (h.to - h.from)) behind ∙ ap (λ (n : ℕ). take n more) count ∙ take-length more in
    map-append (row_within (numbers ++ more)) heads (h ∷ [])
    ∙ ap (λ (rows : List Row). rows ++ row_within (numbers ++ more) h ∷ []) (rows_stay numbers more heads are)
    ∙ ap (λ (atoms : List ℕ). map (row_within numbers) heads ++ record { lower = h.lower; upper = h.upper; act = h.act; atoms = atoms } ∷ []) own
