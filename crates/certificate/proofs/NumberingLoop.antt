-- Names that a loop puts in a table, and numbers that it makes of them.
use Rattle.std.proofs.Common.{◌≡◌, inl, inr, ℕ, ◌+◌, ◌<◌, zero, suc, List, [], ◌∷◌, ◌++◌, length, get_or, take, drop, map, refl, ap, sym, subst, ◌∙◌, arith}
use Rattle.std.specs.List.{flat_map, AllByRecursion}
use Rattle.std.specs.BTreeSet.{insert_key}
use Rattle.std.proofs.lemmas.List.{at_drop_more, take_more}
use Rattle.plain_list.specs.Texts.{compare_texts}
use Rattle.certificate.specs.declared.named.NamedRow.{NamedRow}
use Rattle.certificate.specs.Numbering.{Among, filled}

filled-append : (table xs ys : List (List ℕ)) → filled table (xs ++ ys) ≡ filled (filled table xs) ys
filled-append table [] ys = refl
filled-append table (x ∷ xs) ys = filled-append (insert_key compare_texts table x) xs ys

-- the names of a row and of those behind it
pub rows_more : (names : NamedRow → List (List ℕ)) (table : List (List ℕ)) (rows : List NamedRow) (i : ℕ) (r : NamedRow) → i < length rows → r ≡ get_or rows i r → filled table (flat_map names (drop i rows)) ≡ filled (filled table (names r)) (flat_map names (drop (i + 1) rows))
rows_more names table rows i r lt is =
    at_drop_more (λ (rest : List NamedRow). filled table (flat_map names rest)) rows i r lt
    ∙ filled-append table (names (get_or rows i r)) (flat_map names (drop (i + 1) rows))
    ∙ ap (λ (s : NamedRow). filled (filled table (names s)) (flat_map names (drop (i + 1) rows))) (sym is)

map-append : {A B : Type 0} (f : A → B) (xs ys : List A) → map f (xs ++ ys) ≡ map f xs ++ map f ys
map-append f [] ys = refl
map-append {A} {B} f (x ∷ xs) ys = ap (λ (rest : List B). f x ∷ rest) (map-append f xs ys)

pub map_more : {A B : Type 0} (f : A → B) (xs : List A) (i : ℕ) (x : A) → i < length xs → x ≡ get_or xs i x → map f (take (i + 1) xs) ≡ map f (take i xs) ++ f x ∷ []
map_more {A} {B} f xs i x lt is =
    ap (map f) (take_more xs i x lt) ∙ map-append f (take i xs) (get_or xs i x ∷ []) ∙ ap (λ (y : A). map f (take i xs) ++ f y ∷ []) (sym is)

pub among_at : (texts : List (List ℕ)) (i : ℕ) (text : List ℕ) → i < length texts → text ≡ get_or texts i text → Among texts text
among_at [] i text lt is = absurd (omega (arith, lt))
among_at (x ∷ texts) zero text lt is = inl (sym is)
among_at (x ∷ texts) (suc i) text lt is = inr (among_at texts i text (omega (arith, lt)) is)

pub all_at : {A : Type 0} (P : A → Type 0) (xs : List A) (i : ℕ) (x : A) → AllByRecursion P xs → i < length xs → x ≡ get_or xs i x → P x
all_at P [] i x all lt is = absurd (omega (arith, lt))
all_at P (y ∷ xs) zero x all lt is = subst P (sym is) all.0
all_at P (y ∷ xs) (suc i) x all lt is = all_at P xs i x all.1 (omega (arith, lt)) is
