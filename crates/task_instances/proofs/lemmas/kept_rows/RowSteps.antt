-- Rows of one width in one list of numbers.
use Rattle.std.proofs.Common.{◌≡◌, ℕ, zero, suc, ◌+◌, ◌*◌, ◌-◌, ◌<◌, ◌≤◌, List, [], ◌∷◌, ◌++◌, length, take, drop, get_or, refl, sym, ap, ◌∙◌, arith, add-one, length-drop}
use Rattle.task_instances.specs.kept_rows.Rows.{Table, with_row, rows_of}

take_front : {X : Type 0} (n : ℕ) (xs ys : List X) → n ≤ length xs → take n (xs ++ ys) ≡ take n xs
take_front zero xs ys within = refl
take_front (suc n) [] ys within = absurd (omega arith)
take_front (suc n) (x ∷ xs) ys within = ap (λ l. x ∷ l) (take_front n xs ys (omega arith))

drop_front : {X : Type 0} (n : ℕ) (xs ys : List X) → n ≤ length xs → drop n (xs ++ ys) ≡ drop n xs ++ ys
drop_front zero xs ys within = refl
drop_front (suc n) [] ys within = absurd (omega arith)
drop_front (suc n) (x ∷ xs) ys within = drop_front n xs ys (omega arith)

take_whole : {X : Type 0} (xs : List X) → take (length xs) xs ≡ xs
take_whole [] = refl
take_whole (x ∷ xs) = ap (λ l. x ∷ l) (take_whole xs)

nothing : {X : Type 0} (xs : List X) → length xs ≡ 0 → xs ≡ []
nothing [] none = refl
nothing (x ∷ xs) none = absurd (omega (arith, none))

rest_long : (w n : ℕ) (xs : List ℕ) → length xs ≡ suc n * w → length (drop w xs) ≡ n * w
rest_long w n xs long =
    let many : suc n * w ≡ n * w + w = grind arith in
    length-drop w xs ∙ omega (arith, long, many)

pub rows-push : (w n : ℕ) (xs row : List ℕ) → length xs ≡ n * w → length row ≡ w → rows_of w (suc n) (xs ++ row) ≡ rows_of w n xs ++ row ∷ []
rows-push w zero xs row long wide =
    let none : length xs ≡ 0 = omega (arith, long) in
    ap (λ l. take w (l ++ row) ∷ []) (nothing xs none) ∙ ap (λ k. take k row ∷ []) (sym wide) ∙ ap (λ l. l ∷ []) (take_whole row)
rows-push w (suc n) xs row long wide =
    let many : suc n * w ≡ n * w + w = grind arith in
    let within : w ≤ length xs = omega (arith, long, many) in
    ap (λ l. l ∷ rows_of w (suc n) (drop w (xs ++ row))) (take_front w xs row within)
    ∙ ap (λ l. take w xs ∷ rows_of w (suc n) l) (drop_front w xs row within)
    ∙ ap (λ l. take w xs ∷ l) (rows-push w n (drop w xs) row (rest_long w n xs long) wide)

pub rows-length : (w n : ℕ) (xs : List ℕ) → length (rows_of w n xs) ≡ n
rows-length w zero xs = refl
rows-length w (suc n) xs = ap suc (rows-length w n (drop w xs))

nothing_left : {X : Type 0} (n : ℕ) → drop {A = X} n [] ≡ []
nothing_left zero = refl
nothing_left (suc n) = refl

drop-drop : {X : Type 0} (n m : ℕ) (xs : List X) → drop n (drop m xs) ≡ drop (m + n) xs
drop-drop n zero xs = let none : n ≡ 0 + n = omega arith in ap (λ k. drop k xs) none
drop-drop {X} n (suc m) [] = nothing_left n ∙ sym (nothing_left {X = X} (suc m + n))
drop-drop n (suc m) (x ∷ xs) =
    let more : suc (m + n) ≡ suc m + n = omega arith in
    drop-drop n m xs ∙ ap (λ k. drop k (x ∷ xs)) more

pub rows-get : (w n : ℕ) (xs : List ℕ) (k : ℕ) → k < n → get_or (rows_of w n xs) k [] ≡ take w (drop (k * w) xs)
rows-get w zero xs k within = absurd (omega arith)
rows-get w (suc n) xs zero within =
    let none : 0 ≡ 0 * w = omega arith in ap (λ j. take w (drop j xs)) none
rows-get w (suc n) xs (suc k) within =
    let many : w + k * w ≡ suc k * w = grind arith in
    rows-get w n (drop w xs) k (omega arith) ∙ ap (take w) (drop-drop (k * w) w xs ∙ ap (λ j. drop j xs) many)

pub pushed : (w n : ℕ) (xs ys row : List ℕ) (t : Table) → length xs ≡ n * w → length row ≡ t.width → ys ≡ xs ++ row
    → record { width = w; rows = rows_of w n xs } ≡ t → record { width = w; rows = rows_of w (n + 1) ys } ≡ with_row t row
pushed w n xs ys row t long wide are is =
    let same : w ≡ t.width = ap (λ (u : Table). u.width) is in
    let rows : rows_of w (n + 1) ys ≡ rows_of w n xs ++ row ∷ []
    = ap (λ k. rows_of w k ys) (add-one n) ∙ ap (rows_of w (suc n)) are ∙ rows-push w n xs row long (wide ∙ sym same) in
    let filled : record { width = w; rows = rows_of w (n + 1) ys } ≡ with_row (record { width = w; rows = rows_of w n xs }) row
    = λ i. record { width = w; rows = rows i } in
    filled ∙ ap (λ u. with_row u row) is

-- a row stands within the numbers
pub row_within : (w n k all : ℕ) → all ≡ n * w → k < n → k * w + w ≤ all
row_within w n k all is within =
    let more : n ≡ k + 1 + (n - k - 1) = omega arith in
    let parts : n * w ≡ k * w + w + (n - k - 1) * w = ap (λ m. m * w) more ∙ grind arith in
    omega (arith, is, parts)

pub counted_at : (w n : ℕ) (xs : List ℕ) (t : Table) (place : ℕ) → record { width = w; rows = rows_of w n xs } ≡ t → place < length t.rows → place < n
counted_at w n xs t place is within =
    let long : length t.rows ≡ n = ap (λ (u : Table). length u.rows) (sym is) ∙ rows-length w n xs in
    omega (arith, long, within)
