-- Parts that were put one behind the other.
use Rattle.std.proofs.Common.{◌≡◌, ℕ, ◌+◌, ◌<◌, ◌≤◌, List, [], ◌∷◌, ◌++◌, length, get_or, take, drop, map, Some, refl, ap, sym, ◌∙◌, arith, append_assoc, length-append}
use Rattle.std.specs.Prelude.{codes, Err}
use Rattle.std.specs.List.{flat_map, slice_get}
use Rattle.std.proofs.lemmas.List.{append-nil, take-append-drop, take_more}
use Rattle.std.proofs.lemmas.List.Concat.{flat_map-append}
use Rattle.std.proofs.lemmas.Option.{slice_get_within, get_or_from_slice_get}
use Rattle.certificate.specs.Rows.{Row}
use Rattle.certificate.specs.Spelling.{row_line, named_row_line}
use Rattle.certificate.specs.Content.{ended, named_row}
use Rattle.certificate.specs.declared.refusal.WriteRefusal.{WriteRefusal}
use Rattle.certificate.specs.declared.refusal.WriteRefusal.TheVariants.{TooLong, Memory}
use Rattle.certificate.specs.Answers.{Appends}

-- ---- one more item

pub more_pushed : {A : Type 0} (f : A → List ℕ) (old now new : List ℕ) (xs : List A) (i : ℕ) (x : A) → i < length xs → x ≡ get_or xs i x → now ≡ old ++ flat_map f (take i xs) → new ≡ now ++ f x → new ≡ old ++ flat_map f (take (i + 1) xs)
more_pushed {A} f old now new xs i x lt is before pushed =
    let more : take (i + 1) xs ≡ take i xs ++ x ∷ [] = take_more xs i x lt ∙ ap (λ (y : A). take i xs ++ y ∷ []) (sym is) in
    let one : flat_map f (take (i + 1) xs) ≡ flat_map f (take i xs) ++ f x =
    ap (flat_map f) more ∙ flat_map-append f (take i xs) (x ∷ []) ∙ ap (λ (y : List ℕ). flat_map f (take i xs) ++ y) (append-nil (f x)) in
    pushed ∙ ap (λ (y : List ℕ). y ++ f x) before ∙ append_assoc old (flat_map f (take i xs)) (f x) ∙ ap (λ (y : List ℕ). old ++ y) (sym one)

pub flat_map-map : {A B : Type 0} (f : B → List ℕ) (g : A → B) (xs : List A) → flat_map f (map g xs) ≡ flat_map (λ x. f (g x)) xs
flat_map-map f g [] = refl
flat_map-map f g (x ∷ xs) = ap (λ (y : List ℕ). f (g x) ++ y) (flat_map-map f g xs)

-- the text of some first items is no longer than that of them all
pub text_longer : {A : Type 0} (f : A → List ℕ) (old : List ℕ) (xs : List A) (i : ℕ) → length (old ++ flat_map f (take i xs)) ≤ length (old ++ flat_map f xs)
text_longer f old xs i =
    let cut : flat_map f xs ≡ flat_map f (take i xs) ++ flat_map f (drop i xs) = ap (flat_map f) (sym (take-append-drop i xs)) ∙ flat_map-append f (take i xs) (drop i xs) in
    omega (
      arith,
      ap length cut,
      length-append old (flat_map f (take i xs)),
      length-append old (flat_map f xs),
      length-append (flat_map f (take i xs)) (flat_map f (drop i xs)),
    )

-- ---- rows one after the other, whose lines are written so

module _ (f : Row → List ℕ) (written : List Row → List ℕ) (is : (rows : List Row) → written rows ≡ flat_map f rows) (old now new : List ℕ) (rows : List Row) (i : ℕ) (r : Row) where
  pub rows_pushed : slice_get rows i ≡ Some r → now ≡ old ++ written (take i rows) → new ≡ now ++ f r → new ≡ old ++ written (take (i + 1) rows)
  rows_pushed at before pushed =
      more_pushed f old now new rows i r (slice_get_within rows i r at) (sym (get_or_from_slice_get rows i r r at)) (before ∙ ap (λ (y : List ℕ). old ++ y) (is (take i rows))) pushed
      ∙ ap (λ (y : List ℕ). old ++ y) (sym (is (take (i + 1) rows)))

  pub rows_too_long : (most : ℕ) → slice_get rows i ≡ Some r → now ≡ old ++ written (take i rows) → new ≡ now ++ f r → most < length new → most < length (old ++ written rows)
  rows_too_long most at before pushed above =
      omega (
        arith,
        above,
        ap length (rows_pushed at before pushed),
        ap (λ (y : List ℕ). length (old ++ y)) (is (take (i + 1) rows)),
        ap (λ (y : List ℕ). length (old ++ y)) (is rows),
        text_longer f old rows (i + 1),
      )

pub numbered_written : (rows : List Row) → flat_map ended (map row_line rows) ≡ flat_map (λ r. ended (row_line r)) rows
numbered_written rows = flat_map-map ended row_line rows

pub named_written : (atoms acts : List (List ℕ)) (rows : List Row) → flat_map ended (map named_row_line (map (named_row atoms acts) rows)) ≡ flat_map (λ r. ended (named_row_line (named_row atoms acts r))) rows
named_written atoms acts rows = flat_map-map ended named_row_line (map (named_row atoms acts) rows) ∙ flat_map-map (λ r. ended (named_row_line r)) (named_row atoms acts) rows

-- ---- the lines of version 2

lines_joined : (old k a j t n rows : List ℕ) → (((((old ++ k) ++ a) ++ j) ++ t) ++ n) ++ rows ≡ old ++ (k ++ (a ++ (j ++ (t ++ (n ++ rows)))))
lines_joined old k a j t n rows = simp append_assoc

module _ (old k j n : List ℕ) (atoms acts rows : List (List ℕ)) where
  abbrev pub lines : List ℕ
  lines = flat_map ended (k ∷ atoms ++ (j ∷ acts ++ (n ∷ rows ++ codes "end" ∷ [])))

  abbrev pub so_far : List ℕ
  so_far = ((((old ++ ended k) ++ flat_map ended atoms) ++ ended j) ++ flat_map ended acts) ++ ended n

  lines_are : lines ≡ ended k ++ (flat_map ended atoms ++ (ended j ++ (flat_map ended acts ++ (ended n ++ (flat_map ended rows ++ (codes "end" ++ 10 ∷ []))))))
  lines_are =
      ap (λ (x : List ℕ). ended k ++ x) (flat_map-append ended atoms (j ∷ acts ++ (n ∷ rows ++ codes "end" ∷ [])))
      ∙ ap (λ (x : List ℕ). ended k ++ (flat_map ended atoms ++ (ended j ++ x))) (flat_map-append ended acts (n ∷ rows ++ codes "end" ∷ []))
      ∙ ap (λ (x : List ℕ). ended k ++ (flat_map ended atoms ++ (ended j ++ (flat_map ended acts ++ (ended n ++ x))))) (flat_map-append ended rows (codes "end" ∷ []))

  pub lines_pushed : (so_far ++ flat_map ended rows) ++ (codes "end" ++ 10 ∷ []) ≡ old ++ lines
  lines_pushed =
      append_assoc so_far (flat_map ended rows) (codes "end" ++ 10 ∷ [])
      ∙ lines_joined old (ended k) (flat_map ended atoms) (ended j) (flat_map ended acts) (ended n) (flat_map ended rows ++ (codes "end" ++ 10 ∷ []))
      ∙ ap (λ (x : List ℕ). old ++ x) (sym lines_are)

  pub lines_too_long : (most : ℕ) → most < length (so_far ++ flat_map ended rows) → most < length (old ++ lines)
  lines_too_long most above = omega (arith, above, ap length lines_pushed, length-append (so_far ++ flat_map ended rows) (codes "end" ++ 10 ∷ []))

pub Appends-err : (most : ℕ) (rows text now new old after : List ℕ) (e : WriteRefusal) → Appends most rows now new (Err e) → (most < length (now ++ rows) → most < length (old ++ text)) → Appends most text old after (Err e)
Appends-err most rows text now new old after TooLong above longer = longer above
Appends-err most rows text now new old after Memory above longer = tt
