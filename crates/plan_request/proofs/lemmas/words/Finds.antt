-- What is found among the rows of items.
use Rattle.std.proofs.Common.{◌≡◌, refl, sym, subst, ℕ, zero, suc, ◌+◌, ◌<◌, ◌≤◌, Bool, true, false, cond, List, [], ◌∷◌, ◌++◌, length, Some, None, arith}
use Rattle.std.specs.Prelude.{find, option_and_then, slice_get}
use Rattle.std.specs.Str.{bytes_eq}
use Rattle.clap.specs.Walk.{Row, first_of}
use Rattle.clap.specs.Simple.{Shape}
use Rattle.plan_request.specs.words.Words.{Text, Item, positional, given, is_among, is_plain, positionals_of, read, value_of}
use Rattle.plan_request.specs.words.Table.{IsTable, name_at, row, rows_from}
use Rattle.plan_request.proofs.lemmas.words.Single.{text_refl}
use Rattle.plan_request.proofs.lemmas.words.Walks.{a_value, an_open, a_given, behind_some, differ, flip, if_some, reads}

-- the names of items are options of the command
abbrev pub AreAmong : List Text → List Item → Type 0
AreAmong os [] = Unit {0}
AreAmong os (positional w ∷ is) = AreAmong os is
AreAmong os (given n v ∷ is) = (is_among n os ≡ true) × AreAmong os is

mutual
  pub read_among : (os : List Text) (ws seen : List Text) (items : List Item) → read os seen None ws ≡ Some items → AreAmong os items
  read_among os [] seen items e = let none : [] ≡ items = let x : Some [] ≡ Some items = e in cc in subst (AreAmong os) none tt
  read_among os (w ∷ ws) seen items e = elim (reads os seen w ws items e) [
    | a_value rest plain then is ↦ subst (AreAmong os) (sym is) (read_among os ws seen rest then)
    | an_open n is among new then ↦ read_among_open os ws (seen ++ n ∷ []) n items among then
    | a_given n v rest is among new then whole ↦ subst (AreAmong os) (sym whole) (among, read_among os ws (seen ++ n ∷ []) rest then)
  ]

  read_among_open : (os : List Text) (ws seen : List Text) (n : Text) (items : List Item) → is_among n os ≡ true → read os seen (Some n) ws ≡ Some items → AreAmong os items
  read_among_open os [] seen n items among e = absurd (let x : None ≡ Some items = e in cc)
  read_among_open os (w ∷ ws) seen n items among e =
      let r = behind_some (given n w) _ items (if_some (is_plain w) _ items e).1 in
      subst (AreAmong os) (sym r.2) (among, read_among os ws seen r.0 r.1)

module _ (s : Shape) (os ps : List Text) (t : IsTable s.rules os ps) where
  -- the value of an option
  pub find_option : (n : Text) → is_among n os ≡ true → (items : List Item) (k : ℕ) → AreAmong os items → k + length (positionals_of items) ≤ length ps
      → first_of n (rows_from ps k items) ≡ value_of n items
  find_option n among [] k are fits = refl
  find_option n among (positional w ∷ is) k are fits =
      let other : bytes_eq (name_at ps k) n ≡ false = flip s os ps t (name_at ps k) n (differ s os ps t n (name_at ps k) os among (t.apart k (omega arith))) in
      rw other (find_option n among is (k + 1) are (omega arith))
  find_option n among (given m v ∷ is) k are fits =
      let First : Bool → Type 0 = λ b. option_and_then (λ (r : Row). slice_get r.values 0) (cond b (Some (row m v)) (find (λ (r : Row). bytes_eq r.id n) (rows_from ps k is))) ≡ cond b (Some v) (value_of n is) in
      elim (bytes_eq m n) as First [ true ↦ refl | false ↦ find_option n among is k are.1 fits ]

  -- positional word j, where k stood before
  pub find_positional : (items : List Item) (j k i : ℕ) → j ≡ k + i → AreAmong os items → k + length (positionals_of items) ≤ length ps → i < length (positionals_of items)
      → first_of (name_at ps j) (rows_from ps k items) ≡ slice_get (positionals_of items) i
  find_positional [] j k i at are fits lt = absurd (omega arith)
  find_positional (positional w ∷ is) j k zero at are fits lt =
      let same : k ≡ j = omega arith in
      let here : bytes_eq (name_at ps k) (name_at ps j) ≡ true = subst (λ x. bytes_eq (name_at ps k) (name_at ps x) ≡ true) same (text_refl (name_at ps k)) in
      rw here refl
  find_positional (positional w ∷ is) j k (suc i) at are fits lt =
      let other : bytes_eq (name_at ps k) (name_at ps j) ≡ false = t.distinct k j (omega arith) (omega arith) in
      rw other (find_positional is j (k + 1) i (omega arith) are (omega arith) (omega arith))
  find_positional (given n v ∷ is) j k i at are fits lt =
      let other : bytes_eq n (name_at ps j) ≡ false = differ s os ps t n (name_at ps j) os are.0 (t.apart j (omega arith)) in
      rw other (find_positional is j k i at are.1 fits lt)
