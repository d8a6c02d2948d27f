-- Texts that are put into an ordered set: the order in which they come does not matter, and the set has the texts of the atoms in order.
use Rattle.std.proofs.Common.{◌≡◌, ℕ, zero, suc, ◌+◌, ◌<◌, Bool, true, false, true≢false, not, ◌&&◌, Ordering, List, [], ◌∷◌, ◌++◌, map, length, take, get_or, add-one, if◌then◌else◌, refl, sym, ap, ◌∙◌, arith}
use Rattle.std.specs.List.{list_any, list_all}
use Rattle.std.specs.BTreeSet.{insert_key}
use Rattle.std.specs.declared.cmp.Ordering.TheVariants.{Less, Equal, Greater}
use Rattle.std.specs.Ordering.{is_lt, is_eq, ordering_reverse, match_ordering}
use Rattle.std.proofs.lemmas.Bool.{and_parts}
use Rattle.std.proofs.lemmas.Cmp.{nat_list_cmp_total}
use Rattle.plain_list.specs.Texts.{list_text, compare_texts, rises, rises_behind}
use Rattle.ppddl_model.specs.State.{same_name, GroundAtom}
use Rattle.ppddl_model.proofs.States.{same_name-Decides}
use Rattle.type_table.specs.Numbered.{with_name}
use Rattle.type_table.proofs.Numbered.{same_name_itself}
use Rattle.type_table.proofs.Lists.{by_test}
use Rattle.ground_meaning.specs.refusals.Atoms.{with_atom, by_texts, texts_of}
use Rattle.grounder.specs.texts.Texts.{with_texts}

pub by_order : {A : Type 0} (o : Ordering) → (o ≡ Less → A) → (o ≡ Equal → A) → (o ≡ Greater → A) → A
by_order Less less equal greater = less refl
by_order Equal less equal greater = equal refl
by_order Greater less equal greater = greater refl

pub equal_is : (x y : List ℕ) → compare_texts x y ≡ Equal → x ≡ y
equal_is x y level = (same_name-Decides x y).0 (ap is_eq level)

below_above : (x y : List ℕ) → compare_texts x y ≡ Less → compare_texts y x ≡ Greater
below_above x y less = nat_list_cmp_total.antisymm y x ∙ ap ordering_reverse less

above_below : (x y : List ℕ) → compare_texts x y ≡ Greater → compare_texts y x ≡ Less
above_below x y greater = nat_list_cmp_total.antisymm y x ∙ ap ordering_reverse greater

before : (x y z : List ℕ) → compare_texts x y ≡ Less → compare_texts y z ≡ Less → compare_texts x z ≡ Less
before = nat_list_cmp_total.trans

abbrev pub put : List (List ℕ) → List ℕ → List (List ℕ)
put = insert_key compare_texts

-- ---- two texts may be put in either way round

swap_less : (texts : List (List ℕ)) (a b : List ℕ) → compare_texts a b ≡ Less → put (put texts a) b ≡ put (put texts b) a
swap_less [] a b less =
    let ba : compare_texts b a ≡ Greater = below_above a b less in
    rw (ba, less) refl
swap_less (x ∷ texts) a b less =
    let ba : compare_texts b a ≡ Greater = below_above a b less in
    let later : put (put texts a) b ≡ put (put texts b) a = swap_less texts a b less in
    by_order (compare_texts a x)
    (λ (ax : compare_texts a x ≡ Less). by_order (compare_texts b x)
    (λ (bx : compare_texts b x ≡ Less). rw (ax, ba, bx, less) refl)
    (λ (bx : compare_texts b x ≡ Equal). rw (ax, ba, bx, ax) refl)
    (λ (bx : compare_texts b x ≡ Greater). rw (ax, ba, bx, ax) refl))
    (λ (ax : compare_texts a x ≡ Equal).
    let bx : compare_texts b x ≡ Greater = ap (compare_texts b) (sym (equal_is a x ax)) ∙ ba in
    rw (ax, bx, ax) refl)
    (λ (ax : compare_texts a x ≡ Greater).
    let bx : compare_texts b x ≡ Greater = below_above x b (before x a b (above_below a x ax) less) in
    rw (ax, bx, ax) (ap (λ l. x ∷ l) later))

swap : (texts : List (List ℕ)) (a b : List ℕ) → put (put texts a) b ≡ put (put texts b) a
swap texts a b = by_order (compare_texts a b)
    (λ less. swap_less texts a b less)
    (λ equal. let same = equal_is a b equal in λ i. put (put texts (same i)) (sym same i))
    (λ greater. sym (swap_less texts b a (above_below a b greater)))

put_again : (texts more : List (List ℕ)) (text : List ℕ) → put (with_texts texts more) text ≡ with_texts (put texts text) more
put_again texts [] text = refl
put_again texts (m ∷ more) text = put_again (put texts m) more text ∙ ap (λ l. with_texts l more) (swap texts m text)

-- what an atom that is compared with the first becomes
abbrev placed : GroundAtom → GroundAtom → List GroundAtom → Ordering → List GroundAtom
placed a x atoms order = elim order [ Less ↦ a ∷ x ∷ atoms | Equal ↦ x ∷ atoms | Greater ↦ x ∷ with_atom a atoms ]

with_atom_is : (a : GroundAtom) (atoms : List GroundAtom) → put (map list_text atoms) (list_text a) ≡ map list_text (with_atom a atoms)
with_atom_is a [] = refl
with_atom_is a (x ∷ atoms) = by (compare_texts (list_text a) (list_text x)) (with_atom_is a atoms)
  where
    by : (o : Ordering) → put (map list_text atoms) (list_text a) ≡ map list_text (with_atom a atoms)
        → match_ordering o (list_text a ∷ list_text x ∷ map list_text atoms) (list_text x ∷ map list_text atoms) (list_text x ∷ put (map list_text atoms) (list_text a))
        ≡ map list_text (placed a x atoms o)
    by Less later = refl
    by Equal later = refl
    by Greater later = ap (λ l. list_text x ∷ l) later

pub texts_in_order : (atoms : List GroundAtom) → with_texts [] (map list_text atoms) ≡ texts_of atoms
texts_in_order [] = refl
texts_in_order (a ∷ atoms) =
    sym (put_again [] (map list_text atoms) (list_text a))
    ∙ ap (λ l. put l (list_text a)) (texts_in_order atoms)
    ∙ with_atom_is a (by_texts atoms)

-- ---- texts that pass the same tests

itself : (a : List ℕ) → compare_texts a a ≡ Equal
itself a = by_order (compare_texts a a)
    (λ less. absurd (true≢false (sym (same_name_itself a) ∙ ap is_eq less)))
    (λ equal. equal)
    (λ greater. absurd (true≢false (sym (same_name_itself a) ∙ ap is_eq greater)))

put_twice : (texts : List (List ℕ)) (a : List ℕ) → put (put texts a) a ≡ put texts a
put_twice [] a = let aa = itself a in rw aa refl
put_twice (x ∷ texts) a =
    let aa = itself a in
    let later : put (put texts a) a ≡ put texts a = put_twice texts a in
    by_order (compare_texts a x)
    (λ (ax : compare_texts a x ≡ Less). rw (ax, aa) refl)
    (λ (ax : compare_texts a x ≡ Equal). rw (ax, ax) refl)
    (λ (ax : compare_texts a x ≡ Greater). rw (ax, ax) (ap (λ l. x ∷ l) later))

abbrev pub other : List ℕ → List ℕ → Bool
other y z = not (same_name y z)

pub absorbed : (xs : List (List ℕ)) (y : List ℕ) (texts : List (List ℕ)) → list_all (other y) xs ≡ false → put (with_texts texts xs) y ≡ with_texts texts xs
absorbed [] y texts there = absurd (true≢false there)
absorbed (x ∷ xs) y texts there = by_test (same_name y x)
    (λ e. let same = (same_name-Decides y x).0 e in
    ap (put (with_texts (put texts x) xs)) same
    ∙ put_again (put texts x) xs x ∙ ap (λ l. with_texts l xs) (put_twice texts x))
    (λ e. absorbed xs y (put texts x) (sym (ap (λ t. not t && list_all (other y) xs) e) ∙ there))

all_absorbed : (ys texts : List (List ℕ)) → ((y : List ℕ) → list_all (other y) ys ≡ false → put texts y ≡ texts) → with_texts texts ys ≡ texts
all_absorbed [] texts each = refl
all_absorbed (y ∷ ys) texts each =
    ap (λ l. with_texts l ys) (each y (ap (λ t. not t && list_all (other y) ys) (same_name_itself y)))
    ∙ all_absorbed ys texts (λ z there. each z (ap (λ t. other z y && t) there ∙ never (other z y)))
  where
    never : (a : Bool) → (a && false) ≡ false
    never true = refl
    never false = refl

either_way : (ys texts xs : List (List ℕ)) → with_texts (with_texts texts xs) ys ≡ with_texts (with_texts texts ys) xs
either_way [] texts xs = refl
either_way (y ∷ ys) texts xs = ap (λ l. with_texts l ys) (put_again texts xs y) ∙ either_way ys (put texts y) xs

within : (texts xs ys : List (List ℕ)) → ((g : List ℕ → Bool) → list_all g xs ≡ list_all g ys) → with_texts (with_texts texts xs) ys ≡ with_texts texts xs
within texts xs ys same = all_absorbed ys (with_texts texts xs) (λ y there. absorbed xs y texts (same (other y) ∙ there))

pub same_texts : (texts xs ys : List (List ℕ)) → ((g : List ℕ → Bool) → list_all g xs ≡ list_all g ys) → with_texts texts xs ≡ with_texts texts ys
same_texts texts xs ys same =
    sym (within texts xs ys same) ∙ either_way ys texts xs ∙ within texts ys xs (λ g. sym (same g))

-- ---- texts that rise are distinct

apart : (x y : List ℕ) → compare_texts x y ≡ Less → same_name y x ≡ false
apart x y less = ap is_eq (below_above x y less)

next_apart : (x : List ℕ) (xs : List (List ℕ)) (k : ℕ) (d : List ℕ) → rises_behind compare_texts x xs ≡ true → k < length xs → compare_texts x (get_or xs k d) ≡ Less
next_apart x [] k d rising within = absurd (omega arith)
next_apart x (y ∷ xs) zero d rising within =
    less_is (compare_texts x y) (and_parts (is_lt (compare_texts x y)) (rises_behind compare_texts y xs) rising).0
  where
    less_is : (o : Ordering) → is_lt o ≡ true → o ≡ Less
    less_is Less e = refl
    less_is Equal e = absurd cc
    less_is Greater e = absurd cc
next_apart x (y ∷ xs) (suc k) d rising within =
    let parts = and_parts (is_lt (compare_texts x y)) (rises_behind compare_texts y xs) rising in
    before x y (get_or xs k d) (less_is (compare_texts x y) parts.0) (next_apart y xs k d parts.1 (omega arith))
  where
    less_is : (o : Ordering) → is_lt o ≡ true → o ≡ Less
    less_is Less e = refl
    less_is Equal e = absurd cc
    less_is Greater e = absurd cc

rises_later : (x : List ℕ) (xs : List (List ℕ)) → rises_behind compare_texts x xs ≡ true → rises compare_texts xs ≡ true
rises_later x [] rising = refl
rises_later x (y ∷ xs) rising = (and_parts (is_lt (compare_texts x y)) (rises_behind compare_texts y xs) rising).1

new_at : (xs : List (List ℕ)) (k : ℕ) (d : List ℕ) → rises compare_texts xs ≡ true → k < length xs → list_any (same_name (get_or xs k d)) (take k xs) ≡ false
new_at [] k d rising within = absurd (omega arith)
new_at (x ∷ xs) zero d rising within = refl
new_at (x ∷ xs) (suc k) d rising within =
    let first : same_name (get_or xs k d) x ≡ false = apart x (get_or xs k d) (next_apart x xs k d rising (omega arith)) in
    let later : list_any (same_name (get_or xs k d)) (take k xs) ≡ false = new_at xs k d (rises_later x xs rising) (omega arith) in
    rw first later

take_more : {X : Type 0} (xs : List X) (i : ℕ) (d : X) → i < length xs → take (suc i) xs ≡ take i xs ++ get_or xs i d ∷ []
take_more [] i d within = absurd (omega arith)
take_more (x ∷ xs) zero d within = refl
take_more (x ∷ xs) (suc i) d within = ap (λ l. x ∷ l) (take_more xs i d (omega arith))

-- a text that rises behind the others is put behind them
pub name_added : (xs : List (List ℕ)) (k : ℕ) (d text : List ℕ) (names next : List (List ℕ)) → rises compare_texts xs ≡ true → k < length xs → text ≡ get_or xs k d
    → names ≡ take k xs → next ≡ with_name names text → next ≡ take (k + 1) xs
name_added xs k d text names next rising within is so_far step =
    step ∙ (λ i. with_name (so_far i) (is i))
    ∙ ap (λ b. if b then take k xs else take k xs ++ get_or xs k d ∷ []) (new_at xs k d rising within)
    ∙ sym (take_more xs k d within) ∙ ap (λ j. take j xs) (sym (add-one k))
