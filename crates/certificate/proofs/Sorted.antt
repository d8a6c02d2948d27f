-- Tables of texts that rise: their order, their entries and the places of these.
use Rattle.std.proofs.Common.{◌≡◌, ◌⊎◌, inl, inr, ℕ, zero, suc, ◌<◌, Bool, true, false, cond, List, [], ◌∷◌, length, refl, ap, sym, subst, ◌∙◌, arith, Ordering}
use Rattle.std.specs.declared.cmp.Ordering.TheVariants.{Less, Equal, Greater}
use Rattle.std.specs.List.{AllByRecursion}
use Rattle.std.specs.List.Sorted.{IsStrictlySortedBy}
use Rattle.std.specs.Ordering.{nat_cmp, is_lt, match_ordering}
use Rattle.std.specs.Str.{bytes_eq}
use Rattle.std.specs.BTreeSet.{insert_key}
use Rattle.std.specs.Cmp.Lexicographic.{nat_list_cmp_total}
use Rattle.std.proofs.lemmas.Bool.{cases_lt, and_parts, lt-ltb, le-ltb, eq-eqb, ne_eqb}
use Rattle.std.proofs.lemmas.Slice.Eq.{bytes_eq-Decides}
use Rattle.std.proofs.lemmas.Map.Keys.{Less-from_sorted}
use Rattle.std.proofs.lemmas.Map.Text.{is_eq-slice_cmp}
use Rattle.plain_list.specs.Texts.{compare_texts, rises, rises_behind}
use Rattle.certificate.specs.Content.{name_at}
use Rattle.certificate.specs.Numbering.{Among, filled, table_of, place_of}

-- ---- the order of texts

less_is : (o : Ordering) → is_lt o ≡ true → o ≡ Less
less_is Less e = refl
less_is Equal e = absurd cc
less_is Greater e = absurd cc

no_greater : {A : Type 0} → (let o : Ordering = Greater in o) ≡ Less → A
no_greater e = absurd cc

no_equal : {A : Type 0} → (let o : Ordering = Equal in o) ≡ Less → A
no_equal e = absurd cc

before : (x y z : List ℕ) → compare_texts x y ≡ Less → compare_texts y z ≡ Less → compare_texts x z ≡ Less
before = nat_list_cmp_total.trans

behind : (x y : List ℕ) → compare_texts x y ≡ Less → compare_texts y x ≡ Greater
behind x y less = nat_list_cmp_total.antisymm y x ∙ rw less refl

flipped : (x y : List ℕ) → compare_texts x y ≡ Greater → compare_texts y x ≡ Less
flipped x y greater = nat_list_cmp_total.antisymm y x ∙ rw greater refl

pub same_as : (x : List ℕ) → compare_texts x x ≡ Equal
same_as [] = refl
same_as (b ∷ x) = rw (eq-eqb b b refl, le-ltb b b (omega arith)) (same_as x)

pub equal_is : (x y : List ℕ) → compare_texts x y ≡ Equal → x ≡ y
equal_is x y e = (bytes_eq-Decides x y).0 (sym (is_eq-slice_cmp x y) ∙ rw e refl)

no_less : (x : List ℕ) → compare_texts x x ≡ Less → ⊥
no_less x e = no_equal (sym (same_as x) ∙ e)

-- ---- tables that rise

All-map : {A : Type 0} (P Q : A → Type 0) (xs : List A) → ((x : A) → P x → Q x) → AllByRecursion P xs → AllByRecursion Q xs
All-map P Q [] f all = tt
All-map P Q (x ∷ xs) f all = (f x all.0, All-map P Q xs f all.1)

abbrev pub Sorted : List (List ℕ) → Type 0
Sorted table = IsStrictlySortedBy compare_texts table

-- each of these is above x
abbrev Above : List ℕ → List (List ℕ) → Type 0
Above x table = AllByRecursion (λ y. compare_texts x y ≡ Less) table

sorted_behind : (x : List ℕ) (table : List (List ℕ)) → rises_behind compare_texts x table ≡ true → Above x table × Sorted table
unfolding IsStrictlySortedBy
sorted_behind x [] e = (tt, tt)
sorted_behind x (y ∷ table) e =
    let both = and_parts (is_lt (compare_texts x y)) (rises_behind compare_texts y table) e in
    let rest = sorted_behind y table both.1 in
    let first = less_is (compare_texts x y) both.0 in
    ((first, All-map (λ z. compare_texts y z ≡ Less) (λ z. compare_texts x z ≡ Less) table (λ z less. before x y z first less) rest.0), rest)

pub sorted_is : (table : List (List ℕ)) → rises compare_texts table ≡ true → Sorted table
unfolding IsStrictlySortedBy
sorted_is [] e = tt
sorted_is (x ∷ table) e = sorted_behind x table e

rise_behind : (x : List ℕ) (table : List (List ℕ)) → Above x table → Sorted table → rises_behind compare_texts x table ≡ true
unfolding IsStrictlySortedBy
rise_behind x [] above sorted = refl
rise_behind x (y ∷ table) above sorted = rw (above.0, rise_behind y table sorted.0 sorted.1) refl

pub sorted_rises : (table : List (List ℕ)) → Sorted table → rises compare_texts table ≡ true
unfolding IsStrictlySortedBy
sorted_rises [] sorted = refl
sorted_rises (x ∷ table) sorted = rise_behind x table sorted.0 sorted.1

-- ---- what is put in its place

by_order : {A : Type 0} (o : Ordering) → (o ≡ Less → A) → (o ≡ Equal → A) → (o ≡ Greater → A) → A
by_order Less less equal greater = less refl
by_order Equal less equal greater = equal refl
by_order Greater less equal greater = greater refl

pub insert_all : (P : List ℕ → Type 0) (table : List (List ℕ)) (k : List ℕ) → P k → AllByRecursion P table → AllByRecursion P (insert_key compare_texts table k)
insert_all P [] k p all = (p, tt)
insert_all P (x ∷ table) k p all = by (compare_texts k x) (insert_all P table k p all.1)
  where
    by : (o : Ordering) → AllByRecursion P (insert_key compare_texts table k) → AllByRecursion P (match_ordering o (k ∷ x ∷ table) (x ∷ table) (x ∷ insert_key compare_texts table k))
    by Less later = (p, all)
    by Equal later = all
    by Greater later = (all.0, later)

pub insert_sorted : (table : List (List ℕ)) (k : List ℕ) → Sorted table → Sorted (insert_key compare_texts table k)
unfolding IsStrictlySortedBy
insert_sorted [] k sorted = (tt, tt)
insert_sorted (x ∷ table) k sorted = by (compare_texts k x) refl (insert_sorted table k sorted.1)
  where
    by : (o : Ordering) → compare_texts k x ≡ o → Sorted (insert_key compare_texts table k) → Sorted (match_ordering o (k ∷ x ∷ table) (x ∷ table) (x ∷ insert_key compare_texts table k))
    by Less is later = ((is, All-map (λ z. compare_texts x z ≡ Less) (λ z. compare_texts k z ≡ Less) table (λ z less. before k x z is less) sorted.0), sorted)
    by Equal is later = sorted
    by Greater is later = (insert_all (λ z. compare_texts x z ≡ Less) table k (flipped k x is) sorted.0, later)

pub insert_has : (table : List (List ℕ)) (k : List ℕ) → Among (insert_key compare_texts table k) k
insert_has [] k = inl refl
insert_has (x ∷ table) k = by (compare_texts k x) refl (insert_has table k)
  where
    by : (o : Ordering) → compare_texts k x ≡ o → Among (insert_key compare_texts table k) k → Among (match_ordering o (k ∷ x ∷ table) (x ∷ table) (x ∷ insert_key compare_texts table k)) k
    by Less is later = inl refl
    by Equal is later = inl (sym (equal_is k x is))
    by Greater is later = inr later

pub insert_keeps : (table : List (List ℕ)) (k text : List ℕ) → Among table text → Among (insert_key compare_texts table k) text
insert_keeps [] k text among = absurd among
insert_keeps (x ∷ table) k text among = by (compare_texts k x) among (insert_keeps table k text)
  where
    by : (o : Ordering) → Among (x ∷ table) text → (Among table text → Among (insert_key compare_texts table k) text) → Among (match_ordering o (k ∷ x ∷ table) (x ∷ table) (x ∷ insert_key compare_texts table k)) text
    by Less among later = inr among
    by Equal among later = among
    by Greater (inl is) later = inl is
    by Greater (inr among) later = inr (later among)

pub insert_origin : (table : List (List ℕ)) (k text : List ℕ) → Among (insert_key compare_texts table k) text → (k ≡ text) ⊎ Among table text
insert_origin [] k text (inl is) = inl is
insert_origin [] k text (inr none) = absurd none
insert_origin (x ∷ table) k text among = by (compare_texts k x) among (insert_origin table k text)
  where
    later_of : (k ≡ text) ⊎ Among table text → (k ≡ text) ⊎ Among (x ∷ table) text
    later_of (inl is) = inl is
    later_of (inr among) = inr (inr among)

    by : (o : Ordering) → Among (match_ordering o (k ∷ x ∷ table) (x ∷ table) (x ∷ insert_key compare_texts table k)) text → (Among (insert_key compare_texts table k) text → (k ≡ text) ⊎ Among table text) → (k ≡ text) ⊎ Among (x ∷ table) text
    by Less (inl is) later = inl is
    by Less (inr among) later = inr among
    by Equal among later = inr among
    by Greater (inl is) later = inr (inl is)
    by Greater (inr among) later = later_of (later among)

pub filled_sorted : (table texts : List (List ℕ)) → Sorted table → Sorted (filled table texts)
filled_sorted table [] sorted = sorted
filled_sorted table (text ∷ texts) sorted = filled_sorted (insert_key compare_texts table text) texts (insert_sorted table text sorted)

pub filled_all : (P : List ℕ → Type 0) (table texts : List (List ℕ)) → AllByRecursion P table → AllByRecursion P texts → AllByRecursion P (filled table texts)
filled_all P table [] all more = all
filled_all P table (text ∷ texts) all more = filled_all P (insert_key compare_texts table text) texts (insert_all P table text more.0 all) more.1

filled_keeps : (table texts : List (List ℕ)) (text : List ℕ) → Among table text → Among (filled table texts) text
filled_keeps table [] text among = among
filled_keeps table (first ∷ texts) text among = filled_keeps (insert_key compare_texts table first) texts text (insert_keeps table first text among)

filled_has : (table texts : List (List ℕ)) (text : List ℕ) → Among texts text → Among (filled table texts) text
filled_has table [] text among = absurd among
filled_has table (first ∷ texts) text (inl is) = filled_keeps (insert_key compare_texts table first) texts text (subst (Among (insert_key compare_texts table first)) is (insert_has table first))
filled_has table (first ∷ texts) text (inr among) = filled_has (insert_key compare_texts table first) texts text among

filled_origin : (table texts : List (List ℕ)) (text : List ℕ) → Among (filled table texts) text → Among table text ⊎ Among texts text
filled_origin table [] text among = inl among
filled_origin table (first ∷ texts) text among = by (filled_origin (insert_key compare_texts table first) texts text among)
  where
    put : (first ≡ text) ⊎ Among table text → Among table text ⊎ Among (first ∷ texts) text
    put (inl is) = inr (inl is)
    put (inr among) = inl among

    by : Among (insert_key compare_texts table first) text ⊎ Among texts text → Among table text ⊎ Among (first ∷ texts) text
    by (inl among) = put (insert_origin table first text among)
    by (inr among) = inr (inr among)

pub table_sorted : (texts : List (List ℕ)) → Sorted (table_of texts)
unfolding IsStrictlySortedBy
table_sorted texts = filled_sorted [] texts tt

pub table_has : (texts : List (List ℕ)) (text : List ℕ) → Among texts text → Among (table_of texts) text
table_has texts text among = filled_has [] texts text among

pub table_origin : (texts : List (List ℕ)) (text : List ℕ) → Among (table_of texts) text → Among texts text
table_origin texts text among = by (filled_origin [] texts text among)
  where
    by : Among [] text ⊎ Among texts text → Among texts text
    by (inl none) = absurd none
    by (inr among) = among

pub table_all : (P : List ℕ → Type 0) (texts : List (List ℕ)) → AllByRecursion P texts → AllByRecursion P (table_of texts)
table_all P texts all = filled_all P [] texts tt all

-- ---- two tables with the same entries

all_among : (P : List ℕ → Type 0) (table : List (List ℕ)) (text : List ℕ) → AllByRecursion P table → Among table text → P text
all_among P [] text all among = absurd among
all_among P (x ∷ table) text all (inl is) = subst P is all.0
all_among P (x ∷ table) text all (inr among) = all_among P table text all.1 among

no_among : (x : List ℕ) (table : List (List ℕ)) → Above x table → Among table x → ⊥
no_among x table above among = no_less x (all_among (λ y. compare_texts x y ≡ Less) table x above among)

pub same_table : (a b : List (List ℕ)) → Sorted a → Sorted b → ((x : List ℕ) → Among a x → Among b x) → ((x : List ℕ) → Among b x → Among a x) → a ≡ b
unfolding IsStrictlySortedBy
same_table [] [] sa sb ab ba = refl
same_table [] (y ∷ b) sa sb ab ba = absurd (ba y (inl refl))
same_table (x ∷ a) [] sa sb ab ba = absurd (ab x (inl refl))
same_table (x ∷ a) (y ∷ b) sa sb ab ba =
    let same : x ≡ y = first (ab x (inl refl)) (ba y (inl refl)) in
    let rest : a ≡ b = same_table a b sa.1 sb.1
    (λ z among. others x y z a b same sa.0 among (ab z (inr among)))
    (λ z among. others y x z b a (sym same) sb.0 among (ba z (inr among))) in
    ap (λ (t : List ℕ). t ∷ a) same ∙ ap (λ (t : List (List ℕ)). y ∷ t) rest
  where
    first : Among (y ∷ b) x → Among (x ∷ a) y → x ≡ y
    first (inl is) among = sym is
    first (inr later) (inl is) = is
    first (inr later) (inr earlier) =
        let up = all_among (λ z. compare_texts y z ≡ Less) b x sb.0 later in
        let down = all_among (λ z. compare_texts x z ≡ Less) a y sa.0 earlier in
        no_greater (sym (behind x y down) ∙ up)

    others : (x y z : List ℕ) (a b : List (List ℕ)) → x ≡ y → Above x a → Among a z → Among (y ∷ b) z → Among b z
    others x y z a b same above among (inl is) = absurd (no_among x a above (subst (Among a) (sym (same ∙ is)) among))
    others x y z a b same above among (inr later) = later

-- ---- places

pub place_found : (table : List (List ℕ)) (text : List ℕ) → Among table text → (place_of table text < length table) × (name_at table (place_of table text) ≡ text)
place_found [] text among = absurd among
place_found (x ∷ table) text among = by (bytes_eq x text) refl among (place_found table text)
  where
    Found : Bool → Type 0
    Found v = (cond v 0 (suc (place_of table text)) < length (x ∷ table)) × (name_at (x ∷ table) (cond v 0 (suc (place_of table text))) ≡ text)

    by : (v : Bool) → bytes_eq x text ≡ v → Among (x ∷ table) text → (Among table text → (place_of table text < length table) × (name_at table (place_of table text) ≡ text)) → Found v
    by true is among later = (omega arith, (bytes_eq-Decides x text).0 is)
    by false is (inl same) later = absurd (never (sym is ∙ ap (λ (t : List ℕ). bytes_eq t text) same ∙ bytes_same text))
      where
        never : false ≡ true → ⊥
        never e = absurd cc

        bytes_same : (t : List ℕ) → bytes_eq t t ≡ true
        bytes_same t = sym (is_eq-slice_cmp t t) ∙ rw (same_as t) refl
    by false is (inr among) later = let found = later among in (omega (arith, found.0), found.1)

pub name_among : (table : List (List ℕ)) (i : ℕ) → i < length table → Among table (name_at table i)
name_among [] i lt = absurd (omega (arith, lt))
name_among (x ∷ table) zero lt = inl refl
name_among (x ∷ table) (suc i) lt = inr (name_among table i (omega (arith, lt)))

-- the order of entries is that of their places
pub order_of_places : (table : List (List ℕ)) (i j : ℕ) → Sorted table → i < length table → j < length table → compare_texts (name_at table i) (name_at table j) ≡ nat_cmp i j
order_of_places table i j sorted lt_i lt_j =
    elim (cases_lt i j) [
      | inl less ↦ (Less-from_sorted compare_texts table i j [] sorted less lt_j ∙ rw (lt-ltb i j less) refl)
      | inr ge ↦ elim (cases_lt j i) [
        | inl less ↦ (behind (name_at table j) (name_at table i) (Less-from_sorted compare_texts table j i [] sorted less lt_i) ∙ rw (le-ltb i j ge, ne_eqb i j (λ e. omega (arith, e, less))) refl)
        | inr le ↦ (
            let same : i ≡ j = omega (arith, ge, le) in
            rw same (same_as (name_at table j) ∙ rw (le-ltb j j (omega arith), eq-eqb j j refl) refl)
            )
      ]
    ]

pub place_is_own : (table : List (List ℕ)) (i : ℕ) (text : List ℕ) → Sorted table → i < length table → name_at table i ≡ text → place_of table text ≡ i
place_is_own table i text sorted lt is =
    let found = place_found table text (subst (Among table) is (name_among table i lt)) in
    let p : ℕ = place_of table text in
    let tied : nat_cmp p i ≡ Equal = sym (order_of_places table p i sorted found.0 lt) ∙ rw (found.1, is) (same_as text) in
    elim (cases_lt p i) [
      | inl less ↦ no_equal (sym tied ∙ rw (lt-ltb p i less) refl)
      | inr ge ↦ elim (cases_lt i p) [
        | inl less ↦ absurd (no_tie p i less tied)
        | inr le ↦ omega (arith, ge, le)
      ]
    ]
  where
    no_tie : (p i : ℕ) → i < p → nat_cmp p i ≡ Equal → ⊥
    no_tie p i less tied = never (sym tied ∙ rw (le-ltb p i (omega (arith, less)), ne_eqb p i (λ e. omega (arith, e, less))) refl)
      where
        never : (let o : Ordering = Equal in o) ≡ Greater → ⊥
        never e = absurd cc
