-- Lists that rise are told by their members.
use Rattle.std.proofs.Common.{◌≡◌, ◌≢◌, ℕ, zero, suc, ◌+◌, ◌<◌, ◌≤◌, Bool, true, false, ◌||◌, List, [], ◌∷◌, length, get_or, cond, ne_eqb, inl, inr, refl, sym, ap, subst, ◌∙◌, arith}
use Rattle.std.specs.Prelude.{nat_eq, nat_lt, All, Contains, Ok, Err}
use Rattle.std.specs.List.{AllPairs, dedup}
use Rattle.std.specs.List.Sorted.{IsStrictlyIncreasing, IsSorted, IsPermutation, IsBinarySearchResult}
use Rattle.std.specs.List.Retain.{IsFiltered, DiffersFromLast}
use Rattle.std.specs.declared.cmp.Ordering.TheVariants.{Less, Equal, Greater}
use Rattle.std.specs.Ordering.{nat_cmp, is_lt}
use Rattle.std.specs.Cmp.{nat_eq_equiv}
use Rattle.std.proofs.lemmas.Bool.{cases_order, cases_lt, eqb-true, eq-eqb, ltb-true}
use Rattle.std.proofs.lemmas.Cmp.{nat_cmp_total}
use Rattle.std.proofs.lemmas.List.Elements.{All-head, All-tail}
use Rattle.std.proofs.lemmas.List.Filters.{dedup_is}
use Rattle.std.proofs.lemmas.List.Kept.{AllPairs-from_increasing, Contains-dedup_nat, Contains-from_dedup}
use Rattle.std.proofs.lemmas.List.Sorted.{Contains-permutation, IsPermutation-sym, searched}
use Rattle.std.proofs.lemmas.Map.Keys.{IsStrictlyIncreasing-dedup}
use Rattle.std.proofs.lemmas.Map.Views.{list_any-from_Contains, Contains-from_any}
use Rattle.ground_model.specs.Choices.{is_member}
use Rattle.ground_model.proofs.Rising.{pairs_rise}
use Rattle.ground_meaning.specs.choices.Rising.{rising, less}
use Rattle.ground_meaning.proofs.lemmas.choices.Members.{any-rising}
use Rattle.ground_meaning.proofs.lemmas.choices.RisingLists.{rises-rising}

abbrev pub Rise : List ℕ → Type 0
Rise xs = AllPairs (λ x y. x < y) xs

pub same_bools : (a b : Bool) → (a ≡ true → b ≡ true) → (b ≡ true → a ≡ true) → a ≡ b
same_bools true b to from = sym (to refl)
same_bools false true to from = from refl
same_bools false false to from = refl

-- ---- lists that rise

first_below : (x : ℕ) (xs : List ℕ) → Rise (x ∷ xs) → All (λ y. x < y) xs
first_below x xs rise = λ k d within. rise zero (suc k) d (omega arith) (omega arith)

rest_rises : (x : ℕ) (xs : List ℕ) → Rise (x ∷ xs) → Rise xs
rest_rises x xs rise = λ i j d before within. rise (suc i) (suc j) d (omega arith) (omega arith)

less_by_tests : (below same : Bool) → is_lt (cond below Less (cond same Equal Greater)) ≡ below
less_by_tests true same = refl
less_by_tests false true = refl
less_by_tests false false = refl

below_is : (x y : ℕ) → nat_cmp x y ≡ Less → x < y
below_is x y e = ltb-true x y (sym (less_by_tests (nat_lt x y) (nat_eq x y)) ∙ ap is_lt e)

pub rising_rises : (xs : List ℕ) → Rise (rising xs)
rising_rises xs = λ i j d before within.
    let less : nat_cmp (get_or (rising xs) i d) (get_or (rising xs) j d) ≡ Less
    = pairs_rise nat_cmp nat_cmp_total (rising xs) (rises-rising xs) i j d before within in
    below_is (get_or (rising xs) i d) (get_or (rising xs) j d) less

pub increasing : (xs : List ℕ) → Rise xs → IsStrictlyIncreasing xs
increasing xs rise = λ k within. rise k (k + 1) 0 (omega arith) within

pub increasing-rising : (xs : List ℕ) → IsStrictlyIncreasing (rising xs)
increasing-rising xs = increasing (rising xs) (rising_rises xs)

pub rises : (xs ys : List ℕ) → xs ≡ rising ys → IsStrictlyIncreasing xs
rises xs ys is = subst IsStrictlyIncreasing (sym is) (increasing-rising ys)

-- ---- members

first_member : (x : ℕ) (xs : List ℕ) → is_member (x ∷ xs) x ≡ true
first_member x xs = ap (λ b. b || is_member xs x) (eq-eqb x x refl)

not_first : (q x : ℕ) (xs : List ℕ) → q ≢ x → is_member (x ∷ xs) q ≡ is_member xs q
not_first q x xs differ = ap (λ b. b || is_member xs q) (ne_eqb q x differ)

pub no_member : (q : ℕ) (xs : List ℕ) → All (λ x. q ≢ x) xs → is_member xs q ≡ false
no_member q [] each = refl
no_member q (x ∷ xs) each =
    not_first q x xs (All-head (λ y. q ≢ y) x xs each) ∙ no_member q xs (All-tail (λ y. q ≢ y) x xs each)

below_all : (q : ℕ) (xs : List ℕ) → All (λ y. q < y) xs → is_member xs q ≡ false
below_all q xs each = no_member q xs (λ k d within same. let less : q < get_or xs k d = each k d within in omega (arith, same, less))

above_first : (x y : ℕ) (ys : List ℕ) → x < y → Rise (y ∷ ys) → is_member (y ∷ ys) x ≡ false
above_first x y ys less rise =
    not_first x y ys (λ same. omega (arith, same, less))
    ∙ below_all x ys (λ k d within. let more : y < get_or ys k d = first_below y ys rise k d within in omega (arith, less, more))

pub member_at : (xs : List ℕ) (i q : ℕ) → i < length xs → get_or xs i 0 ≡ q → is_member xs q ≡ true
member_at [] i q within is = absurd (omega arith)
member_at (x ∷ xs) zero q within is = subst (λ z. is_member (x ∷ xs) z ≡ true) is (first_member x xs)
member_at (x ∷ xs) (suc i) q within is = later (nat_eq q x) (member_at xs i q (omega arith) is)
  where
    later : (b : Bool) → is_member xs q ≡ true → (b || is_member xs q) ≡ true
    later true e = refl
    later false e = e

-- ---- rising lists with the same members are equal

tails : (x : ℕ) (xs ys : List ℕ) (q : ℕ) → is_member (x ∷ xs) q ≡ is_member (x ∷ ys) q → All (λ k. x < k) xs → All (λ k. x < k) ys
    → is_member xs q ≡ is_member ys q
tails x xs ys q same before behind = elim (cases_order q x) [
  | inl is ↦ subst (λ z. is_member xs z ≡ is_member ys z) (sym is) (below_all x xs before ∙ sym (below_all x ys behind))
  | inr (inl less) ↦ (let differ : q ≢ x = λ is. omega (arith, is, less) in sym (not_first q x xs differ) ∙ same ∙ not_first q x ys differ)
  | inr (inr more) ↦ (let differ : q ≢ x = λ is. omega (arith, is, more) in sym (not_first q x xs differ) ∙ same ∙ not_first q x ys differ)
]

pub same_sets : (xs ys : List ℕ) → Rise xs → Rise ys → ((q : ℕ) → is_member xs q ≡ is_member ys q) → xs ≡ ys
same_sets [] [] rise other same = refl
same_sets [] (y ∷ ys) rise other same = let no : false ≡ true = same y ∙ first_member y ys in absurd (cc no)
same_sets (x ∷ xs) [] rise other same = let no : false ≡ true = sym (same x) ∙ first_member x xs in absurd (cc no)
same_sets (x ∷ xs) (y ∷ ys) rise other same =
    let first : x ≡ y = elim (cases_order x y) [
      | inl is ↦ is
      | inr (inl less) ↦ (let no : false ≡ true = sym (same x ∙ above_first x y ys less other) ∙ first_member x xs in absurd (cc no))
      | inr (inr more) ↦ (let no : false ≡ true = sym (sym (same y) ∙ above_first y x xs more rise) ∙ first_member y ys in absurd (cc no))
    ] in
    let rest : xs ≡ ys = same_sets xs ys (rest_rises x xs rise) (rest_rises y ys other) (λ q.
    tails x xs ys q (same q ∙ ap (λ z. is_member (z ∷ ys) q) (sym first)) (first_below x xs rise)
    (subst (λ z. All (λ k. z < k) ys) (sym first) (first_below y ys other))) in
    λ i. first i ∷ rest i

pub rising_is : (xs ys : List ℕ) → IsStrictlyIncreasing xs → ((q : ℕ) → is_member xs q ≡ is_member ys q) → xs ≡ rising ys
rising_is xs ys rise same =
    same_sets xs (rising ys) (AllPairs-from_increasing xs rise) (rising_rises ys) (λ q. same q ∙ sym (any-rising (nat_eq q) ys))

-- ---- short lists

pub less_none : (xs gone : List ℕ) → length gone ≡ 0 → xs ≡ less xs gone
less_none [] gone none = refl
less_none (x ∷ xs) [] none = ap (λ l. x ∷ l) (less_none xs [] refl)
less_none (x ∷ xs) (q ∷ gone) none = absurd (omega (arith, none))

-- ---- what sorting and removing repeats leave

pub sorted_is : (old mid new : List ℕ) → IsPermutation old mid → IsSorted nat_cmp mid → IsFiltered (DiffersFromLast nat_eq) [] mid new
    → new ≡ rising old
sorted_is old mid new moved sorted filtered =
    let is : new ≡ dedup nat_eq mid = dedup_is nat_eq mid new filtered in
    rising_is new old (subst IsStrictlyIncreasing (sym is) (IsStrictlyIncreasing-dedup mid sorted)) (λ q.
    same_bools (is_member new q) (is_member old q)
    (λ e. list_any-from_Contains nat_eq_equiv q old (Contains-permutation mid old q (IsPermutation-sym old mid moved)
    (Contains-from_dedup nat_eq mid q (subst (λ l. Contains l q) is (Contains-from_any (λ x y e. eqb-true x y e) q new e)))))
    (λ e. list_any-from_Contains nat_eq_equiv q new (subst (λ l. Contains l q) (sym is)
    (Contains-dedup_nat mid q (Contains-permutation old mid q moved (Contains-from_any (λ x y e. eqb-true x y e) q old e))))))

-- ---- what a search finds

never_falls : (xs : List ℕ) → IsStrictlyIncreasing xs → (i j : ℕ) → i ≤ j → j < length xs → get_or xs i 0 ≤ get_or xs j 0
never_falls xs rise i j before within = elim (cases_lt i j) [
  | inl less ↦ (let below : get_or xs i 0 < get_or xs j 0 = AllPairs-from_increasing xs rise i j 0 less within in omega (arith, below))
  | inr more ↦ (let same : i ≡ j = omega arith in subst (λ k. get_or xs i 0 ≤ get_or xs k 0) same (omega arith))
]

pub found : (xs : List ℕ) (q i : ℕ) → IsStrictlyIncreasing xs → IsBinarySearchResult (λ y. nat_cmp y q) xs (Ok i) → is_member xs q ≡ true
found xs q i rise at =
    let is = searched xs q (Ok i) at (never_falls xs rise) in
    member_at xs i q is.0 is.1

pub missed : (xs : List ℕ) (q i : ℕ) → IsStrictlyIncreasing xs → IsBinarySearchResult (λ y. nat_cmp y q) xs (Err i) → is_member xs q ≡ false
missed xs q i rise at =
    let is = searched xs q (Err i) at (never_falls xs rise) in
    no_member q xs (λ k d within same. elim (cases_lt k i) [
      | inl before ↦ (let less : get_or xs k 0 < q = is.1 k before in let e : get_or xs k d ≡ get_or xs k 0 = default xs k d within in omega (arith, less, e, same))
      | inr behind ↦ (let more : q < get_or xs k 0 = is.2 k behind within in let e : get_or xs k d ≡ get_or xs k 0 = default xs k d within in omega (arith, more, e, same))
    ])
  where
    default : (l : List ℕ) (k d : ℕ) → k < length l → get_or l k d ≡ get_or l k 0
    default [] k d within = absurd (omega arith)
    default (x ∷ l) zero d within = refl
    default (x ∷ l) (suc k) d within = default l k d (omega arith)
