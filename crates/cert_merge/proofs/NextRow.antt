-- The next of the rows that are left, and what tells it.
use Rattle.std.proofs.Common.{◌≡◌, ◌⊎◌, inl, inr, ℕ, zero, suc, ◌+◌, ◌<◌, ◌≤◌, List, [], ◌∷◌, length, map, drop, Some, refl, sym, ap, ◌∙◌, arith, Ordering}
use Rattle.std.specs.Prelude.{All, Contains, min}
use Rattle.std.specs.List.{slice_get, AllByRecursion}
use Rattle.std.specs.declared.cmp.Ordering.TheVariants.{Less, Equal, Greater}
use Rattle.std.specs.Ordering.{nat_cmp, match_ordering}
use Rattle.std.specs.Cmp.Lexicographic.{slice_cmp}
use Rattle.std.proofs.lemmas.Bool.{cases_lt, lt-ltb, le-ltb, eq-eqb, ne_eqb}
use Rattle.std.proofs.lemmas.List.{at_drop_all, drop_more, get_or-map, length-map}
use Rattle.std.proofs.lemmas.Option.{slice_get_within, get_or_from_slice_get}
use Rattle.plain_list.specs.Texts.{compare_texts}
use Rattle.certificate.specs.declared.named.NamedRow.{NamedRow}
use Rattle.certificate.specs.Rows.{Row}
use Rattle.certificate.specs.Content.{Content, IsCertificate, IsRow, name_at, named_row, named_rows}
use Rattle.certificate.specs.Reading.{compare_named_rows}
use Rattle.cert_merge.specs.declared.origin.Origin.TheVariants.{First, Second, Both}
use Rattle.cert_merge.specs.Tables.{place_in}
use Rattle.cert_merge.specs.Pairs.{untold, row_in, meet, first_alone, second_alone, merged_behind, merged, left, IsNext, PlacesAgree}
use Rattle.cert_merge.proofs.Members.{all_member}

pub other_of : {A B : Type 0} → A ⊎ B → (A → ⊥) → B
other_of (inl a) refused = absurd (refused a)
other_of (inr b) refused = b

pub all_from : {X : Type 0} (P : X → Type 0) (xs : List X) → AllByRecursion P xs → All P xs
all_from P [] all k d below = absurd (omega (arith, below))
all_from P (x ∷ xs) all zero d below = all.0
all_from P (x ∷ xs) all (suc k) d below = all_from P xs all.1 k d (omega (arith, below))

pub one_all : {X : Type 0} (P : X → Type 0) (x : X) → P x → All P (x ∷ [])
one_all P x p = all_from P (x ∷ []) (p, tt)

-- ---- lists of numbers, one of which has ended

cmp_less : (x y : ℕ) → x < y → nat_cmp x y ≡ Less
cmp_less x y less = rw (lt-ltb x y less) refl

cmp_more : (x y : ℕ) → y < x → nat_cmp x y ≡ Greater
cmp_more x y more = rw (le-ltb x y (omega (arith, more)), ne_eqb x y (λ e. omega (arith, e, more))) refl

cmp_same : (x y : ℕ) → x ≡ y → nat_cmp x y ≡ Equal
cmp_same x y same = rw (le-ltb x y (omega (arith, same)), eq-eqb x y same) refl

dropped : (xs : List ℕ) (n : ℕ) → length xs ≤ n → drop n xs ≡ []
dropped xs n past = at_drop_all (λ (l : List ℕ). l) xs n past

pub one_ended : (f g : ℕ → ℕ) (a b : List ℕ) (n : ℕ) → n ≡ min (length a) (length b)
    → slice_cmp nat_cmp (map f (drop n a)) (map g (drop n b)) ≡ nat_cmp (length a) (length b)
one_ended f g a b n is = elim (cases_lt (length a) (length b)) [
  | inl less ↦
      (λ j. slice_cmp nat_cmp (map f (dropped a n (omega (arith, is, less)) j)) (map g (drop_more b n 0 (omega (arith, is, less)) j)))
      ∙ sym (cmp_less (length a) (length b) less)
  | inr not_less ↦ elim (cases_lt (length b) (length a)) [
    | inl more ↦
        (λ j. slice_cmp nat_cmp (map f (drop_more a n 0 (omega (arith, is, more)) j)) (map g (dropped b n (omega (arith, is, more)) j)))
        ∙ sym (cmp_more (length a) (length b) more)
    | inr not_more ↦
        (λ j. slice_cmp nat_cmp (map f (dropped a n (omega (arith, is, not_less, not_more)) j)) (map g (dropped b n (omega (arith, is, not_less, not_more)) j)))
        ∙ sym (cmp_same (length a) (length b) (omega (arith, not_less, not_more)))
  ]
]

-- ---- a row by its place

pub row_there : (c : Content) (i : ℕ) (r : Row) → slice_get c.rows i ≡ Some r → Contains c.rows r
row_there c i r at = (i, slice_get_within c.rows i r at, get_or_from_slice_get c.rows i r r at)

pub row_form : (c : Content) → IsCertificate c → (i : ℕ) (r : Row) → slice_get c.rows i ≡ Some r → IsRow (length c.atoms) (length c.acts) r
row_form c is i r at = all_member (IsRow (length c.atoms) (length c.acts)) c.rows r is.rows (row_there c i r at)

pub named_at : (c : Content) (i : ℕ) (r : Row) → slice_get c.rows i ≡ Some r → row_in (named_rows c) i ≡ named_row c.atoms c.acts r
named_at c i r at =
    get_or-map (named_row c.atoms c.acts) c.rows i r (untold 0 []) (slice_get_within c.rows i r at)
    ∙ ap (named_row c.atoms c.acts) (get_or_from_slice_get c.rows i r r at)

module _ (c d : Content) where
  rows_long : length (named_rows c) ≡ length c.rows
  rows_long = length-map c.rows (named_row c.atoms c.acts)

  others_long : length (named_rows d) ≡ length d.rows
  others_long = length-map d.rows (named_row d.atoms d.acts)

  -- ---- the order of two rows by the places of their atoms

  module _ (ours theirs : List ℕ) (agree : PlacesAgree c d ours theirs) where
    pub compared : (a b : List ℕ) → AllByRecursion (λ n. n < length c.atoms) a → AllByRecursion (λ n. n < length d.atoms) b
        → slice_cmp compare_texts (map (name_at c.atoms) a) (map (name_at d.atoms) b) ≡ slice_cmp nat_cmp (map (place_in ours) a) (map (place_in theirs) b)
    compared [] [] are are' = refl
    compared [] (m ∷ b) are are' = refl
    compared (n ∷ a) [] are are' = refl
    compared (n ∷ a) (m ∷ b) are are' = rw (agree n m are.0 are'.0, compared a b are.1 are'.1) refl

    pub rows_compared : IsCertificate c → IsCertificate d → (i j : ℕ) (r s : Row) → slice_get c.rows i ≡ Some r → slice_get d.rows j ≡ Some s
        → slice_cmp nat_cmp (map (place_in ours) r.atoms) (map (place_in theirs) s.atoms)
        ≡ compare_named_rows (row_in (named_rows c) i) (row_in (named_rows d) j)
    rows_compared is is' i j r s at at' =
        sym (compared r.atoms s.atoms (row_form c is i r at).atoms (row_form d is' j s at').atoms)
        ∙ (λ k. compare_named_rows (sym (named_at c i r at) k) (sym (named_at d j s at') k))

  -- ---- the next row

  abbrev x : ℕ → NamedRow
  x i = row_in (named_rows c) i

  abbrev y : ℕ → NamedRow
  y j = row_in (named_rows d) j

  abbrev rest : ℕ → List NamedRow
  rest i = drop i (named_rows c)

  abbrev more : ℕ → List NamedRow
  more j = drop j (named_rows d)

  rest_more : (i : ℕ) → i < length c.rows → rest i ≡ x i ∷ rest (i + 1)
  rest_more i within = drop_more (named_rows c) i (untold 0 []) (omega (arith, within, rows_long))

  more_more : (j : ℕ) → j < length d.rows → more j ≡ y j ∷ more (j + 1)
  more_more j within = drop_more (named_rows d) j (untold 0 []) (omega (arith, within, others_long))

  rest_none : (i : ℕ) → length c.rows ≤ i → rest i ≡ []
  rest_none i past = at_drop_all (λ (l : List NamedRow). l) (named_rows c) i (omega (arith, past, rows_long))

  more_none : (j : ℕ) → length d.rows ≤ j → more j ≡ []
  more_none j past = at_drop_all (λ (l : List NamedRow). l) (named_rows d) j (omega (arith, past, others_long))

  none_more : (n : ℕ) → n + 0 ≡ n
  none_more n = omega arith

  pub only_first : (i j : ℕ) → i < length c.rows → j ≡ length d.rows → IsNext c d i j (First i)
  only_first i j within past = record {
    next = (λ k. merged c.penalty (rest_more i within k) (more_none j (omega (arith, past)) k))
        ∙ (λ k. first_alone c.penalty (x i) ∷ merged c.penalty (rest (i + 1)) (sym (more_none j (omega (arith, past))) k))
        ∙ (λ k. first_alone c.penalty (x i) ∷ merged c.penalty (rest (i + 1)) (more (sym (none_more j) k)));
    within = within;
    first_within = omega (arith, within);
    second_within = omega (arith, past);
  }

  pub only_second : (i j : ℕ) → i ≡ length c.rows → j < length d.rows → IsNext c d i j (Second j)
  only_second i j past within = record {
    next = (λ k. merged c.penalty (rest_none i (omega (arith, past)) k) (more_more j within k))
        ∙ (λ k. second_alone c.penalty (y j) ∷ merged c.penalty (sym (rest_none i (omega (arith, past))) k) (more (j + 1)))
        ∙ (λ k. second_alone c.penalty (y j) ∷ merged c.penalty (rest (sym (none_more i) k)) (more (j + 1)));
    within = within;
    first_within = omega (arith, past);
    second_within = omega (arith, within);
  }

  module _ (i j : ℕ) (first : i < length c.rows) (second : j < length d.rows) where
    abbrev order_here : Ordering
    order_here = compare_named_rows (x i) (y j)

    abbrev choose : Ordering → List NamedRow
    choose o = match_ordering o
        (first_alone c.penalty (x i) ∷ merged c.penalty (rest (i + 1)) (y j ∷ more (j + 1)))
        (meet (x i) (y j) ∷ merged c.penalty (rest (i + 1)) (more (j + 1)))
        (second_alone c.penalty (y j) ∷ merged_behind c.penalty (x i) (merged c.penalty (rest (i + 1))) (more (j + 1)))

    chosen : (o : Ordering) → o ≡ order_here → left c d i j ≡ choose o
    chosen o is = (λ k. merged c.penalty (rest_more i first k) (more_more j second k)) ∙ ap choose (sym is)

    pub first_next : Less ≡ order_here → IsNext c d i j (First i)
    first_next is = record {
      next = chosen Less is
          ∙ (λ k. first_alone c.penalty (x i) ∷ merged c.penalty (rest (i + 1)) (sym (more_more j second) k))
          ∙ (λ k. first_alone c.penalty (x i) ∷ merged c.penalty (rest (i + 1)) (more (sym (none_more j) k)));
      within = first;
      first_within = omega (arith, first);
      second_within = omega (arith, second);
    }

    pub second_next : Greater ≡ order_here → IsNext c d i j (Second j)
    second_next is = record {
      next = chosen Greater is
          ∙ (λ k. second_alone c.penalty (y j) ∷ merged c.penalty (sym (rest_more i first) k) (more (j + 1)))
          ∙ (λ k. second_alone c.penalty (y j) ∷ merged c.penalty (rest (sym (none_more i) k)) (more (j + 1)));
      within = second;
      first_within = omega (arith, first);
      second_within = omega (arith, second);
    }

    pub both_next : Equal ≡ order_here → IsNext c d i j (Both i j)
    both_next is = record {
      next = chosen Equal is;
      within = (first, second);
      first_within = omega (arith, first);
      second_within = omega (arith, second);
    }
