-- The rows of two lists in order, as rows of one: what they are made of, that none is missing, and that they are in order.
use Rattle.std.proofs.Common.{◌≡◌, ◌≢◌, ◌⊎◌, inl, inr, ℕ, true, List, [], ◌∷◌, map, refl, sym, ap, subst, ◌∙◌, arith, Ordering}
use Rattle.std.specs.Prelude.{Contains, AllPairs}
use Rattle.std.specs.List.{AllByRecursion}
use Rattle.std.specs.declared.cmp.Ordering.TheVariants.{Less, Equal, Greater}
use Rattle.std.specs.Ordering.{is_lt, match_ordering, ordering_reverse, ordering_then}
use Rattle.std.specs.Cmp.{IsTotalOrder}
use Rattle.std.specs.Cmp.Lexicographic.{slice_cmp, nat_list_cmp_total}
use Rattle.std.proofs.lemmas.Bool.{and_parts}
use Rattle.std.proofs.lemmas.Cmp.{lists_total, tied_itself}
use Rattle.std.proofs.lemmas.List.Kept.{AllPairs-cons}
use Rattle.std.proofs.lemmas.List.Elements.{All-contains_itself, All-weaker}
use Rattle.plain_list.specs.Texts.{compare_texts, rises, rises_behind}
use Rattle.plain_list.proofs.Members.{Contains-first, Contains-later, Contains-cons_cases, Contains-nil, Contains-map, Contains-map_cases}
use Rattle.certificate.specs.declared.named.NamedRow.{NamedRow}
use Rattle.certificate.specs.Reading.{compare_named_rows}
use Rattle.certificate.proofs.Sorted.{equal_is}
use Rattle.cert_merge.specs.Pairs.{meet, first_alone, second_alone, merged_behind, merged}
use Rattle.cert_merge.proofs.Members.{all_member}

-- ---- the order of rows

abbrev order : List (List ℕ) → List (List ℕ) → Ordering
order = slice_cmp compare_texts

order_total : IsTotalOrder order
order_total = lists_total nat_list_cmp_total

less_is : (o : Ordering) → is_lt o ≡ true → o ≡ Less
less_is Less e = refl
less_is Equal e = absurd cc
less_is Greater e = absurd cc

pub tied_is : (a b : List (List ℕ)) → order a b ≡ Equal → a ≡ b
tied_is [] [] e = refl
tied_is [] (y ∷ b) e = absurd cc
tied_is (x ∷ a) [] e = absurd cc
tied_is (x ∷ a) (y ∷ b) e = by (compare_texts x y) refl e (tied_is a b)
  where
    no_less : (let o : Ordering = Less in o) ≡ Equal → ⊥
    no_less f = absurd cc

    no_greater : (let o : Ordering = Greater in o) ≡ Equal → ⊥
    no_greater f = absurd cc

    by : (o : Ordering) → compare_texts x y ≡ o → ordering_then (compare_texts x y) (order a b) ≡ Equal → (order a b ≡ Equal → a ≡ b)
        → x ∷ a ≡ y ∷ b
    by Less is f rest = absurd (no_less (sym (ap (λ o. ordering_then o (order a b)) is) ∙ f))
    by Greater is f rest = absurd (no_greater (sym (ap (λ o. ordering_then o (order a b)) is) ∙ f))
    by Equal is f rest =
        ap (λ (t : List ℕ). t ∷ a) (equal_is x y is)
        ∙ ap (λ (t : List (List ℕ)). y ∷ t) (rest (sym (ap (λ o. ordering_then o (order a b)) is) ∙ f))

abbrev pub Before : NamedRow → NamedRow → Type 0
Before r s = compare_named_rows r s ≡ Less

pub apart : (r s : NamedRow) → Before r s → r.atoms ≢ s.atoms
apart r s less same =
    let tied : order r.atoms s.atoms ≡ Equal = subst (λ a. order r.atoms a ≡ Equal) same (tied_itself order_total r.atoms) in
    absurd (cc (less, tied))

passed : (r s t : NamedRow) → Before r s → Before s t → Before r t
passed r s t = order_total.trans r.atoms s.atoms t.atoms

pub turned : (r s : NamedRow) → compare_named_rows r s ≡ Greater → Before s r
turned r s greater = order_total.antisymm s.atoms r.atoms ∙ ap ordering_reverse greater

-- ---- lists in order

abbrev pub Behind : NamedRow → List NamedRow → Type 0
Behind r rows = AllByRecursion (λ s. Before r s) rows

abbrev pub InOrder : List NamedRow → Type 0
InOrder [] = Unit {0}
InOrder (r ∷ rows) = Behind r rows × InOrder rows

behind_passed : (r s : NamedRow) → Before r s → (rows : List NamedRow) → Behind s rows → Behind r rows
behind_passed r s less [] behind = tt
behind_passed r s less (t ∷ rows) behind = (passed r s t less behind.0, behind_passed r s less rows behind.1)

order_behind : (r : NamedRow) (rows : List NamedRow) → rises_behind compare_named_rows r rows ≡ true → Behind r rows × InOrder rows
order_behind r [] e = (tt, tt)
order_behind r (s ∷ rows) e =
    let both = and_parts (is_lt (compare_named_rows r s)) (rises_behind compare_named_rows s rows) e in
    let rest = order_behind s rows both.1 in
    let first : Before r s = less_is (compare_named_rows r s) both.0 in
    ((first, behind_passed r s first rows rest.0), rest)

pub in_order : (rows : List NamedRow) → rises compare_named_rows rows ≡ true → InOrder rows
in_order [] e = tt
in_order (r ∷ rows) e = order_behind r rows e

rise_behind : (r : NamedRow) (rows : List NamedRow) → Behind r rows → InOrder rows → rises_behind compare_named_rows r rows ≡ true
rise_behind r [] behind ordered = refl
rise_behind r (s ∷ rows) behind ordered = rw (behind.0, rise_behind s rows ordered.0 ordered.1) refl

pub order_rises : (rows : List NamedRow) → InOrder rows → rises compare_named_rows rows ≡ true
order_rises [] ordered = refl
order_rises (r ∷ rows) ordered = rise_behind r rows ordered.0 ordered.1

pub rows_differ : (rows : List NamedRow) → InOrder rows → AllPairs (λ r s. r.atoms ≢ s.atoms) rows
rows_differ [] ordered = λ i j d before within. absurd (omega arith)
rows_differ (r ∷ rows) ordered =
    AllPairs-cons (λ (x y : NamedRow). x.atoms ≢ y.atoms) r rows
    (All-weaker (Contains rows) (λ s. r.atoms ≢ s.atoms) (λ s inside. apart r s (all_member (λ t. Before r t) rows s ordered.0 inside)) rows
    (All-contains_itself rows))
    (rows_differ rows ordered.1)

-- ---- what holds of each

by_order : (o : Ordering) (P : List NamedRow → Type 0) (a b c : List NamedRow) → (o ≡ Less → P a) → (o ≡ Equal → P b) → (o ≡ Greater → P c)
    → P (match_ordering o a b c)
by_order Less P a b c less equal greater = less refl
by_order Equal P a b c less equal greater = equal refl
by_order Greater P a b c less equal greater = greater refl

module _ (penalty : ℕ) where
  module _ (Q : NamedRow → Type 0) (first : (r : NamedRow) → Q r → Q (first_alone penalty r))
      (second : (r : NamedRow) → Q r → Q (second_alone penalty r)) (both : (r s : NamedRow) → Q r → Q s → Q (meet r s)) where
    all_second : (others : List NamedRow) → AllByRecursion Q others → AllByRecursion Q (map (second_alone penalty) others)
    all_second [] all = tt
    all_second (s ∷ others) all = (second s all.0, all_second others all.1)

    all_behind : (r : NamedRow) (rest : List NamedRow → List NamedRow) → Q r
        → ((others : List NamedRow) → AllByRecursion Q others → AllByRecursion Q (rest others))
        → (others : List NamedRow) → AllByRecursion Q others → AllByRecursion Q (merged_behind penalty r rest others)
    all_behind r rest q more [] all = (first r q, more [] tt)
    all_behind r rest q more (s ∷ others) all =
        let later = all_behind r rest q more others all.1 in
        by_order (compare_named_rows r s) (AllByRecursion Q)
        (first_alone penalty r ∷ rest (s ∷ others)) (meet r s ∷ rest others) (second_alone penalty s ∷ merged_behind penalty r rest others)
        (λ e. (first r q, more (s ∷ others) all))
        (λ e. (both r s q all.0, more others all.1))
        (λ e. (second s all.0, later))

    pub all_merged : (rows others : List NamedRow) → AllByRecursion Q rows → AllByRecursion Q others → AllByRecursion Q (merged penalty rows others)
    all_merged [] others all all' = all_second others all'
    all_merged (r ∷ rows) others all all' = all_behind r (merged penalty rows) all.0 (λ more each. all_merged rows more all.1 each) others all'

  -- ---- they are in order

  behind_merged : (r : NamedRow) (rows others : List NamedRow) → Behind r rows → Behind r others → Behind r (merged penalty rows others)
  behind_merged r = all_merged (λ s. Before r s) (λ s less. less) (λ s less. less) (λ s t less _. less)

  second_order : (others : List NamedRow) → InOrder others → InOrder (map (second_alone penalty) others)
  second_order [] ordered = tt
  second_order (s ∷ others) ordered = (behind_merged (second_alone penalty s) [] others tt ordered.0, second_order others ordered.1)

  behind_order : (r : NamedRow) (rows : List NamedRow) → Behind r rows
      → ((others : List NamedRow) → InOrder others → InOrder (merged penalty rows others))
      → (others : List NamedRow) → InOrder others → InOrder (merged_behind penalty r (merged penalty rows) others)
  behind_order r rows behind more [] ordered = (behind_merged (first_alone penalty r) rows [] behind tt, more [] tt)
  behind_order r rows behind more (s ∷ others) ordered =
      let later = behind_order r rows behind more others ordered.1 in
      by_order (compare_named_rows r s) InOrder
      (first_alone penalty r ∷ merged penalty rows (s ∷ others)) (meet r s ∷ merged penalty rows others)
      (second_alone penalty s ∷ merged_behind penalty r (merged penalty rows) others)
      (λ less. (
        behind_merged (first_alone penalty r) rows (s ∷ others) behind (less, behind_passed r s less others ordered.0),
        more (s ∷ others) ordered,
      ))
      (λ tied.
      let same : s.atoms ≡ r.atoms = sym (tied_is r.atoms s.atoms tied) in (
        behind_merged (meet r s) rows others behind (all_same s r same others ordered.0),
        more others ordered.1,
      ))
      (λ greater.
      let less : Before s r = turned r s greater in (
        behind_merged (second_alone penalty s) (r ∷ rows) others (less, behind_passed s r less rows behind) ordered.0,
        later,
      ))
    where
      all_same : (s r : NamedRow) → s.atoms ≡ r.atoms → (others : List NamedRow) → Behind s others → Behind r others
      all_same s r same [] behind = tt
      all_same s r same (t ∷ others) behind =
          (subst (λ a. order a t.atoms ≡ Less) same behind.0, all_same s r same others behind.1)

  pub merged_order : (rows others : List NamedRow) → InOrder rows → InOrder others → InOrder (merged penalty rows others)
  merged_order [] others ordered ordered' = second_order others ordered'
  merged_order (r ∷ rows) others ordered ordered' =
      behind_order r rows ordered.0 (λ more each. merged_order rows more ordered.1 each) others ordered'

  -- ---- what each is made of

  pub record FromFirst (rows others : List NamedRow) (z : NamedRow) : Type 0 where
    pub row : NamedRow
    pub inside : Contains rows row
    pub alone : (s : NamedRow) → Contains others s → row.atoms ≢ s.atoms
    pub is : first_alone penalty row ≡ z

  pub record FromSecond (rows others : List NamedRow) (z : NamedRow) : Type 0 where
    pub row : NamedRow
    pub inside : Contains others row
    pub alone : (r : NamedRow) → Contains rows r → row.atoms ≢ r.atoms
    pub is : second_alone penalty row ≡ z

  pub record FromBoth (rows others : List NamedRow) (z : NamedRow) : Type 0 where
    pub row : NamedRow
    pub inside : Contains rows row
    pub other : NamedRow
    pub inside_other : Contains others other
    pub same : row.atoms ≡ other.atoms
    pub is : meet row other ≡ z

  abbrev pub IsMade : List NamedRow → List NamedRow → NamedRow → Type 0
  IsMade rows others z = FromFirst rows others z ⊎ (FromSecond rows others z ⊎ FromBoth rows others z)

  -- one more row of the first, whose state the others have no row of
  wider_first : (r : NamedRow) (rows others : List NamedRow) (z : NamedRow) → ((s : NamedRow) → Contains others s → s.atoms ≢ r.atoms)
      → IsMade rows others z → IsMade (r ∷ rows) others z
  wider_first r rows others z new (inl m) =
      inl (record { row = m.row; inside = Contains-later r rows m.row m.inside; alone = m.alone; is = m.is })
  wider_first r rows others z new (inr (inl m)) =
      inr (inl (record {
        row = m.row;
        inside = m.inside;
        alone = λ x there. elim (Contains-cons_cases r rows x there) [
          | inl here ↦ λ same. new m.row m.inside (same ∙ sym (ap (λ (y : NamedRow). y.atoms) here))
          | inr later ↦ m.alone x later
        ];
        is = m.is;
      }))
  wider_first r rows others z new (inr (inr m)) =
      inr (inr (record { row = m.row; inside = Contains-later r rows m.row m.inside; other = m.other; inside_other = m.inside_other; same = m.same; is = m.is }))

  -- one more row of the second, whose state the first has no row of
  wider_second : (s : NamedRow) (rows others : List NamedRow) (z : NamedRow) → ((r : NamedRow) → Contains rows r → r.atoms ≢ s.atoms)
      → IsMade rows others z → IsMade rows (s ∷ others) z
  wider_second s rows others z new (inl m) =
      inl (record {
        row = m.row;
        inside = m.inside;
        alone = λ x there. elim (Contains-cons_cases s others x there) [
          | inl here ↦ λ same. new m.row m.inside (same ∙ sym (ap (λ (y : NamedRow). y.atoms) here))
          | inr later ↦ m.alone x later
        ];
        is = m.is;
      })
  wider_second s rows others z new (inr (inl m)) =
      inr (inl (record { row = m.row; inside = Contains-later s others m.row m.inside; alone = m.alone; is = m.is }))
  wider_second s rows others z new (inr (inr m)) =
      inr (inr (record { row = m.row; inside = m.inside; other = m.other; inside_other = Contains-later s others m.other m.inside_other; same = m.same; is = m.is }))

  -- one more row of each, which are of one state
  wider_both : (r s : NamedRow) (rows others : List NamedRow) (z : NamedRow) → ((t : NamedRow) → Contains rows t → t.atoms ≢ s.atoms)
      → ((t : NamedRow) → Contains others t → t.atoms ≢ r.atoms) → IsMade rows others z → IsMade (r ∷ rows) (s ∷ others) z
  wider_both r s rows others z new new' (inl m) =
      inl (record {
        row = m.row;
        inside = Contains-later r rows m.row m.inside;
        alone = λ x there. elim (Contains-cons_cases s others x there) [
          | inl here ↦ λ same. new m.row m.inside (same ∙ sym (ap (λ (y : NamedRow). y.atoms) here))
          | inr later ↦ m.alone x later
        ];
        is = m.is;
      })
  wider_both r s rows others z new new' (inr (inl m)) =
      inr (inl (record {
        row = m.row;
        inside = Contains-later s others m.row m.inside;
        alone = λ x there. elim (Contains-cons_cases r rows x there) [
          | inl here ↦ λ same. new' m.row m.inside (same ∙ sym (ap (λ (y : NamedRow). y.atoms) here))
          | inr later ↦ m.alone x later
        ];
        is = m.is;
      }))
  wider_both r s rows others z new new' (inr (inr m)) =
      inr (inr (record {
        row = m.row;
        inside = Contains-later r rows m.row m.inside;
        other = m.other;
        inside_other = Contains-later s others m.other m.inside_other;
        same = m.same;
        is = m.is;
      }))

  second_made : (others : List NamedRow) (z : NamedRow) → Contains (map (second_alone penalty) others) z → IsMade [] others z
  second_made others z there =
      let from = Contains-map_cases (second_alone penalty) others z there in
      inr (inl (record { row = from.0; inside = from.1; alone = λ r none. absurd (Contains-nil r none); is = from.2 }))

  behind_made : (r : NamedRow) (rows : List NamedRow) → Behind r rows
      → ((others : List NamedRow) → InOrder others → (z : NamedRow) → Contains (merged penalty rows others) z → IsMade rows others z)
      → (others : List NamedRow) → InOrder others → (z : NamedRow)
      → Contains (merged_behind penalty r (merged penalty rows) others) z → IsMade (r ∷ rows) others z
  behind_made r rows behind more [] ordered z =
      λ there. elim (Contains-cons_cases (first_alone penalty r) (merged penalty rows []) z there) [
        | inl here ↦ inl (record { row = r; inside = Contains-first r rows; alone = λ s none. absurd (Contains-nil s none); is = here })
        | inr later ↦ wider_first r rows [] z (λ s none. absurd (Contains-nil s none)) (more [] tt z later)
      ]
  behind_made r rows behind more (s ∷ others) ordered z =
      let late = behind_made r rows behind more others ordered.1 z in
      by_order (compare_named_rows r s) (λ l. Contains l z → IsMade (r ∷ rows) (s ∷ others) z)
      (first_alone penalty r ∷ merged penalty rows (s ∷ others)) (meet r s ∷ merged penalty rows others)
      (second_alone penalty s ∷ merged_behind penalty r (merged penalty rows) others)
      (λ less there.
      let above : Behind r (s ∷ others) = (less, behind_passed r s less others ordered.0) in
      elim (Contains-cons_cases (first_alone penalty r) (merged penalty rows (s ∷ others)) z there) [
        | inl here ↦
            inl (record {
              row = r;
              inside = Contains-first r rows;
              alone = λ t inside. apart r t (all_member (λ x. Before r x) (s ∷ others) t above inside);
              is = here;
            })
        | inr later ↦
            wider_first r rows (s ∷ others) z
            (λ t inside same. apart r t (all_member (λ x. Before r x) (s ∷ others) t above inside) (sym same))
            (more (s ∷ others) ordered z later)
      ])
      (λ tied there.
      let same : r.atoms ≡ s.atoms = tied_is r.atoms s.atoms tied in
      elim (Contains-cons_cases (meet r s) (merged penalty rows others) z there) [
        | inl here ↦
            inr (inr (record {
              row = r;
              inside = Contains-first r rows;
              other = s;
              inside_other = Contains-first s others;
              same = same;
              is = here;
            }))
        | inr later ↦
            wider_both r s rows others z
            (λ t inside one. apart r t (all_member (λ x. Before r x) rows t behind inside) (same ∙ sym one))
            (λ t inside one. apart s t (all_member (λ x. Before s x) others t ordered.0 inside) (sym same ∙ sym one))
            (more others ordered.1 z later)
      ])
      (λ greater there.
      let less : Before s r = turned r s greater in
      let above : Behind s (r ∷ rows) = (less, behind_passed s r less rows behind) in
      elim (Contains-cons_cases (second_alone penalty s) (merged_behind penalty r (merged penalty rows) others) z there) [
        | inl here ↦
            inr (inl (record {
              row = s;
              inside = Contains-first s others;
              alone = λ t inside. apart s t (all_member (λ x. Before s x) (r ∷ rows) t above inside);
              is = here;
            }))
        | inr later ↦
            wider_second s (r ∷ rows) others z
            (λ t inside same. apart s t (all_member (λ x. Before s x) (r ∷ rows) t above inside) (sym same))
            (late later)
      ])

  pub merged_made : (rows others : List NamedRow) → InOrder rows → InOrder others → (z : NamedRow) → Contains (merged penalty rows others) z
      → IsMade rows others z
  merged_made [] others ordered ordered' z there = second_made others z there
  merged_made (r ∷ rows) others ordered ordered' z there =
      behind_made r rows ordered.0 (λ more each x inside. merged_made rows more ordered.1 each x inside) others ordered' z there

  -- ---- none is missing

  abbrev pub Stands : List NamedRow → List (List ℕ) → Type 0
  Stands rows atoms = (z : NamedRow) × Contains rows z × (z.atoms ≡ atoms)

  later_stands : (x : NamedRow) (rows : List NamedRow) (atoms : List (List ℕ)) → Stands rows atoms → Stands (x ∷ rows) atoms
  later_stands x rows atoms found = (found.0, Contains-later x rows found.0 found.1, found.2)

  first_stands : (x : NamedRow) (rows : List NamedRow) (atoms : List (List ℕ)) → x.atoms ≡ atoms → Stands (x ∷ rows) atoms
  first_stands x rows atoms same = (x, Contains-first x rows, same)

  behind_own : (r : NamedRow) (rest : List NamedRow → List NamedRow) (others : List NamedRow) → Stands (merged_behind penalty r rest others) r.atoms
  behind_own r rest [] = first_stands (first_alone penalty r) (rest []) r.atoms refl
  behind_own r rest (s ∷ others) =
      let later = behind_own r rest others in
      by_order (compare_named_rows r s) (λ l. Stands l r.atoms)
      (first_alone penalty r ∷ rest (s ∷ others)) (meet r s ∷ rest others) (second_alone penalty s ∷ merged_behind penalty r rest others)
      (λ e. first_stands (first_alone penalty r) (rest (s ∷ others)) r.atoms refl)
      (λ e. first_stands (meet r s) (rest others) r.atoms refl)
      (λ e. later_stands (second_alone penalty s) (merged_behind penalty r rest others) r.atoms later)

  behind_rest : (r : NamedRow) (rest : List NamedRow → List NamedRow) (atoms : List (List ℕ)) → ((others : List NamedRow) → Stands (rest others) atoms)
      → (others : List NamedRow) → Stands (merged_behind penalty r rest others) atoms
  behind_rest r rest atoms each [] = later_stands (first_alone penalty r) (rest []) atoms (each [])
  behind_rest r rest atoms each (s ∷ others) =
      let later = behind_rest r rest atoms each others in
      by_order (compare_named_rows r s) (λ l. Stands l atoms)
      (first_alone penalty r ∷ rest (s ∷ others)) (meet r s ∷ rest others) (second_alone penalty s ∷ merged_behind penalty r rest others)
      (λ e. later_stands (first_alone penalty r) (rest (s ∷ others)) atoms (each (s ∷ others)))
      (λ e. later_stands (meet r s) (rest others) atoms (each others))
      (λ e. later_stands (second_alone penalty s) (merged_behind penalty r rest others) atoms later)

  pub first_there : (rows others : List NamedRow) (r : NamedRow) → Contains rows r → Stands (merged penalty rows others) r.atoms
  first_there [] others r inside = absurd (Contains-nil r inside)
  first_there (x ∷ rows) others r inside = elim (Contains-cons_cases x rows r inside) [
    | inl here ↦ subst (λ (y : NamedRow). Stands (merged_behind penalty x (merged penalty rows) others) y.atoms) here (behind_own x (merged penalty rows) others)
    | inr later ↦ behind_rest x (merged penalty rows) r.atoms (λ more. first_there rows more r later) others
  ]

  behind_second : (r : NamedRow) (rest : List NamedRow → List NamedRow)
      → ((others : List NamedRow) (s : NamedRow) → Contains others s → Stands (rest others) s.atoms)
      → (others : List NamedRow) (s : NamedRow) → Contains others s → Stands (merged_behind penalty r rest others) s.atoms
  behind_second r rest each [] s inside = absurd (Contains-nil s inside)
  behind_second r rest each (t ∷ others) s inside =
      let later : Contains others s → Stands (merged_behind penalty r rest others) s.atoms = behind_second r rest each others s in
      by_order (compare_named_rows r t) (λ l. Stands l s.atoms)
      (first_alone penalty r ∷ rest (t ∷ others)) (meet r t ∷ rest others) (second_alone penalty t ∷ merged_behind penalty r rest others)
      (λ e. later_stands (first_alone penalty r) (rest (t ∷ others)) s.atoms (each (t ∷ others) s inside))
      (λ tied. elim (Contains-cons_cases t others s inside) [
        | inl here ↦
            first_stands (meet r t) (rest others) s.atoms (tied_is r.atoms t.atoms tied ∙ ap (λ (y : NamedRow). y.atoms) here)
        | inr more ↦ later_stands (meet r t) (rest others) s.atoms (each others s more)
      ])
      (λ e. elim (Contains-cons_cases t others s inside) [
        | inl here ↦
            first_stands (second_alone penalty t) (merged_behind penalty r rest others) s.atoms (ap (λ (y : NamedRow). y.atoms) here)
        | inr more ↦ later_stands (second_alone penalty t) (merged_behind penalty r rest others) s.atoms (later more)
      ])

  pub second_there : (rows others : List NamedRow) (s : NamedRow) → Contains others s → Stands (merged penalty rows others) s.atoms
  second_there [] others s inside = (second_alone penalty s, Contains-map (second_alone penalty) others s inside, refl)
  second_there (x ∷ rows) others s inside = behind_second x (merged penalty rows) (λ more y there. second_there rows more y there) others s inside
