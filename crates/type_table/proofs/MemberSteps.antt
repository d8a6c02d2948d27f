-- The objects of each type, one object more.
use Rattle.std.proofs.Common.{◌≡◌, ℕ, zero, suc, ◌+◌, ◌<◌, ◌==◌, Bool, true, false, ◌||◌, List, [], ◌∷◌, ◌++◌, length, filter, take, get_or, nat_eq, refl, sym, ap, ◌∙◌, arith, append-nil, eq-eqb, eqb-true, ne_eqb, true≢false}
use Rattle.std.specs.Prelude.{cond}
use Rattle.std.specs.List.{list_any, IsDistinct, range_with_len}
use Rattle.std.proofs.lemmas.List.{take_more, length-take, get_or-take, get_or_default}
use Rattle.std.proofs.lemmas.List.Elements.{filter-append}
use Rattle.std.proofs.lemmas.List.Folds.{list_any-append}
use Rattle.std.proofs.lemmas.Map.Keys.{apart_from_distinct}
use Rattle.ppddl_model.specs.declared.tree.TypeDecl.{TypeDecl}
use Rattle.type_table.specs.Rows.{row_at, pushed, EachRow, in_row, IsGrown, IsMember}
use Rattle.type_table.specs.Types.{type_names, under}
use Rattle.type_table.specs.Hierarchy.{IsRowOf}
use Rattle.type_table.proofs.Lists.{by_test}
use Rattle.type_table.proofs.RowSteps.{rows_pushed}
use Rattle.type_table.proofs.Bridge.{in_numbers}

abbrev pub is_in : List ℕ → ℕ → Bool
is_in kinds k = list_any (λ y. nat_eq y k) kinds

new_here : (kinds : List ℕ) (i : ℕ) → i < length kinds → IsDistinct nat_eq kinds → is_in (take i kinds) (get_or kinds i 0) ≡ false
new_here kinds i within distinct = by_test (is_in (take i kinds) (get_or kinds i 0))
    (λ e.
    let c : ℕ = get_or kinds i 0 in
    let at = in_numbers c (take i kinds) e in
    let lower : at.0 < i = omega (arith, at.1, length-take i kinds) in
    let same : get_or kinds at.0 0 ≡ c = get_or_default kinds at.0 0 c (omega (arith, lower, within)) ∙ sym (get_or-take i kinds at.0 c lower) ∙ at.2 in
    absurd (true≢false (sym (eq-eqb (get_or kinds at.0 0) c same) ∙ apart_from_distinct nat_eq kinds at.0 i 0 distinct lower within)))
    (λ e. e)

module _ (old : List (List ℕ)) (n : ℕ) (kinds : List ℕ) (x : ℕ) where
  pub grown_none : length old ≡ n → EachRow n (IsGrown old [] x) old
  grown_none many = record { many = many; each = λ k below. sym (append-nil (row_at old k)) }

  is_in_more : (i k : ℕ) → i < length kinds → is_in (take (i + 1) kinds) k ≡ (is_in (take i kinds) k || (nat_eq (get_or kinds i 0) k || false))
  is_in_more i k within = ap (λ l. is_in l k) (take_more kinds i 0 within) ∙ list_any-append (λ y. nat_eq y k) (take i kinds) (get_or kinds i 0 ∷ [])

  or_false : (b : Bool) → (b || false) ≡ b
  or_false true = refl
  or_false false = refl

  pub grown_more : (i : ℕ) (rows : List (List ℕ)) → i < length kinds → get_or kinds i 0 < n → IsDistinct nat_eq kinds
      → EachRow n (IsGrown old (take i kinds) x) rows → EachRow n (IsGrown old (take (i + 1) kinds) x) (pushed rows (get_or kinds i 0) x)
  grown_more i rows within below distinct grown =
      let c : ℕ = get_or kinds i 0 in
      let row : ℕ → Bool → List ℕ = λ k b. row_at old k ++ cond b (x ∷ []) [] in
      rows_pushed n (λ k. row k (is_in (take i kinds) k)) (λ k. row k (is_in (take (i + 1) kinds) k)) rows c x grown below
      (ap (row c) (is_in_more i c within ∙ (λ j. new_here kinds i within distinct j || (eq-eqb c c refl j || false)))
      ∙ sym (ap (λ b. row c b ++ x ∷ []) (new_here kinds i within distinct) ∙ ap (λ l. l ++ x ∷ []) (append-nil (row_at old c))))
      (λ k other.
      ap (row k) (is_in_more i k within ∙ ap (λ b. is_in (take i kinds) k || (b || false)) (ne_eqb c k (λ e. other (sym e)))
      ∙ or_false (is_in (take i kinds) k)))

  -- and `object`
  pub member_there : (rows : List (List ℕ)) → is_in kinds 0 ≡ true → EachRow n (IsGrown old kinds x) rows → EachRow n (IsMember old kinds x) rows
  member_there rows there grown = record {
    many = grown.many;
    each = λ k below. grown.each k below ∙ ap (λ b. row_at old k ++ cond b (x ∷ []) []) (same k);
  }
    where
      same : (k : ℕ) → is_in kinds k ≡ in_row kinds k
      same k = by_test (k == 0)
          (λ e. ap (is_in kinds) (eqb-true k 0 e) ∙ there ∙ sym (ap (λ b. b || is_in kinds k) e))
          (λ e. sym (ap (λ b. b || is_in kinds k) e))

  pub member_pushed : (rows : List (List ℕ)) → 0 < n → is_in kinds 0 ≡ false → EachRow n (IsGrown old kinds x) rows → EachRow n (IsMember old kinds x) (pushed rows 0 x)
  member_pushed rows some new grown =
      let row : ℕ → Bool → List ℕ = λ k b. row_at old k ++ cond b (x ∷ []) [] in
      rows_pushed n (λ k. row k (is_in kinds k)) (λ k. row k (in_row kinds k)) rows 0 x grown some
      (sym (ap (λ b. row 0 b ++ x ∷ []) new ∙ ap (λ l. l ++ x ∷ []) (append-nil (row_at old 0))))
      (λ k other. ap (λ b. row k (b || is_in kinds k)) (ne_eqb k 0 other))

-- ---- objects in order

pub range_more : (a n : ℕ) → range_with_len a (n + 1) ≡ range_with_len a n ++ (a + n) ∷ []
range_more a zero = ap (λ m. m ∷ []) (let same : a ≡ a + 0 = omega arith in same)
range_more a (suc n) =
    let long : suc n + 1 ≡ suc (n + 1) = omega arith in
    let last : (a + 1) + n ≡ a + suc n = omega arith in
    ap (range_with_len a) long ∙ ap (λ l. a ∷ l) (range_more (a + 1) n ∙ ap (λ m. range_with_len (a + 1) n ++ m ∷ []) last)

abbrev pub members_before : List TypeDecl → List ℕ → ℕ → ℕ → List ℕ
members_before types kinds i k = filter (λ o. under types (get_or kinds o 0) k) (range_with_len 0 i)

before_more : (types : List TypeDecl) (kinds : List ℕ) (i k : ℕ)
    → members_before types kinds (i + 1) k ≡ members_before types kinds i k ++ cond (under types (get_or kinds i 0) k) (i ∷ []) []
before_more types kinds i k =
    let test : ℕ → Bool = λ o. under types (get_or kinds o 0) k in
    let last : 0 + i ≡ i = omega arith in
    ap (filter test) (range_more 0 i ∙ ap (λ m. range_with_len 0 i ++ m ∷ []) last) ∙ filter-append test (range_with_len 0 i) (i ∷ [])

pub members_more : (types : List TypeDecl) (kinds : List ℕ) (i n : ℕ) (row : List ℕ) (old new : List (List ℕ))
    → IsRowOf types (get_or kinds i 0) row → n ≡ length (type_names types)
    → EachRow (length (type_names types)) (λ k members. members ≡ members_before types kinds i k) old
    → EachRow n (IsMember old row i) new
    → EachRow (length (type_names types)) (λ k members. members ≡ members_before types kinds (i + 1) k) new
members_more types kinds i n row old new is many before added = record {
  many = added.many ∙ many;
  each = λ k below.
      added.each k (omega (arith, below, many))
      ∙ (λ j. before.each k below j ++ cond (is.exact k below j) (i ∷ []) [])
      ∙ sym (before_more types kinds i k);
}

pub members_none : (types : List TypeDecl) (kinds : List ℕ) (n : ℕ) (rows : List (List ℕ)) → n ≡ length (type_names types)
    → EachRow n (λ _ row. row ≡ []) rows → EachRow (length (type_names types)) (λ k members. members ≡ members_before types kinds 0 k) rows
members_none types kinds n rows many empty = record { many = empty.many ∙ many; each = λ k below. empty.each k (omega (arith, below, many)) }
