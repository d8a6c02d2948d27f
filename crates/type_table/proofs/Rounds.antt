-- What stands above each type, and declarations that lead back.
use Rattle.std.proofs.Common.{◌≡◌, inl, inr, ℕ, ◌+◌, ◌<◌, ◌==◌, Bool, true, false, not, ◌&&◌, ◌||◌, List, [], ◌∷◌, ◌++◌, length, filter, get_or, nat_eq, refl, sym, ap, subst, ◌∙◌, arith, eq-eqb, eqb-true, true≢false, length-append}
use Rattle.std.specs.Prelude.{Contains}
use Rattle.std.specs.List.{list_any, range_with_len}
use Rattle.std.proofs.lemmas.Bool.{cases_lt}
use Rattle.std.proofs.lemmas.List.FromFn.{length-map-range_with_len, length-range_with_len, get_or-range_with_len}
use Rattle.plain_list.proofs.Members.{Contains-first, Contains-later, Contains-map}
use Rattle.type_table.specs.declared.forest.Forest.{Forest}
use Rattle.type_table.specs.declared.above.Above.TheVariants.{Single}
use Rattle.type_table.specs.declared.link.Link.{Link}
use Rattle.type_table.specs.Above.{rows_of}
use Rattle.type_table.specs.Forest.{parent_at, IsForest, IsOnly, IsOwnParent, IsSingle, upward_path}
use Rattle.type_table.specs.Rows.{row_at, parents_of, EachRow, AreWithin, IsReached, HasRound, AreEnds, in_row, is_round}
use Rattle.type_table.proofs.Lists.{by_test, get-map, Contains-filter}
use Rattle.type_table.proofs.RowSteps.{get_last, get_before}
use Rattle.type_table.proofs.Bridge.{in_numbers}
use Rattle.type_table.proofs.Climbing.{reached_path, no_way_back, only_up}

-- ---- the rows of a forest

pub many_paths : (forest : Forest) → length (rows_of (Single forest)) ≡ length forest.parents
many_paths forest = length-map-range_with_len (upward_path forest.parents forest.ranks) 0 (length forest.parents)

pub path_row : (forest : Forest) (k : ℕ) → k < length forest.parents → row_at (rows_of (Single forest)) k ≡ upward_path forest.parents forest.ranks k
path_row forest k below =
    let n = length forest.parents in
    get-map (upward_path forest.parents forest.ranks) (range_with_len 0 n) k [] 0 (omega (arith, below, length-range_with_len 0 n))
    ∙ ap (upward_path forest.parents forest.ranks) (let at : get_or (range_with_len 0 n) k 0 ≡ 0 + k = get_or-range_with_len 0 n k 0 below in let same : 0 + k ≡ k = omega arith in at ∙ same)

pub paths_reached : (rows : List (List ℕ)) (forest : Forest) → IsSingle rows forest.parents → IsForest forest.parents forest.ranks → EachRow (length rows) (IsReached rows) (rows_of (Single forest))
paths_reached rows forest single is = record {
  many = many_paths forest ∙ single.many;
  each = λ k below.
      let within : k < length forest.parents = omega (arith, below, single.many) in
      subst (IsReached rows k) (sym (path_row forest k within)) (reached_path rows forest.parents single forest.ranks is k within);
}

-- ---- declarations that lead back

any_cases : {X : Type 0} (p : X → Bool) (xs : List X) → list_any p xs ≡ true → (x : X) × Contains xs x × (p x ≡ true)
any_cases p [] passes = absurd (true≢false (sym passes))
any_cases p (x ∷ xs) passes = by_test (p x)
    (λ e. (x, Contains-first x xs, e))
    (λ e.
    let later = any_cases p xs (sym (ap (λ b. b || list_any p xs) e) ∙ passes) in
    (later.0, Contains-later x xs later.0 later.1, later.2))

both : (a b : Bool) → (a && b) ≡ true → (a ≡ true) × (b ≡ true)
both true b e = (refl, e)
both false b e = absurd (true≢false (sym e))

parent_declared : (links : List Link) (parents : List (List ℕ)) (n : ℕ) → EachRow n (λ k row. row ≡ parents_of links k) parents → (l : Link) → Contains links l → l.child < n → Contains (row_at parents l.child) l.parent
parent_declared links parents n above l inside below =
    subst (λ row. Contains row l.parent) (sym (above.each l.child below))
    (Contains-map (λ (m : Link). m.parent) (filter (λ (m : Link). m.child == l.child) links) l
    (Contains-filter (λ (m : Link). m.child == l.child) links l inside (eq-eqb l.child l.child refl)))

pub round_found : (links : List Link) (parents rows : List (List ℕ)) (n : ℕ) → EachRow n (λ k row. row ≡ parents_of links k) parents
    → ((l : Link) → Contains links l → AreEnds n l) → EachRow n (IsReached parents) rows → list_any (is_round rows) links ≡ true → HasRound parents
round_found links parents rows n above ends reached met =
    let at = any_cases (is_round rows) links met in
    let l = at.0 in
    let end = ends l at.1 in
    let split = both (not ((l.child == 0) && (l.parent == 0))) (in_row (row_at rows l.parent) l.child) at.2 in
    record {
      child = l.child;
      parent = l.parent;
      declared = parent_declared links parents n above l at.1 end.child;
      real = λ c p. true≢false (sym split.0 ∙ (λ i. not (eq-eqb l.child 0 c i && eq-eqb l.parent 0 p i)));
      back = by_test (l.child == 0)
          (λ e. inl (eqb-true l.child 0 e))
          (λ e.
          let there = in_numbers l.child (row_at rows l.parent) (sym (ap (λ b. b || list_any (λ x. nat_eq x l.child) (row_at rows l.parent)) e) ∙ split.1) in
          inr (λ inside closed begins. (reached.each l.parent end.parent).least inside closed begins l.child there));
    }

none_of : {X : Type 0} (p : X → Bool) (xs : List X) → ((x : X) → Contains xs x → p x ≡ false) → list_any p xs ≡ false
none_of p [] all = refl
none_of p (x ∷ xs) all = (λ i. all x (Contains-first x xs) i || none_of p xs (λ y inside. all y (Contains-later x xs y inside)) i)

-- where each type has a rank, none does
pub no_rounds : (links : List Link) (parents : List (List ℕ)) (forest : Forest) (n : ℕ) → EachRow n (λ k row. row ≡ parents_of links k) parents
    → ((l : Link) → Contains links l → AreEnds n l) → IsSingle parents forest.parents → IsForest forest.parents forest.ranks → list_any (is_round (rows_of (Single forest))) links ≡ false
no_rounds links parents forest n above ends single is = none_of (is_round (rows_of (Single forest))) links (λ l inside.
    let end = ends l inside in
    let declared = parent_declared links parents n above l inside end.child in
    let within : l.parent < length forest.parents = omega (arith, end.parent, single.many, above.many) in
    let row = path_row forest l.parent within in
    by_test (l.child == 0)
    (λ e.
    let top = (single.each l.child (omega (arith, end.child, above.many))).top (eqb-true l.child 0 e) in
    let parent : l.parent ≡ 0 = (only_up parents forest.parents single l.child l.parent declared).1 ∙ top in
    (λ i. not (e i && eq-eqb l.parent 0 parent i) && in_row (row_at (rows_of (Single forest)) l.parent) l.child))
    (λ e. by_test (list_any (λ x. nat_eq x l.child) (upward_path forest.parents forest.ranks l.parent))
    (λ there. absurd (no_way_back parents forest.parents single forest.ranks is l.child l.parent declared
    (λ zero_is. true≢false (sym (eq-eqb l.child 0 zero_is) ∙ e)) (in_numbers l.child (upward_path forest.parents forest.ranks l.parent) there)))
    (λ none. (λ i. not (e i && (l.parent == 0)) && (e i || (ap (λ r. list_any (λ x. nat_eq x l.child) r) row ∙ none) i)))))

-- ---- the one parent of each type

pub record AreOnly (rows : List (List ℕ)) (n : ℕ) (parents : List ℕ) : Type 0 where
  pub many : length parents ≡ n
  pub each : (k : ℕ) → k < n → IsOnly (row_at rows k) k (parent_at parents k)

pub only_more : (rows : List (List ℕ)) (n : ℕ) (parents : List ℕ) (parent : ℕ) → AreOnly rows n parents → IsOnly (row_at rows n) n parent → AreOnly rows (n + 1) (parents ++ parent ∷ [])
only_more rows n parents parent are one = record {
  many = omega (arith, are.many, length-append parents (parent ∷ []));
  each = λ k below. elim (cases_lt k n) [
    | inl lower ↦ subst (IsOnly (row_at rows k) k) (sym (get_before parents parent 0 k (omega (arith, lower, are.many)))) (are.each k lower)
    | inr last ↦
        let here : k ≡ n = omega (arith, below, last) in
        let now : parent_at (parents ++ parent ∷ []) k ≡ parent = ap (λ j. get_or (parents ++ parent ∷ []) j 0) (here ∙ sym are.many) ∙ get_last parents parent 0 in
        subst (IsOnly (row_at rows k) k) (sym now) (subst (λ j. IsOnly (row_at rows j) j parent) (sym here) one)
  ];
}

pub single_of : (rows : List (List ℕ)) (n : ℕ) (parents : List ℕ) → AreWithin rows → n ≡ length rows → AreOnly rows n parents → IsSingle rows parents
single_of rows n parents within all are = record {
  many = are.many ∙ all;
  within = λ k below.
      let is = are.each k (omega (arith, below, are.many)) in
      by_test (parent_at parents k == k)
      (λ e. omega (arith, below, eqb-true (parent_at parents k) k e))
      (λ e. omega (arith, within k (parent_at parents k) (is.real (λ same. true≢false (sym (eq-eqb (parent_at parents k) k same) ∙ e))), are.many, all));
  each = λ k below. are.each k (omega (arith, below, all));
}

pub round_of_own : (rows : List (List ℕ)) (k : ℕ) → IsOwnParent (row_at rows k) k → HasRound rows
round_of_own rows k own = elim own.is [
  | inl (same, other) ↦ record {
    child = k;
    parent = own.parent;
    declared = own.declared;
    real = λ c p. other c;
    back = inr (λ inside closed begins. ap inside (sym same) ∙ begins);
  }
  | inr (top, other) ↦ record { child = k; parent = own.parent; declared = own.declared; real = λ c p. other p; back = inl top }
]
