-- Walks up from a type, where each type has one parent at most.
use Rattle.std.proofs.Common.{◌≡◌, ◌≢◌, inl, inr, ℕ, zero, suc, ◌+◌, ◌-◌, ◌<◌, ◌≤◌, ◌==◌, Bool, true, false, List, [], ◌∷◌, ◌++◌, length, get_or, nat_eq, refl, sym, ap, subst, ◌∙◌, arith, eq-eqb, eqb-true, ne_eqb, true≢false, length-append}
use Rattle.std.specs.Prelude.{Contains}
use Rattle.std.specs.List.{AllByRecursion, IsDistinct, list_any}
use Rattle.std.proofs.lemmas.Bool.{cases_lt}
use Rattle.std.proofs.lemmas.List.{get_or_past}
use Rattle.std.proofs.lemmas.Map.Keys.{IsDistinct-cons}
use Rattle.std.proofs.lemmas.Map.Steps.{length-le_from_distinct_below}
use Rattle.std.proofs.lemmas.Map.Views.{Contains-from_any}
use Rattle.plain_list.proofs.Members.{Contains-first, Contains-nil}
use Rattle.type_table.specs.declared.forest.Rank.{Rank}
use Rattle.type_table.specs.Forest.{parent_at, climb, path, AreParentsWithin, HasLoop, IsPathTo, depth_at, jump_at, IsRanked, ArePlaced, IsForest, IsSingle, upward_path}
use Rattle.type_table.specs.Rows.{row_at, IsClosed, IsReached, HasRound}
use Rattle.type_table.proofs.Lists.{by_test}
use Rattle.type_table.proofs.Bridge.{same_tests, in_numbers, numbers_in}

-- ---- steps up

module _ (parents : List ℕ) where
  pub climb-add : (i j k : ℕ) → climb parents (i + j) k ≡ climb parents j (climb parents i k)
  climb-add zero j k = let same : zero + j ≡ j = omega arith in ap (λ n. climb parents n k) same
  climb-add (suc i) j k = let same : suc i + j ≡ suc (i + j) = omega arith in ap (λ n. climb parents n k) same ∙ climb-add i j (parent_at parents k)

  pub climb-next : (n k : ℕ) → climb parents (suc n) k ≡ parent_at parents (climb parents n k)
  climb-next zero k = refl
  climb-next (suc n) k = climb-next n (parent_at parents k)

  pub climb-within : AreParentsWithin parents → (n k : ℕ) → k < length parents → climb parents n k < length parents
  climb-within within zero k below = below
  climb-within within (suc n) k below = climb-within within n (parent_at parents k) (within k below)

  pub path-length : (n k : ℕ) → length (path parents n k) ≡ n
  path-length zero k = refl
  path-length (suc n) k = ap suc (path-length n (parent_at parents k))

  pub path-push : (n k : ℕ) → path parents (suc n) k ≡ path parents n k ++ climb parents n k ∷ []
  path-push zero k = refl
  path-push (suc n) k = ap (λ rest. k ∷ rest) (path-push n (parent_at parents k))

  pub path-get : (n i k d : ℕ) → i < n → get_or (path parents n k) i d ≡ climb parents i k
  path-get zero i k d below = absurd (omega (arith, below))
  path-get (suc n) zero k d below = refl
  path-get (suc n) (suc i) k d below = path-get n i (parent_at parents k) d (omega (arith, below))

  pub path_has : (n i k : ℕ) → i < n → Contains (path parents n k) (climb parents i k)
  path_has n i k below = (i, omega (arith, below, path-length n k), path-get n i k (climb parents i k) below)

  pub path_cases : (n k x : ℕ) → Contains (path parents n k) x → (i : ℕ) × (i < n) × (climb parents i k ≡ x)
  path_cases n k x (i, below, is) =
      let lower : i < n = omega (arith, below, path-length n k) in
      (i, lower, sym (path-get n i k x lower) ∙ is)

  all_path : (P : ℕ → Type 0) (n k : ℕ) → ((i : ℕ) → i < n → P (climb parents i k)) → AllByRecursion P (path parents n k)
  all_path P zero k all = tt
  all_path P (suc n) k all = (all 0 (omega arith), all_path P n (parent_at parents k) (λ i below. all (suc i) (omega (arith, below))))

-- ---- a walk that meets a type again

pub loop_of : (parents : List ℕ) (k : ℕ) (keys : List ℕ) (top : ℕ) → AreParentsWithin parents → k < length parents → IsPathTo parents k keys top → Contains keys top → HasLoop parents
loop_of parents k keys top within below is there =
    let n = length keys in
    let at = path_cases parents n k top (subst (λ l. Contains l top) is.keys_are there) in
    let i = at.0 in
    let last : ℕ = n - 1 in
    let one : suc last ≡ n = omega (arith, at.1) in
    let rest : i + (last - i) ≡ last = omega (arith, at.1) in
    let c = climb parents last k in
    let up : parent_at parents c ≡ top = sym (climb-next parents last k) ∙ ap (λ m. climb parents m k) one ∙ is.leads in
    let back : climb parents (last - i) top ≡ c =
    ap (climb parents (last - i)) (sym at.2) ∙ sym (climb-add parents i (last - i) k) ∙ ap (λ m. climb parents m k) rest in
    record {
      child = c;
      within = climb-within parents within last k below;
      other = is.real last (omega (arith, at.1));
      steps = last - i;
      back = ap (climb parents (last - i)) up ∙ back;
    }

pub distinct_none : IsDistinct nat_eq []
unfolding IsDistinct
distinct_none = tt

pub path_begins : (parents : List ℕ) (k : ℕ) → k < length parents → IsPathTo parents k [] k
path_begins parents k below = record { keys_are = refl; leads = refl; within = below; real = λ n none. absurd (omega (arith, none)) }

module _ (parents : List ℕ) (k : ℕ) (keys : List ℕ) (top : ℕ) (within : AreParentsWithin parents) (is : IsPathTo parents k keys top) where
  pub path_goes_on : (parent_at parents top ≡ top → ⊥) → IsPathTo parents k (keys ++ top ∷ []) (parent_at parents top)
  path_goes_on other =
      let more : length (keys ++ top ∷ []) ≡ suc (length keys) = omega (arith, length-append keys (top ∷ [])) in
      record {
        keys_are =
            (λ i. is.keys_are i ++ sym is.leads i ∷ [])
            ∙ sym (path-push parents (length keys) k)
            ∙ ap (λ n. path parents n k) (sym more);
        leads = ap (λ n. climb parents n k) more ∙ climb-next parents (length keys) k ∙ ap (parent_at parents) is.leads;
        within = within top is.within;
        real = λ n below. by_test (n == length keys)
            (λ e.
            let here : climb parents n k ≡ top = ap (λ m. climb parents m k) (eqb-true n (length keys) e) ∙ is.leads in
            λ same. other (ap (parent_at parents) (sym here) ∙ same ∙ here))
            (λ e. is.real n (let apart : n ≢ length keys = λ same. true≢false (sym (eq-eqb n (length keys) same) ∙ e) in omega (arith, below, more, apart)));
      }

  -- no more keys than types
  pub path_few : k < length parents → IsDistinct nat_eq keys → length keys ≤ length parents
  path_few below distinct =
      length-le_from_distinct_below keys (length parents) distinct
      (λ q there.
      let at = path_cases parents (length keys) k q (subst (λ l. Contains l q) is.keys_are (Contains-from_any eqb-true q keys there)) in
      subst (λ x. x < length parents) at.2 (climb-within parents within at.0 k below))

-- ---- steps up of types that have ranks

module _ (parents : List ℕ) (ranks : List Rank) (placed : ArePlaced parents ranks) where
  pub climb-ranked : (n k : ℕ) → IsRanked ranks k → IsRanked ranks (climb parents n k)
  climb-ranked zero k ranked = ranked
  climb-ranked (suc n) k ranked = climb-ranked n (parent_at parents k) (placed k ranked).above

  pub climb-depth : (n k : ℕ) → IsRanked ranks k → depth_at ranks (climb parents n k) ≡ depth_at ranks k - n
  climb-depth zero k ranked = omega arith
  climb-depth (suc n) k ranked =
      let rest = climb-depth n (parent_at parents k) (placed k ranked).above in
      let next = (placed k ranked).next in
      omega (arith, rest, next)

  pub climb-root : (n k : ℕ) → IsRanked ranks k → depth_at ranks k ≡ 0 → climb parents n k ≡ k
  climb-root zero k ranked root = refl
  climb-root (suc n) k ranked root = ap (climb parents n) ((placed k ranked).root root) ∙ climb-root n k ranked root

  pub jump_depth : (k : ℕ) → IsRanked ranks k → depth_at ranks (jump_at ranks k) ≤ depth_at ranks k
  jump_depth k ranked =
      let is = placed k ranked in
      let depth : depth_at ranks (jump_at ranks k) ≡ depth_at ranks k - is.steps = ap (depth_at ranks) (sym is.far) ∙ climb-depth is.steps k ranked in
      omega (arith, depth)

  pub jump_less : (k : ℕ) → IsRanked ranks k → 0 < depth_at ranks k → depth_at ranks (jump_at ranks k) < depth_at ranks k
  jump_less k ranked deep =
      let is = placed k ranked in
      let depth : depth_at ranks (jump_at ranks k) ≡ depth_at ranks k - is.steps = ap (depth_at ranks) (sym is.far) ∙ climb-depth is.steps k ranked in
      let some = is.some deep in
      omega (arith, depth, some, deep)

  pub distinct_path : (n k : ℕ) → IsRanked ranks k → n ≤ suc (depth_at ranks k) → IsDistinct nat_eq (path parents n k)
  unfolding IsDistinct
  distinct_path zero k ranked few = tt
  distinct_path (suc n) k ranked few =
      let next = (placed k ranked).next in
      IsDistinct-cons nat_eq k (path parents n (parent_at parents k))
      (all_path parents (λ y. nat_eq k y ≡ false) n (parent_at parents k)
      (λ i below.
      let deep : depth_at ranks (climb parents (suc i) k) ≡ depth_at ranks k - suc i = climb-depth (suc i) k ranked in
      ne_eqb k (climb parents (suc i) k)
      (λ same. let depths : depth_at ranks k ≡ depth_at ranks (climb parents (suc i) k) = ap (depth_at ranks) same in omega (arith, deep, depths, below, few))))
      (distinct_path n (parent_at parents k) (placed k ranked).above (omega (arith, next, few)))

  -- a type above another, from it and from a type on the way that is at least as deep
  abbrev pub IsAboveBy : ℕ → ℕ → Type 0
  IsAboveBy k other = (n : ℕ) × (climb parents n k ≡ other)

  module _ (k other : ℕ) (ranked : IsRanked ranks k) where
    -- from a type on the way that is as deep as the other
    pub above_on : (j : ℕ) → depth_at ranks other ≤ depth_at ranks (climb parents j k) → IsAboveBy k other → IsAboveBy (climb parents j k) other
    above_on j deep (n, is) = elim (cases_lt n j) [
      | inl lower ↦
          let left : n + (j - n) ≡ j = omega (arith, lower) in
          let from : climb parents (j - n) other ≡ climb parents j k =
          ap (climb parents (j - n)) (sym is) ∙ sym (climb-add parents n (j - n) k) ∙ ap (λ m. climb parents m k) left in
          let other_ranked : IsRanked ranks other = subst (IsRanked ranks) is (climb-ranked n k ranked) in
          let depth : depth_at ranks (climb parents j k) ≡ depth_at ranks other - (j - n) = ap (depth_at ranks) (sym from) ∙ climb-depth (j - n) other other_ranked in
          let root : depth_at ranks other ≡ 0 = omega (arith, depth, deep, lower) in
          (0, sym from ∙ climb-root (j - n) other other_ranked root)
      | inr more ↦
          let left : j + (n - j) ≡ n = omega (arith, more) in
          (n - j, sym (climb-add parents j (n - j) k) ∙ ap (λ m. climb parents m k) left ∙ is)
    ]

    pub above_from : (j : ℕ) → IsAboveBy (climb parents j k) other → IsAboveBy k other
    above_from j (n, is) = (j + n, climb-add parents j n k ∙ is)

    -- where the other is not further up, it is this type or it is not above
    pub above_here : depth_at ranks k ≤ depth_at ranks other → IsAboveBy k other → k ≡ other
    above_here deep (n, is) =
        let depth : depth_at ranks other ≡ depth_at ranks k - n = ap (depth_at ranks) (sym is) ∙ climb-depth n k ranked in
        elim (cases_lt 0 n) [
          | inl some ↦ let root : depth_at ranks k ≡ 0 = omega (arith, depth, deep, some) in sym (climb-root n k ranked root) ∙ is
          | inr none ↦ let zero_is : n ≡ 0 = omega (arith, none) in sym (ap (λ m. climb parents m k) zero_is) ∙ is
        ]

    pub in_upward : IsAboveBy k other → Contains (upward_path parents ranks k) other
    in_upward (n, is) = elim (cases_lt n (suc (depth_at ranks k))) [
      | inl lower ↦ subst (Contains (upward_path parents ranks k)) is (path_has parents (suc (depth_at ranks k)) n k lower)
      | inr more ↦
          let d = depth_at ranks k in
          let left : d + (n - d) ≡ n = omega (arith, more) in
          let top = climb parents d k in
          let depth : depth_at ranks top ≡ d - d = climb-depth d k ranked in
          let same : top ≡ other =
          sym (climb-root (n - d) top (climb-ranked d k ranked) (omega (arith, depth)))
          ∙ sym (climb-add parents d (n - d) k) ∙ ap (λ m. climb parents m k) left ∙ is in
          subst (Contains (upward_path parents ranks k)) same (path_has parents (suc d) d k (omega arith))
    ]

    pub upward_cases : Contains (upward_path parents ranks k) other → IsAboveBy k other
    upward_cases there = let at = path_cases parents (suc (depth_at ranks k)) k other there in (at.0, at.2)

-- ---- the answer of a walk

pub record IsWalk (parents : List ℕ) (kind other at : ℕ) : Type 0 where
  pub within : at < length parents
  pub on : (n : ℕ) → climb parents n kind ≡ other → (m : ℕ) × (climb parents m at ≡ other)
  pub from : (n : ℕ) → climb parents n at ≡ other → (m : ℕ) × (climb parents m kind ≡ other)

module _ (parents : List ℕ) (ranks : List Rank) (forest : IsForest parents ranks) (kind other at : ℕ) (walk : IsWalk parents kind other at) where
  ranked_at : IsRanked ranks at
  ranked_at = forest.each at walk.within

  pub walk_on : (j : ℕ) → depth_at ranks other ≤ depth_at ranks (climb parents j at) → IsWalk parents kind other (climb parents j at)
  walk_on j deep = record {
    within = climb-within parents forest.within j at walk.within;
    on = λ n is. above_on parents ranks forest.placed at other ranked_at j deep (walk.on n is);
    from = λ n is. let first = above_from parents ranks forest.placed at other ranked_at j (n, is) in walk.from first.0 first.1;
  }

  pub walk_ends : kind < length parents → depth_at ranks at ≤ depth_at ranks other → (at == other) ≡ list_any (λ x. nat_eq x other) (upward_path parents ranks kind)
  walk_ends below deep =
      let ranked = forest.each kind below in
      same_tests (at == other) (list_any (λ x. nat_eq x other) (upward_path parents ranks kind))
      (λ e. numbers_in other (upward_path parents ranks kind) (in_upward parents ranks forest.placed kind other ranked (walk.from 0 (eqb-true at other e))))
      (λ e.
      let there = upward_cases parents ranks forest.placed kind other ranked (in_numbers other (upward_path parents ranks kind) e) in
      eq-eqb at other (above_here parents ranks forest.placed at other ranked_at deep (walk.on there.0 there.1)))

-- ---- what is reached is what is met on the way up

module _ (rows : List (List ℕ)) (parents : List ℕ) (single : IsSingle rows parents) where
  pub only_up : (a x : ℕ) → Contains (row_at rows a) x → (a < length rows) × (x ≡ parent_at parents a)
  only_up a x inside = elim (cases_lt a (length rows)) [
    | inl below ↦ (below, (single.each a below).only x inside)
    | inr past ↦ absurd (Contains-nil x (subst (λ row. Contains row x) (get_or_past rows a [] past) inside))
  ]

  pub inside_up : (inside : ℕ → Bool) → IsClosed rows inside → (n k : ℕ) → k < length parents → inside k ≡ true → inside (climb parents n k) ≡ true
  inside_up inside closed zero k below begins = begins
  inside_up inside closed (suc n) k below begins =
      inside_up inside closed n (parent_at parents k) (single.within k below)
      (by_test (parent_at parents k == k)
      (λ e. ap inside (eqb-true (parent_at parents k) k e) ∙ begins)
      (λ e. closed k (parent_at parents k) begins ((single.each k (omega (arith, below, single.many))).real (λ same. true≢false (sym (eq-eqb (parent_at parents k) k same) ∙ e)))))

  pub reached_path : (ranks : List Rank) → IsForest parents ranks → (k : ℕ) → k < length parents → IsReached rows k (upward_path parents ranks k)
  reached_path ranks forest k below =
      let ranked = forest.each k below in
      let d = depth_at ranks k in
      record {
        distinct = distinct_path parents ranks forest.placed (suc d) k ranked (omega arith);
        within = λ x there.
            let at = path_cases parents (suc d) k x there in
            omega (arith, subst (λ y. y < length parents) at.2 (climb-within parents forest.within at.0 k below), single.many);
        itself = Contains-first k (path parents d (parent_at parents k));
        closed = λ a x there inside.
            let at = upward_cases parents ranks forest.placed k a ranked there in
            in_upward parents ranks forest.placed k x ranked
            (suc at.0, climb-next parents at.0 k ∙ ap (parent_at parents) at.1 ∙ sym (only_up a x inside).1);
        least = λ inside closed begins a there.
            let at = upward_cases parents ranks forest.placed k a ranked there in
            subst (λ y. inside y ≡ true) at.1 (inside_up inside closed at.0 k below begins);
      }

  -- a walk that comes back is a round
  pub round_of_loop : HasLoop parents → HasRound rows
  round_of_loop loop =
      let c = loop.child in
      let is = single.each c (omega (arith, loop.within, single.many)) in
      record {
        child = c;
        parent = parent_at parents c;
        declared = is.real loop.other;
        real = λ child parent. loop.other (parent ∙ sym child);
        back = inr (λ inside closed begins. ap inside (sym loop.back) ∙ inside_up inside closed loop.steps (parent_at parents c) (single.within c loop.within) begins);
      }

  -- and where each has a rank, no declaration leads back
  pub no_way_back : (ranks : List Rank) → IsForest parents ranks → (child parent : ℕ) → Contains (row_at rows child) parent → (child ≡ 0 → ⊥)
      → Contains (upward_path parents ranks parent) child → ⊥
  no_way_back ranks forest child parent declared other there =
      let up = only_up child parent declared in
      let below : child < length parents = omega (arith, up.0, single.many) in
      let is = single.each child up.0 in
      let within : parent < length parents = subst (λ x. x < length parents) (sym up.1) (single.within child below) in
      let at = upward_cases parents ranks forest.placed parent child (forest.each parent within) there in
      let depth : depth_at ranks child ≡ depth_at ranks parent - at.0 = ap (depth_at ranks) (sym at.1) ∙ climb-depth parents ranks forest.placed at.0 parent (forest.each parent within) in
      let next : depth_at ranks parent ≡ depth_at ranks child - 1 = ap (depth_at ranks) up.1 ∙ (forest.placed child (forest.each child below)).next in
      let root : depth_at ranks child ≡ 0 = omega (arith, depth, next) in
      other (is.own (subst (Contains (row_at rows child)) (up.1 ∙ (forest.placed child (forest.each child below)).root root) declared))
