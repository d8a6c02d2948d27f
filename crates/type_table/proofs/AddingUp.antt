-- An object that is put behind those of a type and of each type above it.
use Rattle.std.proofs.Common.{◌≡◌, ℕ, suc, ◌+◌, ◌-◌, ◌<◌, ◌≤◌, List, length, take, get_or, sym, ap, subst, ◌∙◌, arith}
use Rattle.std.proofs.lemmas.List.{take_all}
use Rattle.type_table.specs.declared.forest.Rank.{Rank}
use Rattle.type_table.specs.Forest.{parent_at, climb, depth_at, IsForest, upward_path}
use Rattle.type_table.specs.Rows.{pushed, EachRow, IsGrown}
use Rattle.type_table.proofs.Climbing.{climb-next, climb-within, climb-depth, path-length, path-get, distinct_path}
use Rattle.type_table.proofs.MemberSteps.{grown_none, grown_more}

module _ (parents : List ℕ) (ranks : List Rank) (kind : ℕ) (old : List (List ℕ)) (x : ℕ) where
  abbrev pub done : ℕ → ℕ
  done at = depth_at ranks kind - depth_at ranks at

  -- all types from `kind` to `at` have it
  abbrev pub IsUp : ℕ → List (List ℕ) → Type 0
  IsUp at rows =
      (at ≡ climb parents (done at) kind)
      × EachRow (length parents) (IsGrown old (take (suc (done at)) (upward_path parents ranks kind)) x) rows

module _ (parents : List ℕ) (ranks : List Rank) (forest : IsForest parents ranks) (kind : ℕ) (below : kind < length parents) (old : List (List ℕ)) (x : ℕ) where
  abbrev full : List ℕ
  full = upward_path parents ranks kind

  abbrev far : ℕ → ℕ
  far at = done parents ranks kind old x at

  one_more : (i : ℕ) (rows : List (List ℕ)) → i < suc (depth_at ranks kind) → EachRow (length parents) (IsGrown old (take i full) x) rows
      → EachRow (length parents) (IsGrown old (take (suc i) full) x) (pushed rows (climb parents i kind) x)
  one_more i rows lower grown =
      let d = depth_at ranks kind in
      let here : get_or full i 0 ≡ climb parents i kind = path-get parents (suc d) i kind 0 lower in
      let next : i + 1 ≡ suc i = omega arith in
      let within = climb-within parents forest.within i kind below in
      subst (λ n. EachRow (length parents) (IsGrown old (take n full) x) (pushed rows (climb parents i kind) x)) next
      (subst (λ k. EachRow (length parents) (IsGrown old (take (i + 1) full) x) (pushed rows k x)) here
      (grown_more old (length parents) full x i rows (omega (arith, lower, path-length parents (suc d) kind)) (omega (arith, here, within))
      (distinct_path parents ranks forest.placed (suc d) kind (forest.each kind below) (omega arith)) grown))

  pub up_begins : length old ≡ length parents → IsUp parents ranks kind old x kind (pushed old kind x)
  up_begins many =
      let none : far kind ≡ 0 = omega arith in (
        sym (ap (λ n. climb parents n kind) none),
        subst (λ n. EachRow (length parents) (IsGrown old (take (suc n) full) x) (pushed old kind x)) (sym none) (one_more 0 old (omega arith) (grown_none old (length parents) full x many)),
      )

  pub up_more : (at : ℕ) (rows : List (List ℕ)) → at < length parents → 0 < depth_at ranks at → IsUp parents ranks kind old x at rows → IsUp parents ranks kind old x (parent_at parents at) (pushed rows (parent_at parents at) x)
  up_more at rows within deep up =
      let ranked = forest.each kind below in
      let next = (forest.placed at (forest.each at within)).next in
      let here : depth_at ranks at ≡ depth_at ranks kind - far at = ap (depth_at ranks) up.0 ∙ climb-depth parents ranks forest.placed (far at) kind ranked in
      let now : far (parent_at parents at) ≡ suc (far at) = omega (arith, next, here, deep) in
      let is : parent_at parents at ≡ climb parents (suc (far at)) kind = ap (parent_at parents) up.0 ∙ sym (climb-next parents (far at) kind) in (
        is ∙ sym (ap (λ n. climb parents n kind) now),
        subst (λ n. EachRow (length parents) (IsGrown old (take (suc n) full) x) (pushed rows (parent_at parents at) x)) (sym now)
            (subst (λ k. EachRow (length parents) (IsGrown old (take (suc (suc (far at))) full) x) (pushed rows k x)) (sym is)
            (one_more (suc (far at)) rows (omega (arith, here, deep)) up.1)),
      )

  pub up_ends : (at : ℕ) (rows : List (List ℕ)) → depth_at ranks at ≤ 0 → IsUp parents ranks kind old x at rows → EachRow (length parents) (IsGrown old full x) rows
  up_ends at rows root up =
      let whole : take (suc (far at)) full ≡ full = take_all (suc (far at)) full (omega (arith, root, path-length parents (suc (depth_at ranks kind)) kind)) in
      subst (λ keys. EachRow (length parents) (IsGrown old keys x) rows) whole up.1
