-- Types that get their places, one more at a time.
use Rattle.std.proofs.Common.{◌≡◌, ◌≢◌, inl, inr, ℕ, suc, ◌+◌, ◌-◌, ◌<◌, ◌≤◌, ◌==◌, List, [], ◌∷◌, ◌++◌, length, get_or, sym, ap, subst, ◌∙◌, arith, eq-eqb, eqb-true, true≢false, get_or-set_same, get_or-set_other, length-append, take, lit<}
use Rattle.std.specs.Prelude.{slice_set}
use Rattle.std.proofs.lemmas.Bool.{cases_lt}
use Rattle.std.proofs.lemmas.List.{length-set, get_or_past, get_or_default}
use Rattle.std.proofs.Math.Seq.{take-append_seam}
use Rattle.type_table.specs.declared.forest.Rank.{Rank}
use Rattle.type_table.specs.declared.forest.TheConstants.{UNPLACED}
use Rattle.type_table.specs.Forest.{parent_at, climb, path, rank_at, depth_at, jump_at, IsRanked, IsOnTheWay, IsPlaced, ArePlaced, IsMorePlaced}
use Rattle.type_table.proofs.Lists.{by_test}
use Rattle.type_table.proofs.RowSteps.{get_last}
use Rattle.type_table.proofs.Climbing.{climb-add, climb-next, path-length, path-push}

abbrev nowhere : Rank
nowhere = record { depth = UNPLACED; jump = 0 }

-- ---- no places yet

-- ---- one place

module _ (parents : List ℕ) (ranks : List Rank) (kind : ℕ) (rank : Rank) (below : kind < length ranks) where
  abbrev new : List Rank
  new = slice_set ranks kind rank

  here : rank_at new kind ≡ rank
  here = get_or-set_same ranks kind rank nowhere below

  elsewhere : (q : ℕ) → q ≢ kind → rank_at new q ≡ rank_at ranks q
  elsewhere q other = get_or-set_other ranks kind q rank nowhere other

  -- where the place, if there was one before, had the same depth
  module _ (placed : ArePlaced parents ranks) (fits : rank.depth < UNPLACED) (same : IsRanked ranks kind → rank.depth ≡ depth_at ranks kind) where
    depth_kept : (q : ℕ) → IsRanked ranks q → depth_at new q ≡ depth_at ranks q
    depth_kept q ranked = by_test (q == kind)
        (λ e.
        let is : q ≡ kind = eqb-true q kind e in
        ap (depth_at new) is ∙ ap (λ (r : Rank). r.depth) here ∙ same (subst (IsRanked ranks) is ranked) ∙ ap (depth_at ranks) (sym is))
        (λ e. ap (λ (r : Rank). r.depth) (elsewhere q (λ is. true≢false (sym (eq-eqb q kind is) ∙ e))))

    ranked_kept : (q : ℕ) → IsRanked ranks q → IsRanked new q
    ranked_kept q ranked = subst (λ d. d < UNPLACED) (sym (depth_kept q ranked)) ranked

    pub more_placed : IsMorePlaced ranks kind new
    more_placed = record {
      many = length-set ranks kind rank;
      here = subst (λ (r : Rank). r.depth < UNPLACED) (sym here) fits;
      kept = ranked_kept;
    }

    pub one_placed : IsPlaced parents new kind → ArePlaced parents new
    one_placed is q ranked = by_test (q == kind)
        (λ e. subst (IsPlaced parents new) (sym (eqb-true q kind e)) is)
        (λ e.
        let other : q ≢ kind = λ s. true≢false (sym (eq-eqb q kind s) ∙ e) in
        let old : rank_at new q ≡ rank_at ranks q = elsewhere q other in
        let depth : depth_at new q ≡ depth_at ranks q = ap (λ (r : Rank). r.depth) old in
        let jump : jump_at new q ≡ jump_at ranks q = ap (λ (r : Rank). r.jump) old in
        let was = placed q (subst (λ d. d < UNPLACED) depth ranked) in
        record {
          above = ranked_kept (parent_at parents q) was.above;
          next = depth_kept (parent_at parents q) was.above ∙ was.next ∙ ap (λ d. d - 1) (sym depth);
          root = λ none. was.root (sym depth ∙ none);
          ahead = subst (IsRanked new) (sym jump) (ranked_kept (jump_at ranks q) was.ahead);
          steps = was.steps;
          far = was.far ∙ sym jump;
          some = λ deep. was.some (subst (λ d. 0 < d) depth deep);
        })

-- ---- ranks that are read

pub rank_read : (ranks : List Rank) (k : ℕ) (rank : Rank) → k < length ranks → rank ≡ get_or ranks k rank → rank ≡ rank_at ranks k
rank_read ranks k rank below is = is ∙ get_or_default ranks k rank nowhere below

pub ranked_within : (ranks : List Rank) (k : ℕ) → IsRanked ranks k → k < length ranks
ranked_within ranks k ranked = elim (cases_lt k (length ranks)) [
  | inl below ↦ below
  | inr past ↦
      let none : depth_at ranks k ≡ UNPLACED = ap (λ (r : Rank). r.depth) (get_or_past ranks k nowhere past) in
      absurd (omega (arith, none, ranked))
]

-- ---- a type under its parent

module _ (parents : List ℕ) (ranks : List Rank) (kind : ℕ) (below : kind < length ranks) (placed : ArePlaced parents ranks)
    (parent : IsRanked ranks (parent_at parents kind)) (other : parent_at parents kind ≡ kind → ⊥) (depth jump : ℕ)
    (is : depth ≡ suc (depth_at ranks (parent_at parents kind))) (fits : depth < UNPLACED)
    (way : IsOnTheWay parents ranks (parent_at parents kind) jump) where
  abbrev rank : Rank
  rank = record { depth = depth; jump = jump }

  same_depth : IsRanked ranks kind → depth ≡ depth_at ranks kind
  same_depth ranked = elim (cases_lt 0 (depth_at ranks kind)) [
    | inl deep ↦ let next = (placed kind ranked).next in omega (arith, next, is, deep)
    | inr root ↦ absurd (other ((placed kind ranked).root (omega (arith, root))))
  ]

  pub settled : ArePlaced parents (slice_set ranks kind rank)
  settled =
      let now : rank_at (slice_set ranks kind rank) kind ≡ rank = here parents ranks kind rank below in
      let depth_now : depth_at (slice_set ranks kind rank) kind ≡ depth = ap (λ (r : Rank). r.depth) now in
      let jump_now : jump_at (slice_set ranks kind rank) kind ≡ jump = ap (λ (r : Rank). r.jump) now in
      let up = depth_kept parents ranks kind rank below placed fits same_depth (parent_at parents kind) parent in
      one_placed parents ranks kind rank below placed fits same_depth (record {
        above = ranked_kept parents ranks kind rank below placed fits same_depth (parent_at parents kind) parent;
        next = omega (arith, up, depth_now, is);
        root = λ none. absurd (omega (arith, none, depth_now, is));
        ahead = subst (IsRanked (slice_set ranks kind rank)) (sym jump_now) (ranked_kept parents ranks kind rank below placed fits same_depth jump way.ranked);
        steps = suc way.steps;
        far = way.far ∙ sym jump_now;
        some = λ deep. omega arith;
      })

-- the end of two jumps
pub two_jumps : (parents : List ℕ) (ranks : List Rank) (parent : ℕ) → ArePlaced parents ranks → IsRanked ranks parent → IsOnTheWay parents ranks parent (jump_at ranks (jump_at ranks parent))
two_jumps parents ranks parent placed ranked =
    let one = placed parent ranked in
    let two = placed (jump_at ranks parent) one.ahead in
    record {
      steps = one.steps + two.steps;
      far = climb-add parents one.steps two.steps parent ∙ ap (climb parents two.steps) one.far ∙ two.far;
      ranked = two.ahead;
    }

pub ranks_read : (slice ranks : List Rank) (d : Rank) → slice ≡ ranks → (k : ℕ) → k < length ranks → get_or slice k d ≡ rank_at ranks k
ranks_read slice ranks d are k below = ap (λ rs. get_or rs k d) are ∙ get_or_default ranks k d nowhere below

-- a type without a parent
pub settled_end : (parents : List ℕ) (ranks : List Rank) (kind : ℕ) → kind < length ranks → ArePlaced parents ranks → UNPLACED ≤ depth_at ranks kind → parent_at parents kind ≡ kind
    → ArePlaced parents (slice_set ranks kind (record { depth = 0; jump = kind })) × IsMorePlaced ranks kind (slice_set ranks kind (record { depth = 0; jump = kind }))
settled_end parents ranks kind below placed none root =
    let rank : Rank = record { depth = 0; jump = kind } in
    let now : rank_at (slice_set ranks kind rank) kind ≡ rank = here parents ranks kind rank below in
    let depth_now : depth_at (slice_set ranks kind rank) kind ≡ 0 = ap (λ (r : Rank). r.depth) now in
    let jump_now : jump_at (slice_set ranks kind rank) kind ≡ kind = ap (λ (r : Rank). r.jump) now in
    let same : IsRanked ranks kind → 0 ≡ depth_at ranks kind = λ ranked. absurd (omega (arith, none, ranked)) in
    let fits : 0 < UNPLACED = lit< tt in
    let ranked : IsRanked (slice_set ranks kind rank) kind = omega (arith, depth_now) in
    let up : depth_at (slice_set ranks kind rank) (parent_at parents kind) ≡ 0 = ap (depth_at (slice_set ranks kind rank)) root ∙ depth_now in (
      one_placed parents ranks kind rank below placed fits same (record {
        above = omega (arith, up);
        next = omega (arith, up, depth_now);
        root = λ _. root;
        ahead = subst (IsRanked (slice_set ranks kind rank)) (sym jump_now) ranked;
        steps = 0;
        far = sym jump_now;
        some = λ deep. absurd (omega (arith, deep, depth_now));
      }),
      more_placed parents ranks kind rank below placed fits same,
    )

-- ---- the way down

pub record IsDescent (parents : List ℕ) (old ranks : List Rank) (kind : ℕ) (keys : List ℕ) : Type 0 where
  pub many : length ranks ≡ length parents
  pub placed : ArePlaced parents ranks
  pub keys_are : keys ≡ path parents (length keys) kind
  pub ranked : IsRanked ranks (climb parents (length keys) kind)
  pub real : (n : ℕ) → n < length keys → parent_at parents (climb parents n kind) ≡ climb parents n kind → ⊥
  pub kept : (q : ℕ) → IsRanked old q → IsRanked ranks q

-- the last key, whose parent has a place
pub record IsNext (parents : List ℕ) (ranks : List Rank) (kind : ℕ) (rest : List ℕ) (last : ℕ) : Type 0 where
  pub is : last ≡ climb parents (length rest) kind
  pub parent : IsRanked ranks (parent_at parents last)
  pub other : parent_at parents last ≡ last → ⊥

module _ (parents : List ℕ) (old ranks : List Rank) (kind : ℕ) (keys rest : List ℕ) (last : ℕ) (descent : IsDescent parents old ranks kind keys)
    (popped : keys ≡ rest ++ last ∷ []) where
  one_less : length keys ≡ suc (length rest)
  one_less = omega (arith, ap length popped, length-append rest (last ∷ []))

  split : rest ++ last ∷ [] ≡ path parents (length rest) kind ++ climb parents (length rest) kind ∷ []
  split = sym popped ∙ descent.keys_are ∙ ap (λ n. path parents n kind) one_less ∙ path-push parents (length rest) kind

  rest_is : rest ≡ path parents (length rest) kind
  rest_is =
      sym (take-append_seam rest (last ∷ []))
      ∙ (λ i. take (sym (path-length parents (length rest) kind) i) (split i))
      ∙ take-append_seam (path parents (length rest) kind) (climb parents (length rest) kind ∷ [])

  last_is : last ≡ climb parents (length rest) kind
  last_is =
      sym (get_last rest last 0)
      ∙ (λ i. get_or (split i) (sym (path-length parents (length rest) kind) i) 0)
      ∙ get_last (path parents (length rest) kind) (climb parents (length rest) kind) 0

  pub next_key : IsNext parents ranks kind rest last
  next_key = record {
    is = last_is;
    parent = subst (IsRanked ranks) (ap (λ n. climb parents n kind) one_less ∙ climb-next parents (length rest) kind ∙ ap (parent_at parents) (sym last_is)) descent.ranked;
    other = λ same. descent.real (length rest) (omega (arith, one_less)) (sym (ap (parent_at parents) last_is) ∙ same ∙ last_is);
  }

  pub goes_down : (new : List Rank) → ArePlaced parents new → IsMorePlaced ranks last new → IsDescent parents old new kind rest
  goes_down new placed more = record {
    many = more.many ∙ descent.many;
    placed = placed;
    keys_are = rest_is;
    ranked = subst (IsRanked new) last_is more.here;
    real = λ n below. descent.real n (omega (arith, below, one_less));
    kept = λ q ranked. more.kept q (descent.kept q ranked);
  }
