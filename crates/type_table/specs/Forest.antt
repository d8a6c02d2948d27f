-- Types by number, each with one parent at most: a type without a parent is given as its own.
-- Source: E. W. Myers, An applicative random-access stack (Information Processing Letters, 1983), for the jumps.
--     parent_at parents k          the parent of a type
--     climb parents n k            the type n steps up
--     path parents n k             a type and the n - 1 types above it
--     depth_at, jump_at ranks k    how many types stand above a type, and one of them
--     upward_path parents ranks k  a type and all types above it
--     IsRanked ranks k             the type has a place
--     HasLoop parents              a type that has another parent comes back to itself
--     IsPathTo parents k keys top  the keys lead from k up to top
--     IsPlaced, ArePlaced          the rank of a type, or of each that has one, tells how deep it stands
--     IsOnly row k parent          the parent that a row of parents gives to a type
--     IsOwnParent row k            a type that is its own parent, or `object` where it has another one
--     IsSingle rows parents        the one parent of each type, by the rows of parents
--     IsForest parents ranks       each type has a rank that tells so
use Rattle.std.specs.Prelude.{◌≡◌, ◌<◌, ℕ, zero, suc, ◌-◌, ◌⊎◌, List, [], ◌∷◌, length, slice_index_or, Contains}
use Rattle.type_table.specs.declared.forest.Rank.{Rank}
use Rattle.type_table.specs.declared.forest.TheConstants.{UNPLACED}
use Rattle.type_table.specs.Rows.{row_at}

module _ (parents : List ℕ) where
  abbrev pub parent_at : ℕ → ℕ
  parent_at k = slice_index_or parents k 0

  abbrev pub climb : ℕ → ℕ → ℕ
  climb zero k = k
  climb (suc n) k = climb n (parent_at k)

  abbrev pub path : ℕ → ℕ → List ℕ
  path zero k = []
  path (suc n) k = k ∷ path n (parent_at k)

  abbrev pub AreParentsWithin : Type 0
  AreParentsWithin = (k : ℕ) → k < length parents → parent_at k < length parents

  pub record HasLoop : Type 0 where
    pub child : ℕ
    pub within : child < length parents
    pub other : parent_at child ≡ child → ⊥
    pub steps : ℕ
    pub back : climb steps (parent_at child) ≡ child

  pub record IsPathTo (k : ℕ) (keys : List ℕ) (top : ℕ) : Type 0 where
    pub keys_are : keys ≡ path (length keys) k
    pub leads : climb (length keys) k ≡ top
    pub within : top < length parents
    pub real : (n : ℕ) → n < length keys → parent_at (climb n k) ≡ climb n k → ⊥

-- ---- ranks

module _ (ranks : List Rank) where
  abbrev pub rank_at : ℕ → Rank
  rank_at k = slice_index_or ranks k (record { depth = UNPLACED; jump = 0 })

  abbrev pub depth_at : ℕ → ℕ
  depth_at k = (rank_at k).depth

  abbrev pub jump_at : ℕ → ℕ
  jump_at k = (rank_at k).jump

  abbrev pub IsRanked : ℕ → Type 0
  IsRanked k = depth_at k < UNPLACED

-- a type that is met on the way up from another
pub record IsOnTheWay (parents : List ℕ) (ranks : List Rank) (k other : ℕ) : Type 0 where
  pub steps : ℕ
  pub far : climb parents steps k ≡ other
  pub ranked : IsRanked ranks other

pub record IsPlaced (parents : List ℕ) (ranks : List Rank) (k : ℕ) : Type 0 where
  pub above : IsRanked ranks (parent_at parents k)
  pub next : depth_at ranks (parent_at parents k) ≡ depth_at ranks k - 1
  pub root : depth_at ranks k ≡ 0 → parent_at parents k ≡ k
  pub ahead : IsRanked ranks (jump_at ranks k)
  pub steps : ℕ
  pub far : climb parents steps k ≡ jump_at ranks k
  pub some : 0 < depth_at ranks k → 0 < steps

abbrev pub ArePlaced : List ℕ → List Rank → Type 0
ArePlaced parents ranks = (k : ℕ) → IsRanked ranks k → IsPlaced parents ranks k

pub record AreUnplaced (count : ℕ) (ranks : List Rank) : Type 0 where
  pub many : length ranks ≡ count
  pub none : (k : ℕ) → depth_at ranks k ≡ UNPLACED

-- where a walk up ends
abbrev pub IsEnd : List ℕ → List Rank → ℕ → Type 0
IsEnd parents ranks top = IsRanked ranks top ⊎ (parent_at parents top ≡ top)

pub record IsMorePlaced (old : List Rank) (k : ℕ) (new : List Rank) : Type 0 where
  pub many : length new ≡ length old
  pub here : IsRanked new k
  pub kept : (q : ℕ) → IsRanked old q → IsRanked new q

pub record IsForest (parents : List ℕ) (ranks : List Rank) : Type 0 where
  pub many : length ranks ≡ length parents
  pub within : AreParentsWithin parents
  pub each : (k : ℕ) → k < length parents → IsRanked ranks k
  pub placed : ArePlaced parents ranks

abbrev pub upward_path : List ℕ → List Rank → ℕ → List ℕ
upward_path parents ranks k = path parents (suc (depth_at ranks k)) k

-- ---- one parent at most

-- the parent that a row of parents gives to a type
pub record IsOnly (row : List ℕ) (k parent : ℕ) : Type 0 where
  pub only : (x : ℕ) → Contains row x → x ≡ parent
  pub real : (parent ≡ k → ⊥) → Contains row parent
  pub own : Contains row k → k ≡ 0
  pub top : k ≡ 0 → parent ≡ 0

-- a type that is its own parent, or `object` where it has another one
pub record IsOwnParent (row : List ℕ) (k : ℕ) : Type 0 where
  pub parent : ℕ
  pub declared : Contains row parent
  pub is : ((parent ≡ k) × (k ≡ 0 → ⊥)) ⊎ ((k ≡ 0) × (parent ≡ 0 → ⊥))

pub record IsSingle (rows : List (List ℕ)) (parents : List ℕ) : Type 0 where
  pub many : length parents ≡ length rows
  pub within : AreParentsWithin parents
  pub each : (k : ℕ) → k < length rows → IsOnly (row_at rows k) k (parent_at parents k)
