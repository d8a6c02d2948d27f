-- The types above a type, without a count: what stands above a type is what a walk along declarations reaches.
use Rattle.std.proofs.Common.{◌≡◌, ℕ, zero, suc, ◌<◌, ◌≤◌, ◌⊎◌, inl, inr, Bool, true, not, List, [], length, filter, true≢false, refl, sym, ap, subst, ◌∙◌, arith}
use Rattle.std.specs.Prelude.{Contains}
use Rattle.plain_list.proofs.Members.{Contains-first, Contains-later, Contains-cons_cases, Contains-nil, Contains-flat_map, Contains-flat_map_cases}
use Rattle.ppddl_model.specs.declared.tree.TypeDecl.{TypeDecl}
use Rattle.ppddl_model.specs.State.{Name, same_name}
use Rattle.ppddl_model.specs.Objects.{upward}
use Rattle.ppddl_model.proofs.States.{same_name-Decides}
use Rattle.type_table.proofs.Lists.{by_test, Contains-filter, Contains-filter_cases, filter_shorter}

-- ---- walks of at most n declarations

abbrev pub Reaches : List TypeDecl → ℕ → Name → Name → Type 0
Reaches types n a b = Contains (upward n types a) b

abbrev named_as : Name → TypeDecl → Bool
named_as a t = same_name t.name a

-- the first step of a walk
record Steps (types : List TypeDecl) (n : ℕ) (a b : Name) : Type 0 where
  fewer : ℕ
  count : n ≡ suc fewer
  by : TypeDecl
  declared : Contains types by
  from : by.name ≡ a
  on : Reaches types fewer by.parent b

module _ (types : List TypeDecl) where
  reaches_itself : (n : ℕ) (a : Name) → Reaches types n a a
  reaches_itself zero a = Contains-first a []
  reaches_itself (suc n) a = Contains-first a _

  reaches_on : (n : ℕ) (t : TypeDecl) (a b : Name) → Contains types t → t.name ≡ a → Reaches types n t.parent b → Reaches types (suc n) a b
  reaches_on n t a b declared is there =
      Contains-later a _ b (Contains-flat_map (λ (u : TypeDecl). upward n types u.parent) (filter (named_as a) types) t b
      (Contains-filter (named_as a) types t declared ((same_name-Decides t.name a).1 is)) there)

  reaches_cases : (n : ℕ) (a b : Name) → Reaches types n a b → (a ≡ b) ⊎ Steps types n a b
  reaches_cases zero a b there = elim (Contains-cons_cases a [] b there) [ inl same ↦ inl same | inr none ↦ absurd (Contains-nil b none) ]
  reaches_cases (suc n) a b there = elim (Contains-cons_cases a _ b there) [
    | inl same ↦ inl same
    | inr later ↦
        let found = Contains-flat_map_cases (λ (u : TypeDecl). upward n types u.parent) (filter (named_as a) types) b later in
        let is = Contains-filter_cases (named_as a) types found.0 found.1 in
        inr (record { fewer = n; count = refl; by = found.0; declared = is.0; from = (same_name-Decides found.0.name a).0 is.1; on = found.2 })
  ]

  reaches_more : (n : ℕ) (a b : Name) → Reaches types n a b → Reaches types (suc n) a b
  reaches_more zero a b there = elim (reaches_cases zero a b there) [
    | inl same ↦ subst (Reaches types 1 a) same (reaches_itself 1 a)
    | inr steps ↦ absurd (omega (arith, steps.count))
  ]
  reaches_more (suc n) a b there = elim (reaches_cases (suc n) a b there) [
    | inl same ↦ subst (Reaches types (suc (suc n)) a) same (reaches_itself (suc (suc n)) a)
    | inr steps ↦
        let on : Reaches types n steps.by.parent b = subst (λ m. Reaches types m steps.by.parent b) (omega (arith, steps.count)) steps.on in
        reaches_on (suc n) steps.by a b steps.declared steps.from (reaches_more n steps.by.parent b on)
  ]

  -- one declaration more at the end
  reaches_then : (n : ℕ) (a : Name) (t : TypeDecl) → Contains types t → Reaches types n a t.name → Reaches types (suc n) a t.parent
  reaches_then zero a t declared there = elim (reaches_cases zero a t.name there) [
    | inl same ↦ reaches_on zero t a t.parent declared (sym same) (reaches_itself zero t.parent)
    | inr steps ↦ absurd (omega (arith, steps.count))
  ]
  reaches_then (suc n) a t declared there = elim (reaches_cases (suc n) a t.name there) [
    | inl same ↦ reaches_on (suc n) t a t.parent declared (sym same) (reaches_itself (suc n) t.parent)
    | inr steps ↦
        let on : Reaches types n steps.by.parent t.name = subst (λ m. Reaches types m steps.by.parent t.name) (omega (arith, steps.count)) steps.on in
        reaches_on (suc n) steps.by a t.parent steps.declared steps.from (reaches_then n steps.by.parent t declared on)
  ]

  -- a set of types that has the parent of each of its declared types has what is reached from one of them
  reaches_within : (A : Name → Type 0) → ((t : TypeDecl) → Contains types t → A t.name → A t.parent)
      → (n : ℕ) (a b : Name) → Reaches types n a b → A a → A b
  reaches_within A closed zero a b there inside = elim (reaches_cases zero a b there) [
    | inl same ↦ subst A same inside
    | inr steps ↦ absurd (omega (arith, steps.count))
  ]
  reaches_within A closed (suc n) a b there inside = elim (reaches_cases (suc n) a b there) [
    | inl same ↦ subst A same inside
    | inr steps ↦
        let on : Reaches types n steps.by.parent b = subst (λ m. Reaches types m steps.by.parent b) (omega (arith, steps.count)) steps.on in
        reaches_within A closed n steps.by.parent b on (closed steps.by steps.declared (subst A (sym steps.from) inside))
  ]

-- ---- a walk that comes back to its beginning can be cut

abbrev others : List TypeDecl → Name → List TypeDecl
others types a = filter (λ (t : TypeDecl). not (same_name t.name a)) types

reaches_among : (few types : List TypeDecl) → ((t : TypeDecl) → Contains few t → Contains types t)
    → (n : ℕ) (a b : Name) → Reaches few n a b → Reaches types n a b
reaches_among few types within zero a b there = there
reaches_among few types within (suc n) a b there = elim (reaches_cases few (suc n) a b there) [
  | inl same ↦ subst (Reaches types (suc n) a) same (reaches_itself types (suc n) a)
  | inr steps ↦
      let on : Reaches few n steps.by.parent b = subst (λ m. Reaches few m steps.by.parent b) (omega (arith, steps.count)) steps.on in
      reaches_on types n steps.by a b (within steps.by steps.declared) steps.from (reaches_among few types within n steps.by.parent b on)
]

-- a walk that leaves a once
record Leaves (types : List TypeDecl) (a : Name) (n : ℕ) (b : Name) : Type 0 where
  by : TypeDecl
  declared : Contains types by
  from : by.name ≡ a
  on : Reaches (others types a) n by.parent b

module _ (types : List TypeDecl) (a : Name) where
  leaves_more : (n : ℕ) (b : Name) → Leaves types a n b → Leaves types a (suc n) b
  leaves_more n b leaves = record { by = leaves.by; declared = leaves.declared; from = leaves.from; on = reaches_more (others types a) n leaves.by.parent b leaves.on }

  -- a walk avoids a, or ends there, or leaves it for the last time
  last_leave : (n : ℕ) (c b : Name) → Reaches types n c b
      → Reaches (others types a) n c b ⊎ ((a ≡ b) ⊎ Leaves types a n b)
  last_leave zero c b there = inl there
  last_leave (suc n) c b there = elim (reaches_cases types (suc n) c b there) [
    | inl same ↦ inl (subst (Reaches (others types a) (suc n) c) same (reaches_itself (others types a) (suc n) c))
    | inr steps ↦
        let on : Reaches types n steps.by.parent b = subst (λ m. Reaches types m steps.by.parent b) (omega (arith, steps.count)) steps.on in
        elim (last_leave n steps.by.parent b on) [
          | inl avoids ↦ by_test (same_name steps.by.name a)
              (λ e. inr (inr (leaves_more n b (record { by = steps.by; declared = steps.declared; from = (same_name-Decides steps.by.name a).0 e; on = avoids }))))
              (λ e. inl (reaches_on (others types a) n steps.by c b (Contains-filter (λ (t : TypeDecl). not (same_name t.name a)) types steps.by steps.declared (ap not e)) steps.from avoids))
          | inr rest ↦ elim rest [
            | inl ends ↦ inr (inl ends)
            | inr leaves ↦ inr (inr (leaves_more n b leaves))
          ]
        ]
  ]

module _ (types : List TypeDecl) (a : Name) where
  -- no declaration leads on from a where those of a are left out
  avoiding_itself : (n : ℕ) (b : Name) → Reaches (others types a) n a b → a ≡ b
  avoiding_itself n b avoids = elim (reaches_cases (others types a) n a b avoids) [
    | inl same ↦ same
    | inr steps ↦
        let kept = Contains-filter_cases (λ (t : TypeDecl). not (same_name t.name a)) types steps.by steps.declared in
        let named : same_name steps.by.name a ≡ true = (same_name-Decides steps.by.name a).1 steps.from in
        absurd (true≢false (sym kept.1 ∙ ap not named))
  ]

  -- a walk ends where it begins, or leaves a once
  leaves_once : (n : ℕ) (b : Name) → Reaches types n a b → (a ≡ b) ⊎ Leaves types a n b
  leaves_once n b there = elim (last_leave types a n a b there) [
    | inl avoids ↦ inl (avoiding_itself n b avoids)
    | inr rest ↦ rest
  ]

-- so a walk needs no more declarations than there are
pub reaches_cut : (k : ℕ) (types : List TypeDecl) → length types ≤ k → (n : ℕ) (a b : Name) → Reaches types n a b → Reaches types k a b
reaches_cut zero types few n a b there = elim (leaves_once types a n b there) [
  | inl same ↦ subst (Reaches types zero a) same (reaches_itself types zero a)
  | inr leaves ↦ absurd (omega (arith, leaves.declared.1, few))
]
reaches_cut (suc k) types few n a b there = elim (leaves_once types a n b there) [
  | inl same ↦ subst (Reaches types (suc k) a) same (reaches_itself types (suc k) a)
  | inr leaves ↦
      let keeps : TypeDecl → Bool = λ t. not (same_name t.name a) in
      let named : same_name leaves.by.name a ≡ true = (same_name-Decides leaves.by.name a).1 leaves.from in
      let fewer : length (others types a) < length types = filter_shorter keeps types leaves.by leaves.declared (ap not named) in
      let on : Reaches (others types a) k leaves.by.parent b = reaches_cut k (others types a) (omega (arith, fewer, few)) n leaves.by.parent b leaves.on in
      let within : (t : TypeDecl) → Contains (others types a) t → Contains types t = λ t kept. (Contains-filter_cases keeps types t kept).0 in
      reaches_on types k leaves.by a b leaves.declared leaves.from (reaches_among (others types a) types within k leaves.by.parent b on)
]

-- ---- the types above a type, without a count

abbrev pub IsAbove : List TypeDecl → Name → Name → Type 0
IsAbove types b a = Reaches types (length types) a b

module _ (types : List TypeDecl) where
  pub above_itself : (a : Name) → IsAbove types a a
  above_itself = reaches_itself types (length types)

  pub above_parent : (a : Name) (t : TypeDecl) → Contains types t → IsAbove types t.name a → IsAbove types t.parent a
  above_parent a t declared there =
      reaches_cut (length types) types (omega arith) (suc (length types)) a t.parent (reaches_then types (length types) a t declared there)

  pub above_within : (A : Name → Type 0) → ((t : TypeDecl) → Contains types t → A t.name → A t.parent)
      → (a b : Name) → IsAbove types b a → A a → A b
  above_within A closed = reaches_within types A closed (length types)
