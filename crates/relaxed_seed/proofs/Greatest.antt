-- There is one greatest potential: from prices above all potentials one falls, until every action allows them.
use Rattle.std.proofs.Common.{◌≡◌, ℕ, suc, zero, ◌+◌, ◌<◌, ◌≤◌, max, true, cond, ◌&&◌, List, [], ◌∷◌, length, refl, ap, subst, inl, inr, ◌⊎◌, arith}
use Rattle.std.specs.Prelude.{All, Contains, nat_eq, nat_lt}
use Rattle.std.proofs.Math.Nat.{le_trans, le_refl}
use Rattle.std.proofs.lemmas.Bool.{cases_Bool, cases_lt, and_parts, and_from, lt-ltb, ltb-true}
use Rattle.std.proofs.lemmas.Bool.Decides.{eqb_tells}
use Rattle.std.proofs.lemmas.List.Elements.{All-nil, All-cons, All-weaker, All-contains}
use Rattle.plain_list.proofs.Members.{Contains-first, Contains-later}
use Rattle.ground_model.specs.declared.action.Choice.{Choice}
use Rattle.ground_model.specs.declared.action.GroundAction.{GroundAction}
use Rattle.ground_model.specs.Packed.{State, has_bit}
use Rattle.ground_model.specs.Ground.{Ground}
use Rattle.ground_model.specs.Invariant.{AllBelow, IsGuarded, IsChoice, IsAction, IsGroundProblem}
use Rattle.relaxed_seed.specs.Prices.{price}
use Rattle.relaxed_seed.specs.Potential.{IsBelow, AllowsGuarded, AllowsChoice, AllowsAction, IsPotential, IsGreatestPotential}
use Rattle.relaxed_seed.specs.Laws.{HasGreatestPotential, GreatestPotentialsAgree, HasRelaxed, RelaxedIsDetermined}
use Rattle.relaxed_seed.proofs.PriceBounds.{price_rises}
use Rattle.relaxed_seed.proofs.Passes.{cond_within}

-- ---- no two differ

same_from_both : (a b : ℕ) → a ≤ b → b ≤ a → a ≡ b
same_from_both a b below above = omega (arith, below, above)

same_values : (v v' a b : ℕ) → v ≡ a → v' ≡ b → a ≤ b → b ≤ a → v ≡ v'
same_values v v' a b is is' below above = omega (arith, is, is', below, above)

pub greatest_agree : (g : Ground) → GreatestPotentialsAgree g
greatest_agree g s r r' is is' q = same_from_both (r q) (r' q) (is'.greatest r is.potential q) (is.greatest r' is'.potential q)

pub relaxed_is_determined : (g : Ground) → RelaxedIsDetermined g
relaxed_is_determined g s value value' is is' =
    let r = is.prices in let r' = is'.prices in
    same_values value value' (price r g.penalty g.goal) (price r' g.penalty g.goal) is.value_is is'.value_is
    (price_rises g.penalty r r' (is'.greatest.greatest r is.greatest.potential) g.goal)
    (price_rises g.penalty r' r (is.greatest.greatest r' is'.greatest.potential) g.goal)

-- ---- sums of the prices of the first atoms

abbrev sum_below : (ℕ → ℕ) → ℕ → ℕ
sum_below r zero = 0
sum_below r (suc n) = r n + sum_below r n

sum_no_more : (r r' : ℕ → ℕ) → IsBelow r' r → (n : ℕ) → sum_below r' n ≤ sum_below r n
sum_no_more r r' below zero = omega arith
sum_no_more r r' below (suc n) = (let here = below n in let rest = sum_no_more r r' below n in omega (arith, here, rest))

sum_less : (r r' : ℕ → ℕ) → IsBelow r' r → (q n : ℕ) → q < n → r' q < r q → sum_below r' n < sum_below r n
sum_less r r' below q zero within less = absurd (omega (arith, within))
sum_less r r' below q (suc n) within less = elim (cases_lt q n) [
  | inl earlier ↦
      (let here = below n in let rest = sum_less r r' below q n earlier less in omega (arith, here, rest))
  | inr last ↦
      (let same : q ≡ n = omega (arith, within, last) in
      let here : r' n < r n = subst (λ p. r' p < r p) same less in
      let rest = sum_no_more r r' below n in omega (arith, here, rest))
]

abbrev lowered_at : (ℕ → ℕ) → ℕ → ℕ → ℕ → ℕ
lowered_at r q limit p = cond (nat_eq p q) limit (r p)

lowered_there : (r : ℕ → ℕ) (q limit : ℕ) → lowered_at r q limit q ≡ limit
lowered_there r q limit = elim (eqb_tells q q) [
  | inl same ↦ ap (λ b. cond b limit (r q)) same.0
  | inr other ↦ absurd (other.1 refl)
]

-- each holds, or something else does
all_or : {X : Type 0} (P : X → Type 0) (F : Type 0) (xs : List X) → ((x : X) → Contains xs x → P x ⊎ F) → All P xs ⊎ F
all_or P F [] each = inl (All-nil P)
all_or P F (x ∷ xs) each = elim (each x (Contains-first x xs)) [
  | inl here ↦ elim (all_or P F xs (λ y inside. each y (Contains-later x xs y inside))) [
    | inl rest ↦ inl (All-cons P x xs here rest)
    | inr other ↦ inr other
  ]
  | inr other ↦ inr other
]

under_limit : (r cost base m : ℕ) → r ≤ cost + m → m ≤ base → r ≤ cost + base
under_limit r cost base m below less = omega (arith, below, less)

under_greater : (r cost base m guard k : ℕ) → r ≤ cost + max m k → m ≤ base → k ≤ guard → r ≤ cost + max base guard
under_greater r cost base m guard k below less other = omega (arith, below, less, other)

module _ (g : Ground) (valid : IsGroundProblem g) (s : State) where
  record IsAbove (r : ℕ → ℕ) : Type 0 where
    within_quit : (q : ℕ) → r q ≤ g.penalty
    at_true : (q : ℕ) → q < length g.atoms → has_bit s q ≡ true → r q ≡ 0
    above : (r' : ℕ → ℕ) → IsPotential g s r' → IsBelow r' r

  -- a price that is above a limit which each potential meets
  record Falls (r : ℕ → ℕ) : Type 0 where
    atom : ℕ
    limit : ℕ
    is_atom : atom < length g.atoms
    less : limit < r atom
    met : (r' : ℕ → ℕ) → IsPotential g s r' → r' atom ≤ limit

  module _ (r : ℕ → ℕ) (is : IsAbove r) where
    at_limit : (q limit : ℕ) → q < length g.atoms → ((r' : ℕ → ℕ) → IsPotential g s r' → r' q ≤ limit) → (r q ≤ limit) ⊎ Falls r
    at_limit q limit within met = elim (cases_lt limit (r q)) [
      | inl less ↦ inr (record { atom = q; limit = limit; is_atom = within; less = less; met = met })
      | inr below ↦ inl below
    ]

    atoms_or : (limit : ℕ) (atoms : List ℕ) → AllBelow (length g.atoms) atoms
        → ((r' : ℕ → ℕ) → IsPotential g s r' → All (λ q. r' q ≤ limit) atoms) → All (λ q. r q ≤ limit) atoms ⊎ Falls r
    atoms_or limit atoms below met =
        all_or (λ q. r q ≤ limit) (Falls r) atoms (λ q inside. at_limit q limit
        (All-contains (λ p. p < length g.atoms) atoms q below inside)
        (λ r' potential. All-contains (λ p. r' p ≤ limit) atoms q (met r' potential) inside))

    module _ (a : GroundAction) (member : Contains g.actions a) where
      allowed_choice : (c : Choice) → Contains a.choices c → (r' : ℕ → ℕ) → IsPotential g s r'
          → AllowsChoice g.penalty (price r' g.penalty a.condition) r' c
      allowed_choice c inside r' potential =
          All-contains (AllowsChoice g.penalty (price r' g.penalty a.condition) r') a.choices c
          (All-contains (AllowsAction g.penalty r') g.actions a potential.allowed member) inside

      choice_or : (c : Choice) → Contains a.choices c → AllowsChoice g.penalty (price r g.penalty a.condition) r c ⊎ Falls r
      choice_or c inside =
          let own = All-contains (IsChoice (length g.atoms)) a.choices c
          (All-contains (IsAction (length g.atoms)) g.actions a valid.actions member).choices inside in
          let first = atoms_or (c.cost + price r g.penalty a.condition) c.adds own.literals.adds_below
          (λ r' potential. All-weaker (λ q. r' q ≤ c.cost + price r' g.penalty a.condition) (λ q. r' q ≤ c.cost + price r g.penalty a.condition)
          (λ q below. under_limit (r' q) c.cost (price r g.penalty a.condition) (price r' g.penalty a.condition) below
          (price_rises g.penalty r' r (is.above r' potential) a.condition)) c.adds (allowed_choice c inside r' potential).adds) in
          let second = all_or (AllowsGuarded g.penalty (price r g.penalty a.condition) c.cost r) (Falls r) c.guarded
          (λ x part. atoms_or (c.cost + max (price r g.penalty a.condition) (price r g.penalty x.condition)) x.adds
          (All-contains (IsGuarded (length g.atoms)) c.guarded x own.guarded part).literals.adds_below
          (λ r' potential. All-weaker (λ q. r' q ≤ c.cost + max (price r' g.penalty a.condition) (price r' g.penalty x.condition))
          (λ q. r' q ≤ c.cost + max (price r g.penalty a.condition) (price r g.penalty x.condition))
          (λ q below. under_greater (r' q) c.cost (price r g.penalty a.condition) (price r' g.penalty a.condition)
          (price r g.penalty x.condition) (price r' g.penalty x.condition) below
          (price_rises g.penalty r' r (is.above r' potential) a.condition) (price_rises g.penalty r' r (is.above r' potential) x.condition))
          x.adds
          (All-contains (AllowsGuarded g.penalty (price r' g.penalty a.condition) c.cost r') c.guarded x
          (allowed_choice c inside r' potential).guarded part))) in
          elim first [
            | inl adds ↦ elim second [
              | inl guarded ↦ inl (record { adds = adds; guarded = guarded })
              | inr falls ↦ inr falls
            ]
            | inr falls ↦ inr falls
          ]

    allowed_or : All (AllowsAction g.penalty r) g.actions ⊎ Falls r
    allowed_or =
        all_or (AllowsAction g.penalty r) (Falls r) g.actions
        (λ a member. all_or (AllowsChoice g.penalty (price r g.penalty a.condition) r) (Falls r) a.choices (choice_or a member))

  -- the prices with one that fell to its limit
  module _ (r : ℕ → ℕ) (is : IsAbove r) (falls : Falls r) where
    abbrev next : ℕ → ℕ
    next = lowered_at r falls.atom falls.limit

    next_below : IsBelow next r
    next_below p = elim (eqb_tells p falls.atom) [
      | inl same ↦
          (let less = falls.less in
          let here : lowered_at r falls.atom falls.limit p ≡ falls.limit = ap (λ b. cond b falls.limit (r p)) same.0 in
          let there : r p ≡ r falls.atom = ap r same.1 in omega (arith, less, here, there))
      | inr other ↦
          (let here : lowered_at r falls.atom falls.limit p ≡ r p = ap (λ b. cond b falls.limit (r p)) other.0 in omega (arith, here))
    ]

    next_is_above : IsAbove next
    next_is_above = record {
      within_quit = λ q. le_trans (next_below q) (is.within_quit q);
      at_true = λ q below on. (let here = next_below q in let none = is.at_true q below on in omega (arith, here, none));
      above = λ r' potential q. elim (eqb_tells q falls.atom) [
        | inl same ↦
            (let met = falls.met r' potential in
            let here : lowered_at r falls.atom falls.limit q ≡ falls.limit = ap (λ b. cond b falls.limit (r q)) same.0 in
            let there : r' q ≡ r' falls.atom = ap r' same.1 in omega (arith, met, here, there))
        | inr other ↦
            (let above = is.above r' potential q in
            let here : lowered_at r falls.atom falls.limit q ≡ r q = ap (λ b. cond b falls.limit (r q)) other.0 in omega (arith, above, here))
      ];
    }

    next_less : sum_below next (length g.atoms) < sum_below r (length g.atoms)
    next_less =
        let here : next falls.atom ≡ falls.limit = lowered_there r falls.atom falls.limit in
        let less = falls.less in
        let falls_there : next falls.atom < r falls.atom = omega (arith, here, less) in
        sum_less r next next_below falls.atom (length g.atoms) falls.is_atom falls_there

  settle : (fuel : ℕ) (r : ℕ → ℕ) → IsAbove r → sum_below r (length g.atoms) ≤ fuel → (r' : ℕ → ℕ) × IsGreatestPotential g s r'
  settle zero r is within = elim (allowed_or r is) [
    | inl allowed ↦
        (r, record { potential = record { within_quit = is.within_quit; at_true = is.at_true; allowed = allowed }; greatest = is.above })
    | inr falls ↦ absurd (let less = next_less r is falls in omega (arith, less, within))
  ]
  settle (suc fuel) r is within = elim (allowed_or r is) [
    | inl allowed ↦
        (r, record { potential = record { within_quit = is.within_quit; at_true = is.at_true; allowed = allowed }; greatest = is.above })
    | inr falls ↦
        settle fuel (next r is falls) (next_is_above r is falls) (let less = next_less r is falls in omega (arith, less, within))
  ]

  abbrev first : ℕ → ℕ
  first q = cond (nat_lt q (length g.atoms) && has_bit s q) 0 g.penalty

  first_is_above : IsAbove first
  first_is_above = record {
    within_quit = λ q. cond_within (nat_lt q (length g.atoms) && has_bit s q) g.penalty;
    at_true = λ q below on.
        ap (λ b. cond b 0 g.penalty) (and_from (nat_lt q (length g.atoms)) (has_bit s q) (lt-ltb q (length g.atoms) below) on);
    above = λ r' potential q. elim (cases_Bool (nat_lt q (length g.atoms) && has_bit s q)) [
      | inl on ↦
          (let parts = and_parts (nat_lt q (length g.atoms)) (has_bit s q) on in
          let none = potential.at_true q (ltb-true q (length g.atoms) parts.0) parts.1 in omega (arith, none))
      | inr off ↦
          (let within = potential.within_quit q in
          let here : first q ≡ g.penalty = ap (λ b. cond b 0 g.penalty) off in omega (arith, within, here))
    ];
  }

  pub greatest_there : (r : ℕ → ℕ) × IsGreatestPotential g s r
  greatest_there = settle (sum_below first (length g.atoms)) first first_is_above (le_refl (sum_below first (length g.atoms)))

pub has_greatest : (g : Ground) → IsGroundProblem g → HasGreatestPotential g
has_greatest g valid s = greatest_there g valid s

pub has_relaxed : (g : Ground) → IsGroundProblem g → HasRelaxed g
has_relaxed g valid s =
    let found = greatest_there g valid s in
    (price found.0 g.penalty g.goal, record { prices = found.0; greatest = found.1; value_is = refl })
