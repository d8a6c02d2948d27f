-- Least costs, what policies spend and the chance that they go on are carried.
use Rattle.std.proofs.Common.{◌≡◌, ℕ, suc, zero, ◌+◌, ◌*◌, ◌^◌, ◌≤◌, Bool, true, false, cond, List, Option, None, Some, refl, sym, ap, inl, inr, ◌∙◌, arith}
use Rattle.std.specs.Prelude.{Contains}
use Rattle.std.proofs.Math.Nat.{mul_right_comm, pow-zero, mul-le-mul_right, le_antisymm}
use Rattle.decision_process.specs.Process.{Process, expected, min_with}
use Rattle.decision_process.specs.Policies.{by_act, spend, still}
use Rattle.decision_process.specs.Least.{least}
use Rattle.decision_process.proofs.Choice.{min_with_is_least}
use Rattle.decision_process.specs.homomorphism.Homomorphism.{Mapping, IsValid, IsHomomorphism, IsActOf, IsPolicyOf}
use Rattle.decision_process.specs.homomorphism.Laws as laws
use Rattle.decision_process.proofs.lemmas.homomorphism.Ratios.{same_sums}
use Rattle.decision_process.proofs.lemmas.homomorphism.Outcomes.{powers-carried}

cond-same : (goal goal' : Bool) (value value' k k' : ℕ) → goal ≡ goal' → (goal ≡ false → value * k ≡ value' * k')
    → cond goal 0 value * k ≡ cond goal' 0 value' * k'
cond-same true true value value' k k' same each = omega arith
cond-same false false value value' k k' same each = each refl
cond-same true false value value' k k' same each = absurd cc
cond-same false true value value' k k' same each = absurd cc

-- the smallest of two lists, where each entry of the second has its like in the first, each over its number
min_with-le : {A B : Type 0} (top top' k k' : ℕ) (f : A → ℕ) (f' : B → ℕ) (xs : List A) (ys : List B)
    → top * k ≡ top' * k' → ((b : B) → Contains ys b → (a : A) × Contains xs a × (f a * k ≡ f' b * k'))
    → min_with top f xs * k ≤ min_with top' f' ys * k'
min_with-le top top' k k' f f' xs ys tops each = elim (min_with_is_least top' f' ys).one_of_them [
  | inl quit ↦
      let below : min_with top f xs * k ≤ top * k = mul-le-mul_right k (min_with_is_least top f xs).within_top in
      let same : min_with top' f' ys * k' ≡ top' * k' = ap (λ n. n * k') quit in
      omega (arith, below, tops, same)
  | inr found ↦
      let like = each found.0 found.1 in
      let below : min_with top f xs * k ≤ f like.0 * k = mul-le-mul_right k ((min_with_is_least top f xs).within_each like.0 like.1) in
      let same : min_with top' f' ys * k' ≡ f' found.0 * k' = ap (λ n. n * k') found.2 in
      omega (arith, below, like.2, same)
]

module _ {S T A B : Type 0} (p : Process S A) (q : Process T B) (m : Mapping S T A B) (is : IsHomomorphism p q m) where
  penalty-carried : (n : ℕ) → p.penalty * p.den ^ n * q.den ^ n ≡ q.penalty * q.den ^ n * p.den ^ n
  penalty-carried n = ap (λ k. k * p.den ^ n * q.den ^ n) is.penalties ∙ mul_right_comm q.penalty (p.den ^ n) (q.den ^ n)

  min_with-carried : (s : S) → IsValid m s → p.goal s ≡ false → (top top' k k' : ℕ) (f : A → ℕ) (f' : B → ℕ) → top * k ≡ top' * k'
      → ((a : A) (b : B) → m.action a ≡ Some b → Contains (p.choices s) a → f a * k ≡ f' b * k')
      → min_with top f (p.choices s) * k ≡ min_with top' f' (q.choices (m.state s)) * k'
  min_with-carried s valid off top top' k k' f f' tops each =
      let like = is.like s valid off in
      le_antisymm
      (min_with-le top top' k k' f f' (p.choices s) (q.choices (m.state s)) tops (λ b inside.
      let found = like.is_found b inside in
      let here = (like.opens found.0 b found.1).1 inside in
      (found.0, here, each found.0 b found.1 here)))
      (min_with-le top' top k' k f' f (q.choices (m.state s)) (p.choices s) (sym tops) (λ a inside.
      let found = like.stands a inside in
      (found.0, (like.opens a found.0 found.1).0 inside, sym (each a found.0 found.1 inside))))

  pub least-carried : (n : ℕ) (s : S) → IsValid m s → least p n s * q.den ^ n ≡ least q n (m.state s) * p.den ^ n
  least-carried zero s valid = omega arith
  least-carried (suc n) s valid =
      cond-same (p.goal s) (q.goal (m.state s)) _ _ (q.den ^ suc n) (p.den ^ suc n) (is.goals s valid)
      (λ off. min_with-carried s valid off (p.penalty * p.den ^ suc n) (q.penalty * q.den ^ suc n) (q.den ^ suc n) (p.den ^ suc n)
      (λ a. expected (λ o. o.cost * p.den ^ n + least p n o.next) (p.step a s))
      (λ b. expected (λ o. o.cost * q.den ^ n + least q n o.next) (q.step b (m.state s)))
      (penalty-carried (suc n))
      (λ a b stands is_open.
      powers-carried p q m is s valid off a b stands is_open n (λ o. o.cost * p.den ^ n + least p n o.next)
      (λ t c. c * q.den ^ n + least q n t)
      (λ o inside. same_sums o.cost (p.den ^ n) (q.den ^ n) (least p n o.next) (least q n (m.state o.next)) (least-carried n o.next inside))))

  module _ (policy : S → Option A) (policy' : T → Option B) (of : IsPolicyOf p m policy policy') where
    by_act-carried : (act : Option A) (act' : Option B) (quit quit' k k' : ℕ) (f : A → ℕ) (f' : B → ℕ) → IsActOf m act act'
        → quit * k ≡ quit' * k' → ((a : A) (b : B) → m.action a ≡ Some b → act ≡ Some a → f a * k ≡ f' b * k')
        → by_act act quit f * k ≡ by_act act' quit' f' * k'
    by_act-carried None None quit quit' k k' f f' acts quits each = quits
    by_act-carried None (Some b) quit quit' k k' f f' acts quits each = absurd acts
    by_act-carried (Some a) None quit quit' k k' f f' acts quits each = absurd acts
    by_act-carried (Some a) (Some b) quit quit' k k' f f' acts quits each = each a b acts refl

    chosen : (s : S) → IsValid m s → (quit quit' k k' : ℕ) (f : A → ℕ) (f' : B → ℕ) → quit * k ≡ quit' * k'
        → ((a : A) (b : B) → p.goal s ≡ false → m.action a ≡ Some b → Contains (p.choices s) a → f a * k ≡ f' b * k')
        → cond (p.goal s) 0 (by_act (policy s) quit f) * k
        ≡ cond (q.goal (m.state s)) 0 (by_act (policy' (m.state s)) quit' f') * k'
    chosen s valid quit quit' k k' f f' quits each =
        cond-same (p.goal s) (q.goal (m.state s)) _ _ k k' (is.goals s valid)
        (λ off. by_act-carried (policy s) (policy' (m.state s)) quit quit' k k' f f' (of.acts s valid off) quits
        (λ a b stands some. each a b off stands (of.is_open a s valid off some)))

    pub spend-carried : (n : ℕ) (s : S) → IsValid m s → spend p policy n s * q.den ^ n ≡ spend q policy' n (m.state s) * p.den ^ n
    spend-carried zero s valid = omega arith
    spend-carried (suc n) s valid =
        chosen s valid (p.penalty * p.den ^ suc n) (q.penalty * q.den ^ suc n) (q.den ^ suc n) (p.den ^ suc n)
        (λ a. expected (λ o. o.cost * p.den ^ n + spend p policy n o.next) (p.step a s))
        (λ b. expected (λ o. o.cost * q.den ^ n + spend q policy' n o.next) (q.step b (m.state s)))
        (penalty-carried (suc n))
        (λ a b off stands is_open.
        powers-carried p q m is s valid off a b stands is_open n (λ o. o.cost * p.den ^ n + spend p policy n o.next)
        (λ t c. c * q.den ^ n + spend q policy' n t)
        (λ o inside.
        same_sums o.cost (p.den ^ n) (q.den ^ n) (spend p policy n o.next) (spend q policy' n (m.state o.next)) (spend-carried n o.next inside)))

    pub still-carried : (n : ℕ) (s : S) → IsValid m s → still p policy n s * q.den ^ n ≡ still q policy' n (m.state s) * p.den ^ n
    still-carried zero s valid =
        chosen s valid 0 0 (q.den ^ 0) (p.den ^ 0) (λ a. 1) (λ b. 1) (omega arith)
        (λ a b _ _ _. omega (arith, pow-zero p.den, pow-zero q.den))
    still-carried (suc n) s valid =
        chosen s valid 0 0 (q.den ^ suc n) (p.den ^ suc n) (λ a. expected (λ o. still p policy n o.next) (p.step a s))
        (λ b. expected (λ o. still q policy' n o.next) (q.step b (m.state s))) (omega arith)
        (λ a b off stands is_open.
        powers-carried p q m is s valid off a b stands is_open n (λ o. still p policy n o.next) (λ t c. still q policy' n t)
        (λ o inside. still-carried n o.next inside))

module _ {S T A B : Type 0} where
  pub least_is_carried : laws.LeastIsCarried S T A B
  least_is_carried p q m is = least-carried p q m is

  pub spend_is_carried : laws.SpendIsCarried S T A B
  spend_is_carried p q m is policy policy' of = spend-carried p q m is policy policy' of

  pub still_is_carried : laws.StillIsCarried S T A B
  still_is_carried p q m is policy policy' of = still-carried p q m is policy policy' of
