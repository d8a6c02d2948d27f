-- A plan of q has a plan of p that is as good, where p can do in a state what q can do in one that agrees with it.
-- Of the plans for the outcomes of q that a state of p agrees with, the cheapest is taken.
use Rattle.std.proofs.Common.{◌≡◌, ℕ, suc, zero, ◌+◌, ◌-◌, ◌*◌, ◌^◌, ◌≤◌, Bool, true, false, cond, List, [], ◌∷◌, refl, sym, ap, subst, inl, inr, ◌∙◌, arith}
use Rattle.std.specs.Prelude.{Contains}
use Rattle.std.proofs.Math.Nat.{mul_right_comm, mul-le-mul_right}
use Rattle.std.proofs.lemmas.Bool.{cases_Bool, cases_lt}
use Rattle.plain_list.proofs.Members.{Contains-first, Contains-later, Contains-cons_cases, Contains-nil}
use Rattle.plain_list.specs.weighted.Mean.{total, IsAlike}
use Rattle.plain_list.specs.weighted.Chances.{IsExact}
use Rattle.plain_list.proofs.lemmas.weighted.Totals.{total-weighted_times}
use Rattle.plain_list.proofs.lemmas.weighted.Related.{alike_is_below}
use Rattle.decision_process.specs.Process.{Process, Outcome}
use Rattle.decision_process.specs.Plans.{Plan, Quit, Do, Plans, Done, Then, depth, deepest, Fits, FitEach, cost, cost_each}
use Rattle.decision_process.proofs.Covering.{cost_settles}
use Rattle.decision_process.specs.homomorphism.Homomorphism.{Mapping, IsValid, AreOutcomesOf, IsHomomorphism}
use Rattle.decision_process.specs.homomorphism.Counterparts.{IsAsGood}
use Rattle.decision_process.specs.homomorphism.Laws as laws
use Rattle.decision_process.proofs.lemmas.homomorphism.Ratios.{times_power}
use Rattle.decision_process.proofs.lemmas.homomorphism.Pairs.{same_pair, same_pair_is_exact}

-- ---- each outcome with its subplan

abbrev paired : {S A : Type 0} → Plans A → List (Outcome S) → List (Outcome S × Plan A)
paired Done outcomes = []
paired (Then plan rest) [] = []
paired (Then plan rest) (o ∷ outcomes) = (o, plan) ∷ paired rest outcomes

paired_total : {S A : Type 0} (p : Process S A) (plans : Plans A) (outcomes : List (Outcome S)) → FitEach p plans outcomes
    → (f : Outcome S → ℕ) → total (λ x. f x.0) (paired plans outcomes) ≡ total f outcomes
paired_total p Done [] fits f = refl
paired_total p Done (o ∷ outcomes) fits f = absurd fits
paired_total p (Then plan rest) [] fits f = absurd fits
paired_total p (Then plan rest) (o ∷ outcomes) fits f = ap (λ n. f o + n) (paired_total p rest outcomes fits.1 f)

paired_cost : {S A : Type 0} (p : Process S A) (plans : Plans A) (n : ℕ) (outcomes : List (Outcome S))
    → cost_each p plans n outcomes ≡ total (λ x. x.0.weight * (x.0.cost * p.den ^ n + cost p x.1 n x.0.next)) (paired plans outcomes)
paired_cost p Done n outcomes = refl
paired_cost p (Then plan rest) n [] = refl
paired_cost p (Then plan rest) n (o ∷ outcomes) =
    ap (λ k. o.weight * (o.cost * p.den ^ n + cost p plan n o.next) + k) (paired_cost p rest n outcomes)

paired_inside : {S A : Type 0} (plans : Plans A) (outcomes : List (Outcome S)) (x : Outcome S × Plan A)
    → Contains (paired plans outcomes) x → Contains outcomes x.0
paired_inside Done outcomes x inside = absurd (Contains-nil x inside)
paired_inside (Then plan rest) [] x inside = absurd (Contains-nil x inside)
paired_inside (Then plan rest) (o ∷ outcomes) x inside = elim (Contains-cons_cases (o, plan) (paired rest outcomes) x inside) [
  | inl here ↦ subst (λ z. Contains (o ∷ outcomes) z.0) here (Contains-first o outcomes)
  | inr later ↦ Contains-later o outcomes x.0 (paired_inside rest outcomes x later)
]

-- ---- a cost and a value, each over its own scale

scaled_sums : (x y c d v u : ℕ) → c ≡ d → v * y ≤ u * x → (c * x + v) * y ≤ (d * y + u) * x
scaled_sums x y c d v u same below =
    let turned : d * x * y ≡ d * y * x = mul_right_comm d x y in
    let left : (d * x + v) * y ≡ d * x * y + v * y = grind arith in
    let right : (d * y + u) * x ≡ d * y * x + u * x = grind arith in
    subst (λ k. (k * x + v) * y ≤ (d * y + u) * x) (sym same) (omega (arith, turned, left, right, below))

module _ {S T A B X : Type 0} (p : Process S A) (q : Process T B) (here : S → X) (there : T → X) (Agree : S → T → Type 0) where
  -- an action that does in s what b does in t
  pub record DoesAs (s : S) (t : T) (b : B) : Type 0 where
    pub action : A
    pub is_open : Contains (p.choices s) action
    pub alike : IsAlike {X = X × ℕ} (λ (o : Outcome S). o.weight) (λ o. (here o.next, o.cost))
        (λ (o : Outcome T). o.weight) (λ o. (there o.next, o.cost)) (p.step action s) p.den (q.step b t) q.den
    pub agrees : (o : Outcome S) (o' : Outcome T) → Contains (p.step action s) o → Contains (q.step b t) o'
        → here o.next ≡ there o'.next → Agree o.next o'.next

  pub record Simulates : Type 0 where
    pub penalties : p.penalty ≡ q.penalty
    pub goals : (s : S) (t : T) → Agree s t → p.goal s ≡ q.goal t
    pub acts : (s : S) (t : T) → Agree s t → q.goal t ≡ false → (b : B) → Contains (q.choices t) b → DoesAs s t b

  -- a plan that costs at most the value, which is over q's denominator
  record Carried (n deep value : ℕ) (s : S) : Type 0 where
    plan : Plan A
    fits : Fits p plan s
    within : depth plan ≤ deep
    costs : cost p plan n s * q.den ^ n ≤ value * p.den ^ n

  -- a plan that costs at most each of these for an outcome that agrees
  record Cheapest (n deep : ℕ) (others : List (Outcome T × Plan B)) (s : S) : Type 0 where
    plan : Plan A
    fits : Fits p plan s
    within : depth plan ≤ deep
    costs : (y : Outcome T × Plan B) → Contains others y → here s ≡ there y.0.next
        → cost p plan n s * q.den ^ n ≤ cost q y.1 n y.0.next * p.den ^ n

  -- such plans for each outcome
  record Chosen (n deep : ℕ) (others : List (Outcome T × Plan B)) (outcomes : List (Outcome S)) : Type 0 where
    plans : Plans A
    fits : FitEach p plans outcomes
    within : deepest plans ≤ deep
    costs : (x : Outcome S × Plan A) (y : Outcome T × Plan B) → Contains (paired plans outcomes) x → Contains others y
        → here x.0.next ≡ there y.0.next → cost p x.1 n x.0.next * q.den ^ n ≤ cost q y.1 n y.0.next * p.den ^ n

  module _ (n deep : ℕ) where
    -- a plan that is no dearer than the cheapest of the others, nor than y
    extended : (y : Outcome T × Plan B) (others : List (Outcome T × Plan B)) (s : S) (rest : Cheapest n deep others s)
        → (plan : Plan A) → Fits p plan s → depth plan ≤ deep → cost p plan n s ≤ cost p rest.plan n s
        → (here s ≡ there y.0.next → cost p plan n s * q.den ^ n ≤ cost q y.1 n y.0.next * p.den ^ n)
        → Cheapest n deep (y ∷ others) s
    extended y others s rest plan fits within less first =
        let scaled : cost p plan n s * q.den ^ n ≤ cost p rest.plan n s * q.den ^ n = mul-le-mul_right (q.den ^ n) less in
        record {
          plan = plan;
          fits = fits;
          within = within;
          costs = λ z inside e. elim (Contains-cons_cases y others z inside) [
            | inl now ↦
                subst (λ w. cost p plan n s * q.den ^ n ≤ cost q w.1 n w.0.next * p.den ^ n) now
                (first (e ∙ sym (ap (λ w. there w.0.next) now)))
            | inr later ↦ omega (arith, scaled, rest.costs z later e)
          ];
        }

    chosen : (others : List (Outcome T × Plan B)) (outcomes : List (Outcome S))
        → ((o : Outcome S) → Contains outcomes o → Cheapest n deep others o.next) → Chosen n deep others outcomes
    chosen others [] each = record { plans = Done; fits = tt; within = omega arith; costs = λ x y inside. absurd (Contains-nil x inside) }
    chosen others (o ∷ outcomes) each =
        let first = each o (Contains-first o outcomes) in
        let rest = chosen others outcomes (λ z inside. each z (Contains-later o outcomes z inside)) in
        record {
          plans = Then first.plan rest.plans;
          fits = (first.fits, rest.fits);
          within = omega (arith, first.within, rest.within);
          costs = λ x y inside known e. elim (Contains-cons_cases (o, first.plan) (paired rest.plans outcomes) x inside) [
            | inl now ↦
                subst (λ w. cost p w.1 n w.0.next * q.den ^ n ≤ cost q y.1 n y.0.next * p.den ^ n) now
                (first.costs y known (ap (λ w. here w.0.next) now ∙ e))
            | inr later ↦ rest.costs x y later known e
          ];
        }

  module _ (same : X → X → Bool) (exact : IsExact same) where
    cheapest : (n deep : ℕ) (s : S) (others : List (Outcome T × Plan B))
        → ((y : Outcome T × Plan B) → Contains others y → here s ≡ there y.0.next → Carried n deep (cost q y.1 n y.0.next) s)
        → Cheapest n deep others s
    cheapest n deep s [] each = record { plan = Quit; fits = tt; within = omega arith; costs = λ y inside. absurd (Contains-nil y inside) }
    cheapest n deep s (y ∷ others) each =
        let rest = cheapest n deep s others (λ z inside. each z (Contains-later y others z inside)) in
        elim (cases_Bool (same (here s) (there y.0.next))) [
          | inl agrees ↦
              let first = each y (Contains-first y others) ((exact (here s) (there y.0.next)).0 agrees) in
              elim (cases_lt (cost p rest.plan n s) (cost p first.plan n s)) [
                | inl less ↦
                    let scaled : cost p rest.plan n s * q.den ^ n ≤ cost p first.plan n s * q.den ^ n = mul-le-mul_right (q.den ^ n) (omega (arith, less)) in
                    extended n deep y others s rest rest.plan rest.fits rest.within (omega arith) (λ _. omega (arith, scaled, first.costs))
                | inr more ↦ extended n deep y others s rest first.plan first.fits first.within more (λ _. first.costs)
              ]
          | inr differs ↦
              extended n deep y others s rest rest.plan rest.fits rest.within (omega arith)
              (λ e. let agrees = (exact (here s) (there y.0.next)).1 e in absurd cc)
        ]

    -- what the chosen plans cost
    chosen-le : (n deep : ℕ) (s : S) (t : T) (b : B) (does : DoesAs s t b) (plans' : Plans B) → FitEach q plans' (q.step b t)
        → (choice : Chosen n deep (paired plans' (q.step b t)) (p.step does.action s))
        → cost_each p choice.plans n (p.step does.action s) * q.den ^ suc n ≤ cost_each q plans' n (q.step b t) * p.den ^ suc n
    chosen-le n deep s t b does plans' fits' choice =
        let outcomes : List (Outcome S) = p.step does.action s in
        let outcomes' : List (Outcome T) = q.step b t in
        let w : Outcome S × Plan A → ℕ = λ x. x.0.weight in
        let w' : Outcome T × Plan B → ℕ = λ y. y.0.weight in
        let key : Outcome S × Plan A → X × ℕ = λ x. (here x.0.next, x.0.cost) in
        let key' : Outcome T × Plan B → X × ℕ = λ y. (there y.0.next, y.0.cost) in
        let alike : IsAlike w key w' key' (paired choice.plans outcomes) p.den (paired plans' outcomes') q.den
        = λ v.
        ap (λ k. k * q.den) (paired_total p choice.plans outcomes choice.fits (λ o. o.weight * v (here o.next, o.cost)))
        ∙ does.alike v
        ∙ sym (ap (λ k. k * p.den) (paired_total q plans' outcomes' fits' (λ o. o.weight * v (there o.next, o.cost)))) in
        let f : Outcome S × Plan A → ℕ = λ x. x.0.cost * p.den ^ n + cost p x.1 n x.0.next in
        let g : Outcome T × Plan B → ℕ = λ y. y.0.cost * q.den ^ n + cost q y.1 n y.0.next in
        let both : total (λ x. w x * (f x * q.den ^ n)) (paired choice.plans outcomes) * q.den
        ≤ total (λ y. w' y * (g y * p.den ^ n)) (paired plans' outcomes') * p.den
        = alike_is_below w key w' key' (same_pair same) (same_pair_is_exact same exact)
        (paired choice.plans outcomes) p.den (paired plans' outcomes') q.den alike
        (λ x. f x * q.den ^ n) (λ y. g y * p.den ^ n)
        (λ x y inside inside' e.
        scaled_sums (p.den ^ n) (q.den ^ n) x.0.cost y.0.cost (cost p x.1 n x.0.next) (cost q y.1 n y.0.next) (ap (λ z. z.1) e)
        (choice.costs x y inside inside' (ap (λ z. z.0) e))) in
        let left : cost_each p choice.plans n outcomes * q.den ^ suc n ≡ total (λ x. w x * (f x * q.den ^ n)) (paired choice.plans outcomes) * q.den
        = times_power (cost_each p choice.plans n outcomes) q.den n
        ∙ ap (λ k. k * q.den ^ n * q.den) (paired_cost p choice.plans n outcomes)
        ∙ ap (λ k. k * q.den) (sym (total-weighted_times w f (q.den ^ n) (paired choice.plans outcomes))) in
        let right : cost_each q plans' n outcomes' * p.den ^ suc n ≡ total (λ y. w' y * (g y * p.den ^ n)) (paired plans' outcomes') * p.den
        = times_power (cost_each q plans' n outcomes') p.den n
        ∙ ap (λ k. k * p.den ^ n * p.den) (paired_cost q plans' n outcomes')
        ∙ ap (λ k. k * p.den) (sym (total-weighted_times w' g (p.den ^ n) (paired plans' outcomes'))) in
        omega (arith, both, left, right)

    module _ (is : Simulates) where
      quits : (n deep value : ℕ) (s : S) → cost p Quit n s * q.den ^ n ≤ value * p.den ^ n → Carried n deep value s
      quits n deep value s below = record { plan = Quit; fits = tt; within = omega arith; costs = below }

      quit_cost : (n : ℕ) (s : S) (t : T) → Agree s t → cost p Quit n s * q.den ^ n ≡ cost q Quit n t * p.den ^ n
      quit_cost n s t agree =
          ap (λ goal. cond goal 0 (p.penalty * p.den ^ n) * q.den ^ n) (is.goals s t agree)
          ∙ ap (λ penalty. cond (q.goal t) 0 (penalty * p.den ^ n) * q.den ^ n) is.penalties
          ∙ elim (q.goal t) as (λ goal. cond goal 0 (q.penalty * p.den ^ n) * q.den ^ n ≡ cond goal 0 (q.penalty * q.den ^ n) * p.den ^ n) [
            | true ↦ omega arith
            | false ↦ mul_right_comm q.penalty (p.den ^ n) (q.den ^ n)
          ]

      free_at_goal : (n : ℕ) (s : S) → p.goal s ≡ true → cost p Quit n s * q.den ^ n ≡ 0
      free_at_goal n s on = ap (λ goal. cond goal 0 (p.penalty * p.den ^ n) * q.den ^ n) on ∙ omega arith

      mutual
        carried : (plan' : Plan B) (n : ℕ) (s : S) (t : T) → Agree s t → Fits q plan' t → depth plan' ≤ n
            → Carried n (depth plan') (cost q plan' n t) s
        carried Quit n s t agree fits' deep = quits n 0 (cost q Quit n t) s (omega (arith, quit_cost n s t agree))
        carried (Do b subplans) zero s t agree fits' deep = absurd (omega arith)
        carried (Do b subplans) (suc n) s t agree fits' deep = elim (cases_Bool (q.goal t)) [
          | inl on ↦
              quits (suc n) (depth (Do b subplans)) (cost q (Do b subplans) (suc n) t) s
              (omega (arith, free_at_goal (suc n) s (is.goals s t agree ∙ on)))
          | inr off ↦
              let does = is.acts s t agree off b (fits' off).0 in
              let others : List (Outcome T × Plan B) = paired subplans (q.step b t) in
              let choice : Chosen n (deepest subplans) others (p.step does.action s)
              = chosen n (deepest subplans) others (p.step does.action s)
              (λ o inside. cheapest n (deepest subplans) o.next others
              (λ y known e.
              carried_each subplans n (q.step b t) (fits' off).1 (omega arith) y known o.next
              (does.agrees o y.0 inside (paired_inside subplans (q.step b t) y known) e))) in
              let here_off : p.goal s ≡ false = is.goals s t agree ∙ off in
              let left : cost p (Do does.action choice.plans) (suc n) s ≡ cost_each p choice.plans n (p.step does.action s)
              = ap (λ goal. cond goal 0 (cost_each p choice.plans n (p.step does.action s))) here_off in
              let right : cost q (Do b subplans) (suc n) t ≡ cost_each q subplans n (q.step b t)
              = ap (λ goal. cond goal 0 (cost_each q subplans n (q.step b t))) off in
              record {
                plan = Do does.action choice.plans;
                fits = λ _. (does.is_open, choice.fits);
                within = omega (arith, choice.within);
                costs = omega (
                  arith,
                  ap (λ k. k * q.den ^ suc n) left,
                  ap (λ k. k * p.den ^ suc n) right,
                  chosen-le n (deepest subplans) s t b does subplans (fits' off).1 choice,
                );
              }
        ]

        carried_each : (plans' : Plans B) (n : ℕ) (outcomes' : List (Outcome T)) → FitEach q plans' outcomes' → deepest plans' ≤ n
            → (y : Outcome T × Plan B) → Contains (paired plans' outcomes') y → (s : S) → Agree s y.0.next
            → Carried n (deepest plans') (cost q y.1 n y.0.next) s
        carried_each Done n outcomes' fits' deep y inside s agree = absurd (Contains-nil y inside)
        carried_each (Then plan rest) n [] fits' deep y inside s agree = absurd fits'
        carried_each (Then plan rest) n (o ∷ outcomes') fits' deep y inside s agree = elim (Contains-cons_cases (o, plan) (paired rest outcomes') y inside) [
          | inl now ↦
              let found = carried plan n s o.next (subst (λ (w : Outcome T × Plan B). Agree s w.0.next) (sym now) agree) fits'.0 (omega arith) in
              subst (λ (w : Outcome T × Plan B). Carried n (deepest (Then plan rest)) (cost q w.1 n w.0.next) s) now
              (record { plan = found.plan; fits = found.fits; within = omega (arith, found.within); costs = found.costs })
          | inr later ↦
              let found = carried_each rest n outcomes' fits'.1 (omega arith) y later s agree in
              record { plan = found.plan; fits = found.fits; within = omega (arith, found.within); costs = found.costs }
        ]

      -- from the depth on, both costs grow by the denominators
      no_dearer : (plan : Plan A) (plan' : Plan B) (s : S) (t : T) (n : ℕ) → depth plan ≤ n → depth plan' ≤ n
          → cost p plan n s * q.den ^ n ≤ cost q plan' n t * p.den ^ n
          → (k : ℕ) → cost p plan (k + n) s * q.den ^ (k + n) ≤ cost q plan' (k + n) t * p.den ^ (k + n)
      no_dearer plan plan' s t n deep deep' below zero =
          let same : 0 + n ≡ n = omega arith in
          rw same below
      no_dearer plan plan' s t n deep deep' below (suc k) =
          let before = no_dearer plan plan' s t n deep deep' below k in
          let l : ℕ = k + n in
          let same : suc k + n ≡ suc (k + n) = omega arith in
          let scaled : cost p plan l s * q.den ^ l * (p.den * q.den) ≤ cost q plan' l t * p.den ^ l * (p.den * q.den)
          = mul-le-mul_right (p.den * q.den) before in
          let left : cost p plan (suc l) s * q.den ^ suc l ≡ cost p plan l s * q.den ^ l * (p.den * q.den)
          = ap (λ c. c * q.den ^ suc l) (cost_settles p plan l s (omega (arith, deep)))
          ∙ times_power (cost p plan l s * p.den) q.den l ∙ regrouped (cost p plan l s) p.den (q.den ^ l) q.den in
          let right : cost q plan' (suc l) t * p.den ^ suc l ≡ cost q plan' l t * p.den ^ l * (p.den * q.den)
          = ap (λ c. c * p.den ^ suc l) (cost_settles q plan' l t (omega (arith, deep')))
          ∙ times_power (cost q plan' l t * q.den) p.den l ∙ regrouped' (cost q plan' l t) q.den (p.den ^ l) p.den in
          rw same (omega (arith, scaled, left, right))
        where
          regrouped : (c d x e : ℕ) → c * d * x * e ≡ c * x * (d * e)
          regrouped c d x e = grind arith

          regrouped' : (c e x d : ℕ) → c * e * x * d ≡ c * x * (d * e)
          regrouped' c e x d = grind arith

      pub as_good : (plan' : Plan B) (s : S) (t : T) → Agree s t → Fits q plan' t → (plan : Plan A) × IsAsGood q plan' t p plan s
      as_good plan' s t agree fits' =
          let found = carried plan' (depth plan') s t agree fits' (omega arith) in (
            found.plan,
            record {
              fits = found.fits;
              no_deeper = found.within;
              no_dearer = λ n deep.
                  let k : ℕ = n - depth plan' in
                  let sum : k + depth plan' ≡ n = omega (arith, deep) in
                  subst (λ l. cost p found.plan l s * q.den ^ l ≤ cost q plan' l t * p.den ^ l) sum
                  (no_dearer found.plan plan' s t (depth plan') found.within (omega arith) found.costs k);
            },
          )

-- ---- the two directions of a homomorphism

module _ {S T A B : Type 0} (p : Process S A) (q : Process T B) (m : Mapping S T A B) (is : IsHomomorphism p q m) where
  StandsFor : S → T → Type 0
  StandsFor s t = IsValid m s × (m.state s ≡ t)

  IsFor : T → S → Type 0
  IsFor t s = IsValid m s × (m.state s ≡ t)

  here_as_there : Simulates p q m.state (λ t. t) StandsFor
  unfolding StandsFor
  here_as_there = record {
    penalties = is.penalties;
    goals = λ s t agree. is.goals s agree.0 ∙ ap q.goal agree.1;
    acts = λ s t agree off b is_open.
        let off_here = is.goals s agree.0 ∙ ap q.goal agree.1 ∙ off in
        let like = is.like s agree.0 off_here in
        let open_there = subst (λ u. Contains (q.choices u) b) (sym agree.1) is_open in
        let found = like.is_found b open_there in
        let here = (like.opens found.0 b found.1).1 open_there in
        record {
          action = found.0;
          is_open = here;
          alike = subst (λ u. AreOutcomesOf m (p.step found.0 s) p.den (q.step b u) q.den) agree.1 (like.outcomes found.0 b found.1 here);
          agrees = λ o o' inside _ e. (like.stays found.0 here o inside, e);
        };
  }

  there_as_here : Simulates q p (λ t. t) m.state IsFor
  unfolding IsFor
  there_as_here = record {
    penalties = sym is.penalties;
    goals = λ t s agree. sym (is.goals s agree.0 ∙ ap q.goal agree.1);
    acts = λ t s agree off a is_open.
        let like = is.like s agree.0 off in
        let found = like.stands a is_open in
        record {
          action = found.0;
          is_open = subst (λ u. Contains (q.choices u) found.0) agree.1 ((like.opens a found.0 found.1).0 is_open);
          alike = subst (λ u. IsAlike {X = T × ℕ} (λ (o : Outcome T). o.weight) (λ o. (o.next, o.cost)) (λ (o : Outcome S). o.weight)
              (λ o. (m.state o.next, o.cost)) (q.step found.0 u) q.den (p.step a s) p.den) agree.1
              (λ v. sym (like.outcomes a found.0 found.1 is_open v));
          agrees = λ o o' _ inside e. (like.stays a is_open o' inside, sym e);
        };
  }

module _ {S T A B : Type 0} where
  pub plans_are_carried : laws.PlansAreCarried S T A B
  unfolding IsFor
  plans_are_carried p q m is same exact plan s valid fits =
      as_good q p (λ t. t) m.state (IsFor p q m is) same exact (there_as_here p q m is) plan (m.state s) s (valid, refl) fits

  pub plans_are_found : laws.PlansAreFound S T A B
  unfolding StandsFor
  plans_are_found p q m is same exact plan' s valid fits =
      as_good p q m.state (λ t. t) (StandsFor p q m is) same exact (here_as_there p q m is) plan' s (m.state s) (valid, refl) fits
