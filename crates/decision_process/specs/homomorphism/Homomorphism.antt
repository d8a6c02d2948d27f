-- When one process stands for another: a homomorphism of decision processes (Ravindran and Barto 2003), on the states that a test
-- names valid. A valid state of p stands for a state of q, and an action of p for an action of q. Nothing is said of the states of p
-- that are not valid, nor of the states of q for which none stands.
--     Mapping S T A B             which states are valid, for which state each stands, and for which action an action stands, if any
--     AreOutcomesOf m l d l' d'   each pair of a next state, as it stands, and a cost has the same chance in l over d as in l' over d'
--     IsLike p q m s              the open actions of s stand for those of the state for which s stands, all of them; each has outcomes of
--                                 that for which it stands, and leads to valid states
--     IsHomomorphism p q m        no denominator is 0, the penalties are one, a valid state is a goal where that for which it stands is
--                                 one, and is like that elsewhere
--     AreStartsOf m starts d starts' d'
--                                 each start is valid, and each state has the same chance to be that for which the start stands
--     HasPositiveWeights p q m starts starts'
--                                 no outcome of an open action in a valid state, or in one for which such a state stands, has weight 0,
--                                 nor has a start
--     IsInverse m back            back finds each valid state from that for which it stands
--     AreReadingsOf m v v'        each valid state has in v what that for which it stands has in v'
--     IsActOf m act act'          both give up, or the second's action is that for which the first's stands
--     IsPolicyOf p m policy policy'
--                                 in valid states that are no goals, policy gives an open action or gives up, and policy' does the same
use Rattle.std.specs.Prelude.{◌≡◌, ◌↔◌, ℕ, ◌<◌, Bool, IsTrue, false, List, Option, Some, None, Contains}
use Rattle.plain_list.specs.weighted.Mean.{IsAlike}
use Rattle.decision_process.specs.Process.{Process, Outcome, Start, EachOutcome}

pub record Mapping (S T A B : Type 0) : Type 0 where
  pub valid : S → Bool
  pub state : S → T
  pub action : A → Option B

module _ {S T A B : Type 0} (m : Mapping S T A B) where
  abbrev pub IsValid : S → Type 0
  IsValid s = IsTrue (m.valid s)

  abbrev pub AreOutcomesOf : List (Outcome S) → ℕ → List (Outcome T) → ℕ → Type 0
  AreOutcomesOf l den l' den' =
      IsAlike {X = T × ℕ} (λ (o : Outcome S). o.weight) (λ o. (m.state o.next, o.cost))
      (λ (o : Outcome T). o.weight) (λ o. (o.next, o.cost)) l den l' den'

  module _ (starts : List (Start S)) (den : ℕ) (starts' : List (Start T)) (den' : ℕ) where
    pub record AreStartsOf : Type 0 where
      pub den_positive : 0 < den
      pub den_positive_there : 0 < den'
      pub is_valid : (start : Start S) → Contains starts start → IsValid start.state
      pub chances : IsAlike (λ (x : Start S). x.weight) (λ (x : Start S). m.state x.state)
          (λ (x : Start T). x.weight) (λ (x : Start T). x.state) starts den starts' den'

  abbrev pub IsInverse : (T → S) → Type 0
  IsInverse back = (s : S) → IsValid s → back (m.state s) ≡ s

  abbrev pub AreReadingsOf : (S → ℕ) → (T → ℕ) → Type 0
  AreReadingsOf v v' = (s : S) → IsValid s → v s ≡ v' (m.state s)

  abbrev pub IsActOf : Option A → Option B → Type 0
  IsActOf None None = Unit {0}
  IsActOf None (Some b) = ⊥
  IsActOf (Some a) None = ⊥
  IsActOf (Some a) (Some b) = m.action a ≡ Some b

module _ {S T A B : Type 0} (p : Process S A) (q : Process T B) (m : Mapping S T A B) where
  pub record IsLike (s : S) : Type 0 where
    pub stands : (a : A) → Contains (p.choices s) a → (b : B) × (m.action a ≡ Some b)
    pub is_found : (b : B) → Contains (q.choices (m.state s)) b → (a : A) × (m.action a ≡ Some b)
    pub opens : (a : A) (b : B) → m.action a ≡ Some b
        → Contains (p.choices s) a ↔ Contains (q.choices (m.state s)) b
    pub outcomes : (a : A) (b : B) → m.action a ≡ Some b → Contains (p.choices s) a
        → AreOutcomesOf m (p.step a s) p.den (q.step b (m.state s)) q.den
    pub stays : (a : A) → Contains (p.choices s) a
        → (o : Outcome S) → Contains (p.step a s) o → IsValid m o.next

  pub record IsHomomorphism : Type 0 where
    pub den_positive : 0 < p.den
    pub den_positive_there : 0 < q.den
    pub penalties : p.penalty ≡ q.penalty
    pub goals : (s : S) → IsValid m s → p.goal s ≡ q.goal (m.state s)
    pub like : (s : S) → IsValid m s → p.goal s ≡ false → IsLike s

  pub record HasPositiveWeights (starts : List (Start S)) (starts' : List (Start T)) : Type 0 where
    pub steps : (s : S) → IsValid m s → EachOutcome p s (λ o. 0 < o.weight)
    pub steps_there : (s : S) → IsValid m s → EachOutcome q (m.state s) (λ o. 0 < o.weight)
    pub starts_here : (start : Start S) → Contains starts start → 0 < start.weight
    pub starts_there : (start : Start T) → Contains starts' start → 0 < start.weight

module _ {S T A B : Type 0} (p : Process S A) (m : Mapping S T A B) where
  pub record IsPolicyOf (policy : S → Option A) (policy' : T → Option B) : Type 0 where
    pub is_open : (a : A) (s : S) → IsValid m s → p.goal s ≡ false
        → policy s ≡ Some a → Contains (p.choices s) a
    pub acts : (s : S) → IsValid m s → p.goal s ≡ false
        → IsActOf m (policy s) (policy' (m.state s))
