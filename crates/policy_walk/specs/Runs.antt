-- Runs of a decision process under a policy.
--     IsStep p policy s o        the policy goes on in s, and o is an outcome of its action, which is open, with a positive weight
--     AreSteps p policy s os t   so are these outcomes, each in the state to which the one before leads, from s to t
--     IsEndAt p policy s end     the state has this end: it is a goal; the policy gives up; or it goes on
--     price p end                what the end costs: the penalty for giving up
--     IsRunOf p starts policy most walk
--                                from one of the starts the policy can make these steps, of which there are at most so many, at this
--                                cost, to this end; a walk that stays open has made them all
use Rattle.std.specs.Prelude.{◌≡◌, ◌≢◌, ℕ, ◌+◌, ◌<◌, ◌≤◌, true, false, List, [], ◌∷◌, length, Option, Some, None, Contains}
use Rattle.plain_list.specs.weighted.Mean.{total}
use Rattle.decision_process.specs.Process.{Process, Outcome, Start}
use Rattle.policy_walk.specs.declared.ends.Walk.{Walk}
use Rattle.policy_walk.specs.declared.ends.WalkEnd.{WalkEnd}
use Rattle.policy_walk.specs.declared.ends.WalkEnd.TheVariants.{Goal, GaveUp, Open}

module _ {S A : Type 0} (p : Process S A) where
  abbrev pub price : WalkEnd → ℕ
  price Goal = 0
  price GaveUp = p.penalty
  price Open = 0

  module _ (policy : S → Option A) where
    pub record IsStep (s : S) (o : Outcome S) : Type 0 where
      pub goes_on : p.goal s ≡ false
      pub action : A
      pub takes : policy s ≡ Some action
      pub is_open : Contains (p.choices s) action
      pub outcome : Contains (p.step action s) o
      pub positive : 0 < o.weight

    abbrev pub AreSteps : S → List (Outcome S) → S → Type 0
    AreSteps s [] last = last ≡ s
    AreSteps s (o ∷ more) last = IsStep s o × AreSteps o.next more last

    abbrev pub IsEndAt : S → WalkEnd → Type 0
    IsEndAt s Goal = p.goal s ≡ true
    IsEndAt s GaveUp = (p.goal s ≡ false) × (policy s ≡ None)
    IsEndAt s Open = (p.goal s ≡ false) × (policy s ≢ None)

module _ {S A : Type 0} (p : Process S A) (starts : List (Start S)) (policy : S → Option A) (most : ℕ) where
  pub record IsRunOf (walk : Walk) : Type 0 where
    pub start : Start S
    pub is_start : Contains starts start
    pub start_positive : 0 < start.weight
    pub outcomes : List (Outcome S)
    pub last : S
    pub path : AreSteps p policy start.state outcomes last
    pub steps : walk.steps ≡ length outcomes
    pub few : walk.steps ≤ most
    pub cost : walk.cost ≡ total (λ o. o.cost) outcomes + price p walk.end
    pub ends : IsEndAt p policy last walk.end
    pub all_made : walk.end ≡ Open → walk.steps ≡ most
