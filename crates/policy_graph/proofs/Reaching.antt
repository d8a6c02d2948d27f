-- The states that a policy reaches stand for states that its counterpart reaches.
use Rattle.std.proofs.Common.{◌≡◌, refl, sym, ap, subst, ◌∙◌, ℕ, zero, suc, ◌<◌, Bool, true, false, cond, List, [], Option, Some, None, true≢false, arith}
use Rattle.std.specs.Prelude.{Contains}
use Rattle.plain_list.specs.weighted.Chances.{IsExact}
use Rattle.plain_list.proofs.lemmas.weighted.Related.{alike_has_member}
use Rattle.decision_process.specs.Process.{Process, Outcome, Start}
use Rattle.decision_process.specs.homomorphism.Homomorphism.{Mapping, IsValid, IsHomomorphism, AreStartsOf, IsActOf, IsPolicyOf}
use Rattle.decision_process.proofs.lemmas.homomorphism.Pairs.{same_pair, same_pair_is_exact}
use Rattle.policy_graph.specs.Reached.{outcomes_by, Leads, IsReachedIn, IsReached}

module _ {S T A B : Type 0} (m : Mapping S T A B) where
  some_there : (act : Option A) (act' : Option B) (a : A) → IsActOf m act act' → act ≡ Some a
      → (b : B) × (act' ≡ Some b) × (m.action a ≡ Some b)
  some_there None None a acts some = absurd cc
  some_there None (Some c) a acts some = absurd acts
  some_there (Some c) None a acts some = absurd acts
  some_there (Some c) (Some b) a acts some = let same : c ≡ a = cc in (b, refl, subst (λ x. m.action x ≡ Some b) same acts)

module _ {S A : Type 0} (p : Process S A) (policy : S → Option A) (s : S) (o : Outcome S) where
  -- what the policy does there
  taken_by : (goal : Bool) (act : Option A) → Contains (cond goal [] (outcomes_by p policy act s)) o
      → (goal ≡ false) × ((a : A) × (act ≡ Some a) × Contains (p.step a s) o)
  taken_by true act within = absurd (let lt : within.0 < 0 = within.1 in omega (arith, lt))
  taken_by false None within = absurd (let lt : within.0 < 0 = within.1 in omega (arith, lt))
  taken_by false (Some a) within = (refl, (a, refl, within))

  takes : (goal : Bool) (act : Option A) (a : A) → goal ≡ false → act ≡ Some a → Contains (p.step a s) o
      → Contains (cond goal [] (outcomes_by p policy act s)) o
  takes true act a off is within = absurd (true≢false off)
  takes false None a off is within = absurd (cc is)
  takes false (Some b) a off is within = let same : b ≡ a = cc in subst (λ x. Contains (p.step x s) o) (sym same) within

module _ {S T A B : Type 0} (p : Process S A) (q : Process T B) (m : Mapping S T A B) (is : IsHomomorphism p q m)
    (same : T → T → Bool) (exact : IsExact same)
    (policy : S → Option A) (policy' : T → Option B) (acts : IsPolicyOf p m policy policy') where
  leads_there : (s t : S) → IsValid m s → Leads p policy s t → IsValid m t × Leads q policy' (m.state s) (m.state t)
  leads_there s t valid leads =
      let o = leads.outcome in
      let took = taken_by p policy s o (p.goal s) (policy s) leads.taken in
      let a = took.1.0 in
      let open_here = acts.is_open a s valid took.0 took.1.1 in
      let like = is.like s valid took.0 in
      let act = some_there m (policy s) (policy' (m.state s)) a (acts.acts s valid took.0) took.1.1 in
      let found = alike_has_member (λ (o : Outcome S). o.weight) (λ (o : Outcome S). (m.state o.next, o.cost))
      (λ (o : Outcome T). o.weight) (λ (o : Outcome T). (o.next, o.cost)) (same_pair same) (same_pair_is_exact same exact)
      (p.step a s) p.den (q.step act.0 (m.state s)) q.den (like.outcomes a act.0 act.2 open_here)
      is.den_positive_there o took.1.2 leads.likely in (
        subst (IsValid m) leads.there (like.stays a open_here o took.1.2),
        record {
          outcome = found.0;
          taken = takes q policy' (m.state s) found.0 (q.goal (m.state s)) (policy' (m.state s)) act.0
              (sym (is.goals s valid) ∙ took.0) act.1 found.1;
          likely = found.3;
          there = sym (ap (λ z. z.0) found.2) ∙ ap m.state leads.there;
        },
      )

  module _ (starts : List (Start S)) (den : ℕ) (starts' : List (Start T)) (den' : ℕ) (are : AreStartsOf m starts den starts' den') where
    reached_in : (n : ℕ) (s : S) → IsReachedIn p policy starts n s → IsValid m s × IsReachedIn q policy' starts' n (m.state s)
    reached_in zero s (start, within, positive, there) =
        let found = alike_has_member (λ (x : Start S). x.weight) (λ (x : Start S). m.state x.state)
        (λ (x : Start T). x.weight) (λ (x : Start T). x.state) same exact
        starts den starts' den' are.chances are.den_positive_there start within positive in
        (subst (IsValid m) there (are.is_valid start within), (found.0, found.1, found.3, sym found.2 ∙ ap m.state there))
    reached_in (suc n) s (r, before, leads) =
        let first = reached_in n r before in
        let last = leads_there r s first.0 leads in
        (last.0, (m.state r, first.1, last.1))

    pub reached_there : (s : S) → IsReached p policy starts s → IsReached q policy' starts' (m.state s)
    reached_there s (n, reached) = (n, (reached_in n s reached).1)
