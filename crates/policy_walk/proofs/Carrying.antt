-- Runs are carried, and what certificates do.
use Rattle.std.proofs.Common.{◌≡◌, ℕ, Bool, true, false, List, [], ◌∷◌, length, Option, None, Some, refl, ap, sym, subst, ◌∙◌, arith}
use Rattle.std.specs.List.{AllZip}
use Rattle.std.proofs.lemmas.Bool.Decides.{same_from_decides}
use Rattle.plain_list.specs.weighted.Chances.{IsExact}
use Rattle.plain_list.specs.weighted.Mean.{total}
use Rattle.plain_list.proofs.lemmas.weighted.Related.{alike_has_member}
use Rattle.decision_process.specs.Process.{Process, Outcome, Start}
use Rattle.decision_process.specs.Readings.{RowAct, GivesUp, AtGoal, Takes, Row, action_of, row_at, act}
use Rattle.decision_process.specs.homomorphism.Homomorphism.{Mapping, IsValid, IsHomomorphism, AreStartsOf, IsInverse, IsActOf, IsPolicyOf}
use Rattle.decision_process.specs.homomorphism.Counterparts.{IsRowActOf, IsRowOf}
use Rattle.decision_process.proofs.lemmas.homomorphism.Pairs.{same_pair, same_pair_is_exact}
use Rattle.policy_walk.specs.declared.ends.Walk.{Walk}
use Rattle.policy_walk.specs.declared.ends.WalkEnd.{WalkEnd}
use Rattle.policy_walk.specs.declared.ends.WalkEnd.TheVariants.{Goal, GaveUp, Open}
use Rattle.policy_walk.specs.Laws as laws
use Rattle.policy_walk.specs.Runs.{price, IsStep, AreSteps, IsEndAt, IsRunOf}

-- ---- acts

module _ {S T A B : Type 0} (m : Mapping S T A B) where
  none_here : (act : Option A) (act' : Option B) → IsActOf m act act' → act' ≡ None → act ≡ None
  none_here None act' acts none = refl
  none_here (Some a) None acts none = absurd acts
  none_here (Some a) (Some b) acts none = absurd cc

  none_there : (act : Option A) (act' : Option B) → IsActOf m act act' → act ≡ None → act' ≡ None
  none_there act None acts none = refl
  none_there None (Some b) acts none = absurd acts
  none_there (Some a) (Some b) acts none = absurd cc

  some_there : (act : Option A) (act' : Option B) (a : A) → IsActOf m act act' → act ≡ Some a
      → (b : B) × (act' ≡ Some b) × (m.action a ≡ Some b)
  some_there None None a acts some = absurd cc
  some_there None (Some c) a acts some = absurd acts
  some_there (Some c) None a acts some = absurd acts
  some_there (Some c) (Some b) a acts some = let same : c ≡ a = cc in (b, refl, subst (λ x. m.action x ≡ Some b) same acts)

-- ---- runs

module _ {S T A B : Type 0} (p : Process S A) (q : Process T B) (m : Mapping S T A B) (is : IsHomomorphism p q m)
    (same : T → T → Bool) (exact : IsExact same)
    (policy : S → Option A) (policy' : T → Option B) (acts : IsPolicyOf p m policy policy') where
  -- the outcome of a step on the other side
  record IsStepOf (s : S) (o : Outcome S) : Type 0 where
    there : Outcome T
    is_step : IsStep q policy' (m.state s) there
    next : there.next ≡ m.state o.next
    cost : there.cost ≡ o.cost
    valid : IsValid m o.next

  step_there : (s : S) (o : Outcome S) → IsValid m s → IsStep p policy s o → IsStepOf s o
  step_there s o valid step =
      let like = is.like s valid step.goes_on in
      let off : q.goal (m.state s) ≡ false = sym (is.goals s valid) ∙ step.goes_on in
      let act = some_there m (policy s) (policy' (m.state s)) step.action (acts.acts s valid step.goes_on) step.takes in
      let found = alike_has_member (λ (o : Outcome S). o.weight) (λ (o : Outcome S). (m.state o.next, o.cost))
      (λ (o : Outcome T). o.weight) (λ (o : Outcome T). (o.next, o.cost)) (same_pair same) (same_pair_is_exact same exact)
      (p.step step.action s) p.den (q.step act.0 (m.state s)) q.den (like.outcomes step.action act.0 act.2 step.is_open)
      is.den_positive_there o step.outcome step.positive in record {
        there = found.0;
        is_step = record {
          goes_on = off;
          action = act.0;
          takes = act.1;
          is_open = (like.opens step.action act.0 act.2).0 step.is_open;
          outcome = found.1;
          positive = found.3;
        };
        next = sym (ap (λ z. z.0) found.2);
        cost = sym (ap (λ z. z.1) found.2);
        valid = like.stays step.action step.is_open o step.outcome;
      }

  record ArePathsOf (s : S) (outcomes : List (Outcome S)) (last : S) : Type 0 where
    there : List (Outcome T)
    path : AreSteps q policy' (m.state s) there (m.state last)
    as_many : length there ≡ length outcomes
    cost : total (λ (o : Outcome T). o.cost) there ≡ total (λ (o : Outcome S). o.cost) outcomes
    valid : IsValid m last

  path_there : (outcomes : List (Outcome S)) (s last : S) → IsValid m s → AreSteps p policy s outcomes last → ArePathsOf s outcomes last
  path_there [] s last valid path = record {
    there = [];
    path = ap m.state path;
    as_many = refl;
    cost = refl;
    valid = subst (IsValid m) (sym path) valid;
  }
  path_there (o ∷ more) s last valid path =
      let first = step_there s o valid path.0 in
      let rest = path_there more o.next last first.valid path.1 in record {
        there = first.there ∷ rest.there;
        path = (first.is_step, subst (λ t. AreSteps q policy' t rest.there (m.state last)) (sym first.next) rest.path);
        as_many = let h = rest.as_many in omega (arith, h);
        cost = let h = rest.cost in let i = first.cost in omega (arith, h, i);
        valid = rest.valid;
      }

  end_there : (s : S) → IsValid m s → (end : WalkEnd) → IsEndAt p policy s end → IsEndAt q policy' (m.state s) end
  end_there s valid Goal on = sym (is.goals s valid) ∙ on
  end_there s valid GaveUp at = (
    sym (is.goals s valid) ∙ at.0,
    none_there m (policy s) (policy' (m.state s)) (acts.acts s valid at.0) at.1,
  )
  end_there s valid Open at = (
    sym (is.goals s valid) ∙ at.0,
    λ none. at.1 (none_here m (policy s) (policy' (m.state s)) (acts.acts s valid at.0) none),
  )

  price_there : (end : WalkEnd) → price p end ≡ price q end
  price_there Goal = refl
  price_there GaveUp = is.penalties
  price_there Open = refl

  pub run_there : (starts : List (Start S)) (den : ℕ) (starts' : List (Start T)) (den' : ℕ) → AreStartsOf m starts den starts' den'
      → (most : ℕ) (walk : Walk) → IsRunOf p starts policy most walk → IsRunOf q starts' policy' most walk
  run_there starts den starts' den' are most walk run =
      let found = alike_has_member (λ (x : Start S). x.weight) (λ (x : Start S). m.state x.state)
      (λ (x : Start T). x.weight) (λ (x : Start T). x.state) same exact
      starts den starts' den' are.chances are.den_positive_there run.start run.is_start run.start_positive in
      let paths = path_there run.outcomes run.start.state run.last (are.is_valid run.start run.is_start) run.path in record {
        start = found.0;
        is_start = found.1;
        start_positive = found.3;
        outcomes = paths.there;
        last = m.state run.last;
        path = subst (λ t. AreSteps q policy' t paths.there (m.state run.last)) found.2 paths.path;
        steps = run.steps ∙ sym paths.as_many;
        few = run.few;
        cost = let h = run.cost in let i = paths.cost in let j = price_there walk.end in omega (arith, h, i, j);
        ends = end_there run.last paths.valid walk.end run.ends;
        all_made = run.all_made;
      }

module _ {S T A B : Type 0} where
  pub runs_are_carried : laws.RunsAreCarried S T A B
  runs_are_carried p q m is same exact starts den starts' den' are policy policy' acts =
      run_there p q m is same exact policy policy' acts starts den starts' den' are

-- ---- certificates

module _ {S T A B : Type 0} (m : Mapping S T A B) (same : S → S → Bool) (exact : IsExact same) (same' : T → T → Bool) (exact' : IsExact same')
    (back : T → S) (inverse : IsInverse m back) (s : S) (valid : IsValid m s) where
  same_tests : (row : Row S A) (row' : Row T B) → IsRowOf m row row' → same row.state s ≡ same' row'.state (m.state s)
  same_tests row row' is =
      same_from_decides {P = row.state ≡ s} (same row.state s) (same' row'.state (m.state s)) (exact row.state s) (
        λ e. sym (inverse row.state is.valid) ∙ ap back (is.state ∙ (exact' row'.state (m.state s)).0 e) ∙ inverse s valid,
        λ e. (exact' row'.state (m.state s)).1 (sym is.state ∙ ap m.state e),
      )

  act_of_row : (act : RowAct A) (act' : RowAct B) → IsRowActOf m act act' → IsActOf m (action_of act) (action_of act')
  act_of_row GivesUp GivesUp is = tt
  act_of_row AtGoal AtGoal is = tt
  act_of_row (Takes a) (Takes b) is = is
  act_of_row GivesUp AtGoal is = absurd is
  act_of_row GivesUp (Takes b) is = absurd is
  act_of_row AtGoal GivesUp is = absurd is
  act_of_row AtGoal (Takes b) is = absurd is
  act_of_row (Takes a) GivesUp is = absurd is
  act_of_row (Takes a) AtGoal is = absurd is

  told : Option (Row S A) → Option A
  told row = elim row [ None ↦ None | Some r ↦ action_of r.act ]

  told' : Option (Row T B) → Option B
  told' row = elim row [ None ↦ None | Some r ↦ action_of r.act ]

  either : (b : Bool) (row : Row S A) (row' : Row T B) (rest : Option (Row S A)) (rest' : Option (Row T B)) → IsRowOf m row row'
      → IsActOf m (told rest) (told' rest')
      → IsActOf m (told (elim b [ true ↦ Some row | false ↦ rest ])) (told' (elim b [ true ↦ Some row' | false ↦ rest' ]))
  unfolding told told'
  either true row row' rest rest' is are = act_of_row row.act row'.act is.act
  either false row row' rest rest' is are = are

  pub acts_there : (rows : List (Row S A)) (rows' : List (Row T B)) → AllZip (IsRowOf m) rows rows'
      → IsActOf m (act same rows s) (act same' rows' (m.state s))
  unfolding told told'
  acts_there [] [] zip = tt
  acts_there [] (row' ∷ rows') zip = absurd zip
  acts_there (row ∷ rows) [] zip = absurd zip
  acts_there (row ∷ rows) (row' ∷ rows') zip =
      subst (λ b. IsActOf m (told (elim (same row.state s) [ true ↦ Some row | false ↦ row_at same rows s ]))
      (told' (elim b [ true ↦ Some row' | false ↦ row_at same' rows' (m.state s) ]))) (same_tests row row' zip.0)
      (either (same row.state s) row row' (row_at same rows s) (row_at same' rows' (m.state s)) zip.0 (acts_there rows rows' zip.1))

module _ {S T A B : Type 0} where
  pub acts_are_carried : laws.ActsAreCarried S T A B
  acts_are_carried m same exact same' exact' back inverse c c' is s valid =
      acts_there m same exact same' exact' back inverse s valid c.rows c'.rows is.rows
