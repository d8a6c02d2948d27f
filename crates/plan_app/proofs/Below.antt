-- What is told from below of the ground problem is so of the task for which it stands.
use Rattle.std.proofs.Common.{◌≡◌, ℕ, ◌≤◌, min, Bool, true, false, cond, List, [], ◌∷◌, ◌++◌, Option, None, Some, refl, sym, ap, subst, ◌∙◌, append_assoc}
use Rattle.std.specs.Prelude.{Contains}
use Rattle.std.specs.List.{AllZip}
use Rattle.std.specs.Cmp.Lexicographic.{bytes_decides}
use Rattle.std.specs.Io.KnownBytes.{Appends, append_known}
use Rattle.std.proofs.lemmas.Bool.Decides.{same_from_decides}
use Rattle.plain_list.specs.weighted.Chances.{IsExact}
use Rattle.plain_list.proofs.lemmas.weighted.Alike.{alike_symmetric}
use Rattle.plain_list.proofs.lemmas.weighted.Related.{alike_has_member}
use Rattle.certificate.specs.Content.{Content}
use Rattle.certificate_check.specs.Claims.{ground_certificate, IsBalancedFor}
use Rattle.decision_process.specs.Process.{Start}
use Rattle.decision_process.specs.Least.{CoversFromBelow}
use Rattle.decision_process.specs.Readings.{Row, Certificate, row_at, low, high, act}
use Rattle.decision_process.specs.homomorphism.Homomorphism.{AreReadingsOf}
use Rattle.decision_process.specs.homomorphism.Counterparts.{IsRowOf}
use Rattle.decision_process.specs.under.Under.{IsUnder, AreBelowPlans, under_mean}
use Rattle.decision_process.proofs.lemmas.under.Means.{under_mean_is_below_plans, under_mean_is_higher}
use Rattle.decision_process.proofs.lemmas.under.Carried.{under_is_carried, under_mean_is_carried}
use Rattle.ppddl_model.specs.declared.tree.Task.{Task}
use Rattle.ppddl_model.specs.State.{State, same_state}
use Rattle.ppddl_model.specs.Steps.{Instance, Charges, process, starts, start_den}
use Rattle.ppddl_model.proofs.States.{same_state-Decides}
use Rattle.ground_model.specs.Packed as packed
use Rattle.ground_model.specs.Ground.{Ground}
use Rattle.ground_model.specs.Steps.{ground_process, ground_starts}
use Rattle.ground_meaning.specs.stands.Stands.{IsInside, state_of, packed_of, by_atoms, IsGroundOf}
use Rattle.ground_meaning.proofs.lemmas.stands.Standing.{is_carried, starts_are_carried, weights_are_positive, states_are_found}
use Rattle.lower_seed.specs.Costs.{least_choice, cost_value}
use Rattle.plan_request.specs.declared.lower.Lower.{Lower}
use Rattle.plan_request.specs.declared.lower.Lower.TheVariants as lowers
use Rattle.plan_search.specs.Under.{IsKnown, IsUnderBy}
use Rattle.plan_search.proofs.Known.{known_is_under}
use Rattle.plan_app.specs.certificates.Carried.{task_certificate}
use Rattle.plan_app.specs.certificates.Named.{names_certificate}
use Rattle.plan_app.specs.certificates.Laws as laws
use Rattle.plan_app.specs.Below.{step_value, IsToldBelow, IsToldByCost}
use Rattle.plan_app.proofs.Named.{names_balanced}

-- ---- texts behind texts

pub appends_known : (a : Option (List ℕ)) (bs : List ℕ) → Appends a (append_known a bs) bs
appends_known None bs = tt
appends_known (Some xs) bs = refl

pub appends_rest : (a c : Option (List ℕ)) (bs cs : List ℕ) → Appends a c (bs ++ cs) → Appends (append_known a bs) c cs
appends_rest None c bs cs put = tt
appends_rest (Some xs) None bs cs put = absurd put
appends_rest (Some xs) (Some ys) bs cs put = put ∙ sym (append_assoc xs bs cs)

-- ---- at a ground problem and its task

states_are_exact : IsExact same_state
states_are_exact x y = same_state-Decides x y

packed_states_are_exact : IsExact packed.same_state
packed_states_are_exact x y = bytes_decides x y

module _ (g : Ground) (task : Task) (charges : Charges) (stands : IsGroundOf g task charges) where
  -- ---- what rows say from below

  abbrev IsOf : Row packed.State ℕ → Row State Instance → Type 0
  IsOf = IsRowOf (by_atoms g task)

  same_packed : (s x : packed.State) → IsInside g task s → IsInside g task x → state_of g task s ≡ state_of g task x → s ≡ x
  same_packed s x inside inside' e =
      sym (states_are_found g task charges stands s inside) ∙ ap (packed_of g task) e ∙ states_are_found g task charges stands x inside'

  same_tests : (s : packed.State) → IsInside g task s → (row : Row packed.State ℕ) (row' : Row State Instance) → IsOf row row'
      → packed.same_state row.state s ≡ same_state row'.state (state_of g task s)
  same_tests s inside row row' is =
      same_from_decides {P = row.state ≡ s} (packed.same_state row.state s) (same_state row'.state (state_of g task s)) (packed_states_are_exact row.state s) (
        λ e. same_packed row.state s is.valid inside (is.state ∙ (states_are_exact row'.state (state_of g task s)).0 e),
        λ e. (states_are_exact row'.state (state_of g task s)).1 (sym is.state ∙ ap (state_of g task) e),
      )

  abbrev lower_of : {S A : Type 0} → Option (Row S A) → ℕ
  lower_of o = elim o [ None ↦ 0 | Some row ↦ row.lower ]

  either_lower : (b : Bool) (row : Row packed.State ℕ) (row' : Row State Instance) (o : Option (Row packed.State ℕ)) (o' : Option (Row State Instance))
      → row.lower ≡ row'.lower → lower_of o ≡ lower_of o'
      → lower_of (elim b [ true ↦ Some row | false ↦ o ]) ≡ lower_of (elim b [ true ↦ Some row' | false ↦ o' ])
  either_lower true row row' o o' first rest = first
  either_lower false row row' o o' first rest = rest

  same_low : (s : packed.State) → IsInside g task s → (rows : List (Row packed.State ℕ)) (rows' : List (Row State Instance)) → AllZip IsOf rows rows'
      → low packed.same_state rows s ≡ low same_state rows' (state_of g task s)
  same_low s inside [] [] zip = refl
  same_low s inside [] (row' ∷ rows') zip = absurd zip
  same_low s inside (row ∷ rows) [] zip = absurd zip
  same_low s inside (row ∷ rows) (row' ∷ rows') zip =
      either_lower (packed.same_state row.state s) row row' (row_at packed.same_state rows s) (row_at same_state rows' (state_of g task s))
      zip.0.lower (same_low s inside rows rows' zip.1)
      ∙ ap (λ b. lower_of (elim b [ true ↦ Some row' | false ↦ row_at same_state rows' (state_of g task s) ])) (same_tests s inside row row' zip.0)

  -- ---- what is known by the least cost of a choice

  same_value : AreReadingsOf (by_atoms g task) (cost_value g) (step_value task charges (least_choice g))
  same_value s inside =
      let is = is_carried g task charges stands in
      λ j. cond (is.goals s inside j) 0 (min (is.penalties j) (least_choice g))

  -- ---- what is known by what is asked for

  -- values of the ground problem, as values of the task
  abbrev carried_value : (packed.State → ℕ) → State → ℕ
  carried_value value t = value (packed_of g task t)

  carried_reads : (value : packed.State → ℕ) → AreReadingsOf (by_atoms g task) value (carried_value value)
  carried_reads value s inside = sym (ap value (states_are_found g task charges stands s inside))

  known_there : (lower : Lower) (value : packed.State → ℕ) → ((s : packed.State) → IsKnown lower g s (value s))
      → (x : Start State) → Contains (starts task) x → CoversFromBelow (process task charges) (carried_value value x.state) x.state
  known_there lower value known x inside =
      let are = starts_are_carried g task charges stands in
      let found = alike_has_member (λ (x : Start State). x.weight) (λ (x : Start State). x.state)
      (λ (x : Start packed.State). x.weight) (λ (x : Start packed.State). state_of g task x.state) same_state states_are_exact
      (starts task) (start_den task) (ground_starts g) g.start_den
      (alike_symmetric (λ (x : Start packed.State). x.weight) (λ (x : Start packed.State). state_of g task x.state)
      (λ (x : Start State). x.weight) (λ (x : Start State). x.state) (ground_starts g) g.start_den (starts task) (start_den task) are.chances)
      are.den_positive x inside ((weights_are_positive g task charges stands).starts_there x inside) in
      let s : packed.State = found.0.state in
      let valid : IsInside g task s = are.is_valid found.0 found.1 in
      let at : state_of g task s ≡ x.state = sym found.2 in
      let there : IsUnder (process task charges) (value s) (state_of g task s)
      = (under_is_carried (ground_process g) (process task charges) (by_atoms g task) (is_carried g task charges stands) s valid (value s)).0
      (known_is_under lower g stands.is_problem s (value s) (known s)) in
      subst (λ t. CoversFromBelow (process task charges) (carried_value value t) t) at
      (subst (λ v. CoversFromBelow (process task charges) v (state_of g task s)) (carried_reads value s valid) there.1)

  -- ---- the mean

  module _ (c : Content) (for : IsBalancedFor g c) (certified : laws.IsCarried) (names : laws.NamesAreCarried) (carried : laws.BalanceIsCarried) where
    abbrev low_there : State → ℕ
    low_there = low same_state (names_certificate task c).rows

    same_lows : AreReadingsOf (by_atoms g task) (low packed.same_state (ground_certificate g c).rows) low_there
    same_lows s inside =
        same_low s inside (ground_certificate g c).rows (task_certificate g task c).rows (certified g task charges stands c).rows
        ∙ ap (λ (x : Certificate State Instance). low same_state x.rows (state_of g task s)) (names g task charges stands c for)

    -- the mean is the same at the task, by values that are
    same_mean : (value : packed.State → ℕ) (value' : State → ℕ) → AreReadingsOf (by_atoms g task) value value'
        → under_mean (low packed.same_state (ground_certificate g c).rows) value (ground_starts g) g.start_den
        ≡ under_mean low_there value' (starts task) (start_den task)
    same_mean value value' same =
        under_mean_is_carried (by_atoms g task) (ground_starts g) g.start_den (starts task) (start_den task) (starts_are_carried g task charges stands)
        (low packed.same_state (ground_certificate g c).rows) value low_there value' same_lows same

    pub told_below : (lower : Lower) (l : ℕ) → IsUnderBy lower g (ground_certificate g c).rows l → IsToldBelow lower g task charges c l
    told_below lower l below =
        let value : State → ℕ = carried_value below.value in
        let at_task : l ≡ under_mean low_there value (starts task) (start_den task) = below.mean ∙ same_mean below.value value (carried_reads below.value) in
        let balanced = names_balanced names g task charges stands c for carried in
        record {
          mean_of_problem = below;
          higher = subst (λ n. c.lower ≤ n) (sym at_task)
              (subst (λ n. n ≤ under_mean low_there value (starts task) (start_den task)) (sym balanced.interval.floor_of_low)
              (under_mean_is_higher low_there value (starts task) (start_den task)));
          plans = subst (AreBelowPlans (process task charges) (starts task) (start_den task)) (sym at_task)
              (under_mean_is_below_plans (process task charges) (is_carried g task charges stands).den_positive_there low_there
              (high (process task charges) same_state (names_certificate task c).rows) (act same_state (names_certificate task c).rows)
              balanced.balanced value (starts task) (start_den task) (known_there lower below.value below.known));
        }

    pub told_by_cost : (l : ℕ) → IsUnderBy lowers.Cost g (ground_certificate g c).rows l → IsToldByCost g task charges c l
    told_by_cost l below = record {
      told = told_below lowers.Cost l below;
      mean = below.mean ∙ same_mean below.value (step_value task charges (least_choice g)) (λ s inside. below.known s ∙ same_value s inside);
    }
