-- A certificate is balanced exactly where that for which it stands is.
use Rattle.std.proofs.Common.{◌≡◌, ℕ, Bool, true, false, cond, List, [], ◌∷◌, Option, None, Some, refl, sym, ap, subst, ◌∙◌, arith}
use Rattle.std.specs.List.{AllZip}
use Rattle.std.proofs.lemmas.Bool.Decides.{same_from_decides}
use Rattle.std.proofs.lemmas.List.Elements.{All-contains_itself}
use Rattle.std.proofs.lemmas.List.Kept.{AllPairs-cons}
use Rattle.plain_list.proofs.Related.{AllZip-left, AllZip-right, AllPairs-head, AllPairs-tail}
use Rattle.plain_list.specs.weighted.Chances.{IsExact}
use Rattle.decision_process.specs.Process.{Process}
use Rattle.decision_process.specs.Balanced.{IsBalancedAt}
use Rattle.decision_process.specs.Readings.{RowAct, GivesUp, AtGoal, Takes, Row, action_of, HasDistinctStates, row_at, low, high, act, IsMarked}
use Rattle.decision_process.proofs.Readings.{rows_balance}
use Rattle.decision_process.specs.homomorphism.Homomorphism.{Mapping, IsValid, IsHomomorphism, IsInverse, AreReadingsOf, IsActOf}
use Rattle.decision_process.specs.homomorphism.Counterparts.{IsRowActOf, IsRowOf}
use Rattle.decision_process.specs.homomorphism.Laws as laws
use Rattle.decision_process.proofs.lemmas.homomorphism.Following.{balance_is_carried}
use Rattle.decision_process.proofs.lemmas.homomorphism.Starts.{interval_is_carried}

module _ {S T A B : Type 0} (m : Mapping S T A B) (same : S → S → Bool) (exact : IsExact same) (same' : T → T → Bool) (exact' : IsExact same')
    (back : T → S) (inverse : IsInverse m back) where
  -- valid states are equal where those are for which they stand
  same_state : (s x : S) → IsValid m s → IsValid m x → m.state s ≡ m.state x → s ≡ x
  same_state s x valid valid' e = sym (inverse s valid) ∙ ap back e ∙ inverse x valid'

  -- ---- no state has two rows

  Differ : Row S A → Row S A → Type 0
  Differ row other = row.state ≡ other.state → ⊥

  Differ' : Row T B → Row T B → Type 0
  Differ' row other = row.state ≡ other.state → ⊥

  distinct_there : (rows : List (Row S A)) (rows' : List (Row T B)) → AllZip (IsRowOf m) rows rows' → HasDistinctStates rows → HasDistinctStates rows'
  unfolding Differ Differ'
  distinct_there [] [] zip distinct = λ i j d below within. absurd (omega arith)
  distinct_there [] (row' ∷ rows') zip distinct = absurd zip
  distinct_there (row ∷ rows) [] zip distinct = absurd zip
  distinct_there (row ∷ rows) (row' ∷ rows') zip distinct =
      AllPairs-cons Differ' row' rows'
      (λ k d within e.
      let found = AllZip-right (IsRowOf m) rows rows' zip.1 _ (All-contains_itself rows' k d within) in
      AllPairs-head Differ row rows distinct found.0 found.1
      (same_state row.state found.0.state zip.0.valid found.2.valid (zip.0.state ∙ e ∙ sym found.2.state)))
      (distinct_there rows rows' zip.1 (AllPairs-tail Differ row rows distinct))

  distinct_here : (rows : List (Row S A)) (rows' : List (Row T B)) → AllZip (IsRowOf m) rows rows' → HasDistinctStates rows' → HasDistinctStates rows
  unfolding Differ Differ'
  distinct_here [] rows' zip distinct = λ i j d below within. absurd (omega arith)
  distinct_here (row ∷ rows) [] zip distinct = absurd zip
  distinct_here (row ∷ rows) (row' ∷ rows') zip distinct =
      AllPairs-cons Differ row rows
      (λ k d within e.
      let found = AllZip-left (IsRowOf m) rows rows' zip.1 _ (All-contains_itself rows k d within) in
      AllPairs-head Differ' row' rows' distinct found.0 found.1 (sym zip.0.state ∙ ap m.state e ∙ found.2.state))
      (distinct_here rows rows' zip.1 (AllPairs-tail Differ' row' rows' distinct))

  -- ---- the rows of a state, and what they say

  AreRowsOf : Option (Row S A) → Option (Row T B) → Type 0
  AreRowsOf None None = Unit {0}
  AreRowsOf None (Some row') = ⊥
  AreRowsOf (Some row) None = ⊥
  AreRowsOf (Some row) (Some row') = IsRowOf m row row'

  same_tests : (s : S) → IsValid m s → (row : Row S A) (row' : Row T B) → IsRowOf m row row' → same row.state s ≡ same' row'.state (m.state s)
  same_tests s valid row row' is =
      same_from_decides {P = row.state ≡ s} (same row.state s) (same' row'.state (m.state s)) (exact row.state s) (
        λ e. same_state row.state s is.valid valid (is.state ∙ (exact' row'.state (m.state s)).0 e),
        λ e. (exact' row'.state (m.state s)).1 (sym is.state ∙ ap m.state e),
      )

  either_row : (b : Bool) (row : Row S A) (row' : Row T B) (rest : Option (Row S A)) (rest' : Option (Row T B)) → IsRowOf m row row'
      → AreRowsOf rest rest' → AreRowsOf (elim b [ true ↦ Some row | false ↦ rest ]) (elim b [ true ↦ Some row' | false ↦ rest' ])
  unfolding AreRowsOf
  either_row true row row' rest rest' is are = is
  either_row false row row' rest rest' is are = are

  row_at-carried : (s : S) → IsValid m s → (rows : List (Row S A)) (rows' : List (Row T B)) → AllZip (IsRowOf m) rows rows'
      → AreRowsOf (row_at same rows s) (row_at same' rows' (m.state s))
  unfolding AreRowsOf
  row_at-carried s valid [] [] zip = tt
  row_at-carried s valid [] (row' ∷ rows') zip = absurd zip
  row_at-carried s valid (row ∷ rows) [] zip = absurd zip
  row_at-carried s valid (row ∷ rows) (row' ∷ rows') zip =
      subst (λ b. AreRowsOf (elim (same row.state s) [ true ↦ Some row | false ↦ row_at same rows s ])
      (elim b [ true ↦ Some row' | false ↦ row_at same' rows' (m.state s) ])) (same_tests s valid row row' zip.0)
      (either_row (same row.state s) row row' (row_at same rows s) (row_at same' rows' (m.state s)) zip.0 (row_at-carried s valid rows rows' zip.1))

  lower_of : (row : Option (Row S A)) (row' : Option (Row T B)) → AreRowsOf row row'
      → ◌≡◌ {A = ℕ} (elim row [ None ↦ 0 | Some r ↦ r.lower ]) (elim row' [ None ↦ 0 | Some r ↦ r.lower ])
  unfolding AreRowsOf
  lower_of None None are = refl
  lower_of None (Some row') are = absurd are
  lower_of (Some row) None are = absurd are
  lower_of (Some row) (Some row') are = are.lower

  upper_of : (penalty : ℕ) (row : Option (Row S A)) (row' : Option (Row T B)) → AreRowsOf row row'
      → ◌≡◌ {A = ℕ} (elim row [ None ↦ penalty | Some r ↦ r.upper ]) (elim row' [ None ↦ penalty | Some r ↦ r.upper ])
  unfolding AreRowsOf
  upper_of penalty None None are = refl
  upper_of penalty None (Some row') are = absurd are
  upper_of penalty (Some row) None are = absurd are
  upper_of penalty (Some row) (Some row') are = are.upper

  act_of_row : (act : RowAct A) (act' : RowAct B) → IsRowActOf m act act' → IsActOf m (action_of act) (action_of act')
  act_of_row GivesUp GivesUp is = tt
  act_of_row AtGoal AtGoal is = tt
  act_of_row (Takes a) (Takes b) is = is
  act_of_row GivesUp AtGoal is = absurd is
  act_of_row GivesUp (Takes b) is = absurd is
  act_of_row AtGoal GivesUp is = absurd is
  act_of_row AtGoal (Takes b) is = absurd is
  act_of_row (Takes a) GivesUp is = absurd is
  act_of_row (Takes a) AtGoal is = absurd is

  act_of : (row : Option (Row S A)) (row' : Option (Row T B)) → AreRowsOf row row'
      → IsActOf m (elim row [ None ↦ None | Some r ↦ action_of r.act ]) (elim row' [ None ↦ None | Some r ↦ action_of r.act ])
  unfolding AreRowsOf
  act_of None None are = tt
  act_of None (Some row') are = absurd are
  act_of (Some row) None are = absurd are
  act_of (Some row) (Some row') are = act_of_row row.act row'.act are.act

  goal_act_there : (act : RowAct A) (act' : RowAct B) → IsRowActOf m act act' → act ≡ AtGoal → act' ≡ AtGoal
  goal_act_there act AtGoal is e = refl
  goal_act_there GivesUp GivesUp is e = absurd cc
  goal_act_there GivesUp (Takes b) is e = absurd is
  goal_act_there AtGoal GivesUp is e = absurd is
  goal_act_there AtGoal (Takes b) is e = absurd is
  goal_act_there (Takes a) GivesUp is e = absurd is
  goal_act_there (Takes a) (Takes b) is e = absurd cc

  goal_act_here : (act : RowAct A) (act' : RowAct B) → IsRowActOf m act act' → act' ≡ AtGoal → act ≡ AtGoal
  goal_act_here AtGoal act' is e = refl
  goal_act_here GivesUp GivesUp is e = absurd cc
  goal_act_here GivesUp AtGoal is e = absurd is
  goal_act_here GivesUp (Takes b) is e = absurd is
  goal_act_here (Takes a) GivesUp is e = absurd is
  goal_act_here (Takes a) AtGoal is e = absurd is
  goal_act_here (Takes a) (Takes b) is e = absurd cc

  module _ (p : Process S A) (q : Process T B) (is : IsHomomorphism p q m)
      (rows : List (Row S A)) (rows' : List (Row T B)) (zip : AllZip (IsRowOf m) rows rows') where
    lows : AreReadingsOf m (low same rows) (low same' rows')
    lows s valid = lower_of (row_at same rows s) (row_at same' rows' (m.state s)) (row_at-carried s valid rows rows' zip)

    highs : AreReadingsOf m (high p same rows) (high q same' rows')
    highs s valid =
        ap (λ goal. cond goal 0 (elim (row_at same rows s) [ None ↦ p.penalty | Some r ↦ r.upper ])) (is.goals s valid)
        ∙ ap (cond (q.goal (m.state s)) 0)
        (upper_of p.penalty (row_at same rows s) (row_at same' rows' (m.state s)) (row_at-carried s valid rows rows' zip)
        ∙ ap (λ penalty. elim (row_at same' rows' (m.state s)) [ None ↦ penalty | Some r ↦ r.upper ]) is.penalties)

    acts : (s : S) → IsValid m s → IsActOf m (act same rows s) (act same' rows' (m.state s))
    acts s valid = act_of (row_at same rows s) (row_at same' rows' (m.state s)) (row_at-carried s valid rows rows' zip)

    -- ---- balance, at the rows and so everywhere

    balanced_there : ((s : S) → IsBalancedAt p (low same rows) (high p same rows) (act same rows) s)
        → (t : T) → IsBalancedAt q (low same' rows') (high q same' rows') (act same' rows') t
    balanced_there balanced =
        rows_balance q same' exact' rows' (λ row' inside.
        let found = AllZip-right (IsRowOf m) rows rows' zip row' inside in
        subst (IsBalancedAt q (low same' rows') (high q same' rows') (act same' rows')) found.2.state
        ((balance_is_carried p q m is (low same rows) (high p same rows) (act same rows) (low same' rows') (high q same' rows') (act same' rows')
        lows highs found.0.state found.2.valid (λ _. acts found.0.state found.2.valid)).0 (balanced found.0.state)))

    balanced_here : ((t : T) → IsBalancedAt q (low same' rows') (high q same' rows') (act same' rows') t)
        → (s : S) → IsBalancedAt p (low same rows) (high p same rows) (act same rows) s
    balanced_here balanced =
        rows_balance p same exact rows (λ row inside.
        let found = AllZip-left (IsRowOf m) rows rows' zip row inside in
        (balance_is_carried p q m is (low same rows) (high p same rows) (act same rows) (low same' rows') (high q same' rows') (act same' rows')
        lows highs row.state found.2.valid (λ _. acts row.state found.2.valid)).1 (balanced (m.state row.state)))

    marked_there : (row : Row S A) (row' : Row T B) → IsRowOf m row row' → IsMarked p row → IsMarked q row'
    marked_there row row' of marked = record {
      at_goal = λ on.
          let parts = marked.at_goal (is.goals row.state of.valid ∙ ap q.goal of.state ∙ on) in
          (sym of.lower ∙ parts.0, sym of.upper ∙ parts.1, goal_act_there row.act row'.act of.act parts.2);
      elsewhere = λ off ends.
          marked.elsewhere (is.goals row.state of.valid ∙ ap q.goal of.state ∙ off) (goal_act_here row.act row'.act of.act ends);
    }

    marked_here : (row : Row S A) (row' : Row T B) → IsRowOf m row row' → IsMarked q row' → IsMarked p row
    marked_here row row' of marked = record {
      at_goal = λ on.
          let parts = marked.at_goal (sym (is.goals row.state of.valid ∙ ap q.goal of.state) ∙ on) in
          (of.lower ∙ parts.0, of.upper ∙ parts.1, goal_act_here row.act row'.act of.act parts.2);
      elsewhere = λ off ends.
          marked.elsewhere (sym (is.goals row.state of.valid ∙ ap q.goal of.state) ∙ off) (goal_act_there row.act row'.act of.act ends);
    }

module _ {S T A B : Type 0} where
  pub certificate_is_carried : laws.CertificateIsCarried S T A B
  certificate_is_carried p q m is same exact same' exact' back inverse starts den starts' den' are c c' of = (
    λ balanced. record {
      penalty = sym of.penalty ∙ balanced.penalty ∙ is.penalties;
      distinct = distinct_there m same exact same' exact' back inverse c.rows c'.rows of.rows balanced.distinct;
      marked = λ row' inside.
          let found = AllZip-right (IsRowOf m) c.rows c'.rows of.rows row' inside in
          marked_there m same exact same' exact' back inverse p q is c.rows c'.rows of.rows found.0 row' found.2 (balanced.marked found.0 found.1);
      balanced = balanced_there m same exact same' exact' back inverse p q is c.rows c'.rows of.rows balanced.balanced;
      interval =
          let there = (interval_is_carried m starts den starts' den' are (low same c.rows) (high p same c.rows) (low same' c'.rows) (high q same' c'.rows)
          (lows m same exact same' exact' back inverse p q is c.rows c'.rows of.rows)
          (highs m same exact same' exact' back inverse p q is c.rows c'.rows of.rows) c.lower c.upper).0 balanced.interval in
          record { floor_of_low = sym of.lower ∙ there.floor_of_low; ceiling_of_high = sym of.upper ∙ there.ceiling_of_high };
    },
    λ balanced. record {
      penalty = of.penalty ∙ balanced.penalty ∙ sym is.penalties;
      distinct = distinct_here m same exact same' exact' back inverse c.rows c'.rows of.rows balanced.distinct;
      marked = λ row inside.
          let found = AllZip-left (IsRowOf m) c.rows c'.rows of.rows row inside in
          marked_here m same exact same' exact' back inverse p q is c.rows c'.rows of.rows row found.0 found.2 (balanced.marked found.0 found.1);
      balanced = balanced_here m same exact same' exact' back inverse p q is c.rows c'.rows of.rows balanced.balanced;
      interval =
          let here = (interval_is_carried m starts den starts' den' are (low same c.rows) (high p same c.rows) (low same' c'.rows) (high q same' c'.rows)
          (lows m same exact same' exact' back inverse p q is c.rows c'.rows of.rows)
          (highs m same exact same' exact' back inverse p q is c.rows c'.rows of.rows) c'.lower c'.upper).1 balanced.interval in
          record { floor_of_low = of.lower ∙ here.floor_of_low; ceiling_of_high = of.upper ∙ here.ceiling_of_high };
    },
  )
