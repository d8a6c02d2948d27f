-- Sound rows are balanced, and the other way round.
use Rattle.std.proofs.Common.{◌≡◌, ◌≢◌, inl, inr, ℕ, ◌≤◌, ◌*◌, true, false, cond, List, [], ◌∷◌, Option, Some, None, refl, sym, ap, subst, ◌∙◌}
use Rattle.std.specs.Prelude.{Contains, IsTrue, is_some}
use Rattle.std.specs.Cmp.Lexicographic.{bytes_decides}
use Rattle.std.proofs.lemmas.Bool.{cases_Bool, true≢false}
use Rattle.std.proofs.lemmas.Option.{slice_get-get_or, slice_get_within, get_or_from_slice_get}
use Rattle.plain_list.specs.weighted.Chances.{IsExact}
use Rattle.plain_list.proofs.Members.{Contains-first, Contains-later, Contains-cons_cases, Contains-nil}
use Rattle.certificate.specs.Rows.{Row}
use Rattle.certificate.specs.Content.{Content, IsCertificate}
use Rattle.decision_process.specs.Backup.{action_value}
use Rattle.decision_process.specs.Balanced.{IsBalancedAt}
use Rattle.decision_process.specs.Following.{IsLowerFrom, IsUpperFrom}
use Rattle.decision_process.specs.Readings as readings
use Rattle.decision_process.specs.Readings.{AtGoal, action_of, row_at, act, IsMarked, IsBalancedIn}
use Rattle.decision_process.proofs.Readings.{row_is_read, rows_balance}
use Rattle.ground_model.specs.Packed.{State, same_state}
use Rattle.ground_model.specs.Ground.{Ground}
use Rattle.ground_model.specs.Steps.{ground_process}
use Rattle.certificate_check.specs.declared.row_check.act.Act.{Act}
use Rattle.certificate_check.specs.declared.row_check.act.Act.TheVariants.{GiveUp, Goal, Do}
use Rattle.certificate_check.specs.row_check.Faults as faults
use Rattle.certificate_check.specs.Claims.{taken, knows, row_state, act_of, row_of, rows_of, low_in, high_in, IsBalancedFor}
use Rattle.certificate_check.specs.Verdicts.{IsRightIn, UpperFollowsIn, IsSound, AreSound, IsIntervalOf}
use Rattle.certificate_check.proofs.Distinct.{rows_known, rows_unknown, states_differ}

pub states_exact : IsExact same_state
states_exact x y = bytes_decides x y

taken_is : (a : Act) → action_of (taken (Some a)) ≡ faults.action_of a
taken_is GiveUp = refl
taken_is Goal = refl
taken_is (Do k) = refl

-- ---- one row, by its act

module _ (g : Ground) (c : Content) (low high : State → ℕ) (acts : State → Option ℕ) (s : State) (lower upper : ℕ)
    (low_is : low s ≡ lower) (at_goal : (ground_process g).goal s ≡ true → high s ≡ 0)
    (high_is : (ground_process g).goal s ≡ false → high s ≡ upper) where
  upper_from : (o o' : Option ℕ) → o ≡ o' → IsUpperFrom (ground_process g) high s o' upper → IsUpperFrom (ground_process g) high s o (high s)
  upper_from o o' same follows = record {
    covers_quit = λ off none. subst (λ v. g.penalty ≤ v) (sym (high_is off)) (follows.covers_quit off (sym same ∙ none));
    is_open = λ a off some. follows.is_open a off (sym same ∙ some);
    covers_step = λ a off some.
        subst (λ v. action_value (ground_process g) high a s ≤ v * (ground_process g).den) (sym (high_is off))
        (follows.covers_step a off (sym same ∙ some));
  }

  upper_back : (o o' : Option ℕ) → o ≡ o' → IsUpperFrom (ground_process g) high s o (high s) → IsUpperFrom (ground_process g) high s o' upper
  upper_back o o' same follows = record {
    covers_quit = λ off none. subst (λ v. g.penalty ≤ v) (high_is off) (follows.covers_quit off (same ∙ none));
    is_open = λ a off some. follows.is_open a off (same ∙ some);
    covers_step = λ a off some.
        subst (λ v. action_value (ground_process g) high a s ≤ v * (ground_process g).den) (high_is off)
        (follows.covers_step a off (same ∙ some));
  }

  balanced_by : (o : Option Act) → acts s ≡ action_of (taken o) → IsRightIn g c low high s o
      → IsLowerFrom (ground_process g) low s lower → UpperFollowsIn g c low high s upper o → IsBalancedAt (ground_process g) low high acts s
  balanced_by None acts_is right follows follows' = absurd right
  balanced_by (Some a) acts_is right follows follows' = record {
    low_follows = subst (IsLowerFrom (ground_process g) low s) (sym low_is) follows;
    high_at_goal = at_goal;
    high_follows = upper_from (acts s) (faults.action_of a) (acts_is ∙ taken_is a) follows'.follows;
  }

  marked_by : (state : State) → state ≡ s → (o : Option Act) → IsRightIn g c low high s o → IsLowerFrom (ground_process g) low s lower
      → UpperFollowsIn g c low high s upper o
      → ((ground_process g).goal s ≡ true → (lower ≡ 0) × (upper ≡ 0) × (taken o ≡ AtGoal)) × ((ground_process g).goal s ≡ false → taken o ≢ AtGoal)
  marked_by state is None right follows follows' = absurd right
  marked_by state is (Some GiveUp) right follows follows' = ((λ on. absurd (true≢false (sym on ∙ right))), (λ off same. absurd cc))
  marked_by state is (Some Goal) right follows follows' =
      ((λ on. (follows.at_goal on, follows'.at_goal on, refl)), (λ off same. absurd (true≢false (sym right ∙ off))))
  marked_by state is (Some (Do k)) right follows follows' =
      ((λ on. absurd (true≢false (sym on ∙ right.0))), (λ off same. absurd cc))

  -- a row off goals, and at one
  right_off : (ground_process g).goal s ≡ false → (o : Option Act) → IsTrue (is_some o) → taken o ≢ AtGoal → acts s ≡ action_of (taken o)
      → IsBalancedAt (ground_process g) low high acts s → IsRightIn g c low high s o × UpperFollowsIn g c low high s upper o
  right_off off None some other acts_is balanced = absurd cc
  right_off off (Some GiveUp) some other acts_is balanced =
      (off, record { at_goal = λ on. absurd (true≢false (sym on ∙ off)); follows = upper_back (acts s) None acts_is balanced.high_follows })
  right_off off (Some Goal) some other acts_is balanced = absurd (other refl)
  right_off off (Some (Do k)) some other acts_is balanced =
      let follows : IsUpperFrom (ground_process g) high s (Some k) upper = upper_back (acts s) (Some k) acts_is balanced.high_follows in
      ((off, follows.is_open k off refl), record { at_goal = λ on. absurd (true≢false (sym on ∙ off)); follows = follows })

  right_on : (ground_process g).goal s ≡ true → (o : Option Act) → upper ≡ 0 → taken o ≡ AtGoal
      → IsRightIn g c low high s o × UpperFollowsIn g c low high s upper o
  right_on on None none here = absurd cc
  right_on on (Some GiveUp) none here = absurd cc
  right_on on (Some Goal) none here = (
    on,
    record {
      at_goal = λ _. none;
      follows = record {
        covers_quit = λ off _. absurd (true≢false (sym on ∙ off));
        is_open = λ a off _. absurd (true≢false (sym on ∙ off));
        covers_step = λ a off _. absurd (true≢false (sym on ∙ off));
      };
    },
  )
  right_on on (Some (Do k)) none here = absurd cc

  right_by : (o : Option Act) → IsTrue (is_some o) → acts s ≡ action_of (taken o)
      → ((ground_process g).goal s ≡ true → (lower ≡ 0) × (upper ≡ 0) × (taken o ≡ AtGoal)) → ((ground_process g).goal s ≡ false → taken o ≢ AtGoal)
      → IsBalancedAt (ground_process g) low high acts s → IsRightIn g c low high s o × UpperFollowsIn g c low high s upper o
  right_by o some acts_is on_goal off_goal balanced = elim (cases_Bool ((ground_process g).goal s)) [
    | inl on ↦ right_on on o (on_goal on).1 (on_goal on).2
    | inr off ↦ right_off off o some (off_goal off) acts_is balanced
  ]

-- ---- all rows

module _ (g : Ground) (c : Content) (is : IsCertificate c) where
  kept_row : (rows : List Row) (r : Row) → Contains rows r → knows g c r ≡ true → Contains (rows_of g c rows) (row_of g c r)
  kept_row [] r inside known = absurd (Contains-nil r inside)
  kept_row (s ∷ rows) r inside known = elim (Contains-cons_cases s rows r inside) [
    | inl here ↦
        subst (λ (xs : List (readings.Row State ℕ)). Contains xs (row_of g c r))
        (sym (rows_known g c is.atoms_rise s rows (ap (knows g c) here ∙ known)))
        (subst (Contains (row_of g c s ∷ rows_of g c rows)) (ap (row_of g c) here) (Contains-first (row_of g c s) (rows_of g c rows)))
    | inr later ↦ elim (cases_Bool (knows g c s)) [
      | inl known' ↦
          subst (λ (xs : List (readings.Row State ℕ)). Contains xs (row_of g c r)) (sym (rows_known g c is.atoms_rise s rows known'))
          (Contains-later (row_of g c s) (rows_of g c rows) (row_of g c r) (kept_row rows r later known))
      | inr unknown ↦
          subst (λ (xs : List (readings.Row State ℕ)). Contains xs (row_of g c r)) (sym (rows_unknown g c is.atoms_rise s rows unknown))
          (kept_row rows r later known)
    ]
  ]

  origin_row : (rows : List Row) (row : readings.Row State ℕ) → Contains (rows_of g c rows) row
      → (r : Row) × Contains rows r × (knows g c r ≡ true) × (row_of g c r ≡ row)
  origin_row [] row inside = absurd (Contains-nil row inside)
  origin_row (s ∷ rows) row inside = elim (cases_Bool (knows g c s)) [
    | inl known ↦
        elim (Contains-cons_cases (row_of g c s) (rows_of g c rows) row
        (subst (λ (xs : List (readings.Row State ℕ)). Contains xs row) (rows_known g c is.atoms_rise s rows known) inside)) [
          | inl here ↦ (s, Contains-first s rows, known, here)
          | inr later ↦
              let found : (r : Row) × Contains rows r × (knows g c r ≡ true) × (row_of g c r ≡ row) = origin_row rows row later in
              (found.0, Contains-later s rows found.0 found.1, found.2, found.3)
        ]
    | inr unknown ↦
        let found : (r : Row) × Contains rows r × (knows g c r ≡ true) × (row_of g c r ≡ row)
        = origin_row rows row (subst (λ (xs : List (readings.Row State ℕ)). Contains xs row) (rows_unknown g c is.atoms_rise s rows unknown) inside) in
        (found.0, Contains-later s rows found.0 found.1, found.2, found.3)
  ]

  module _ (r : Row) (inside : Contains c.rows r) (known : knows g c r ≡ true) where
    pub read : row_at same_state (rows_of g c c.rows) (row_state g c r) ≡ Some (row_of g c r)
    read = row_is_read (ground_process g) same_state states_exact (rows_of g c c.rows) (states_differ g c is) (row_of g c r)
        (kept_row c.rows r inside known)

    pub low_read : low_in g c (row_state g c r) ≡ r.lower
    low_read = ap (λ (o : Option (readings.Row State ℕ)). elim o [ None ↦ 0 | Some row ↦ row.lower ]) read

    act_read : act same_state (rows_of g c c.rows) (row_state g c r) ≡ action_of (taken (act_of g c r.act))
    act_read = ap (λ (o : Option (readings.Row State ℕ)). elim o [ None ↦ None | Some row ↦ action_of row.act ]) read

    pub high_read : (ground_process g).goal (row_state g c r) ≡ false → high_in g c (row_state g c r) ≡ r.upper
    high_read off =
        ap (λ b. cond b 0 (elim (row_at same_state (rows_of g c c.rows) (row_state g c r)) [ None ↦ g.penalty | Some row ↦ row.upper ])) off
        ∙ ap (λ (o : Option (readings.Row State ℕ)). elim o [ None ↦ g.penalty | Some row ↦ row.upper ]) read

    high_goal : (ground_process g).goal (row_state g c r) ≡ true → high_in g c (row_state g c r) ≡ 0
    high_goal on =
        ap (λ b. cond b 0 (elim (row_at same_state (rows_of g c c.rows) (row_state g c r)) [ None ↦ g.penalty | Some row ↦ row.upper ])) on

  sound_row : AreSound g c (low_in g c) (high_in g c) → (r : Row) → Contains c.rows r → IsSound g c (low_in g c) (high_in g c) r
  sound_row sound r inside =
      sound inside.0 r (slice_get-get_or c.rows inside.0 r inside.1 ∙ ap Some inside.2)

  act_is_some : (s : State) (o : Option Act) → IsRightIn g c (low_in g c) (high_in g c) s o → IsTrue (is_some o)
  act_is_some s None right = absurd right
  act_is_some s (Some a) right = refl

  pub sound_is_balanced : c.penalty ≡ g.penalty → AreSound g c (low_in g c) (high_in g c) → IsIntervalOf g c (low_in g c) (high_in g c)
      → IsBalancedFor g c
  sound_is_balanced penalty sound interval = record {
    atoms_known = λ r inside. (sound_row sound r inside).known;
    acts_named = λ r inside. act_is_some (row_state g c r) (act_of g c r.act) (sound_row sound r inside).act;
    balanced = record {
      penalty = penalty;
      distinct = states_differ g c is;
      marked = λ row inside.
          let from : (r : Row) × Contains c.rows r × (knows g c r ≡ true) × (row_of g c r ≡ row) = origin_row c.rows row inside in
          let r = from.0 in
          let here = sound_row sound r from.1 in
          let both = marked_by g c (low_in g c) (high_in g c) (act same_state (rows_of g c c.rows)) (row_state g c r) r.lower r.upper
          (low_read r from.1 from.2) (high_goal r from.1 from.2) (high_read r from.1 from.2)
          (row_state g c r) refl (act_of g c r.act) here.act here.lower here.upper in
          subst (IsMarked (ground_process g)) from.3 (record { at_goal = both.0; elsewhere = both.1 });
      balanced = rows_balance (ground_process g) same_state states_exact (rows_of g c c.rows) (λ row inside.
          let from : (r : Row) × Contains c.rows r × (knows g c r ≡ true) × (row_of g c r ≡ row) = origin_row c.rows row inside in
          let r = from.0 in
          let here = sound_row sound r from.1 in
          subst (λ (x : readings.Row State ℕ). IsBalancedIn (ground_process g) same_state (rows_of g c c.rows) x.state) from.3
          (balanced_by g c (low_in g c) (high_in g c) (act same_state (rows_of g c c.rows)) (row_state g c r) r.lower r.upper
          (low_read r from.1 from.2) (high_goal r from.1 from.2) (high_read r from.1 from.2)
          (act_of g c r.act) (act_read r from.1 from.2) here.act here.lower here.upper));
      interval = interval;
    };
  }

  pub balanced_row : IsBalancedFor g c → (r : Row) → Contains c.rows r → IsSound g c (low_in g c) (high_in g c) r
  balanced_row for r inside =
      let known : knows g c r ≡ true = for.atoms_known r inside in
      let marked : IsMarked (ground_process g) (row_of g c r) = for.balanced.marked (row_of g c r) (kept_row c.rows r inside known) in
      let at = for.balanced.balanced (row_state g c r) in
      let both = right_by g c (low_in g c) (high_in g c) (act same_state (rows_of g c c.rows)) (row_state g c r) r.lower r.upper
      (low_read r inside known) (high_goal r inside known) (high_read r inside known)
      (act_of g c r.act) (for.acts_named r inside) (act_read r inside known) marked.at_goal marked.elsewhere at in
      record {
        known = known;
        act = both.0;
        lower = subst (IsLowerFrom (ground_process g) (low_in g c) (row_state g c r)) (low_read r inside known) at.low_follows;
        upper = both.1;
      }

  pub balanced_is_sound : IsBalancedFor g c → AreSound g c (low_in g c) (high_in g c)
  balanced_is_sound for i r at =
      balanced_row for r (i, slice_get_within c.rows i r at, get_or_from_slice_get c.rows i r r at)
