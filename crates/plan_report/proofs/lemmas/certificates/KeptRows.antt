-- The rows that are kept are those that differ. No goal is among them, and what they do is to give up or to take an open action.
use Rattle.std.proofs.Common.{◌≡◌, ◌≢◌, inl, inr, ℕ, ◌<◌, ◌≤◌, Bool, true, false, cond, not, ◌&&◌, List, length, Option, Some, None, refl, sym, ap, subst, ◌∙◌, arith}
use Rattle.std.specs.Prelude.{Contains, AllPairs, IsTrue, nat_eq, filter}
use Rattle.std.specs.List.{range_with_len}
use Rattle.std.specs.List.Sorted.{IsPermutation}
use Rattle.std.proofs.lemmas.Bool.{cases_Bool, true≢false, and_parts, eq-eqb, eqb-true}
use Rattle.std.proofs.lemmas.List.Kept.{AllPairs-filter}
use Rattle.std.proofs.lemmas.List.Sorted.{Contains-permutation, IsPermutation-sym, length_permutation}
use Rattle.std.proofs.lemmas.List.{length-map}
use Rattle.fixed_round.specs.Words.{value_of, code_of}
use Rattle.plain_list.proofs.Members.{Contains-map, Contains-map_cases}
use Rattle.decision_process.specs.Readings.{Row, RowAct, GivesUp, AtGoal, Takes, action_of, act}
use Rattle.ground_model.specs.Packed.{State, words_for, is_inside, same_state}
use Rattle.ground_model.specs.Ground.{Ground}
use Rattle.ground_model.specs.Invariant.{IsGroundProblem}
use Rattle.ground_model.specs.Steps.{is_open, ground_process}
use Rattle.ground_step.specs.Atoms.{state_of, true_atoms}
use Rattle.bound_core.specs.declared.codes.TheConstants.{AT_GOAL, GIVE_UP}
use Rattle.bound_core.specs.declared.image.ImageRow.{ImageRow}
use Rattle.bound_core.specs.Numbers.{first_word}
use Rattle.bound_core.specs.ends.Closing.{act_in, closing_row, closing_rows, differs, IsClosing}
use Rattle.bound_core.proofs.lemmas.ends.Reading.{row_read, first_at_goal}
use Rattle.plan_report.specs.certificates.RowsKept.{KeptRow}
use Rattle.plan_report.specs.certificates.Kept.{kept_of, kept_rows}
use Rattle.plan_report.proofs.lemmas.certificates.Lists.{Contains-filter, Contains-filter_cases, filter_at_most, member_below, pairs_mapped, pairs_unmapped}
use Rattle.plan_report.proofs.lemmas.certificates.AtomSets.{atom_below, state_back}
use Rattle.plan_report.proofs.lemmas.certificates.Insides.{reached_inside}

not_false : (b : Bool) → not b ≡ false → b ≡ true
not_false true e = refl
not_false false e = absurd cc

-- ---- what a word says to do

pub act_at_goal : (word : ℕ) → code_of word ≡ AT_GOAL → act_in word ≡ AtGoal
act_at_goal word is = ap (λ b. cond b AtGoal (cond (nat_eq (code_of word) GIVE_UP) GivesUp (Takes (code_of word)))) (eq-eqb (code_of word) AT_GOAL is)

module _ (word : ℕ) (elsewhere : act_in word ≢ AtGoal) where
  off_goal_code : nat_eq (code_of word) AT_GOAL ≡ false
  off_goal_code = elim (cases_Bool (nat_eq (code_of word) AT_GOAL)) [
    | inl on ↦ absurd (elsewhere (act_at_goal word (eqb-true (code_of word) AT_GOAL on)))
    | inr off ↦ off
  ]

  act_off_goal : act_in word ≡ cond (nat_eq (code_of word) GIVE_UP) GivesUp (Takes (code_of word))
  act_off_goal = ap (λ b. cond b AtGoal (cond (nat_eq (code_of word) GIVE_UP) GivesUp (Takes (code_of word)))) off_goal_code

  pub act_gives_up : nat_eq (code_of word) GIVE_UP ≡ true → act_in word ≡ GivesUp
  act_gives_up on = act_off_goal ∙ ap (λ b. cond b GivesUp (Takes (code_of word))) on

  pub act_takes : nat_eq (code_of word) GIVE_UP ≡ false → act_in word ≡ Takes (code_of word)
  act_takes off = act_off_goal ∙ ap (λ b. cond b GivesUp (Takes (code_of word))) off

goal_act : (o : Bool) (a : RowAct ℕ) → o ≡ false → cond o AtGoal a ≡ AtGoal → a ≡ AtGoal
goal_act o a off is = sym (ap (λ b. cond b AtGoal a) off) ∙ is

never_goal : (b : Bool) (k : ℕ) → cond b GivesUp (Takes k) ≢ AtGoal
never_goal true k = λ e. absurd cc
never_goal false k = λ e. absurd cc

goal_code : (word : ℕ) → act_in word ≡ AtGoal → code_of word ≡ AT_GOAL
goal_code word is = elim (cases_Bool (nat_eq (code_of word) AT_GOAL)) [
  | inl on ↦ eqb-true (code_of word) AT_GOAL on
  | inr off ↦
      absurd (never_goal (nat_eq (code_of word) GIVE_UP) (code_of word)
      (goal_act (nat_eq (code_of word) AT_GOAL) (cond (nat_eq (code_of word) GIVE_UP) GivesUp (Takes (code_of word))) off is))
]

-- ---- rows that differ

pub first_parts : (g : Ground) (row : ImageRow) → differs g row ≡ false → (row.lower ≡ 0) × (row.upper ≡ first_word g row.state)
first_parts g row same =
    let parts = and_parts (nat_eq row.lower 0) (nat_eq row.upper (first_word g row.state))
    (not_false (nat_eq row.lower 0 && nat_eq row.upper (first_word g row.state)) same) in
    (eqb-true row.lower 0 parts.0, eqb-true row.upper (first_word g row.state) parts.1)

first_is_same : (g : Ground) (row : ImageRow) → row.lower ≡ 0 → row.upper ≡ first_word g row.state → differs g row ≡ false
first_is_same g row lower upper =
    (λ j. not (eq-eqb row.lower 0 lower j && eq-eqb row.upper (first_word g row.state) upper j))

module _ (g : Ground) (rows : List ImageRow) (closing : IsClosing g rows) (row : ImageRow) (held : Contains rows row) (different : differs g row ≡ true) where
  goal_is_first : (ground_process g).goal row.state ≡ true → row.upper ≡ first_word g row.state
  goal_is_first on =
      let is = (closing.marked row held).at_goal on in
      let code : code_of row.upper ≡ AT_GOAL = goal_code row.upper is.2 in
      let value : value_of row.upper ≡ 0 = is.1 in
      let first = first_at_goal g row.state on in omega arith

  pub off_goal : (ground_process g).goal row.state ≡ false
  off_goal = elim (cases_Bool ((ground_process g).goal row.state)) [
    | inl on ↦
        absurd (true≢false (sym different ∙ first_is_same g row ((closing.marked row held).at_goal on).0 (goal_is_first on)))
    | inr off ↦ off
  ]

  pub elsewhere : act_in row.upper ≢ AtGoal
  elsewhere = (closing.marked row held).elsewhere off_goal

  pub code_is_open : nat_eq (code_of row.upper) GIVE_UP ≡ false → code_of row.upper < length g.actions
  code_is_open off =
      let taken : act same_state (closing_rows rows) row.state ≡ Some (code_of row.upper)
      = ap (λ (o : Option (Row State ℕ)). elim o [ None ↦ None | Some r ↦ action_of r.act ]) (row_read g rows closing row held)
      ∙ ap action_of (act_takes row.upper elsewhere off) in
      let open_there = (closing.balanced row.state).high_follows.is_open (code_of row.upper) off_goal taken in
      member_below (length g.actions) (code_of row.upper)
      (Contains-filter_cases (λ k. is_open g k row.state) (range_with_len 0 (length g.actions)) (code_of row.upper) open_there).0

-- ---- the rows that are kept

pub record IsKept (g : Ground) (rows : List ImageRow) (r : KeptRow) : Type 0 where
  pub row : ImageRow
  pub held : Contains rows row
  pub different : differs g row ≡ true
  pub is : kept_of row ≡ r

module _ (g : Ground) (rows : List ImageRow) (kept : List KeptRow) (moved : IsPermutation (kept_rows g rows) kept) where
  pub kept_from : (r : KeptRow) → Contains kept r → IsKept g rows r
  kept_from r there =
      let back : Contains (kept_rows g rows) r = Contains-permutation kept (kept_rows g rows) r (IsPermutation-sym (kept_rows g rows) kept moved) there in
      let m = Contains-map_cases kept_of (filter (differs g) rows) r back in
      let f = Contains-filter_cases (differs g) rows m.0 m.1 in
      record { row = m.0; held = f.0; different = f.1; is = m.2 }

  pub kept_there : (row : ImageRow) → Contains rows row → differs g row ≡ true → Contains kept (kept_of row)
  kept_there row held different =
      Contains-permutation (kept_rows g rows) kept (kept_of row) moved
      (Contains-map kept_of (filter (differs g) rows) row (Contains-filter (differs g) rows row held different))

  pub kept_few : length kept ≤ length rows
  kept_few =
      let a = length_permutation (kept_rows g rows) kept moved in
      let b = length-map (filter (differs g) rows) kept_of in
      let c = filter_at_most (differs g) rows in omega arith

  module _ (valid : IsGroundProblem g) (closing : IsClosing g rows) where
    pub row_inside : (row : ImageRow) → Contains rows row → IsTrue (is_inside (length g.atoms) row.state)
    row_inside row held = reached_inside g valid row.state (closing.reached row held)

    pub kept_below : (r : KeptRow) → Contains kept r → (q : ℕ) → Contains r.atoms q → q < length g.atoms
    kept_below r there q inside =
        let k = kept_from r there in
        atom_below (length g.atoms) k.row.state (row_inside k.row k.held) q
        (subst (λ (x : KeptRow). Contains x.atoms q) (sym k.is) inside)

    same_atoms : (row other : ImageRow) → Contains rows row → Contains rows other → true_atoms row.state ≡ true_atoms other.state → row.state ≡ other.state
    same_atoms row other here there same =
        sym (state_back (length g.atoms) row.state (row_inside row here))
        ∙ ap (λ atoms. state_of atoms (words_for (length g.atoms))) same
        ∙ state_back (length g.atoms) other.state (row_inside other there)

    pub states_differ : AllPairs (λ (x y : ImageRow). x.state ≢ y.state) rows
    states_differ = pairs_unmapped (λ (x y : Row State ℕ). x.state ≢ y.state) closing_row rows closing.distinct

    pub kept_differ : AllPairs (λ (x y : KeptRow). x.atoms ≢ y.atoms) (kept_rows g rows)
    kept_differ =
        pairs_mapped (λ (x y : KeptRow). x.atoms ≢ y.atoms) kept_of (λ (x y : ImageRow). x.state ≢ y.state) (filter (differs g) rows)
        (AllPairs-filter (λ (x y : ImageRow). x.state ≢ y.state) (differs g) rows states_differ)
        (λ x y here there apart same.
        apart (same_atoms x y (Contains-filter_cases (differs g) rows x here).0 (Contains-filter_cases (differs g) rows y there).0 same))
