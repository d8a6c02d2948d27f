-- The rows of a closed table say of each state what its core says; so they are what is known of all states.
use Rattle.std.proofs.Common.{◌≡◌, ◌≢◌, ◌⊎◌, ℕ, ◌<◌, cond, true, false, nat_eq, Some, None, Option, Bool, List, [], ◌∷◌, length, get_or, refl, sym, ap, ◌∙◌, subst, inl, inr, arith}
use Rattle.std.specs.Prelude.{Contains}
use Rattle.std.specs.List.{slice_get}
use Rattle.std.specs.Option.{option_map}
use Rattle.std.specs.Cmp.Lexicographic.{bytes_decides}
use Rattle.std.proofs.lemmas.Bool.{cases_Bool, true≢false, eq-eqb, ne_eqb}
use Rattle.std.proofs.lemmas.List.{length-map}
use Rattle.std.proofs.lemmas.Option.{slice_get-map, slice_get_cases, get_or_from_slice_get}
use Rattle.plain_list.proofs.Members.{Contains-first, Contains-later, Contains-cons_cases, Contains-nil}
use Rattle.fixed_round.specs.Words.{value_of, code_of}
use Rattle.decision_process.specs.Following.{IsLowerFrom, IsUpperFrom}
use Rattle.decision_process.specs.Readings.{Row, RowAct, GivesUp, AtGoal, Takes, HasDistinctStates, action_of, row_at, low, high, act, IsMarked, IsBalancedIn}
use Rattle.ground_model.specs.Packed.{State, same_state}
use Rattle.ground_model.specs.Ground.{Ground}
use Rattle.ground_model.specs.Steps.{ground_process}
use Rattle.ground_model.specs.Invariant.{IsGroundProblem}
use Rattle.bound_core.specs.declared.codes.TheConstants.{AT_GOAL, GIVE_UP}
use Rattle.bound_core.specs.declared.image.ImageRow.{ImageRow}
use Rattle.bound_core.specs.Numbers.{act_of, goal_word, quit_word, first_word}
use Rattle.bound_core.specs.Core.{Core}
use Rattle.bound_core.specs.Sound.{Sound}
use Rattle.bound_core.proofs.Numbers.{first_word_elsewhere, first_value_elsewhere}
use Rattle.word_table.specs.Closed.{AreRows}
use Rattle.bellman_backup.proofs.Stepping.{open_code_is_inside}
use Rattle.bound_core.specs.ends.Closing.{act_in, closing_row, closing_rows, IsClosing}
use Rattle.plan_search.proofs.lemmas.solver.Rows.{row_shown, shown, row_of}

-- ---- acts

goal_act : act_in goal_word ≡ AtGoal
goal_act = refl

goal_value : value_of goal_word ≡ 0
goal_value = omega arith

abbrev plain_act : ℕ → RowAct ℕ
plain_act word = cond (nat_eq (code_of word) GIVE_UP) GivesUp (Takes (code_of word))

act_elsewhere : (word : ℕ) → code_of word ≢ AT_GOAL → act_in word ≡ plain_act word
act_elsewhere word other = ap (λ b. cond b AtGoal (plain_act word)) (ne_eqb (code_of word) AT_GOAL other)

quits_not_goal : ◌≡◌ {A = RowAct ℕ} GivesUp AtGoal → ⊥
quits_not_goal same = cc

takes_not_goal : (code : ℕ) → ◌≡◌ {A = RowAct ℕ} (Takes code) AtGoal → ⊥
takes_not_goal code same = cc

elsewhere_not_goal : (word : ℕ) → plain_act word ≢ AtGoal
elsewhere_not_goal word = elim (cases_Bool (nat_eq (code_of word) GIVE_UP)) [
  | inl on ↦ subst (λ (b : Bool). cond b GivesUp (Takes (code_of word)) ≢ AtGoal) (sym on) quits_not_goal
  | inr off ↦ subst (λ (b : Bool). cond b GivesUp (Takes (code_of word)) ≢ AtGoal) (sym off) (takes_not_goal (code_of word))
]

elsewhere_action : (word : ℕ) → action_of (plain_act word) ≡ act_of word
elsewhere_action word = elim (cases_Bool (nat_eq (code_of word) GIVE_UP)) [
  | inl on ↦ ap (λ b. action_of (cond b GivesUp (Takes (code_of word)))) on ∙ sym (ap (λ b. cond b None (Some (code_of word))) on)
  | inr off ↦ ap (λ b. action_of (cond b GivesUp (Takes (code_of word)))) off ∙ sym (ap (λ b. cond b None (Some (code_of word))) off)
]

quit_act : (penalty : ℕ) → act_of (quit_word penalty) ≡ None
quit_act penalty =
    let code : code_of (quit_word penalty) ≡ GIVE_UP = omega arith in
    ap (λ b. cond b None (Some (code_of (quit_word penalty)))) (eq-eqb (code_of (quit_word penalty)) GIVE_UP code)

-- ---- what a row says

abbrev lower_of : Option (Row State ℕ) → ℕ
lower_of o = elim o [ None ↦ 0 | Some row ↦ row.lower ]

abbrev upper_of : ℕ → Option (Row State ℕ) → ℕ
upper_of penalty o = elim o [ None ↦ penalty | Some row ↦ row.upper ]

abbrev act_at : Option (Row State ℕ) → Option ℕ
act_at o = elim o [ None ↦ None | Some row ↦ action_of row.act ]

-- ---- the row of a state

pub record HasReading (rows : List ImageRow) (s : State) : Type 0 where
  pub row : ImageRow
  pub held : Contains rows row
  pub of_state : row.state ≡ s
  pub read : row_at same_state (closing_rows rows) s ≡ Some (closing_row row)

pub record HasNone (rows : List ImageRow) (s : State) : Type 0 where
  pub unread : row_at same_state (closing_rows rows) s ≡ None
  pub others : (row : ImageRow) → Contains rows row → row.state ≢ s

differs_from : (first row : ImageRow) (s : State) → same_state first.state s ≡ false → first ≡ row → row.state ≡ s → ⊥
differs_from first row s off here same =
    true≢false (sym ((bytes_decides first.state s).1 (ap (λ (r : ImageRow). r.state) here ∙ same)) ∙ off)

reading : (rows : List ImageRow) (s : State) → HasReading rows s ⊎ HasNone rows s
reading [] s = inr record { unread = refl; others = λ row there. absurd (Contains-nil row there) }
reading (first ∷ rows) s = elim (cases_Bool (same_state first.state s)) [
  | inl on ↦ inl record {
    row = first;
    held = Contains-first first rows;
    of_state = (bytes_decides first.state s).0 on;
    read = ap (λ b. elim b [ true ↦ Some (closing_row first) | false ↦ row_at same_state (closing_rows rows) s ]) on;
  }
  | inr off ↦
      let skip : row_at same_state (closing_rows (first ∷ rows)) s ≡ row_at same_state (closing_rows rows) s
      = ap (λ b. elim b [ true ↦ Some (closing_row first) | false ↦ row_at same_state (closing_rows rows) s ]) off in
      elim (reading rows s) [
        | inl has ↦ inl record {
          row = has.row;
          held = Contains-later first rows has.row has.held;
          of_state = has.of_state;
          read = skip ∙ has.read;
        }
        | inr none ↦ inr record {
          unread = skip ∙ none.unread;
          others = λ row there same. elim (Contains-cons_cases first rows row there) [
            | inl here ↦ absurd (differs_from first row s off here same)
            | inr later ↦ none.others row later same
          ];
        }
      ]
]

-- ---- a core without rows at first numbers

module _ (g : Ground) (valid : IsGroundProblem g) (c : Core) (sound : Sound g c) (ids : List ℕ) (rows : List ImageRow) (are : AreRows c ids rows)
    (unread : (s : State) → ((id : ℕ) → c.state_of id ≢ Some s) → (c.lower s ≡ 0) × (c.upper s ≡ first_word g s)) where
  abbrev read : List (Row State ℕ)
  read = closing_rows rows

  goal_there : (s : State) → (ground_process g).goal s ≡ true → c.upper s ≡ goal_word
  goal_there s on = (sound.upper.follows s).at_goal on

  -- the code of a word names an open action or gives up, off goals
  code_is_no_goal : (s : State) → (ground_process g).goal s ≡ false → code_of (c.upper s) ≢ AT_GOAL
  code_is_no_goal s off is =
      let acts : act_of (c.upper s) ≡ Some AT_GOAL = ap (λ k. cond (nat_eq k GIVE_UP) None (Some k)) is in
      let inside = open_code_is_inside g s AT_GOAL ((sound.upper.follows s).follows.is_open AT_GOAL off acts) in
      let few = valid.actions_count in omega arith

  first_numbers : (s : State) → HasNone rows s → (c.lower s ≡ 0) × (c.upper s ≡ first_word g s)
  first_numbers s none = unread s (λ id there. let row = row_of c ids rows are id s there in none.others row.0 row.1 row.2)

  pub low_is : (s : State) → low same_state read s ≡ c.lower s
  low_is s = elim (reading rows s) [
    | inl has ↦ ap lower_of has.read ∙ ((shown c ids rows are has.row has.held).1.lower ∙ ap c.lower has.of_state)
    | inr none ↦ ap lower_of none.unread ∙ sym (first_numbers s none).0
  ]

  row_upper : (s : State) → HasReading rows s → (row : ImageRow) × (row_at same_state read s ≡ Some (closing_row row)) × (row.upper ≡ c.upper s)
  row_upper s has = (has.row, has.read, (shown c ids rows are has.row has.held).1.upper ∙ ap c.upper has.of_state)

  upper_is : (s : State) → (ground_process g).goal s ≡ false → upper_of g.penalty (row_at same_state read s) ≡ value_of (c.upper s)
  upper_is s off = elim (reading rows s) [
    | inl has ↦ let row = row_upper s has in ap (upper_of g.penalty) row.1 ∙ ap value_of row.2
    | inr none ↦ ap (upper_of g.penalty) none.unread ∙ sym (ap value_of (first_numbers s none).1 ∙ first_value_elsewhere g s off)
  ]

  pub high_is : (s : State) → high (ground_process g) same_state read s ≡ value_of (c.upper s)
  high_is s = elim (cases_Bool ((ground_process g).goal s)) [
    | inl on ↦ ap (λ b. cond b 0 (upper_of g.penalty (row_at same_state read s))) on ∙ sym (ap value_of (goal_there s on) ∙ goal_value)
    | inr off ↦ ap (λ b. cond b 0 (upper_of g.penalty (row_at same_state read s))) off ∙ upper_is s off
  ]

  act_is : (s : State) → (ground_process g).goal s ≡ false → act same_state read s ≡ act_of (c.upper s)
  act_is s off = elim (reading rows s) [
    | inl has ↦
        let row = row_upper s has in
        let other : code_of row.0.upper ≢ AT_GOAL = λ is. code_is_no_goal s off (ap code_of (sym row.2) ∙ is) in
        ap act_at row.1 ∙ (ap action_of (act_elsewhere row.0.upper other) ∙ (elsewhere_action row.0.upper ∙ ap act_of row.2))
    | inr none ↦ ap act_at none.unread ∙ sym (ap act_of ((first_numbers s none).1 ∙ first_word_elsewhere g s off) ∙ quit_act g.penalty)
  ]

  -- ---- what is known of all states

  balanced : (s : State) → IsBalancedIn (ground_process g) same_state read s
  balanced s =
      let lower = sound.lower.follows s in
      let upper = (sound.upper.follows s).follows in
      let lowered : c.lower ≡ low same_state read = λ i t. sym (low_is t) i in
      let raised : (λ t. value_of (c.upper t)) ≡ high (ground_process g) same_state read = λ i t. sym (high_is t) i in
      record {
        low_follows = subst (λ (f : State → ℕ). IsLowerFrom (ground_process g) f s (f s)) lowered lower;
        high_at_goal = λ on. high_is s ∙ (ap value_of (goal_there s on) ∙ goal_value);
        high_follows = subst (λ (f : State → ℕ). IsUpperFrom (ground_process g) f s (act same_state read s) (f s)) raised record {
          covers_quit = λ off none. upper.covers_quit off (sym (act_is s off) ∙ none);
          is_open = λ a off some. upper.is_open a off (sym (act_is s off) ∙ some);
          covers_step = λ a off some. upper.covers_step a off (sym (act_is s off) ∙ some);
        };
      }

  row_read : (k : ℕ) (d : Row State ℕ) → k < length read → (row : ImageRow) × (slice_get rows k ≡ Some row) × (get_or read k d ≡ closing_row row)
  row_read k d below = elim (slice_get_cases rows k).1 [
    | inl t ↦ (
      t.0,
      t.2,
      get_or_from_slice_get read k (closing_row t.0) d (slice_get-map closing_row rows k ∙ ap (option_map closing_row) t.2),
    )
    | inr t ↦ absurd (let past = t.0 in let long = length-map rows closing_row in omega arith)
  ]

  distinct : HasDistinctStates read
  distinct i j d before below same =
      let first = row_read i d (omega arith) in
      let second = row_read j d below in
      let one = row_shown c ids rows are i first.0 first.1 in
      let other = row_shown c ids rows are j second.0 second.1 in
      let states : first.0.state ≡ second.0.state
      = ap (λ (r : Row State ℕ). r.state) (sym first.2) ∙ (same ∙ ap (λ (r : Row State ℕ). r.state) second.2) in
      let ids_are : get_or ids i 0 ≡ get_or ids j 0
      = sound.states.distinct (get_or ids i 0) (get_or ids j 0) second.0.state (one.state ∙ ap Some states) other.state in
      let rises = are.rise i j 0 before (let long = length-map rows closing_row in let count = are.count in omega arith) in
      omega arith

  marked : (row : ImageRow) → Contains rows row → IsMarked (ground_process g) (closing_row row)
  marked row there =
      let is = (shown c ids rows are row there).1 in
      record {
        at_goal = λ on.
            let word : row.upper ≡ goal_word = is.upper ∙ goal_there row.state on in (
              is.lower ∙ (sound.lower.follows row.state).at_goal on,
              ap value_of word ∙ goal_value,
              ap act_in word ∙ goal_act,
            );
        elsewhere = λ off same.
            let other : code_of row.upper ≢ AT_GOAL = λ goes. code_is_no_goal row.state off (ap code_of (sym is.upper) ∙ goes) in
            elsewhere_not_goal row.upper (sym (act_elsewhere row.upper other) ∙ same);
      }

  pub rows_are_closing : IsClosing g rows
  rows_are_closing = record {
    distinct = distinct;
    reached = λ row there. let is = shown c ids rows are row there in sound.states.reachable is.0 row.state is.1.state;
    within_first = λ row there.
        let is = (shown c ids rows are row there).1.upper in let within = sound.upper.within_first row.state in omega arith;
    marked = marked;
    balanced = balanced;
  }
