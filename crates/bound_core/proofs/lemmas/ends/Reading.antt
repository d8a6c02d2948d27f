-- What is read of a state that has a row.
use Rattle.std.proofs.Common.{◌≡◌, ℕ, ◌≤◌, inl, inr, true, false, cond, List, Option, None, Some, sym, ap, ◌∙◌, subst, arith}
use Rattle.std.specs.Prelude.{Contains}
use Rattle.std.specs.Cmp.Lexicographic.{bytes_decides}
use Rattle.std.proofs.lemmas.Bool.{cases_Bool}
use Rattle.fixed_round.specs.Words.{value_of}
use Rattle.plain_list.specs.weighted.Chances.{IsExact}
use Rattle.plain_list.proofs.Members.{Contains-map}
use Rattle.decision_process.specs.Readings.{Row, row_at, low, high}
use Rattle.decision_process.proofs.Readings.{row_is_read}
use Rattle.ground_model.specs.Packed.{State, same_state}
use Rattle.ground_model.specs.Ground.{Ground}
use Rattle.ground_model.specs.Steps.{ground_process}
use Rattle.bound_core.specs.declared.image.ImageRow.{ImageRow}
use Rattle.bound_core.specs.Numbers.{first_word, goal_word, quit_word}
use Rattle.bound_core.specs.ends.Closing.{closing_row, closing_rows, IsClosing}

pub states_exact : IsExact same_state
states_exact x y = bytes_decides x y

pub first_at_goal : (g : Ground) (s : State) → (ground_process g).goal s ≡ true → first_word g s ≡ goal_word
first_at_goal g s on = ap (λ b. cond b goal_word (quit_word g.penalty)) on

pub first_off_goal : (g : Ground) (s : State) → (ground_process g).goal s ≡ false → first_word g s ≡ quit_word g.penalty
first_off_goal g s off = ap (λ b. cond b goal_word (quit_word g.penalty)) off

first_value : (g : Ground) (s : State) → value_of (first_word g s) ≤ g.penalty
first_value g s = elim (cases_Bool ((ground_process g).goal s)) [
  | inl on ↦ (let is = first_at_goal g s on in omega arith)
  | inr off ↦ (let is = first_off_goal g s off in omega arith)
]

value_rises : (x y : ℕ) → x ≤ y → value_of x ≤ value_of y
value_rises x y below = omega arith

module _ (g : Ground) (rows : List ImageRow) (is : IsClosing g rows) (row : ImageRow) (inside : Contains rows row) where
  pub row_read : row_at same_state (closing_rows rows) row.state ≡ Some (closing_row row)
  row_read = row_is_read (ground_process g) same_state states_exact (closing_rows rows) is.distinct (closing_row row) (Contains-map closing_row rows row inside)

  pub low_read : low same_state (closing_rows rows) row.state ≡ row.lower
  low_read = ap (λ (o : Option (Row State ℕ)). elim o [ None ↦ 0 | Some r ↦ r.lower ]) row_read

  high_at_goal : (ground_process g).goal row.state ≡ true → high (ground_process g) same_state (closing_rows rows) row.state ≡ value_of row.upper
  high_at_goal on =
      ap (λ b. cond b 0 (elim (row_at same_state (closing_rows rows) row.state) [ None ↦ g.penalty | Some r ↦ r.upper ])) on
      ∙ sym ((is.marked row inside).at_goal on).1

  high_off_goal : (ground_process g).goal row.state ≡ false → high (ground_process g) same_state (closing_rows rows) row.state ≡ value_of row.upper
  high_off_goal off =
      ap (λ b. cond b 0 (elim (row_at same_state (closing_rows rows) row.state) [ None ↦ g.penalty | Some r ↦ r.upper ])) off
      ∙ ap (λ (o : Option (Row State ℕ)). elim o [ None ↦ g.penalty | Some r ↦ r.upper ]) row_read

  pub high_read : high (ground_process g) same_state (closing_rows rows) row.state ≡ value_of row.upper
  high_read = elim (cases_Bool ((ground_process g).goal row.state)) [
    | inl on ↦ high_at_goal on
    | inr off ↦ high_off_goal off
  ]

  pub lower_within : row.lower ≤ g.penalty
  lower_within =
      let follows = (is.balanced row.state).low_follows in
      subst (λ n. n ≤ g.penalty) low_read (elim (cases_Bool ((ground_process g).goal row.state)) [
        | inl on ↦ (let zero = follows.at_goal on in omega arith)
        | inr off ↦ follows.within_quit off
      ])

  pub upper_within : value_of row.upper ≤ g.penalty
  upper_within = (let a = value_rises row.upper (first_word g row.state) (is.within_first row inside) in let b = first_value g row.state in omega arith)
