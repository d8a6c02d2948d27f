-- The sums over the starts, one start after another.
use Rattle.std.proofs.Common.{◌≡◌, ℕ, ◌+◌, ◌*◌, ◌<◌, ◌≤◌, ◌^◌, List, length, take, get_or, Some, refl, sym, ap, ◌∙◌, subst, arith}
use Rattle.std.specs.Prelude.{Contains}
use Rattle.std.specs.List.{slice_get}
use Rattle.std.proofs.Math.Nat.{mul-le-mul_left, mul-le-mul_right, mul_comm, div-le_of_le-mul}
use Rattle.std.proofs.lemmas.Option.{slice_get_read, slice_get_within, get_or_from_slice_get}
use Rattle.fixed_round.specs.Words.{value_of}
use Rattle.plain_list.specs.weighted.Mean.{total}
use Rattle.plain_list.proofs.lemmas.weighted.Totals.{total-map}
use Rattle.decision_process.specs.Process.{at_starts}
use Rattle.decision_process.specs.Process.{Start as ProcessStart}
use Rattle.decision_process.specs.Backup.{floor, ceiling}
use Rattle.decision_process.specs.Readings.{low, high}
use Rattle.decision_process.proofs.Rounding.{ceiling-le}
use Rattle.ground_model.specs.declared.start.Start.{Start}
use Rattle.ground_model.specs.Packed.{State, same_state}
use Rattle.ground_model.specs.Ground.{Ground}
use Rattle.ground_model.specs.Steps.{ground_process, ground_starts, start_of}
use Rattle.ground_model.specs.Invariant.{IsGroundProblem}
use Rattle.bound_core.specs.declared.image.ImageRow.{ImageRow}
use Rattle.bound_core.specs.declared.ends.sums.Sums.{Sums}
use Rattle.bound_core.specs.ends.Closing.{closing_rows, IsClosing, IsRowAt, HasStartsFirst}
use Rattle.bound_core.specs.ends.Ends.{closing_low, closing_high}
use Rattle.bound_core.specs.ends.Sums.{over, AreSums}
use Rattle.bound_core.proofs.lemmas.ends.Totals.{total_more, total_part}
use Rattle.bound_core.proofs.lemmas.ends.Reading.{low_read, high_read, lower_within, upper_within}

abbrev weight : Start → ℕ
weight x = x.weight

-- ---- a start and its row

pub first_row : (g : Ground) (rows : List ImageRow) → HasStartsFirst g rows → (xs : List Start) → xs ≡ g.starts → (i : ℕ) (x : Start)
    → i < length xs → x ≡ get_or xs i x → IsRowAt rows i x.state
first_row g rows first xs all i x within at =
    first i x (subst (λ l. slice_get l i ≡ Some x) all (slice_get_read xs (length xs) i x refl within at))

pub row_there : (rows : List ImageRow) (i : ℕ) (x : Start) (there : IsRowAt rows i x.state) (row : ImageRow) → row ≡ get_or rows i row
    → Contains rows row × (row.state ≡ x.state)
row_there rows i x there row at =
    let within : i < length rows = slice_get_within rows i there.row there.here in
    let same : row ≡ there.row = at ∙ get_or_from_slice_get rows i there.row row there.here in
    ((i, within, sym at), ap (λ (r : ImageRow). r.state) same ∙ there.of_state)

-- ---- sums

pub nothing_added : (g : Ground) (rows : List ImageRow) (xs : List Start) (sums : Sums) → sums.lower ≡ 0 → sums.upper ≡ 0 → AreSums g rows (take 0 xs) sums
nothing_added g rows xs sums lower upper = record {
  lower = lower;
  upper = upper;
  within_quit = (omega arith, omega arith);
}

module _ (g : Ground) (rows : List ImageRow) (is : IsClosing g rows) (xs : List Start) (i : ℕ) (x : Start) (within : i < length xs) (at : x ≡ get_or xs i x)
    (row : ImageRow) (inside : Contains rows row) (of_start : row.state ≡ x.state)
    (sums : Sums) (are : AreSums g rows (take i xs) sums) where
  abbrev lows : State → ℕ
  lows = low same_state (closing_rows rows)

  abbrev highs : State → ℕ
  highs = high (ground_process g) same_state (closing_rows rows)

  more : (f : State → ℕ) → over f (take (i + 1) xs) ≡ over f (take i xs) + x.weight * f x.state
  more f = total_more (λ (y : Start). y.weight * f y.state) xs i x within at

  low_here : lows x.state ≡ row.lower
  low_here = ap lows (sym of_start) ∙ low_read g rows is row inside

  high_here : highs x.state ≡ value_of row.upper
  high_here = ap highs (sym of_start) ∙ high_read g rows is row inside

  within_more : (n value : ℕ) → n ≤ total weight (take i xs) * g.penalty → value ≤ g.penalty
      → n + x.weight * value ≤ total weight (take (i + 1) xs) * g.penalty
  within_more n value before small =
      let t = total_more weight xs i x within at in
      let a : x.weight * value ≤ x.weight * g.penalty = mul-le-mul_left x.weight small in
      let b : (total weight (take i xs) + x.weight) * g.penalty ≡ total weight (take i xs) * g.penalty + x.weight * g.penalty = grind arith in
      let c : total weight (take (i + 1) xs) * g.penalty ≡ (total weight (take i xs) + x.weight) * g.penalty = ap (λ n. n * g.penalty) t in
      omega arith

  lower_quit : sums.lower + x.weight * row.lower ≤ total weight (take (i + 1) xs) * g.penalty
  lower_quit = within_more sums.lower row.lower are.within_quit.0 (lower_within g rows is row inside)

  upper_quit : sums.upper + x.weight * value_of row.upper ≤ total weight (take (i + 1) xs) * g.penalty
  upper_quit = within_more sums.upper (value_of row.upper) are.within_quit.1 (upper_within g rows is row inside)

  pub one_more : (sums' : Sums) → sums'.lower ≡ sums.lower + x.weight * row.lower → sums'.upper ≡ sums.upper + x.weight * value_of row.upper
      → AreSums g rows (take (i + 1) xs) sums'
  one_more sums' lower upper = record {
    lower = lower ∙ (λ j. are.lower j + x.weight * sym low_here j) ∙ sym (more lows);
    upper = upper ∙ (λ j. are.upper j + x.weight * sym high_here j) ∙ sym (more highs);
    within_quit = (let a = lower_quit in omega arith, let a = upper_quit in omega arith);
  }

  -- the sums have room
  pub fits : IsGroundProblem g → xs ≡ g.starts → (sums.lower + x.weight * row.lower < 2 ^ 128) × (sums.upper + x.weight * value_of row.upper < 2 ^ 128)
  fits valid all =
      let part : total weight (take (i + 1) xs) ≤ total weight xs = total_part weight xs (i + 1) in
      let whole : total weight xs ≡ g.start_den = ap (total weight) all ∙ valid.starts_weights.sum in
      let den = valid.starts_weights.den_within in
      let few : total weight (take (i + 1) xs) ≤ 10 ^ 18 = omega arith in
      let a : total weight (take (i + 1) xs) * g.penalty ≤ 10 ^ 18 * g.penalty = mul-le-mul_right g.penalty few in
      let b = valid.penalty_within in let c = lower_quit in let d = upper_quit in
      let most : 10 ^ 18 * g.penalty ≤ 10 ^ 18 * 10 ^ 14 = mul-le-mul_left (10 ^ 18) (let e : g.penalty ≤ 10 ^ 14 = omega arith in e) in
      (omega arith, omega arith)

-- ---- the means

over_starts : (f : State → ℕ) (g : Ground) → over f g.starts ≡ at_starts f (ground_starts g)
over_starts f g = sym (total-map (λ (y : ProcessStart State). y.weight * f y.state) start_of g.starts)

module _ (g : Ground) (rows : List ImageRow) (sums : Sums) (are : AreSums g rows g.starts sums) where
  pub lower_mean : floor sums.lower g.start_den ≡ closing_low g rows
  lower_mean = ap (λ n. floor n g.start_den) (are.lower ∙ over_starts (low same_state (closing_rows rows)) g)

  pub upper_mean : ceiling sums.upper g.start_den ≡ closing_high g rows
  upper_mean = ap (λ n. ceiling n g.start_den) (are.upper ∙ over_starts (high (ground_process g) same_state (closing_rows rows)) g)

  pub means_within : IsGroundProblem g → (floor sums.lower g.start_den ≤ g.penalty) × (ceiling sums.upper g.start_den ≤ g.penalty)
  means_within valid =
      let lower : sums.lower ≤ g.start_den * g.penalty = subst (λ n. sums.lower ≤ n * g.penalty) valid.starts_weights.sum are.within_quit.0 in
      let upper : sums.upper ≤ g.start_den * g.penalty = subst (λ n. sums.upper ≤ n * g.penalty) valid.starts_weights.sum are.within_quit.1 in (
        div-le_of_le-mul g.start_den lower,
        ceiling-le sums.upper g.penalty g.start_den (let a = valid.starts_weights.den_above in omega arith) (let c : g.start_den * g.penalty ≡ g.penalty * g.start_den = mul_comm g.start_den g.penalty in omega arith),
      )
