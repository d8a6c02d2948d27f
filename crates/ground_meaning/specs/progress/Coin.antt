-- The coin of decision_process: a flip costs 1,000,000 and giving up 10,000,000, so c is 999,999, and N = 21 is enough.
-- proofs/lemmas/progress/Coin.antt shows that the premises of the laws can be met here.
use Rattle.std.specs.Prelude.{◌≡◌, ℕ, suc, zero, ◌+◌, ◌*◌, ◌^◌, min, refl}
use Rattle.decision_process.specs.Backup.{floor, ceiling}
use Rattle.decision_process.specs.Rounded.{down, up}
use Rattle.decision_process.specs.Coin.{tails, coin}
use Rattle.ground_meaning.specs.progress.Width.{most_above}

-- the bounds at tails, each from the one before: at heads they are 0
abbrev pub low_after : ℕ → ℕ
low_after zero = 0
low_after (suc n) = min (floor (2000000 + low_after n) 2) 10000000

abbrev pub high_after : ℕ → ℕ
high_after zero = 10000000
high_after (suc n) = min (ceiling (2000000 + high_after n) 2) 10000000

low_after_two_rounds : low_after 2 ≡ down coin 2 tails
low_after_two_rounds = refl

high_after_two_rounds : high_after 2 ≡ up coin 2 tails
high_after_two_rounds = refl

low_after_21_rounds : low_after 21 ≡ 1999999
low_after_21_rounds = refl

high_after_21_rounds : high_after 21 ≡ 2000004
high_after_21_rounds = refl

low_after_42_rounds : low_after 42 ≡ 1999999
low_after_42_rounds = refl

high_after_42_rounds : high_after 42 ≡ 2000001
high_after_42_rounds = refl

-- ---- the two sides of the law for m = 0, 1 and 2, of which the first is the smaller

high_at_first : 999999 * 2 ^ 0 * up coin 0 tails ≡ 9999990000000
high_at_first = refl

most_at_first : most_above 10000000 999999 0 (down coin 0 tails) ≡ 10000010000000
most_at_first = refl

high_side_after_21_rounds : 999999 * 2 ^ 1 * high_after 21 ≡ 4000003999992
high_side_after_21_rounds = refl

most_after_21_rounds : most_above 10000000 999999 1 (low_after 21) ≡ 14000024000002
most_after_21_rounds = refl

high_side_after_42_rounds : 999999 * 2 ^ 2 * high_after 42 ≡ 7999995999996
high_side_after_42_rounds = refl

most_after_42_rounds : most_above 10000000 999999 2 (low_after 42) ≡ 18000058000004
most_after_42_rounds = refl
