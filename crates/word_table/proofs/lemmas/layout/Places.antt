-- The places of the words of states.
use Rattle.std.proofs.Common.{◌≡◌, ℕ, ◌+◌, ◌*◌, ◌<◌, ◌≤◌, sym, ap, inl, inr, arith}
use Rattle.std.proofs.Math.Nat.{mul-le-mul_right}
use Rattle.std.proofs.lemmas.Bool.{cases_lt}
use Rattle.word_table.specs.declared.layout.Layout.{Layout}
use Rattle.word_table.specs.layout.Laws as laws

rows_apart : (i j w : ℕ) → i < j → i * w + w ≤ j * w
rows_apart i j w below =
    let more : (i + 1) * w ≤ j * w = mul-le-mul_right w (omega arith) in
    let opened : (i + 1) * w ≡ i * w + w = omega arith in
    omega arith

rows_differ : (i j p q w : ℕ) → p < w → q < w → i * w + p ≡ j * w + q → i < j → ⊥
rows_differ i j p q w small small' same below = let apart = rows_apart i j w below in omega arith

module _ (l : Layout) where
  pub state_words_are_within : laws.StateWordsAreWithin l
  state_words_are_within id place here small = let apart = rows_apart id l.ids l.width here in omega arith

  pub state_words_differ : laws.StateWordsDiffer l
  state_words_differ i j p q small small' same =
      let inner : i * l.width + p ≡ j * l.width + q = omega arith in
      elim (cases_lt i j) [
        | inl below ↦ absurd (rows_differ i j p q l.width small small' inner below)
        | inr other ↦ elim (cases_lt j i) [
          | inl above ↦ absurd (rows_differ j i q p l.width small' small (sym inner) above)
          | inr same_row ↦
              let rows : i ≡ j = omega arith in
              let begins : i * l.width ≡ j * l.width = ap (λ n. n * l.width) rows in
              (rows, omega arith)
        ]
      ]

  pub turns_are_buckets : laws.TurnsAreBuckets l
  turns_are_buckets layout hash k = let some = layout.some_ids in let many = layout.buckets.1 in omega arith
