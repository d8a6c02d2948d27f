-- Sums and loads over the choices that were read so far.
use Rattle.std.proofs.Common.{◌≡◌, ℕ, ◌+◌, ◌*◌, ◌≤◌, ◌^◌, List, [], ◌∷◌, ◌++◌, map, refl, sym, ap, ◌∙◌, append_assoc, arith}
use Rattle.std.specs.List.{AllZip}
use Rattle.std.proofs.Math.Nat.{mul-le-mul_left, mul-le-mul_right}
use Rattle.std.proofs.lemmas.List.{append-nil}
use Rattle.fixed_round.specs.Means.{weighted}
use Rattle.fixed_round.specs.Words.{value_of}
use Rattle.plain_list.specs.weighted.Mean.{total}
use Rattle.ground_model.specs.declared.action.Choice.{Choice}
use Rattle.ground_model.specs.Packed.{State}
use Rattle.ground_model.specs.Choices.{next_state}
use Rattle.ground_model.specs.Ground.{Ground}
use Rattle.word_table.specs.declared.view.View.{View}
use Rattle.brtdp_trial.specs.declared.step.Step.{Step}
use Rattle.bellman_backup.specs.declared.sums.Sums.{Sums}
use Rattle.bellman_backup.specs.Readings.{Reading, IsRead, loads_of, loads_in}
use Rattle.bellman_backup.specs.Candidates.{step_with, steps_of}
use Rattle.bellman_backup.specs.Totals.{HasReadNext, HasRead}
use Rattle.bellman_backup.proofs.NextRead.{Grows, grows_all, read_stays}

-- ---- two lists side by side

pub zip_more : {A B : Type 0} (R : A → B → Type 0) (xs : List A) (ys : List B) (x : A) (y : B) → AllZip R xs ys → R x y
    → AllZip R (xs ++ x ∷ []) (ys ++ y ∷ [])
zip_more R [] [] x y all here = (here, tt)
zip_more R [] (v ∷ ys) x y all here = absurd all
zip_more R (u ∷ xs) [] x y all here = absurd all
zip_more R (u ∷ xs) (v ∷ ys) x y all here = (all.0, zip_more R xs ys x y all.1 here)

pub zip_weaker : {A B : Type 0} (R Q : A → B → Type 0) (xs : List A) (ys : List B) → ((x : A) (y : B) → R x y → Q x y) → AllZip R xs ys → AllZip Q xs ys
zip_weaker R Q [] [] weaker all = all
zip_weaker R Q [] (v ∷ ys) weaker all = absurd all
zip_weaker R Q (u ∷ xs) [] weaker all = absurd all
zip_weaker R Q (u ∷ xs) (v ∷ ys) weaker all = (weaker u v all.0, zip_weaker R Q xs ys weaker all.1)

module _ {A B : Type 0} (R : A → B → Type 0) (w k : A → ℕ) (n : B → ℕ) where
  abbrev sum_over : List A → List B → ℕ
  sum_over xs ys = weighted (map w xs) (map k xs) (map n ys)

  pub sum_more : (xs : List A) (ys : List B) (x : A) (y : B) → AllZip R xs ys
      → sum_over (xs ++ x ∷ []) (ys ++ y ∷ []) ≡ sum_over xs ys + w x * (k x + n y)
  sum_more [] [] x y all = omega arith
  sum_more [] (v ∷ ys) x y all = absurd all
  sum_more (u ∷ xs) [] x y all = absurd all
  sum_more (u ∷ xs) (v ∷ ys) x y all = let rest = sum_more xs ys x y all.1 in omega arith

-- sums rise with the numbers
module _ {A B : Type 0} (w k m : A → ℕ) (n : B → ℕ) where
  pub sum_below : (xs : List A) (ys : List B) → AllZip (λ x y. n y ≤ m x) xs ys
      → weighted (map w xs) (map k xs) (map n ys) ≤ total (λ x. w x * (k x + m x)) xs
  sum_below [] [] all = omega arith
  sum_below [] (v ∷ ys) all = absurd all
  sum_below (u ∷ xs) [] all = absurd all
  sum_below (u ∷ xs) (v ∷ ys) all =
      let here : w u * (k u + n v) ≤ w u * (k u + m u) = mul-le-mul_left (w u) (let h = all.0 in omega arith) in
      let rest = sum_below xs ys all.1 in omega arith

  pub sum_above : (xs : List A) (ys : List B) → AllZip (λ x y. m x ≤ n y) xs ys
      → total (λ x. w x * (k x + m x)) xs ≤ weighted (map w xs) (map k xs) (map n ys)
  sum_above [] [] all = omega arith
  sum_above [] (v ∷ ys) all = absurd all
  sum_above (u ∷ xs) [] all = absurd all
  sum_above (u ∷ xs) (v ∷ ys) all =
      let here : w u * (k u + m u) ≤ w u * (k u + n v) = mul-le-mul_left (w u) (let h = all.0 in omega arith) in
      let rest = sum_above xs ys all.1 in omega arith

-- ---- limits

pub product_within : (w x : ℕ) → w ≤ 10 ^ 18 → x ≤ 11 * 10 ^ 13 → w * x ≤ 10 ^ 18 * (11 * 10 ^ 13)
product_within w x small below =
    let first : w * x ≤ w * (11 * 10 ^ 13) = mul-le-mul_left w below in
    let second : w * (11 * 10 ^ 13) ≤ 10 ^ 18 * (11 * 10 ^ 13) = mul-le-mul_right (11 * 10 ^ 13) small in
    omega arith

-- ---- loads

pub loads_more : (rs : List Reading) (r : Reading) → loads_in (rs ++ r ∷ []) ≡ loads_of r ++ loads_in rs
loads_more [] r = sym (append-nil (loads_of r))
loads_more (x ∷ rs) r = ap (λ ls. ls ++ loads_of x) (loads_more rs r) ∙ append_assoc (loads_of r) (loads_in rs) (loads_of x)

pub loads_joined : (xs ys : List Reading) → loads_in (xs ++ ys) ≡ loads_in ys ++ loads_in xs
loads_joined [] ys = sym (append-nil (loads_in ys))
loads_joined (x ∷ xs) ys = ap (λ ls. ls ++ loads_of x) (loads_joined xs ys) ∙ append_assoc (loads_in ys) (loads_in xs) (loads_of x)

-- ---- one choice more

steps_more : (R : Choice → Reading → Type 0) (cs : List Choice) (rs : List Reading) (c : Choice) (r : Reading) → AllZip R cs rs
    → steps_of (cs ++ c ∷ []) (rs ++ r ∷ []) ≡ steps_of cs rs ++ step_with c.weight r ∷ []
steps_more R [] [] c r all = refl
steps_more R [] (v ∷ rs) c r all = absurd all
steps_more R (u ∷ cs) [] c r all = absurd all
steps_more R (u ∷ cs) (v ∷ rs) c r all = ap (λ xs. step_with u.weight v ∷ xs) (steps_more R cs rs c r all.1)

pub nothing_read : (g : Ground) (v : View) (s : State) (price : Choice → ℕ) (sums : Sums) → sums.lower ≡ 0 → sums.upper ≡ 0 → HasRead g v v s price [] [] [] sums
nothing_read g v s price sums lower upper = record { readings = tt; loads = refl; steps_are = refl; lower = lower; upper = upper }

module _ (g : Ground) (u v w : View) (s : State) (price : Choice → ℕ) (before : Grows u v) (after : Grows v w) where
  pub read_more : (cs : List Choice) (rs : List Reading) (steps : List Step) (sums sums' : Sums) (c : Choice) (x : Step) (cost : ℕ)
      → HasRead g u v s price cs rs steps sums → (next : HasReadNext g v w (next_state s c) c.weight x) → cost ≡ price c
      → sums'.lower ≡ sums.lower + x.weight * (cost + x.lower) → sums'.upper ≡ sums.upper + x.weight * (cost + x.upper)
      → HasRead g u w s price (cs ++ c ∷ []) (rs ++ next.reading ∷ []) (steps ++ x ∷ []) sums'
  read_more cs rs steps sums sums' c x cost has next same lower upper =
      let r : Reading = next.reading in
      let R : Choice → Reading → Type 0 = λ d y. IsRead g u w (next_state s d) y in
      let old : AllZip R cs rs = zip_weaker (λ d y. IsRead g u v (next_state s d) y) R cs rs
      (λ d y is. read_stays g u u v w (next_state s d) y (grows_all u) after is) has.readings in
      let new : R c r = read_stays g u v w w (next_state s c) r before (grows_all w) next.is in
      let low : x.weight * (cost + x.lower) ≡ c.weight * (price c + r.lower) = λ i. (next.step i).weight * (same i + (next.step i).lower) in
      let high : x.weight * (cost + x.upper) ≡ c.weight * (price c + value_of r.word) = λ i. (next.step i).weight * (same i + (next.step i).upper) in record {
        readings = zip_more R cs rs c r old new;
        loads = next.loads ∙ ap (λ ls. loads_of r ++ ls) has.loads ∙ sym (append_assoc (loads_of r) (loads_in rs) u.loads)
            ∙ ap (λ ls. ls ++ u.loads) (sym (loads_more rs r));
        steps_are = (λ i. has.steps_are i ++ next.step i ∷ []) ∙ sym (steps_more R cs rs c r old);
        lower = lower ∙ (λ i. has.lower i + low i) ∙ sym (sum_more R (λ d. d.weight) price (λ y. y.lower) cs rs c r old);
        upper = upper ∙ (λ i. has.upper i + high i) ∙ sym (sum_more R (λ d. d.weight) price (λ y. value_of y.word) cs rs c r old);
      }
