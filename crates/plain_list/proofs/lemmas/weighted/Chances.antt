-- Lists that give each key the same chance are alike.
-- A value that is 0 but at finitely many keys is taken apart key by key, and the keys of two lists are finitely many.
use Rattle.std.proofs.Common.{◌≡◌, ℕ, ◌+◌, ◌*◌, Bool, true, false, cond, List, [], ◌∷◌, ◌++◌, map, refl, sym, ap, subst, ◌∙◌, arith}
use Rattle.std.specs.Prelude.{Contains, ◌||◌}
use Rattle.std.specs.List.{list_any}
use Rattle.std.proofs.lemmas.List.Folds.{list_any_at}
use Rattle.std.proofs.lemmas.List.Elements.{Contains-append_left, Contains-append_right}
use Rattle.plain_list.specs.weighted.Mean.{mean, weight, IsAlike}
use Rattle.plain_list.specs.weighted.Chances.{IsExact, SameChances}
use Rattle.plain_list.proofs.Members.{Contains-map}
use Rattle.plain_list.proofs.lemmas.weighted.Means.{mean-same, mean-add, mean-times, mean-constant}

-- a value at one key and the values elsewhere
split : (here : Bool) (value value_there : ℕ) → (here ≡ true → value ≡ value_there) → value ≡ cond here 0 value + cond here 1 0 * value_there
split true value value_there same = omega (arith, same refl)
split false value value_there same = omega arith

elsewhere_zero : (here later : Bool) (value : ℕ) → ((here || later) ≡ false → value ≡ 0) → later ≡ false → cond here 0 value ≡ 0
elsewhere_zero true later value vanishes none = refl
elsewhere_zero false later value vanishes none = vanishes none

cond_true : (b : Bool) (value : ℕ) → b ≡ true → value ≡ cond b value 0
cond_true true value e = refl
cond_true false value e = absurd cc

cond_false : (b : Bool) (value : ℕ) → b ≡ false → cond b value 0 ≡ 0
cond_false b value e = rw e refl

sum_times : (a b c d : ℕ) → (a + b * c) * d ≡ a * d + b * d * c
sum_times a b c d = grind arith

module _ {C D X : Type 0} (w : C → ℕ) (key : C → X) (w' : D → ℕ) (key' : D → X) (same : X → X → Bool) (exact : IsExact same) where
  -- the mean of a value, taken apart at one key
  mean_split : {E : Type 0} (u : E → ℕ) (name : E → X) (v : X → ℕ) (x : X) (l : List E)
      → mean u name v l ≡ mean u name (λ y. cond (same y x) 0 (v y)) l + weight u name same l x * v x
  mean_split u name v x l =
      mean-same u name v (λ y. cond (same y x) 0 (v y) + cond (same y x) 1 0 * v x) l
      (λ c _. split (same (name c) x) (v (name c)) (v x) (λ here. ap v ((exact (name c) x).0 here)))
      ∙ mean-add u name (λ y. cond (same y x) 0 (v y)) (λ y. cond (same y x) 1 0 * v x) l
      ∙ ap (λ t. mean u name (λ y. cond (same y x) 0 (v y)) l + t) (mean-times u name (λ y. cond (same y x) 1 0) (v x) l)

  mean_zero : {E : Type 0} (u : E → ℕ) (name : E → X) (v : X → ℕ) (l : List E) → ((x : X) → v x ≡ 0) → mean u name v l ≡ 0
  mean_zero u name v l zero = mean-same u name v (λ x. 0) l (λ c _. zero (name c)) ∙ mean-constant u name 0 l ∙ omega arith

  -- of a value that is 0 but at the keys of a list
  alike_at : (l : List C) (den : ℕ) (l' : List D) (den' : ℕ) → SameChances w key w' key' same l den l' den'
      → (keys : List X) (v : X → ℕ) → ((y : X) → list_any (λ x. same y x) keys ≡ false → v y ≡ 0)
      → mean w key v l * den' ≡ mean w' key' v l' * den
  alike_at l den l' den' chances [] v vanishes =
      ap (λ t. t * den') (mean_zero w key v l (λ x. vanishes x refl))
      ∙ sym (ap (λ t. t * den) (mean_zero w' key' v l' (λ x. vanishes x refl)) ∙ omega arith)
  alike_at l den l' den' chances (x ∷ keys) v vanishes =
      let elsewhere : X → ℕ = λ y. cond (same y x) 0 (v y) in
      let rest : mean w key elsewhere l * den' ≡ mean w' key' elsewhere l' * den
      = alike_at l den l' den' chances keys elsewhere
      (λ y none. elsewhere_zero (same y x) (list_any (λ z. same y z) keys) (v y) (vanishes y) none) in
      ap (λ t. t * den') (mean_split w key v x l) ∙ sum_times (mean w key elsewhere l) (weight w key same l x) (v x) den'
      ∙ ap (λ t. t + weight w key same l x * den' * v x) rest ∙ ap (λ t. mean w' key' elsewhere l' * den + t * v x) (chances x)
      ∙ sym (ap (λ t. t * den) (mean_split w' key' v x l') ∙ sum_times (mean w' key' elsewhere l') (weight w' key' same l' x) (v x) den)

  list_any_found : (keys : List X) (y : X) → Contains keys y → list_any (λ x. same y x) keys ≡ true
  list_any_found keys y (k, below, found) = list_any_at (λ x. same y x) keys k y below
      (subst (λ x. same y x ≡ true) (sym found) ((exact y y).1 refl))

  pub alike_from_chances : (l : List C) (den : ℕ) (l' : List D) (den' : ℕ) → SameChances w key w' key' same l den l' den'
      → IsAlike w key w' key' l den l' den'
  alike_from_chances l den l' den' chances v =
      let keys : List X = map key l ++ map key' l' in
      let within : X → ℕ = λ y. cond (list_any (λ x. same y x) keys) (v y) 0 in
      ap (λ t. t * den') (mean-same w key v within l (λ c inside. cond_true (list_any (λ x. same (key c) x) keys) (v (key c))
      (list_any_found keys (key c) (Contains-append_left (map key l) (map key' l') (key c) (Contains-map key l c inside)))))
      ∙ alike_at l den l' den' chances keys within (λ y none. cond_false (list_any (λ x. same y x) keys) (v y) none)
      ∙ sym (ap (λ t. t * den) (mean-same w' key' v within l' (λ c inside. cond_true (list_any (λ x. same (key' c) x) keys) (v (key' c))
      (list_any_found keys (key' c) (Contains-append_right (map key l) (map key' l') (key' c) (Contains-map key' l' c inside))))))
