-- Denominators of effects that are built from their parts.
use Rattle.std.proofs.Common.{◌≡◌, ℕ, zero, suc, ◌+◌, ◌*◌, ◌^◌, ◌<◌, ◌≤◌, ◌⊎◌, inl, inr, List, [], ◌∷◌, map, drop, drop-cons, get_or, length, add-one, refl, sym, ap, ◌∙◌, arith}
use Rattle.std.proofs.lemmas.Bool.{cases_lt}
use Rattle.std.proofs.lemmas.Nat.Gcd.{le_of_dvd, dvd_trans, dvd_refl}
use Rattle.std.proofs.Math.Nat.{mul_comm, mul_assoc, pow-succ', pow-zero, one-le-pow, le-mul_of_pos_right, one-dvd}
use denote.Hole.Carrier.{hidden}
use Rattle.exact_fraction.specs.Divisors.{lcm_of, common_multiple}
use Rattle.exact_fraction.proofs.DivisorLemmas.{IsLeastMultiple-lcm_of, lcm_of-unique, lcm_of-least, lcm_of-pos}
use Rattle.ppddl_model.specs.declared.tree.Branch.{Branch}
use Rattle.ppddl_model.specs.declared.tree.Effect.{Effect, Row_of-Effect, end_of-Effect, more_of-Effect, items-the_row-Effect, items_hidden-the_row-Effect-0}
use Rattle.ppddl_model.specs.declared.tree.Effect.{Row_of-Branch, end_of-Branch, more_of-Branch, items-the_row-Branch, items_hidden-the_row-Branch-2}
use Rattle.ppddl_model.specs.declared.tree.Effect.TheBlock.{hidden-the_row-Effect-0, hidden-the_row-Effect-1, hidden-the_row-Branch-2}
use Rattle.ppddl_model.specs.declared.tree.Effect.TheVariants as effect
use Rattle.ppddl_model.specs.declared.tree.Condition.{Condition}
use Rattle.ppddl_model.specs.declared.tree.Param.{Param}
use Rattle.ppddl_model.specs.Objects.{World, bindings}
use Rattle.ground_meaning.specs.choices.Joint.{den_of, den_of_each, dens_of, own_den}
use Rattle.ground_terms.specs.sizes.Counted.{counted}
use Rattle.ground_terms.proofs.lemmas.sizes.Stopping.{counted-times, high_power, ones}
use Rattle.ground_terms.proofs.lemmas.sizes.ManyWays.{drop-all}

abbrev pub product_by : {X : Type 0} → (X → ℕ) → List X → ℕ
product_by f [] = 1
product_by f (x ∷ xs) = f x * product_by f xs

-- ---- least common multiples that stop

lcm-zero : (a : ℕ) → lcm_of a 0 ≡ 0
lcm-zero a = omega arith

lcm-above : (a b : ℕ) → 0 < a → 0 < b → a ≤ lcm_of a b
lcm-above a b first second = le_of_dvd (lcm_of-pos a b first second) (IsLeastMultiple-lcm_of a b).first

pub lcm-assoc : (a b c : ℕ) → lcm_of (lcm_of a b) c ≡ lcm_of a (lcm_of b c)
lcm-assoc a b c =
    let all : ℕ = lcm_of (lcm_of a b) c in
    let left = IsLeastMultiple-lcm_of a b in
    let right = IsLeastMultiple-lcm_of b c in
    let whole = IsLeastMultiple-lcm_of (lcm_of a b) c in
    lcm_of-unique a (lcm_of b c) all (record {
      first = dvd_trans a left.first whole.first;
      second = lcm_of-least b c all (dvd_trans b left.second whole.first) whole.second;
      least = λ n first second.
          lcm_of-least (lcm_of a b) c n (lcm_of-least a b n first (dvd_trans b right.first second)) (dvd_trans c right.second second);
    })

pub lcm-one : (a : ℕ) → lcm_of 1 a ≡ a
lcm-one a = sym (lcm_of-unique 1 a a (record { first = one-dvd a; second = dvd_refl a; least = λ n first second. second }))

pub lcm-last : (a : ℕ) → lcm_of a 1 ≡ a
lcm-last a = sym (lcm_of-unique a 1 a (record { first = dvd_refl a; second = one-dvd a; least = λ n first second. first }))

pub counted-lcm : (a b : ℕ) → counted (lcm_of (counted a) b) ≡ counted (lcm_of a b)
counted-lcm a zero = ap counted (lcm-zero (counted a) ∙ sym (lcm-zero a))
counted-lcm a (suc b) = elim (cases_lt a (2 ^ 64)) [
  | inl below ↦ let same : counted a ≡ a = omega arith in ap (λ k. counted (lcm_of k (suc b))) same
  | inr above ↦
      let whole : counted a ≡ 18446744073709551615 = omega arith in
      let left : counted a ≤ lcm_of (counted a) (suc b) = lcm-above (counted a) (suc b) (omega arith) (omega arith) in
      let right : a ≤ lcm_of a (suc b) = lcm-above a (suc b) (omega arith) (omega arith) in
      both (counted a) a (lcm_of (counted a) (suc b)) (lcm_of a (suc b)) whole left right above
]
  where
    both : (c a x y : ℕ) → c ≡ 18446744073709551615 → c ≤ x → a ≤ y → 18446744073709551616 ≤ a → counted x ≡ counted y
    both c a x y whole left right above = omega arith

lcm-comm : (a b : ℕ) → lcm_of a b ≡ lcm_of b a
lcm-comm a b =
    let is = IsLeastMultiple-lcm_of a b in
    lcm_of-unique b a (lcm_of a b) (record { first = is.second; second = is.first; least = λ n first second. is.least n second first })

pub counted-lcm_right : (a b : ℕ) → counted (lcm_of a (counted b)) ≡ counted (lcm_of a b)
counted-lcm_right a b = ap counted (lcm-comm a (counted b)) ∙ counted-lcm b a ∙ ap counted (lcm-comm b a)

pub lcm_more : {X : Type 0} (f : X → ℕ) (xs : List X) (i : ℕ) (x : X) (so_far next all : ℕ) → i < length xs → x ≡ get_or xs i x
    → next ≡ counted (lcm_of so_far (f x)) → counted (lcm_of so_far (common_multiple (map f (drop i xs)))) ≡ all
    → counted (lcm_of next (common_multiple (map f (drop (i + 1) xs)))) ≡ all
lcm_more f xs i x so_far next all within is step before =
    let rest : ℕ = common_multiple (map f (drop (i + 1) xs)) in
    ap (λ k. counted (lcm_of k rest)) step ∙ counted-lcm (lcm_of so_far (f x)) rest ∙ ap counted (lcm-assoc so_far (f x) rest)
    ∙ ap (λ l. counted (lcm_of so_far l))
    (sym (ap (λ l. common_multiple (map f l)) (drop-cons xs i x within)
    ∙ ap (λ y. lcm_of (f y) (common_multiple (map f (drop (suc i) xs)))) (sym is)
    ∙ ap (λ k. lcm_of (f x) (common_multiple (map f (drop k xs)))) (sym (add-one i))))
    ∙ before

pub lcm_end : {X : Type 0} (f : X → ℕ) (xs : List X) (i : ℕ) (so_far all : ℕ) → (i < length xs → ⊥) → counted so_far ≡ so_far
    → counted (lcm_of so_far (common_multiple (map f (drop i xs)))) ≡ all → so_far ≡ all
lcm_end f xs i so_far all past small before =
    sym small ∙ ap counted (sym (ap (λ l. lcm_of so_far (common_multiple (map f l))) (drop-all i xs (omega (arith, past))) ∙ lcm-last so_far)) ∙ before

-- ---- products

pub product_more : {X : Type 0} (f : X → ℕ) (xs : List X) (i : ℕ) (x : X) (so_far next part all : ℕ) → i < length xs → x ≡ get_or xs i x
    → part ≡ counted (f x) → next ≡ counted (so_far * part) → counted (so_far * product_by f (drop i xs)) ≡ all
    → counted (next * product_by f (drop (i + 1) xs)) ≡ all
product_more f xs i x so_far next part all within is here step before =
    let rest : ℕ = product_by f (drop (i + 1) xs) in
    let times : next ≡ counted (so_far * f x)
    = step ∙ ap (λ k. counted (so_far * k)) here ∙ ap counted (mul_comm so_far (counted (f x))) ∙ counted-times (f x) so_far ∙ ap counted (mul_comm (f x) so_far) in
    ap (λ k. counted (k * rest)) times ∙ counted-times (so_far * f x) rest ∙ ap counted (mul_assoc so_far (f x) rest)
    ∙ ap (λ l. counted (so_far * l))
    (sym (ap (product_by f) (drop-cons xs i x within)
    ∙ ap (λ y. f y * product_by f (drop (suc i) xs)) (sym is)
    ∙ ap (λ k. f x * product_by f (drop k xs)) (sym (add-one i))))
    ∙ before

-- ---- powers

stopped : (x y : ℕ) → 18446744073709551615 ≤ x → 18446744073709551615 ≤ y → counted x ≡ counted y
stopped x y left right = omega arith

nothing : (n : ℕ) → 0 < n → 0 ^ n ≡ 0
nothing zero some = absurd (omega arith)
nothing (suc n) some = pow-succ' 0 n ∙ none (0 ^ n)
  where
    none : (k : ℕ) → 0 * k ≡ 0
    none k = omega arith

-- with so many factors a power stops, or has no factor above 1
many_factors : (d m n : ℕ) → 64 ≤ m → 64 ≤ n → counted (d ^ m) ≡ counted (d ^ n)
many_factors zero m n some more = ap counted (nothing m (omega arith) ∙ sym (nothing n (omega arith)))
many_factors (suc zero) m n some more = ap counted (ones m ∙ sym (ones n))
many_factors (suc (suc d)) m n some more =
    let left = high_power (suc (suc d)) m (omega arith) some in
    let right = high_power (suc (suc d)) n (omega arith) more in
    stopped (suc (suc d) ^ m) (suc (suc d) ^ n) (omega arith) (omega arith)

high_base : (c d n : ℕ) → 18446744073709551615 ≤ c → 18446744073709551615 ≤ d → counted (c ^ n) ≡ counted (d ^ n)
high_base c d zero left right = ap counted (pow-zero c ∙ sym (pow-zero d))
high_base c d (suc n) left right = stopped (c ^ suc n) (d ^ suc n) (first c left) (first d right)
  where
    first : (b : ℕ) → 18446744073709551615 ≤ b → 18446744073709551615 ≤ b ^ suc n
    first b high =
        let some : 0 < b ^ n = one-le-pow n b (omega arith) in
        let times : b ≤ b * b ^ n = le-mul_of_pos_right b some in
        let is : b ^ suc n ≡ b * b ^ n = pow-succ' b n in
        omega arith

pub counted-power : (d n : ℕ) → counted (counted d ^ counted n) ≡ counted (d ^ n)
counted-power d n =
    exponents (counted d) (counted n) n refl (cases_lt n 18446744073709551616) ∙ bases d n (cases_lt d 18446744073709551616)
  where
    exponents : (c m n : ℕ) → m ≡ counted n → (n < 18446744073709551616) ⊎ (18446744073709551616 ≤ n) → counted (c ^ m) ≡ counted (c ^ n)
    exponents c m n is (inl below) = let same : m ≡ n = omega arith in ap (λ k. counted (c ^ k)) same
    exponents c m n is (inr above) = many_factors c m n (omega arith) (omega arith)

    bases : (d n : ℕ) → (d < 18446744073709551616) ⊎ (18446744073709551616 ≤ d) → counted (counted d ^ n) ≡ counted (d ^ n)
    bases d n (inl below) = let same : counted d ≡ d = omega arith in ap (λ k. counted (k ^ n)) same
    bases d n (inr above) = high_base (counted d) d n (omega arith) (omega arith)

-- ---- effects

module _ (w : World) where
  each_row : {n : _} (row : Row_of-Effect n) → den_of_each w row ≡ product_by (den_of w) (items-the_row-Effect n row)
  each_row end_of-Effect = refl
  each_row (more_of-Effect e es) = ap (λ k. den_of w e * k) (each_row es)

  dens_row : {n : _} (row : Row_of-Branch n) → dens_of w row ≡ map (λ (x : Branch). den_of w x.effect) (items-the_row-Branch n row)
  dens_row end_of-Branch = refl
  dens_row (more_of-Branch chance e branches) = ap (λ l. den_of w e ∷ l) (dens_row branches)

own_row : {n : _} (row : Row_of-Branch n) → own_den row ≡ common_multiple (map (λ (x : Branch). x.chance.den) (items-the_row-Branch n row))
own_row end_of-Branch = refl
own_row (more_of-Branch chance e branches) = ap (lcm_of chance.den) (own_row branches)

pub den-Both : (w : World) (whole : Effect) (es parts : List Effect) → whole ≡ effect.Both es → parts ≡ es
    → den_of w whole ≡ product_by (den_of w) parts
den-Both w whole es parts is same =
    ap (den_of w) is ∙ each_row w (hidden-the_row-Effect-0 es) ∙ ap (product_by (den_of w)) (items_hidden-the_row-Effect-0 es ∙ sym same)

pub den-Chance : (w : World) (whole : Effect) (branches parts : List Branch) → whole ≡ effect.Chance branches → parts ≡ branches
    → den_of w whole
    ≡ common_multiple (map (λ (x : Branch). x.chance.den) parts) * common_multiple (map (λ (x : Branch). den_of w x.effect) parts)
den-Chance w whole branches parts is same =
    let row = hidden-the_row-Branch-2 branches in
    let items = items_hidden-the_row-Branch-2 branches ∙ sym same in
    ap (den_of w) is
    ∙ ap (λ k. k * common_multiple (dens_of w row)) (own_row row ∙ ap (λ l. common_multiple (map (λ (x : Branch). x.chance.den) l)) items)
    ∙ ap (λ l. common_multiple (map (λ (x : Branch). x.chance.den) parts) * common_multiple l)
    (dens_row w row ∙ ap (map (λ (x : Branch). den_of w x.effect)) items)

for_each : (w : World) (ps : List Param) (e : Effect) → den_of w (effect.Forall ps e) ≡ den_of w e ^ length (bindings w ps [])
unfolding hidden-the_row-Effect-1 hidden
for_each w ps e = refl

under : (w : World) (c : Condition) (e : Effect) → den_of w (effect.When c e) ≡ den_of w e
unfolding hidden-the_row-Effect-1 hidden
under w c e = refl

pub den-Forall : (w : World) (whole e e' : Effect) (ps qs : List Param) → whole ≡ effect.Forall ps e → e' ≡ e → qs ≡ ps
    → den_of w whole ≡ den_of w e' ^ length (bindings w qs [])
den-Forall w whole e e' ps qs is inner variables =
    ap (den_of w) is ∙ for_each w ps e ∙ ap (λ k. den_of w k ^ length (bindings w ps [])) (sym inner)
    ∙ ap (λ k. den_of w e' ^ length (bindings w k [])) (sym variables)

pub den-When : (w : World) (whole : Effect) (c : Condition) (e e' : Effect) → whole ≡ effect.When c e → e' ≡ e → den_of w whole ≡ den_of w e'
den-When w whole c e e' is inner = ap (den_of w) is ∙ under w c e ∙ ap (den_of w) (sym inner)
