-- Lists that are merged, mapped and merged again are merged once.
use Rattle.std.proofs.Common.{◌≡◌, ℕ, zero, suc, ne_eqb, ◌+◌, ◌*◌, ◌<◌, ◌≤◌, Bool, true, false, ◌&&◌, ◌||◌, List, [], ◌∷◌, length, map, refl, sym, ap, ◌∙◌, arith}
use Rattle.std.specs.Prelude.{nat_eq}
use Rattle.std.specs.List.{list_any}
use Rattle.std.specs.Cmp.Lexicographic.{pointwise}
use Rattle.std.proofs.lemmas.Bool.{eqb-true, eq-eqb}
use Rattle.std.proofs.Math.Nat.{add-mul}
use Rattle.plain_list.specs.weighted.Mean.{products, positive}
use Rattle.plain_list.specs.weighted.Merged.{with_item, with_items}
use Rattle.plain_list.proofs.lemmas.weighted.Merging.{length-with_items}
use Rattle.ground_model.specs.declared.action.Choice.{Choice}
use Rattle.ground_model.specs.declared.action.Guarded.{Guarded}
use Rattle.ground_meaning.specs.choices.Same.{words_of, same_choice, same_part}
use Rattle.ground_meaning.specs.choices.Joint.{weight_of, idle, joined, added, with_weight, merged, with_factor}
use Rattle.ground_meaning.specs.choices.Rising.{rising, less}
use Rattle.ground_meaning.proofs.lemmas.choices.Same.{same_choice-is}
use Rattle.ground_model.specs.declared.limits.TheConstants.{MOST_CHOICES}
use Rattle.outcome_dist.specs.declared.lists.refusal.JointRefusal.{JointRefusal}
use Rattle.outcome_dist.specs.declared.lists.refusal.JointRefusal.TheVariants.{Choices, Denominator, OutcomeCost, Memory}
use Rattle.outcome_dist.specs.lists.Refusals.{IsTooMany}
use Rattle.outcome_dist.specs.lists.Piles.{piled, settled, Weighs, IsMerged, merging}
use Rattle.outcome_dist.proofs.lemmas.lists.Sets.{same_bools}
use Rattle.outcome_dist.proofs.lemmas.lists.Piling.{joined-settled, joined-piled}

abbrev put : List Choice → Choice → List Choice
put = with_item same_choice added

abbrev put_all : List Choice → List Choice → List Choice
put_all = with_items same_choice added

abbrev has : List Choice → Choice → Bool
has acc v = list_any (λ x. same_choice x v) acc

-- ---- equal choices

congruent : (k u v : Choice) → same_choice u v ≡ true → same_choice k u ≡ same_choice k v
congruent k u v e = let is : with_weight 0 u ≡ with_weight 0 v = same_choice-is u v e 0 in λ i. same_choice k (is i)

numbers_same : (xs : List ℕ) → pointwise nat_eq xs xs ≡ true
numbers_same [] = refl
numbers_same (x ∷ xs) = (λ i. eq-eqb x x refl i && numbers_same xs i)

part_itself : (x : Guarded) → same_part x x ≡ true
part_itself x = λ i. numbers_same (words_of x.condition) i && numbers_same x.adds i && numbers_same x.deletes i && eq-eqb x.cost x.cost refl i

parts_themselves : (xs : List Guarded) → pointwise same_part xs xs ≡ true
parts_themselves [] = refl
parts_themselves (x ∷ xs) = (λ i. part_itself x i && parts_themselves xs i)

itself : (x : Choice) → same_choice x x ≡ true
itself x = λ i. eq-eqb x.cost x.cost refl i && numbers_same x.adds i && numbers_same x.deletes i && parts_themselves x.guarded i

joined_too : (x y c : Choice) → same_choice x y ≡ true → same_choice (joined x c) (joined y c) ≡ true
joined_too x y c e =
    let is : with_weight 0 x ≡ with_weight 0 y = same_choice-is x y e 0 in
    (λ i. same_choice (joined (with_weight 0 x) c) (joined (sym is i) c)) ∙ itself (joined (with_weight 0 x) c)

-- ---- the order in which choices are put in

put_hit : (x y : Choice) (xs : List Choice) → same_choice x y ≡ true → put (x ∷ xs) y ≡ added x y ∷ xs
put_hit x y xs e = ap (λ b. elim b as (λ _. List Choice) [ true ↦ added x y ∷ xs | false ↦ x ∷ put xs y ]) e

put_miss : (x y : Choice) (xs : List Choice) → same_choice x y ≡ false → put (x ∷ xs) y ≡ x ∷ put xs y
put_miss x y xs e = ap (λ b. elim b as (λ _. List Choice) [ true ↦ added x y ∷ xs | false ↦ x ∷ put xs y ]) e

added_assoc : (k u v : Choice) → added k (added u v) ≡ added (added k u) v
added_assoc k u v = let e : k.weight + (u.weight + v.weight) ≡ k.weight + u.weight + v.weight = omega arith in λ i. with_weight (e i) k

added_swap : (k z v : Choice) → added (added k z) v ≡ added (added k v) z
added_swap k z v = let e : k.weight + z.weight + v.weight ≡ k.weight + v.weight + z.weight = omega arith in λ i. with_weight (e i) k

both_first : (b : Bool) (k u v : Choice) (acc rest more : List Choice) → same_choice k v ≡ b → rest ≡ put more v
    → elim b as (λ _. List Choice) [ true ↦ added k (added u v) ∷ acc | false ↦ k ∷ rest ]
    ≡ put (elim b as (λ _. List Choice) [ true ↦ added k u ∷ acc | false ↦ k ∷ more ]) v
both_first true k u v acc rest more e is = ap (λ x. x ∷ acc) (added_assoc k u v) ∙ sym (put_hit (added k u) v acc e)
both_first false k u v acc rest more e is = ap (λ l. k ∷ l) is ∙ sym (put_miss k v more e)

put_both : (acc : List Choice) (u v : Choice) → same_choice u v ≡ true → put acc (added u v) ≡ put (put acc u) v
put_both [] u v e = sym (put_hit u v [] e)
put_both (k ∷ acc) u v e =
    both_first (same_choice k u) k u v acc (put acc (added u v)) (put acc u) (sym (congruent k u v e)) (put_both acc u v e)

swap_first : (a b : Bool) (k z v : Choice) (acc : List Choice) → same_choice k z ≡ a → same_choice k v ≡ b
    → (b ≡ false → put (put acc z) v ≡ put (put acc v) z)
    → put (elim a as (λ _. List Choice) [ true ↦ added k z ∷ acc | false ↦ k ∷ put acc z ]) v
    ≡ put (elim b as (λ _. List Choice) [ true ↦ added k v ∷ acc | false ↦ k ∷ put acc v ]) z
swap_first true true k z v acc e g later = put_hit (added k z) v acc g ∙ ap (λ x. x ∷ acc) (added_swap k z v) ∙ sym (put_hit (added k v) z acc e)
swap_first true false k z v acc e g later = put_miss (added k z) v acc g ∙ sym (put_hit k z (put acc v) e)
swap_first false true k z v acc e g later = put_hit k v (put acc z) g ∙ sym (put_miss (added k v) z acc e)
swap_first false false k z v acc e g later = put_miss k v (put acc z) g ∙ ap (λ l. k ∷ l) (later refl) ∙ sym (put_miss k z (put acc v) e)

or_true : (a b : Bool) → b ≡ true → (a || b) ≡ true
or_true true b e = refl
or_true false b e = e

put_swap : (acc : List Choice) (z v : Choice) → has acc v ≡ true → put (put acc z) v ≡ put (put acc v) z
put_swap [] z v e = absurd cc
put_swap (k ∷ acc) z v e =
    swap_first (same_choice k z) (same_choice k v) k z v acc refl refl
    (λ other. put_swap acc z v (sym (ap (λ b. b || has acc v) other) ∙ e))

or_kept : (a b c : Bool) → (b ≡ true → c ≡ true) → (a || b) ≡ true → (a || c) ≡ true
or_kept true b c more e = refl
or_kept false b c more e = more e

kept_first : (a : Bool) (k z v : Choice) (acc rest : List Choice) → (has acc v ≡ true → has rest v ≡ true) → (same_choice k v || has acc v) ≡ true
    → has (elim a as (λ _. List Choice) [ true ↦ added k z ∷ acc | false ↦ k ∷ rest ]) v ≡ true
kept_first true k z v acc rest more e = e
kept_first false k z v acc rest more e = or_kept (same_choice k v) (has acc v) (has rest v) more e

has_kept : (acc : List Choice) (z v : Choice) → has acc v ≡ true → has (put acc z) v ≡ true
has_kept [] z v e = absurd cc
has_kept (k ∷ acc) z v e = kept_first (same_choice k z) k z v acc (put acc z) (has_kept acc z v) e

new_first : (b : Bool) (k u v : Choice) (acc rest : List Choice) → same_choice k v ≡ b → has rest v ≡ true
    → has (elim b as (λ _. List Choice) [ true ↦ added k u ∷ acc | false ↦ k ∷ rest ]) v ≡ true
new_first true k u v acc rest e more = ap (λ b. b || has acc v) e
new_first false k u v acc rest e more = or_true (same_choice k v) (has rest v) more

has_new : (acc : List Choice) (u v : Choice) → same_choice u v ≡ true → has (put acc u) v ≡ true
has_new [] u v e = ap (λ b. b || false) e
has_new (k ∷ acc) u v e = new_first (same_choice k u) k u v acc (put acc u) (sym (congruent k u v e)) (has_new acc u v e)

put_later : (acc zs : List Choice) (v : Choice) → has acc v ≡ true → put (put_all acc zs) v ≡ put_all (put acc v) zs
put_later acc [] v e = refl
put_later acc (z ∷ zs) v e = put_later (put acc z) zs v (has_kept acc z v e) ∙ ap (λ l. put_all l zs) (put_swap acc z v e)

-- ---- each changed

-- a change of choices that keeps equal ones equal and adds their weights up
module _ (f : Choice → Choice) (sum : (x y : Choice) → f (added x y) ≡ added (f x) (f y))
    (like : (x y : Choice) → same_choice x y ≡ true → same_choice (f x) (f y) ≡ true) where
  mapped_first : (b : Bool) (x y : Choice) (xs acc rest : List Choice) → same_choice x y ≡ b
      → put_all (put acc (f x)) (map f rest) ≡ put (put_all (put acc (f x)) (map f xs)) (f y)
      → put_all acc (map f (elim b as (λ _. List Choice) [ true ↦ added x y ∷ xs | false ↦ x ∷ rest ])) ≡ put (put_all (put acc (f x)) (map f xs)) (f y)
  mapped_first true x y xs acc rest e later =
      ap (λ k. put_all (put acc k) (map f xs)) (sum x y)
      ∙ ap (λ l. put_all l (map f xs)) (put_both acc (f x) (f y) (like x y e))
      ∙ sym (put_later (put acc (f x)) (map f xs) (f y) (has_new acc (f x) (f y) (like x y e)))
  mapped_first false x y xs acc rest e later = later

  mapped : (xs acc : List Choice) (y : Choice) → put_all acc (map f (put xs y)) ≡ put (put_all acc (map f xs)) (f y)
  mapped [] acc y = refl
  mapped (x ∷ xs) acc y = mapped_first (same_choice x y) x y xs acc (put xs y) refl (mapped xs (put acc (f x)) y)

  mapped_all : (ys xs : List Choice) → put_all [] (map f (put_all xs ys)) ≡ put_all (put_all [] (map f xs)) (map f ys)
  mapped_all [] xs = refl
  mapped_all (y ∷ ys) xs = mapped_all ys (put xs y) ∙ ap (λ l. put_all l (map f ys)) (mapped xs [] y)

-- ---- lists that are merged

pub merged_put : (xs : List Choice) (y : Choice) → IsMerged xs → IsMerged (put xs y)
merged_put xs y is = mapped_all-itself xs (y ∷ []) ∙ ap (λ l. put l y) is
  where
    map-itself : (l : List Choice) → map (λ x. x) l ≡ l
    map-itself [] = refl
    map-itself (x ∷ l) = ap (λ m. x ∷ m) (map-itself l)

    mapped_all-itself : (l ys : List Choice) → put_all [] (put_all l ys) ≡ put_all (put_all [] l) ys
    mapped_all-itself l ys =
        ap (put_all []) (sym (map-itself (put_all l ys))) ∙ mapped_all (λ x. x) (λ x y. refl) (λ x y e. e) ys l
        ∙ (λ i. put_all (put_all [] (map-itself l i)) (map-itself ys i))

-- ---- each joined with one choice

module _ (c : Choice) where
  abbrev f : Choice → Choice
  f x = joined x c

  joined-added : (x y : Choice) → f (added x y) ≡ added (f x) (f y)
  joined-added x y = λ i. with_weight (add-mul x.weight y.weight c.weight i) (f x)

  -- ---- weights

  zero_too : Weighs c → (x : Choice) → nat_eq (x.weight * c.weight) 0 ≡ nat_eq x.weight 0
  zero_too above x =
      same_bools (nat_eq (x.weight * c.weight) 0) (nat_eq x.weight 0)
      (λ e. eq-eqb x.weight 0 (no_factor x.weight c.weight above (eqb-true (x.weight * c.weight) 0 e)))
      (λ e. eq-eqb (x.weight * c.weight) 0 (ap (λ k. k * c.weight) (eqb-true x.weight 0 e) ∙ none_times c.weight))
    where
      none_times : (k : ℕ) → 0 * k ≡ 0
      none_times k = omega arith

      no_factor : (a b : ℕ) → 0 < b → a * b ≡ 0 → a ≡ 0
      no_factor zero b above e = refl
      no_factor (suc a) b above e = let g : suc a * b ≡ b + a * b = grind arith in absurd (omega (arith, g, e, above))

  positive_first : (b b' : Bool) (x : Choice) (xs rest : List Choice) → b ≡ b' → rest ≡ map f xs
      → elim b as (λ _. List Choice) [ true ↦ rest | false ↦ f x ∷ rest ] ≡ map f (elim b' as (λ _. List Choice) [ true ↦ xs | false ↦ x ∷ xs ])
  positive_first true true x xs rest same is = is
  positive_first false false x xs rest same is = ap (λ l. f x ∷ l) is
  positive_first true false x xs rest same is = absurd (cc same)
  positive_first false true x xs rest same is = absurd (cc same)

  positive-map : Weighs c → (xs : List Choice) → positive weight_of (map f xs) ≡ map f (positive weight_of xs)
  positive-map above [] = refl
  positive-map above (x ∷ xs) =
      positive_first (nat_eq (x.weight * c.weight) 0) (nat_eq x.weight 0) x (positive weight_of xs) (positive weight_of (map f xs))
      (zero_too above x) (positive-map above xs)

-- ---- lists of choices that have weights

abbrev Solid : List Choice → Type 0
Solid [] = Unit {0}
Solid (x ∷ xs) = (nat_eq x.weight 0 ≡ false) × Solid xs

positive_solid : (xs : List Choice) → Solid xs → positive weight_of xs ≡ xs
positive_solid [] h = refl
positive_solid (x ∷ xs) h =
    ap (λ b. elim b as (λ _. List Choice) [ true ↦ positive weight_of xs | false ↦ x ∷ positive weight_of xs ]) h.0
    ∙ ap (λ l. x ∷ l) (positive_solid xs h.1)

solid_first : (b : Bool) (x : Choice) (rest : List Choice) → nat_eq x.weight 0 ≡ b → Solid rest
    → Solid (elim b as (λ _. List Choice) [ true ↦ rest | false ↦ x ∷ rest ])
solid_first true x rest e h = h
solid_first false x rest e h = (e, h)

solid_positive : (xs : List Choice) → Solid (positive weight_of xs)
solid_positive [] = tt
solid_positive (x ∷ xs) = solid_first (nat_eq x.weight 0) x (positive weight_of xs) refl (solid_positive xs)

sum_weighs : (a b : ℕ) → nat_eq a 0 ≡ false → nat_eq (a + b) 0 ≡ false
sum_weighs zero b e = absurd (cc e)
sum_weighs (suc a) b e = ne_eqb (suc a + b) 0 (λ none. omega (arith, none))

solid_put_first : (b : Bool) (x y : Choice) (xs rest : List Choice) → nat_eq x.weight 0 ≡ false → Solid xs → Solid rest
    → Solid (elim b as (λ _. List Choice) [ true ↦ added x y ∷ xs | false ↦ x ∷ rest ])
solid_put_first true x y xs rest e h later = (sum_weighs x.weight y.weight e, h)
solid_put_first false x y xs rest e h later = (e, later)

solid_put : (xs : List Choice) (y : Choice) → Solid xs → nat_eq y.weight 0 ≡ false → Solid (put xs y)
solid_put [] y h e = (e, tt)
solid_put (x ∷ xs) y h e = solid_put_first (same_choice x y) x y xs (put xs y) h.0 h.1 (solid_put xs y h.1 e)

solid_put_all : (ys xs : List Choice) → Solid xs → Solid ys → Solid (put_all xs ys)
solid_put_all [] xs h g = h
solid_put_all (y ∷ ys) xs h g = solid_put_all ys (put xs y) (solid_put xs y h g.0) g.1

positive-merged : (xs : List Choice) → positive weight_of (merged xs) ≡ merged xs
positive-merged xs = positive_solid (merged xs) (solid_put_all (positive weight_of xs) [] tt (solid_positive xs))

pub merged-map-merged : (c : Choice) → Weighs c → (xs : List Choice) → merged (map (λ d. joined d c) (merged xs)) ≡ merged (map (λ d. joined d c) xs)
merged-map-merged c above xs =
    ap (put_all []) (positive-map c above (merged xs) ∙ ap (map (f c)) (positive-merged xs))
    ∙ mapped_all (f c) (joined-added c) (λ x y e. joined_too x y c e) (positive weight_of xs) []
    ∙ ap (put_all []) (sym (positive-map c above xs))

-- ---- factors of one choice

products-one : (done : List Choice) (c : Choice) → products joined done (c ∷ []) ≡ map (λ d. joined d c) done
products-one [] c = refl
products-one (d ∷ done) c = ap (λ l. joined d c ∷ l) (products-one done c)

map_two : (r c : Choice) (done : List Choice) → map (λ d. joined d c) (map (λ d. joined d r) done) ≡ map (λ d. joined d (piled r c)) done
map_two r c [] = refl
map_two r c (d ∷ done) = λ i. joined-piled d r c i ∷ map_two r c done i

map_settled : (r : Choice) (done : List Choice) → map (λ d. joined d (settled r)) done ≡ map (λ d. joined d r) done
map_settled r [] = refl
map_settled r (d ∷ done) = λ i. joined-settled d r i ∷ map_settled r done i

factor-one : (done : List Choice) (c : Choice) → with_factor done (c ∷ []) ≡ merged (map (λ d. joined d c) done)
factor-one done c = ap merged (products-one done c)

pub factor-piled : (done : List Choice) (r c : Choice) → Weighs c → with_factor done (piled r c ∷ []) ≡ with_factor (with_factor done (r ∷ [])) (c ∷ [])
factor-piled done r c above =
    factor-one done (piled r c) ∙ ap merged (sym (map_two r c done)) ∙ sym (merged-map-merged c above (map (λ d. joined d r) done))
    ∙ ap (λ l. merged (map (λ d. joined d c) l)) (sym (factor-one done r)) ∙ sym (factor-one (with_factor done (r ∷ [])) c)

pub factor-settled : (done : List Choice) (r : Choice) → with_factor done (settled r ∷ []) ≡ with_factor done (r ∷ [])
factor-settled done r = factor-one done (settled r) ∙ ap merged (map_settled r done) ∙ sym (factor-one done r)

length-positive : (xs : List Choice) → length (positive weight_of xs) ≤ length xs
length-positive [] = omega arith
length-positive (x ∷ xs) = shorter (nat_eq x.weight 0) x (positive weight_of xs) xs (length-positive xs)
  where
    shorter : (b : Bool) (y : Choice) (rest ys : List Choice) → length rest ≤ length ys
        → length (elim b as (λ _. List Choice) [ true ↦ rest | false ↦ y ∷ rest ]) ≤ length (y ∷ ys)
    shorter true y rest ys less = omega (arith, less)
    shorter false y rest ys less = omega (arith, less)

length-mapped : (g : Choice → Choice) (xs : List Choice) → length (map g xs) ≡ length xs
length-mapped g [] = refl
length-mapped g (x ∷ xs) = ap suc (length-mapped g xs)

pub length-factor : (done : List Choice) (c : Choice) → length (with_factor done (c ∷ [])) ≤ length done
length-factor done c =
    let is : length (with_factor done (c ∷ [])) ≡ length (merged (map (λ d. joined d c) done)) = ap length (factor-one done c) in
    let short = (length-with_items same_choice added [] (positive weight_of (map (λ d. joined d c) done))).1 in
    omega (arith, is, short, length-positive (map (λ d. joined d c) done), length-mapped (λ d. joined d c) done)

pub ruleset short = (length-factor)

-- a factor of one choice makes no list too long
pub not_too_long : (e : JointRefusal) (done : List Choice) (c : Choice) → length done ≤ MOST_CHOICES → IsTooMany e (with_factor done (c ∷ [])) → e ≡ Memory
not_too_long Choices done c few long = absurd (omega (arith, few, long, length-factor done c))
not_too_long Memory done c few long = refl
not_too_long Denominator done c few long = absurd long
not_too_long OutcomeCost done c few long = absurd long

-- ---- products with the choice that does nothing

joined-idle : (c : Choice) → joined (idle 1) c ≡ settled c
joined-idle c =
    let weights : 1 * c.weight ≡ c.weight = omega arith in
    let costs : 0 + c.cost ≡ c.cost = omega arith in
    λ i. record {
      weight = weights i;
      cost = costs i;
      adds = rising c.adds;
      deletes = less (rising c.deletes) (rising c.adds);
      guarded = c.guarded;
    }

products-idle : (cs : List Choice) → products joined (idle 1 ∷ []) cs ≡ map settled cs
products-idle [] = refl
products-idle (c ∷ cs) = λ i. joined-idle c i ∷ products-idle cs i

pub factor-idle : (cs : List Choice) → with_factor (idle 1 ∷ []) cs ≡ merging [] (map settled cs)
factor-idle cs = ap merged (products-idle cs)
