-- Lists of choices that are multiplied by choices that only add, and by choices without a weight.
use Rattle.std.proofs.Common.{◌≡◌, ℕ, ◌+◌, ◌*◌, ◌<◌, Bool, true, false, List, [], ◌∷◌, ◌++◌, map, refl, sym, ap, ◌∙◌, arith}
use Rattle.std.specs.Prelude.{nat_eq}
use Rattle.std.proofs.lemmas.Bool.{eqb-true, eq-eqb}
use Rattle.std.proofs.lemmas.List.{append-nil}
use Rattle.plain_list.specs.weighted.Mean.{products, positive}
use Rattle.plain_list.specs.weighted.Merged as weighted
use Rattle.ground_model.specs.declared.action.Choice.{Choice}
use Rattle.ground_meaning.specs.choices.Rising.{rising}
use Rattle.ground_meaning.specs.choices.Same.{same_choice}
use Rattle.ground_meaning.specs.choices.Joint.{weight_of, with_weight, idle, joined, added, merged, with_factor}
use Rattle.outcome_dist.specs.lists.Piles.{piled}
use Rattle.outcome_dist.proofs.lemmas.lists.MergedMaps.{merged-map-merged, factor-piled, factor-settled}
use Rattle.outcome_dist.proofs.lemmas.lists.Piling.{joined-piled}
use Rattle.grounder.specs.starts.Growing.{adding, grown}

-- ---- choices that only add

pub grown_more : (done : List Choice) (sure atoms : List ℕ) → grown done (sure ++ atoms) ≡ with_factor (grown done sure) (adding (rising atoms) ∷ [])
grown_more done sure atoms =
    let some : 0 < 1 = omega arith in
    factor-piled done (adding sure) (adding atoms) some ∙ sym (factor-settled (grown done sure) (adding atoms))

pile-nothing : (x : Choice) → piled x (adding []) ≡ x
pile-nothing x =
    let weight : x.weight * 1 ≡ x.weight = omega arith in
    let cost : x.cost + 0 ≡ x.cost = omega arith in
    λ i. record {
      weight = weight i;
      cost = cost i;
      adds = append-nil x.adds i;
      deletes = append-nil x.deletes i;
      guarded = append-nil x.guarded i;
    }

products-one : (done : List Choice) (c : Choice) → products joined done (c ∷ []) ≡ map (λ d. joined d c) done
products-one [] c = refl
products-one (d ∷ done) c = ap (λ l. joined d c ∷ l) (products-one done c)

map-append : (c : Choice) (xs ys : List Choice) → map (λ d. joined d c) (xs ++ ys) ≡ map (λ d. joined d c) xs ++ map (λ d. joined d c) ys
map-append c [] ys = refl
map-append c (x ∷ xs) ys = ap (λ l. joined x c ∷ l) (map-append c xs ys)

settled_each : (x : Choice) (ys : List Choice) → map (λ d. joined d (adding [])) (map (joined x) ys) ≡ map (joined x) ys
settled_each x [] = refl
settled_each x (y ∷ ys) = λ i. (joined-piled x y (adding []) ∙ ap (joined x) (pile-nothing y)) i ∷ settled_each x ys i

settled_all : (xs ys : List Choice) → map (λ d. joined d (adding [])) (products joined xs ys) ≡ products joined xs ys
settled_all [] ys = refl
settled_all (x ∷ xs) ys =
    map-append (adding []) (map (joined x) ys) (products joined xs ys) ∙ (λ i. settled_each x ys i ++ settled_all xs ys i)

pub grown_nothing : (xs ys : List Choice) → grown (with_factor xs ys) [] ≡ with_factor xs ys
grown_nothing xs ys =
    let some : 0 < 1 = omega arith in
    ap merged (products-one (with_factor xs ys) (adding []))
    ∙ merged-map-merged (adding []) some (products joined xs ys)
    ∙ ap merged (settled_all xs ys)

-- ---- choices without a weight

light : (x : Choice) (xs : List Choice) → nat_eq x.weight 0 ≡ true → positive weight_of (x ∷ xs) ≡ positive weight_of xs
light x xs e = ap (λ b. elim b as (λ _. List Choice) [ true ↦ positive weight_of xs | false ↦ x ∷ positive weight_of xs ]) e

heavy : (x : Choice) (xs : List Choice) → nat_eq x.weight 0 ≡ false → positive weight_of (x ∷ xs) ≡ x ∷ positive weight_of xs
heavy x xs e = ap (λ b. elim b as (λ _. List Choice) [ true ↦ positive weight_of xs | false ↦ x ∷ positive weight_of xs ]) e

append_first : (b : Bool) (x : Choice) (xs ys rest : List Choice) → rest ≡ xs ++ ys
    → elim b as (λ _. List Choice) [ true ↦ rest | false ↦ x ∷ rest ] ≡ elim b as (λ _. List Choice) [ true ↦ xs | false ↦ x ∷ xs ] ++ ys
append_first true x xs ys rest is = is
append_first false x xs ys rest is = ap (λ l. x ∷ l) is

pub positive-append : (xs ys : List Choice) → positive weight_of (xs ++ ys) ≡ positive weight_of xs ++ positive weight_of ys
positive-append [] ys = refl
positive-append (x ∷ xs) ys =
    append_first (nat_eq x.weight 0) x (positive weight_of xs) (positive weight_of ys) (positive weight_of (xs ++ ys)) (positive-append xs ys)

no_weight : (k n : ℕ) → nat_eq n 0 ≡ true → nat_eq (k * n) 0 ≡ true
no_weight k n e =
    let none : n ≡ 0 = eqb-true n 0 e in
    let nothing : k * 0 ≡ 0 = omega arith in
    ap (λ m. nat_eq (k * m) 0) none ∙ eq-eqb (k * 0) 0 nothing

weightless : (d : Choice) (b : Bool) (x : Choice) (xs : List Choice) → nat_eq x.weight 0 ≡ b
    → positive weight_of (map (joined d) xs) ≡ positive weight_of (map (joined d) (positive weight_of xs))
    → positive weight_of (map (joined d) (x ∷ xs))
    ≡ positive weight_of (map (joined d) (elim b as (λ _. List Choice) [ true ↦ positive weight_of xs | false ↦ x ∷ positive weight_of xs ]))
weightless d true x xs e later = light (joined d x) (map (joined d) xs) (no_weight d.weight x.weight e) ∙ later
weightless d false x xs e later =
    ap (λ l. elim (nat_eq (d.weight * x.weight) 0) as (λ _. List Choice) [ true ↦ l | false ↦ joined d x ∷ l ]) later

positive-joined : (d : Choice) (xs : List Choice) → positive weight_of (map (joined d) xs) ≡ positive weight_of (map (joined d) (positive weight_of xs))
positive-joined d [] = refl
positive-joined d (x ∷ xs) = weightless d (nat_eq x.weight 0) x xs refl (positive-joined d xs)

positive-products : (done cs : List Choice)
    → positive weight_of (products joined done cs) ≡ positive weight_of (products joined done (positive weight_of cs))
positive-products [] cs = refl
positive-products (d ∷ done) cs =
    positive-append (map (joined d) cs) (products joined done cs)
    ∙ (λ i. positive-joined d cs i ++ positive-products done cs i)
    ∙ sym (positive-append (map (joined d) (positive weight_of cs)) (products joined done (positive weight_of cs)))

pub factor-positive : (done cs : List Choice) → with_factor done (positive weight_of cs) ≡ with_factor done cs
factor-positive done cs = by_positive (products joined done (positive weight_of cs)) (products joined done cs) (sym (positive-products done cs))
  where
    by_positive : (xs ys : List Choice) → positive weight_of xs ≡ positive weight_of ys → merged xs ≡ merged ys
    by_positive xs ys is = ap (weighted.with_items same_choice added []) is

-- a choice with a weight, as a product of the weight and of what it adds
one_choice : (b : Bool) (c : Choice) → nat_eq c.weight 0 ≡ b → merged (c ∷ []) ≡ positive weight_of (c ∷ [])
one_choice true c e = ap (weighted.with_items same_choice added []) (light c [] e) ∙ sym (light c [] e)
one_choice false c e = ap (weighted.with_items same_choice added []) (heavy c [] e) ∙ sym (heavy c [] e)

pub weighed : (weight : ℕ) (atoms : List ℕ)
    → with_factor (idle weight ∷ []) (adding atoms ∷ []) ≡ positive weight_of (with_weight weight (adding (rising atoms)) ∷ [])
weighed weight atoms =
    let c : Choice = with_weight weight (adding (rising atoms)) in
    let times : weight * 1 ≡ weight = omega arith in
    ap (λ k. merged (with_weight k (adding (rising atoms)) ∷ [])) times ∙ one_choice (nat_eq weight 0) c refl
