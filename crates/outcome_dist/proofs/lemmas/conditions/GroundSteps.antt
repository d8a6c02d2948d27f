-- Conditions that are built from their parts, and how large they are.
use Rattle.std.proofs.Common.{◌≡◌, ℕ, zero, suc, ◌+◌, ◌<◌, ◌≤◌, List, [], ◌∷◌, ◌++◌, map, length, ◌-◌, take, drop, drop-cons, get_or, add-one, refl, sym, ap, subst, ◌∙◌, arith}
use Rattle.std.specs.Prelude.{flat_map, IfOk, Result}
use Rattle.std.proofs.lemmas.List.{append_assoc}
use denote.Hole.Carrier.{hidden}
use Rattle.plain_list.specs.weighted.Mean.{total}
use Rattle.ppddl_model.specs.declared.tree.Condition.{Condition, Row_of-Condition, end_of-Condition, more_of-Condition, items-the_row-Condition, items_hidden-the_row-Condition-1}
use Rattle.ppddl_model.specs.declared.tree.Condition.TheBlock.{shape-the_row-Condition-0, hidden-the_row-Condition-0, hidden-the_row-Condition-1}
use Rattle.ppddl_model.specs.declared.tree.Condition.TheVariants as condition
use Rattle.ppddl_model.specs.declared.tree.Param.{Param}
use Rattle.ppddl_model.specs.State.{Name}
use Rattle.ppddl_model.specs.Objects.{World, Binding, objects_of, bindings}
use Rattle.ground_model.specs.declared.condition.GroundCondition.{GroundCondition}
use Rattle.ground_model.specs.declared.condition.GroundCondition.TheVariants.{All, Any, Not}
use Rattle.ground_terms.specs.sizes.Counted.{counted}
use Rattle.ground_terms.proofs.lemmas.sizes.CostSteps.{bindings-valued}
use Rattle.ground_terms.proofs.lemmas.sizes.ManyWays.{length-bindings}
use Rattle.outcome_dist.specs.declared.conditions.binding.Binding.{Binding as Within}
use Rattle.outcome_dist.specs.conditions.Bindings.{world_of}
use Rattle.ground_meaning.specs.choices.Numbering.{Numbering, ground_condition, ground_conditions}

-- ---- lists

take-all : {X : Type 0} (i : ℕ) (xs : List X) → length xs ≤ i → take i xs ≡ xs
take-all zero [] short = refl
take-all (suc i) [] short = refl
take-all zero (x ∷ xs) short = absurd (omega arith)
take-all (suc i) (x ∷ xs) short = ap (λ l. x ∷ l) (take-all i xs (omega arith))

pub tail_is : {X : Type 0} (xs : List X) → take (length xs - 1) (drop 1 xs) ≡ drop 1 xs
tail_is [] = refl
tail_is (x ∷ xs) = take-all (length (x ∷ xs) - 1) xs (omega arith)

map-append : {X Y : Type 0} (f : X → Y) (xs ys : List X) → map f (xs ++ ys) ≡ map f xs ++ map f ys
map-append f [] ys = refl
map-append f (x ∷ xs) ys = ap (λ l. f x ∷ l) (map-append f xs ys)

map-flat : {X Y Z : Type 0} (f : Y → Z) (g : X → List Y) (xs : List X) → flat_map (λ x. map f (g x)) xs ≡ map f (flat_map g xs)
map-flat f g [] = refl
map-flat f g (x ∷ xs) = ap (λ l. map f (g x) ++ l) (map-flat f g xs) ∙ sym (map-append f (g x) (flat_map g xs))

pub flat-map : {X Y Z : Type 0} (f : Y → List Z) (g : X → Y) (xs : List X) → flat_map (λ x. f (g x)) xs ≡ flat_map f (map g xs)
flat-map f g [] = refl
flat-map f g (x ∷ xs) = ap (λ l. f (g x) ++ l) (flat-map f g xs)

pub if_ok : {X E : Type 0} (r : Result X E) (x y : X) → IfOk r (λ k. k ≡ x) → x ≡ y → IfOk r (λ k. k ≡ y)
if_ok r x y holds same = subst (λ z. IfOk r (λ k. k ≡ z)) same holds

pub none_before : {X : Type 0} (done xs : List X) → done ≡ [] → done ++ xs ≡ xs
none_before done xs is = ap (λ l. l ++ xs) is

-- one object more
pub each-more : {X : Type 0} (f : ℕ → List X) (xs : List ℕ) (i : ℕ) (so_far after whole : List X)
    → i < length xs → after ≡ so_far ++ f (get_or xs i 0) → so_far ++ flat_map f (drop i xs) ≡ whole
    → after ++ flat_map f (drop (i + 1) xs) ≡ whole
each-more f xs i so_far after whole within is before =
    ap (λ l. l ++ flat_map f (drop (i + 1) xs)) is
    ∙ append_assoc so_far (f (get_or xs i 0)) (flat_map f (drop (i + 1) xs))
    ∙ ap (λ l. so_far ++ l) (ap (λ k. f (get_or xs i 0) ++ flat_map f (drop k xs)) (add-one i) ∙ sym (ap (flat_map f) (drop-cons xs i 0 within)))
    ∙ before

drop-all : {X : Type 0} (i : ℕ) (xs : List X) → length xs ≤ i → drop i xs ≡ []
drop-all zero [] short = refl
drop-all (suc i) [] short = refl
drop-all zero (x ∷ xs) short = absurd (omega arith)
drop-all (suc i) (x ∷ xs) short = drop-all i xs (omega arith)

-- ---- conditions

module _ (w : World) (n : Numbering) where
  each_row : {m : _} (row : Row_of-Condition m) (b : Binding)
      → ground_conditions w n row b ≡ map (λ (c : Condition). ground_condition w n c b) (items-the_row-Condition m row)
  each_row end_of-Condition b = refl
  each_row (more_of-Condition c cs) b = ap (λ l. ground_condition w n c b ∷ l) (each_row cs b)

  pub ground-All : (whole : Condition) (cs parts : List Condition) (b : Binding) → whole ≡ condition.All cs → parts ≡ cs
      → All (map (λ (c : Condition). ground_condition w n c b) parts) ≡ ground_condition w n whole b
  ground-All whole cs parts b is same =
      ap (λ l. All (map (λ (c : Condition). ground_condition w n c b) l)) (same ∙ sym (items_hidden-the_row-Condition-1 cs))
      ∙ ap All (sym (each_row (hidden-the_row-Condition-1 cs) b)) ∙ ap (λ c. ground_condition w n c b) (sym is)

  pub ground-Any : (whole : Condition) (cs parts : List Condition) (b : Binding) → whole ≡ condition.Any cs → parts ≡ cs
      → Any (map (λ (c : Condition). ground_condition w n c b) parts) ≡ ground_condition w n whole b
  ground-Any whole cs parts b is same =
      ap (λ l. Any (map (λ (c : Condition). ground_condition w n c b) l)) (same ∙ sym (items_hidden-the_row-Condition-1 cs))
      ∙ ap Any (sym (each_row (hidden-the_row-Condition-1 cs) b)) ∙ ap (λ c. ground_condition w n c b) (sym is)

  denied : (c : Condition) (b : Binding) → Not (ground_condition w n c b) ≡ ground_condition w n (condition.Not c) b
  unfolding shape-the_row-Condition-0 hidden-the_row-Condition-0 hidden
  denied c b = refl

  pub ground-Not : (whole c c' : Condition) (b : Binding) → whole ≡ condition.Not c → c' ≡ c
      → Not (ground_condition w n c' b) ≡ ground_condition w n whole b
  ground-Not whole c c' b is same =
      ap (λ k. Not (ground_condition w n k b)) same ∙ denied c b ∙ ap (λ k. ground_condition w n k b) (sym is)

  implied : (c d : Condition) (b : Binding)
      → Any (Not (ground_condition w n c b) ∷ ground_condition w n d b ∷ []) ≡ ground_condition w n (condition.Imply c d) b
  unfolding shape-the_row-Condition-0 hidden-the_row-Condition-0 hidden
  implied c d b = refl

  pub ground-Imply : (whole c d c' d' : Condition) (b : Binding) → whole ≡ condition.Imply c d → c' ≡ c → d' ≡ d
      → Any (Not (ground_condition w n c' b) ∷ ground_condition w n d' b ∷ []) ≡ ground_condition w n whole b
  ground-Imply whole c d c' d' b is first second =
      ap (λ k. Any (Not (ground_condition w n k b) ∷ ground_condition w n d' b ∷ [])) first
      ∙ ap (λ k. Any (Not (ground_condition w n c b) ∷ ground_condition w n k b ∷ [])) second
      ∙ implied c d b ∙ ap (λ k. ground_condition w n k b) (sym is)

  some_binding : (ps : List Param) (c : Condition) (b : Binding)
      → Any (map (ground_condition w n c) (bindings w ps b)) ≡ ground_condition w n (condition.Exists ps c) b
  unfolding shape-the_row-Condition-0 hidden-the_row-Condition-0 hidden
  some_binding ps c b = refl

  each_binding : (ps : List Param) (c : Condition) (b : Binding)
      → All (map (ground_condition w n c) (bindings w ps b)) ≡ ground_condition w n (condition.Forall ps c) b
  unfolding shape-the_row-Condition-0 hidden-the_row-Condition-0 hidden
  each_binding ps c b = refl

  pub ground-Exists : (whole c c' : Condition) (ps qs : List Param) (b : Binding) → whole ≡ condition.Exists ps c → c' ≡ c → qs ≡ ps
      → Any (map (ground_condition w n c') (bindings w qs b)) ≡ ground_condition w n whole b
  ground-Exists whole c c' ps qs b is inner variables =
      (λ i. Any (map (ground_condition w n (inner i)) (bindings w (variables i) b)))
      ∙ some_binding ps c b ∙ ap (λ k. ground_condition w n k b) (sym is)

  pub ground-Forall : (whole c c' : Condition) (ps qs : List Param) (b : Binding) → whole ≡ condition.Forall ps c → c' ≡ c → qs ≡ ps
      → All (map (ground_condition w n c') (bindings w qs b)) ≡ ground_condition w n whole b
  ground-Forall whole c c' ps qs b is inner variables =
      (λ i. All (map (ground_condition w n (inner i)) (bindings w (variables i) b)))
      ∙ each_binding ps c b ∙ ap (λ k. ground_condition w n k b) (sym is)

  -- under all bindings in which the first variable is this object
  abbrev pub of_object : Condition → List Param → Param → Binding → Name → List GroundCondition
  of_object c rest p b o = map (ground_condition w n c) (bindings w rest ((p.name, o) ∷ b))

  pub first_variable : (c : Condition) (ps : List Param) (p : Param) (b : Binding) → (length ps ≡ 0 → ⊥) → p ≡ get_or ps 0 p
      → flat_map (of_object c (drop 1 ps) p b) (objects_of w p) ≡ map (ground_condition w n c) (bindings w ps b)
  first_variable c [] p b some is = absurd (some refl)
  first_variable c (q ∷ ps) p b some is =
      map-flat (ground_condition w n c) (λ o. bindings w ps ((p.name, o) ∷ b)) (objects_of w p)
      ∙ ap (λ r. map (ground_condition w n c) (bindings w (r ∷ ps) b)) is

  pub no_variable : (c : Condition) (ps : List Param) (b : Binding) → length ps ≡ 0 → ground_condition w n c b ∷ [] ≡ map (ground_condition w n c) (bindings w ps b)
  no_variable c [] b none = refl
  no_variable c (q ∷ ps) b none = absurd (omega (arith, none))

-- ---- where no way to bind variables is counted, there is none on top of any binding

pub no_ways : (within : Within) (ps : List Param) (b : Binding) → counted (length (bindings within.table.now ps [])) ≡ 0
    → bindings (world_of within) ps b ≡ []
no_ways within ps b none =
    bindings-valued within.table.now within.values.now ps b
    ∙ nothing (bindings within.table.now ps b) (ap counted (length-bindings within.table.now ps b []) ∙ none)
  where
    nothing : (bs : List Binding) → counted (length bs) ≡ 0 → bs ≡ []
    nothing [] none = refl
    nothing (c ∷ bs) none = absurd (omega (arith, none))

-- ---- how large a condition is, so that recursions end

abbrev mutual
  pub mass : Condition → ℕ
  mass (condition.Not' u cs) = 1 + masses cs
  mass (condition.All' shape cs) = 1 + masses cs
  mass (condition.Any' shape cs) = 1 + masses cs
  mass (condition.Imply' u cs v ds) = 1 + masses cs + masses ds
  mass (condition.Exists' ps u cs) = 1 + length ps + masses cs
  mass (condition.Forall' ps u cs) = 1 + length ps + masses cs
  mass _ = 1

  pub masses : {n : _} → Row_of-Condition n → ℕ
  masses end_of-Condition = 0
  masses (more_of-Condition c cs) = mass c + masses cs

masses_row : {n : _} (row : Row_of-Condition n) → masses row ≡ total mass (items-the_row-Condition n row)
masses_row end_of-Condition = refl
masses_row (more_of-Condition c cs) = ap (λ k. mass c + k) (masses_row cs)

pub mass-All : (cs : List Condition) → mass (condition.All cs) ≡ 1 + total mass cs
mass-All cs = ap (λ k. 1 + k) (masses_row (hidden-the_row-Condition-1 cs) ∙ ap (total mass) (items_hidden-the_row-Condition-1 cs))

pub mass-Any : (cs : List Condition) → mass (condition.Any cs) ≡ 1 + total mass cs
mass-Any cs = ap (λ k. 1 + k) (masses_row (hidden-the_row-Condition-1 cs) ∙ ap (total mass) (items_hidden-the_row-Condition-1 cs))

pub mass-Not : (c : Condition) → mass (condition.Not c) ≡ 1 + (mass c + 0)
unfolding shape-the_row-Condition-0 hidden-the_row-Condition-0 hidden
mass-Not c = refl

pub mass-Imply : (c d : Condition) → mass (condition.Imply c d) ≡ 1 + (mass c + 0) + (mass d + 0)
unfolding shape-the_row-Condition-0 hidden-the_row-Condition-0 hidden
mass-Imply c d = refl

pub mass-Exists : (ps : List Param) (c : Condition) → mass (condition.Exists ps c) ≡ 1 + length ps + (mass c + 0)
unfolding shape-the_row-Condition-0 hidden-the_row-Condition-0 hidden
mass-Exists ps c = refl

pub mass-Forall : (ps : List Param) (c : Condition) → mass (condition.Forall ps c) ≡ 1 + length ps + (mass c + 0)
unfolding shape-the_row-Condition-0 hidden-the_row-Condition-0 hidden
mass-Forall ps c = refl

pub mass-part : (cs : List Condition) (i : ℕ) (d : Condition) → i < length cs → mass (get_or cs i d) ≤ total mass cs
mass-part [] i d within = absurd (omega arith)
mass-part (c ∷ cs) zero d within = omega arith
mass-part (c ∷ cs) (suc i) d within = let later = mass-part cs i d (omega arith) in omega (arith, later)
