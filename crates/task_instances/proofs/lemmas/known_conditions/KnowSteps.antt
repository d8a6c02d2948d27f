-- What is known of conditions that are built from their parts, and how large conditions are.
use Rattle.std.proofs.Common.{◌≡◌, ℕ, zero, suc, ◌+◌, ◌<◌, ◌≤◌, Bool, true, false, not, List, [], ◌∷◌, ◌++◌, map, length, ◌-◌, take, drop, drop-cons, get_or, add-one, Option, Some, None, refl, sym, ap, subst, ◌∙◌, arith}
use Rattle.std.specs.Prelude.{flat_map, IfOk, Result}
use denote.Hole.Carrier.{hidden}
use Rattle.plain_list.specs.weighted.Mean.{total}
use Rattle.ppddl_model.specs.declared.tree.Condition.{Condition, Row_of-Condition, end_of-Condition, more_of-Condition, items-the_row-Condition, items_hidden-the_row-Condition-1}
use Rattle.ppddl_model.specs.declared.tree.Condition.TheBlock.{shape-the_row-Condition-0, hidden-the_row-Condition-0, hidden-the_row-Condition-1}
use Rattle.ppddl_model.specs.declared.tree.Condition.TheVariants as condition
use Rattle.ppddl_model.specs.declared.tree.InitItem.{InitItem}
use Rattle.ppddl_model.specs.declared.tree.Param.{Param}
use Rattle.ppddl_model.specs.State.{Name}
use Rattle.ppddl_model.specs.Objects.{World, Binding, objects_of, bindings}
use Rattle.ppddl_model.specs.Known.{known_not, known_and, known_or, known_all, known_any, known_each}
use Rattle.ground_terms.specs.sizes.Counted.{counted}
use Rattle.ground_terms.proofs.lemmas.sizes.ManyWays.{length-bindings}
use Rattle.task_instances.specs.known_conditions.Known.{known_in, first_state, joined, joined_each}

-- ---- Kleene's conjunction and disjunction

pub joined-none : (all : Bool) (x : Option Bool) → joined all (Some all) x ≡ x
joined-none true x = refl
joined-none false x = refl

pub joined-settled : (all : Bool) (x : Option Bool) → joined all (Some (not all)) x ≡ Some (not all)
joined-settled true x = refl
joined-settled false x = refl

and-assoc : (x y z : Option Bool) → known_and (known_and x y) z ≡ known_and x (known_and y z)
and-assoc (Some true) y z = refl
and-assoc (Some false) y z = refl
and-assoc None (Some false) z = refl
and-assoc None (Some true) z = refl
and-assoc None None (Some true) = refl
and-assoc None None (Some false) = refl
and-assoc None None None = refl

or-assoc : (x y z : Option Bool) → known_or (known_or x y) z ≡ known_or x (known_or y z)
or-assoc (Some true) y z = refl
or-assoc (Some false) y z = refl
or-assoc None (Some false) z = refl
or-assoc None (Some true) z = refl
or-assoc None None (Some true) = refl
or-assoc None None (Some false) = refl
or-assoc None None None = refl

pub joined-assoc : (all : Bool) (x y z : Option Bool) → joined all (joined all x y) z ≡ joined all x (joined all y z)
joined-assoc true x y z = and-assoc x y z
joined-assoc false x y z = or-assoc x y z

pub each-nil : (all : Bool) → joined_each all [] ≡ Some all
each-nil true = refl
each-nil false = refl

pub each-cons : (all : Bool) (x : Option Bool) (xs : List (Option Bool)) → joined_each all (x ∷ xs) ≡ joined all x (joined_each all xs)
each-cons true x xs = refl
each-cons false x xs = refl

pub each-append : (all : Bool) (xs ys : List (Option Bool)) → joined_each all (xs ++ ys) ≡ joined all (joined_each all xs) (joined_each all ys)
each-append all [] ys = sym (ap (λ x. joined all x (joined_each all ys)) (each-nil all) ∙ joined-none all (joined_each all ys))
each-append all (x ∷ xs) ys =
    each-cons all x (xs ++ ys) ∙ ap (joined all x) (each-append all xs ys)
    ∙ sym (joined-assoc all x (joined_each all xs) (joined_each all ys))
    ∙ ap (λ y. joined all y (joined_each all ys)) (sym (each-cons all x xs))

map-append : {X Y : Type 0} (f : X → Y) (xs ys : List X) → map f (xs ++ ys) ≡ map f xs ++ map f ys
map-append f [] ys = refl
map-append f (x ∷ xs) ys = ap (λ l. f x ∷ l) (map-append f xs ys)

pub map_map : {X Y Z : Type 0} (f : Y → Z) (g : X → Y) (xs : List X) → map (λ x. f (g x)) xs ≡ map f (map g xs)
map_map f g [] = refl
map_map f g (x ∷ xs) = ap (λ l. f (g x) ∷ l) (map_map f g xs)

pub each-flat : {X Y : Type 0} (all : Bool) (f : Y → Option Bool) (g : X → List Y) (xs : List X)
    → joined_each all (map (λ x. joined_each all (map f (g x))) xs) ≡ joined_each all (map f (flat_map g xs))
each-flat all f g [] = refl
each-flat all f g (x ∷ xs) =
    each-cons all (joined_each all (map f (g x))) (map (λ y. joined_each all (map f (g y))) xs)
    ∙ ap (joined all (joined_each all (map f (g x)))) (each-flat all f g xs)
    ∙ sym (each-append all (map f (g x)) (map f (flat_map g xs)))
    ∙ ap (joined_each all) (sym (map-append f (g x) (flat_map g xs)))

-- one item more
pub each-more : {X : Type 0} (all : Bool) (f : X → Option Bool) (xs : List X) (i : ℕ) (x d : X) (so_far here whole : Option Bool)
    → i < length xs → x ≡ get_or xs i d → here ≡ f x → joined all so_far (joined_each all (map f (drop i xs))) ≡ whole
    → joined all (joined all so_far here) (joined_each all (map f (drop (i + 1) xs))) ≡ whole
each-more all f xs i x d so_far here whole within is value before =
    let rest : Option Bool = joined_each all (map f (drop (i + 1) xs)) in
    joined-assoc all so_far here rest
    ∙ ap (λ k. joined all so_far (joined all k rest)) value
    ∙ ap (joined all so_far)
    (sym (ap (λ l. joined_each all (map f l)) (drop-cons xs i d within)
    ∙ ap (λ y. joined_each all (f y ∷ map f (drop (suc i) xs))) (sym is)
    ∙ each-cons all (f x) (map f (drop (suc i) xs))
    ∙ ap (λ k. joined all (f x) (joined_each all (map f (drop k xs)))) (sym (add-one i))))
    ∙ before

drop-all : {X : Type 0} (i : ℕ) (xs : List X) → length xs ≤ i → drop i xs ≡ []
drop-all zero [] short = refl
drop-all (suc i) [] short = refl
drop-all zero (x ∷ xs) short = absurd (omega arith)
drop-all (suc i) (x ∷ xs) short = drop-all i xs (omega arith)

take-all : {X : Type 0} (i : ℕ) (xs : List X) → length xs ≤ i → take i xs ≡ xs
take-all zero [] short = refl
take-all (suc i) [] short = refl
take-all zero (x ∷ xs) short = absurd (omega arith)
take-all (suc i) (x ∷ xs) short = ap (λ l. x ∷ l) (take-all i xs (omega arith))

pub tail_is : {X : Type 0} (xs : List X) → take (length xs - 1) (drop 1 xs) ≡ drop 1 xs
tail_is [] = refl
tail_is (x ∷ xs) = take-all (length (x ∷ xs) - 1) xs (omega arith)

pub if_ok : {X E : Type 0} (r : Result X E) (x y : X) → IfOk r (λ k. k ≡ x) → x ≡ y → IfOk r (λ k. k ≡ y)
if_ok r x y holds same = subst (λ z. IfOk r (λ k. k ≡ z)) same holds

-- ---- conditions

module _ (w : World) (changing : List Name) (init : List InitItem) where
  each_row : {n : _} (row : Row_of-Condition n) (b : Binding)
      → known_each w changing (first_state init) row b ≡ map (λ (c : Condition). known_in w changing init c b) (items-the_row-Condition n row)
  each_row end_of-Condition b = refl
  each_row (more_of-Condition c cs) b = ap (λ l. known_in w changing init c b ∷ l) (each_row cs b)

  pub known-All : (whole : Condition) (cs parts : List Condition) (b : Binding) → whole ≡ condition.All cs → parts ≡ cs
      → joined_each true (map (λ (c : Condition). known_in w changing init c b) parts) ≡ known_in w changing init whole b
  known-All whole cs parts b is same =
      ap (λ l. known_all (map (λ (c : Condition). known_in w changing init c b) l)) (same ∙ sym (items_hidden-the_row-Condition-1 cs))
      ∙ ap known_all (sym (each_row (hidden-the_row-Condition-1 cs) b)) ∙ ap (λ c. known_in w changing init c b) (sym is)

  pub known-Any : (whole : Condition) (cs parts : List Condition) (b : Binding) → whole ≡ condition.Any cs → parts ≡ cs
      → joined_each false (map (λ (c : Condition). known_in w changing init c b) parts) ≡ known_in w changing init whole b
  known-Any whole cs parts b is same =
      ap (λ l. known_any (map (λ (c : Condition). known_in w changing init c b) l)) (same ∙ sym (items_hidden-the_row-Condition-1 cs))
      ∙ ap known_any (sym (each_row (hidden-the_row-Condition-1 cs) b)) ∙ ap (λ c. known_in w changing init c b) (sym is)

  denied : (c : Condition) (b : Binding) → known_not (known_in w changing init c b) ≡ known_in w changing init (condition.Not c) b
  unfolding shape-the_row-Condition-0 hidden-the_row-Condition-0 hidden
  denied c b = refl

  pub known-Not : (whole c c' : Condition) (b : Binding) → whole ≡ condition.Not c → c' ≡ c
      → known_not (known_in w changing init c' b) ≡ known_in w changing init whole b
  known-Not whole c c' b is same =
      ap (λ k. known_not (known_in w changing init k b)) same ∙ denied c b ∙ ap (λ k. known_in w changing init k b) (sym is)

  implied : (c d : Condition) (b : Binding)
      → joined false (known_not (known_in w changing init c b)) (known_in w changing init d b) ≡ known_in w changing init (condition.Imply c d) b
  unfolding shape-the_row-Condition-0 hidden-the_row-Condition-0 hidden
  implied c d b = refl

  pub known-Imply : (whole c d c' d' : Condition) (b : Binding) → whole ≡ condition.Imply c d → c' ≡ c → d' ≡ d
      → joined false (known_not (known_in w changing init c' b)) (known_in w changing init d' b) ≡ known_in w changing init whole b
  known-Imply whole c d c' d' b is first second =
      ap (λ k. joined false (known_not (known_in w changing init k b)) (known_in w changing init d' b)) first
      ∙ ap (λ k. joined false (known_not (known_in w changing init c b)) (known_in w changing init k b)) second
      ∙ implied c d b ∙ ap (λ k. known_in w changing init k b) (sym is)

  some_binding : (ps : List Param) (c : Condition) (b : Binding)
      → joined_each false (map (known_in w changing init c) (bindings w ps b)) ≡ known_in w changing init (condition.Exists ps c) b
  unfolding shape-the_row-Condition-0 hidden-the_row-Condition-0 hidden
  some_binding ps c b = refl

  each_binding : (ps : List Param) (c : Condition) (b : Binding)
      → joined_each true (map (known_in w changing init c) (bindings w ps b)) ≡ known_in w changing init (condition.Forall ps c) b
  unfolding shape-the_row-Condition-0 hidden-the_row-Condition-0 hidden
  each_binding ps c b = refl

  pub known-Exists : (whole c c' : Condition) (ps qs : List Param) (b : Binding) → whole ≡ condition.Exists ps c → c' ≡ c → qs ≡ ps
      → joined_each false (map (known_in w changing init c') (bindings w qs b)) ≡ known_in w changing init whole b
  known-Exists whole c c' ps qs b is inner variables =
      ap (λ k. joined_each false (map (known_in w changing init k) (bindings w qs b))) inner
      ∙ ap (λ l. joined_each false (map (known_in w changing init c) (bindings w l b))) variables
      ∙ some_binding ps c b ∙ ap (λ k. known_in w changing init k b) (sym is)

  pub known-Forall : (whole c c' : Condition) (ps qs : List Param) (b : Binding) → whole ≡ condition.Forall ps c → c' ≡ c → qs ≡ ps
      → joined_each true (map (known_in w changing init c') (bindings w qs b)) ≡ known_in w changing init whole b
  known-Forall whole c c' ps qs b is inner variables =
      ap (λ k. joined_each true (map (known_in w changing init k) (bindings w qs b))) inner
      ∙ ap (λ l. joined_each true (map (known_in w changing init c) (bindings w l b))) variables
      ∙ each_binding ps c b ∙ ap (λ k. known_in w changing init k b) (sym is)

  -- what is known under all bindings in which the first variable is this object
  abbrev pub of_object : Bool → Condition → List Param → Param → Binding → Name → Option Bool
  of_object all c rest p b o = joined_each all (map (known_in w changing init c) (bindings w rest ((p.name, o) ∷ b)))

  pub first_variable : (all : Bool) (c : Condition) (ps : List Param) (p : Param) (b : Binding) → (length ps ≡ 0 → ⊥) → p ≡ get_or ps 0 p
      → joined_each all (map (of_object all c (drop 1 ps) p b) (objects_of w p)) ≡ joined_each all (map (known_in w changing init c) (bindings w ps b))
  first_variable all c [] p b some is = absurd (some refl)
  first_variable all c (q ∷ ps) p b some is =
      each-flat all (known_in w changing init c) (λ o. bindings w ps ((p.name, o) ∷ b)) (objects_of w p)
      ∙ ap (λ r. joined_each all (map (known_in w changing init c) (bindings w (r ∷ ps) b))) is

-- where no way to bind variables is counted, there is none on top of any binding
pub no_bindings : (w : World) (ps : List Param) (b : Binding) → counted (length (bindings w ps [])) ≡ 0 → bindings w ps b ≡ []
no_bindings w ps b none = nothing (bindings w ps b) (ap counted (length-bindings w ps b []) ∙ none)
  where
    nothing : (bs : List Binding) → counted (length bs) ≡ 0 → bs ≡ []
    nothing [] none = refl
    nothing (c ∷ bs) none = absurd (omega (arith, none))

-- ---- how large a condition is, so that recursions end

abbrev mutual
  pub mass : Condition → ℕ
  mass (condition.Not' u cs) = 1 + masses cs
  mass (condition.All' shape cs) = 1 + masses cs
  mass (condition.Any' shape cs) = 1 + masses cs
  mass (condition.Imply' u cs v ds) = 1 + masses cs + masses ds
  mass (condition.Exists' ps u cs) = 1 + length ps + masses cs
  mass (condition.Forall' ps u cs) = 1 + length ps + masses cs
  mass _ = 1

  pub masses : {n : _} → Row_of-Condition n → ℕ
  masses end_of-Condition = 0
  masses (more_of-Condition c cs) = mass c + masses cs

masses_row : {n : _} (row : Row_of-Condition n) → masses row ≡ total mass (items-the_row-Condition n row)
masses_row end_of-Condition = refl
masses_row (more_of-Condition c cs) = ap (λ k. mass c + k) (masses_row cs)

pub mass-All : (cs : List Condition) → mass (condition.All cs) ≡ 1 + total mass cs
mass-All cs = ap (λ k. 1 + k) (masses_row (hidden-the_row-Condition-1 cs) ∙ ap (total mass) (items_hidden-the_row-Condition-1 cs))

pub mass-Any : (cs : List Condition) → mass (condition.Any cs) ≡ 1 + total mass cs
mass-Any cs = ap (λ k. 1 + k) (masses_row (hidden-the_row-Condition-1 cs) ∙ ap (total mass) (items_hidden-the_row-Condition-1 cs))

pub mass-Not : (c : Condition) → mass (condition.Not c) ≡ 1 + (mass c + 0)
unfolding shape-the_row-Condition-0 hidden-the_row-Condition-0 hidden
mass-Not c = refl

pub mass-Imply : (c d : Condition) → mass (condition.Imply c d) ≡ 1 + (mass c + 0) + (mass d + 0)
unfolding shape-the_row-Condition-0 hidden-the_row-Condition-0 hidden
mass-Imply c d = refl

pub mass-Exists : (ps : List Param) (c : Condition) → mass (condition.Exists ps c) ≡ 1 + length ps + (mass c + 0)
unfolding shape-the_row-Condition-0 hidden-the_row-Condition-0 hidden
mass-Exists ps c = refl

pub mass-Forall : (ps : List Param) (c : Condition) → mass (condition.Forall ps c) ≡ 1 + length ps + (mass c + 0)
unfolding shape-the_row-Condition-0 hidden-the_row-Condition-0 hidden
mass-Forall ps c = refl

pub mass-part : (cs : List Condition) (i : ℕ) (d : Condition) → i < length cs → mass (get_or cs i d) ≤ total mass cs
mass-part [] i d within = absurd (omega arith)
mass-part (c ∷ cs) zero d within = omega arith
mass-part (c ∷ cs) (suc i) d within = let later = mass-part cs i d (omega arith) in omega (arith, later)
