-- Factors that are multiplied one after another, and the longest list on the way.
use Rattle.std.proofs.Common.{◌≡◌, ℕ, suc, ◌+◌, ◌<◌, ◌≤◌, max, List, [], ◌∷◌, ◌++◌, length, map, drop, drop-cons, get_or, add-one, refl, sym, ap, subst, ◌∙◌, arith}
use Rattle.ground_model.specs.declared.action.Choice.{Choice}
use Rattle.ground_model.specs.declared.limits.TheConstants.{MOST_CHOICES}
use Rattle.ground_meaning.specs.choices.Joint.{with_factor, product_with}
use Rattle.ground_meaning.specs.choices.Limits.{widest_with, greatest}
use Rattle.outcome_dist.specs.declared.lists.refusal.JointRefusal.{JointRefusal}
use Rattle.outcome_dist.specs.declared.lists.refusal.JointRefusal.TheVariants.{Choices, Denominator, OutcomeCost, Memory}
use Rattle.outcome_dist.specs.lists.Refusals.{IsTooMany}
use Rattle.outcome_dist.specs.Draws.{IsWide, drawn, width}

product-append : (done : List Choice) (xs ys : List (List Choice)) → product_with done (xs ++ ys) ≡ product_with (product_with done xs) ys
product-append done [] ys = refl
product-append done (x ∷ xs) ys = product-append (with_factor done x) xs ys

widest-append : (done : List Choice) (xs ys : List (List Choice))
    → widest_with done (xs ++ ys) ≡ max (widest_with done xs) (widest_with (product_with done xs) ys)
widest-append done [] ys = omega arith
widest-append done (x ∷ xs) ys = let later = widest-append (with_factor done x) xs ys in omega (arith, later)

greatest-append : (xs ys : List ℕ) → greatest (xs ++ ys) ≡ max (greatest xs) (greatest ys)
greatest-append [] ys = omega arith
greatest-append (x ∷ xs) ys = let later = greatest-append xs ys in omega (arith, later)

map-append : {X Y : Type 0} (f : X → Y) (xs ys : List X) → map f (xs ++ ys) ≡ map f xs ++ map f ys
map-append f [] ys = refl
map-append f (x ∷ xs) ys = ap (λ l. f x ∷ l) (map-append f xs ys)

pub drop_at : {X : Type 0} (l : List X) (i : ℕ) (x d : X) → i < length l → x ≡ get_or l i d → drop i l ≡ x ∷ drop (i + 1) l
drop_at l i x d within is = drop-cons l i d within ∙ ap (λ y. y ∷ drop (suc i) l) (sym is) ∙ ap (λ k. x ∷ drop k l) (sym (add-one i))

pub wider : (e : JointRefusal) (a b : ℕ) → a ≤ b → IsWide e a → IsWide e b
wider Choices a b less long = omega (arith, less, long)
wider Memory a b less long = tt
wider Denominator a b less long = long
wider OutcomeCost a b less long = long

pub long_is_wide : (e : JointRefusal) (cs : List Choice) → IsTooMany e cs → IsWide e (length cs)
long_is_wide Choices cs long = long
long_is_wide Memory cs long = tt
long_is_wide Denominator cs long = long
long_is_wide OutcomeCost cs long = long

module _ {X : Type 0} (ch : X → List Choice) (wide : X → ℕ) where
  pub record Walk (done : List Choice) (rest : List X) (whole : List Choice) (most : ℕ) : Type 0 where
    pub same : drawn done ch rest ≡ whole
    pub within : width done ch wide rest ≤ most
    pub narrow : width done ch wide rest ≤ MOST_CHOICES → most ≤ MOST_CHOICES

  pub walk_start : (before done : List Choice) (xs : List X) → done ≡ before → Walk done xs (drawn before ch xs) (width before ch wide xs)
  walk_start before done xs is =
      let level : width done ch wide xs ≡ width before ch wide xs = ap (λ l. width l ch wide xs) is in
      record { same = ap (λ l. drawn l ch xs) is; within = omega (arith, level); narrow = λ few. omega (arith, level, few) }

  pub walk_list : (done : List Choice) (xs ys : List X) (whole : List Choice) (most : ℕ) → xs ≡ ys → Walk done xs whole most → Walk done ys whole most
  walk_list done xs ys whole most is walk = subst (λ l. Walk done l whole most) is walk

  pub walk_many : (done next : List Choice) (xs rest : List X) (whole : List Choice) (most : ℕ) → Walk done (xs ++ rest) whole most
      → next ≡ drawn done ch xs → width done ch wide xs ≤ MOST_CHOICES → Walk next rest whole most
  walk_many done next xs rest whole most walk is few =
      let lists = widest-append done (map ch xs) (map ch rest) in
      let parts = greatest-append (map wide xs) (map wide rest) in
      let first = ap (widest_with done) (map-append ch xs rest) in
      let second = ap greatest (map-append wide xs rest) in
      let level : widest_with next (map ch rest) ≡ widest_with (drawn done ch xs) (map ch rest) = ap (λ l. widest_with l (map ch rest)) is in
      let before : width done ch wide (xs ++ rest) ≤ most = walk.within in
      record {
        same = ap (λ l. drawn l ch rest) is ∙ sym (product-append done (map ch xs) (map ch rest))
            ∙ ap (product_with done) (sym (map-append ch xs rest)) ∙ walk.same;
        within = omega (arith, lists, parts, first, second, level, before);
        narrow = λ short. walk.narrow (omega (arith, lists, parts, first, second, level, few, short));
      }

  pub many_refused : (e : JointRefusal) (done : List Choice) (xs rest : List X) (whole : List Choice) (most : ℕ) → Walk done (xs ++ rest) whole most
      → IsWide e (width done ch wide xs) → IsWide e most
  many_refused e done xs rest whole most walk long =
      let lists = widest-append done (map ch xs) (map ch rest) in
      let parts = greatest-append (map wide xs) (map wide rest) in
      let first = ap (widest_with done) (map-append ch xs rest) in
      let second = ap greatest (map-append wide xs rest) in
      let before : width done ch wide (xs ++ rest) ≤ most = walk.within in
      wider e (width done ch wide xs) most (omega (arith, lists, parts, first, second, before)) long

  -- one factor
  pub walk_one : (done next : List Choice) (x : X) (rest : List X) (whole : List Choice) (most : ℕ) → Walk done (x ∷ rest) whole most
      → next ≡ with_factor done (ch x) → wide x ≤ MOST_CHOICES → length next ≤ MOST_CHOICES → Walk next rest whole most
  walk_one done next x rest whole most walk is here few =
      let long : length next ≡ length (with_factor done (ch x)) = ap length is in
      walk_many done next (x ∷ []) rest whole most walk is (omega (arith, long, here, few))

  pub part_refused : (e : JointRefusal) (done : List Choice) (x : X) (rest : List X) (whole : List Choice) (most : ℕ) → Walk done (x ∷ rest) whole most
      → IsWide e (wide x) → IsWide e most
  part_refused e done x rest whole most walk long =
      many_refused e done (x ∷ []) rest whole most walk (wider e (wide x) (width done ch wide (x ∷ [])) (omega arith) long)

  pub put_refused : (e : JointRefusal) (done : List Choice) (x : X) (rest : List X) (whole : List Choice) (most : ℕ) → Walk done (x ∷ rest) whole most
      → IsTooMany e (with_factor done (ch x)) → IsWide e most
  put_refused e done x rest whole most walk long =
      many_refused e done (x ∷ []) rest whole most walk
      (wider e (length (with_factor done (ch x))) (width done ch wide (x ∷ [])) (omega arith) (long_is_wide e (with_factor done (ch x)) long))
