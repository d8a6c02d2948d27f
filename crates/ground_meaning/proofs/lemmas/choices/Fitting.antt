-- The literals of choices rise, are numbers of atoms, and have none in common, and the conditions of their parts hold atoms alone.
use Rattle.std.proofs.Common.{◌≡◌, ℕ, ◌<◌, Bool, true, false, cond, List, [], ◌∷◌, ◌++◌, map, length}
use Rattle.std.proofs.Common.{Option, Some, None, refl, sym, subst}
use Rattle.std.specs.Prelude.{All, nat_eq, ◌*◌, ◌/◌}
use Rattle.std.proofs.lemmas.List.Elements.{All-nil, All-cons, All-head, All-tail, All-append, All-map, All-weaker}
use Rattle.std.proofs.lemmas.List.Quantifiers.{position-Some}
use denote.Hole.Carrier.{hidden}
use Rattle.plain_list.specs.weighted.Mean.{products, positive}
use Rattle.plain_list.specs.weighted.Merged.{with_item, with_items}
use Rattle.plain_list.specs.Texts.{list_text}
use Rattle.ppddl_model.specs.declared.tree.Condition.{Condition, Row_of-Condition, end_of-Condition, more_of-Condition}
use Rattle.ppddl_model.specs.declared.tree.Condition.TheVariants as bound
use Rattle.ppddl_model.specs.declared.tree.Effect.{Effect, Row_of-Effect, end_of-Effect, more_of-Effect}
use Rattle.ppddl_model.specs.declared.tree.Effect.{Row_of-Branch, end_of-Branch, more_of-Branch}
use Rattle.ppddl_model.specs.declared.tree.Effect.TheVariants.{Add, Delete, Both', Forall', When', Chance', Cost, CostOf}
use Rattle.ppddl_model.specs.State.{GroundAtom, same_name}
use Rattle.ppddl_model.specs.Objects.{World, Binding, named, ground_atom, bindings}
use Rattle.ppddl_model.specs.Functions.{cost_of}
use Rattle.ppddl_model.specs.Denominator.{share}
use Rattle.ground_model.specs.declared.action.Choice.{Choice}
use Rattle.ground_model.specs.declared.action.Guarded.{Guarded}
use Rattle.ground_model.specs.declared.condition.GroundCondition.{GroundCondition}
use Rattle.ground_model.specs.declared.condition.GroundCondition.{Row_of-GroundCondition}
use Rattle.ground_model.specs.declared.condition.GroundCondition.{end_of-GroundCondition}
use Rattle.ground_model.specs.declared.condition.GroundCondition.{more_of-GroundCondition}
use Rattle.ground_model.specs.declared.condition.GroundCondition.{items-the_row-GroundCondition}
use Rattle.ground_model.specs.declared.condition.GroundCondition.{items_hidden-the_row-GroundCondition-1}
use Rattle.ground_model.specs.declared.condition.GroundCondition.TheBlock.{shape-the_row-GroundCondition-0, hidden-the_row-GroundCondition-0, hidden-the_row-GroundCondition-1}
use Rattle.ground_model.specs.declared.condition.GroundCondition.TheVariants as condition
use Rattle.ground_model.specs.Truth.{atoms_in, atoms_in_each}
use Rattle.ground_model.specs.Invariant.{AreLiterals, IsGuarded}
use Rattle.ground_meaning.specs.choices.Rising.{rising}
use Rattle.ground_meaning.specs.choices.Numbering.{Numbering, number_of, is_fact, constant, ground_condition, ground_conditions}
use Rattle.ground_meaning.specs.choices.Same.{same_choice}
use Rattle.ground_meaning.specs.choices.Joint.{weight_of, idle, charge, joined, own_part, under, guard, scaled, added, merged}
use Rattle.ground_meaning.specs.choices.Joint.{with_factor, product_with, with_rest, own_den, inner_den, den_of, choices}
use Rattle.ground_meaning.specs.choices.Joint.{choices_each, branch_choices, numbers}
use Rattle.ground_meaning.proofs.lemmas.choices.RisingLists.{rises-rising, rises-less, All-rising, All-less, disjoint-less}

-- ---- lists of choices

module _ (P : Choice → Type 0) (added_too : (x y : Choice) → P x → P y → P (added x y)) where
  first_of : (xs rest : List Choice) (x y : Choice) (like : Bool) → P x → P y → All P xs → All P rest
      → All P (elim like [ true ↦ added x y ∷ xs | false ↦ x ∷ rest ])
  first_of xs rest x y true here new each later = All-cons P (added x y) xs (added_too x y here new) each
  first_of xs rest x y false here new each later = All-cons P x rest here later

  all-with_item : (xs : List Choice) (y : Choice) → All P xs → P y → All P (with_item same_choice added xs y)
  all-with_item [] y each new = All-cons P y [] new each
  all-with_item (x ∷ xs) y each new =
      first_of xs (with_item same_choice added xs y) x y (same_choice x y) (All-head P x xs each) new (All-tail P x xs each)
      (all-with_item xs y (All-tail P x xs each) new)

  pub all-with_items : (xs ys : List Choice) → All P xs → All P ys → All P (with_items same_choice added xs ys)
  all-with_items xs [] each new = each
  all-with_items xs (y ∷ ys) each new =
      all-with_items (with_item same_choice added xs y) ys (all-with_item xs y each (All-head P y ys new)) (All-tail P y ys new)

pub all-products : (P Q R : Choice → Type 0) → ((x y : Choice) → P x → Q y → R (joined x y))
    → (xs ys : List Choice) → All P xs → All Q ys → All R (products joined xs ys)
all-products P Q R joins [] ys left right = All-nil R
all-products P Q R joins (x ∷ xs) ys left right =
    All-append R (map (joined x) ys) (products joined xs ys)
    (All-map R (joined x) ys (All-weaker Q (λ y. R (joined x y)) (λ y. joins x y (All-head P x xs left)) ys right))
    (all-products P Q R joins xs ys (All-tail P x xs left) right)

pub all-positive : (P : Choice → Type 0) (xs : List Choice) → All P xs → All P (positive weight_of xs)
all-positive P [] each = each
all-positive P (x ∷ xs) each =
    let rest : All P (positive weight_of xs) = all-positive P xs (All-tail P x xs each) in
    elim (nat_eq x.weight 0) as (λ none. All P (elim none [ true ↦ positive weight_of xs | false ↦ x ∷ positive weight_of xs ])) [
      | true ↦ rest
      | false ↦ All-cons P x (positive weight_of xs) (All-head P x xs each) rest
    ]

-- ---- conditions

module _ (w : World) (n : Numbering) where
  abbrev Below : ℕ → Type 0
  Below k = k < length n.atoms

  atoms_row : {m : _} (row : Row_of-GroundCondition m)
      → All (λ c. All Below (atoms_in c)) (items-the_row-GroundCondition m row) → All Below (atoms_in_each row)
  atoms_row end_of-GroundCondition each = All-nil Below
  atoms_row (more_of-GroundCondition c cs) each =
      All-append Below (atoms_in c) (atoms_in_each cs)
      (All-head (λ d. All Below (atoms_in d)) c (items-the_row-GroundCondition _ cs) each)
      (atoms_row cs (All-tail (λ d. All Below (atoms_in d)) c (items-the_row-GroundCondition _ cs) each))

  of_list : (cs : List GroundCondition) → All (λ c. All Below (atoms_in c)) cs
      → All Below (atoms_in_each (hidden-the_row-GroundCondition-1 cs))
  of_list cs each =
      atoms_row (hidden-the_row-GroundCondition-1 cs)
      (subst (All (λ c. All Below (atoms_in c))) (sym (items_hidden-the_row-GroundCondition-1 cs)) each)

  below-All : (cs : List GroundCondition) → All (λ c. All Below (atoms_in c)) cs → All Below (atoms_in (condition.All cs))
  below-All cs each = of_list cs each

  below-Any : (cs : List GroundCondition) → All (λ c. All Below (atoms_in c)) cs → All Below (atoms_in (condition.Any cs))
  below-Any cs each = of_list cs each

  below-Not : (c : GroundCondition) → All Below (atoms_in c) → All Below (atoms_in (condition.Not c))
  unfolding shape-the_row-GroundCondition-0 hidden-the_row-GroundCondition-0 hidden
  below-Not c each = All-append Below (atoms_in c) [] each (All-nil Below)

  below-constant : (b : Bool) → All Below (atoms_in (constant n b))
  below-constant true = All-nil Below
  below-constant false = All-nil Below

  number_below : (q : GroundAtom) (k : ℕ) → number_of n q ≡ Some k → k < length n.atoms
  number_below q k e = (position-Some (same_name (list_text q)) n.atoms k [] e).0

  below-atom : (fact : Bool) (o : Option ℕ) → ((k : ℕ) → o ≡ Some k → k < length n.atoms)
      → All Below (atoms_in (elim o [ Some k ↦ condition.Atom k | None ↦ constant n fact ]))
  below-atom fact None within = below-constant fact
  below-atom fact (Some k) within = All-cons Below k [] (within k refl) (All-nil Below)

  mutual
    pub condition_below : (c : Condition) (b : Binding) → All Below (atoms_in (ground_condition w n c b))
    condition_below (bound.Atom a) b =
        below-atom (is_fact n (ground_atom b a)) (number_of n (ground_atom b a)) (number_below (ground_atom b a))
    condition_below (bound.Equal x y) b = below-constant (same_name (named b x) (named b y))
    condition_below (bound.Not' u (more_of-Condition c end_of-Condition)) b =
        below-Not (ground_condition w n c b) (condition_below c b)
    condition_below (bound.All' shape cs) b = below-All (ground_conditions w n cs b) (conditions_below cs b)
    condition_below (bound.Any' shape cs) b = below-Any (ground_conditions w n cs b) (conditions_below cs b)
    condition_below (bound.Imply' u (more_of-Condition c end_of-Condition) v (more_of-Condition d end_of-Condition)) b =
        let Q : GroundCondition → Type 0 = λ x. All Below (atoms_in x) in
        let no : GroundCondition = condition.Not (ground_condition w n c b) in
        let then : GroundCondition = ground_condition w n d b in
        below-Any (no ∷ then ∷ [])
        (All-cons Q no (then ∷ []) (below-Not (ground_condition w n c b) (condition_below c b))
        (All-cons Q then [] (condition_below d b) (All-nil Q)))
    condition_below (bound.Exists' params u (more_of-Condition c end_of-Condition)) b =
        below-Any (map (λ b'. ground_condition w n c b') (bindings w params b))
        (All-map (λ x. All Below (atoms_in x)) (λ b'. ground_condition w n c b') (bindings w params b) (λ k x within. condition_below c _))
    condition_below (bound.Forall' params u (more_of-Condition c end_of-Condition)) b =
        below-All (map (λ b'. ground_condition w n c b') (bindings w params b))
        (All-map (λ x. All Below (atoms_in x)) (λ b'. ground_condition w n c b') (bindings w params b) (λ k x within. condition_below c _))

    conditions_below : {m : _} (cs : Row_of-Condition m) (b : Binding)
        → All (λ c. All Below (atoms_in c)) (ground_conditions w n cs b)
    conditions_below end_of-Condition b = All-nil (λ c. All Below (atoms_in c))
    conditions_below (more_of-Condition c cs) b =
        All-cons (λ x. All Below (atoms_in x)) (ground_condition w n c b) (ground_conditions w n cs b)
        (condition_below c b) (conditions_below cs b)

  -- ---- choices

  abbrev count : ℕ
  count = length n.atoms

  pub record Fits (c : Choice) : Type 0 where
    pub literals : AreLiterals count c.adds c.deletes
    pub guarded : All (IsGuarded count) c.guarded

  no_literals : AreLiterals count [] []
  no_literals = record {
    adds_rise = refl;
    adds_below = All-nil Below;
    deletes_rise = refl;
    deletes_below = All-nil Below;
    disjoint = refl;
  }

  pub joined_fits : (x y : Choice) → Fits x → Fits y → Fits (joined x y)
  joined_fits x y first second =
      let adds : List ℕ = rising (x.adds ++ y.adds) in
      let deletes : List ℕ = rising (x.deletes ++ y.deletes) in
      record {
        literals = record {
          adds_rise = rises-rising (x.adds ++ y.adds);
          adds_below = All-rising Below (x.adds ++ y.adds)
              (All-append Below x.adds y.adds first.literals.adds_below second.literals.adds_below);
          deletes_rise = rises-less deletes adds (rises-rising (x.deletes ++ y.deletes));
          deletes_below = All-less Below deletes adds (All-rising Below (x.deletes ++ y.deletes)
              (All-append Below x.deletes y.deletes first.literals.deletes_below second.literals.deletes_below));
          disjoint = disjoint-less deletes adds;
        };
        guarded = All-append (IsGuarded count) x.guarded y.guarded first.guarded second.guarded;
      }

  added_fits : (x y : Choice) → Fits x → Fits y → Fits (added x y)
  added_fits x y first second = record { literals = first.literals; guarded = first.guarded }

  idle_fits : (weight : ℕ) → Fits (idle weight)
  idle_fits weight = record { literals = no_literals; guarded = All-nil (IsGuarded count) }

  charge_fits : (cost : ℕ) → Fits (charge cost)
  charge_fits cost = record { literals = no_literals; guarded = All-nil (IsGuarded count) }

  all_merged : (cs : List Choice) → All Fits cs → All Fits (merged cs)
  all_merged cs each =
      all-with_items Fits added_fits [] (positive weight_of cs) (All-nil Fits) (all-positive Fits cs each)

  all_factor : (xs ys : List Choice) → All Fits xs → All Fits ys → All Fits (with_factor xs ys)
  all_factor xs ys left right =
      all_merged (products joined xs ys) (all-products Fits Fits Fits joined_fits xs ys left right)

  start_fits : All Fits (idle 1 ∷ [])
  start_fits = All-cons Fits (idle 1) [] (idle_fits 1) (All-nil Fits)

  all_product : (done : List Choice) (css : List (List Choice)) → All Fits done → All (All Fits) css → All Fits (product_with done css)
  all_product done [] here each = here
  all_product done (cs ∷ css) here each =
      all_product (with_factor done cs) css (all_factor done cs here (All-head (All Fits) cs css each)) (All-tail (All Fits) cs css each)

  own_fits : (none : Bool) (x : Guarded) → IsGuarded count x → All (IsGuarded count) (cond none [] (x ∷ []))
  own_fits true x here = All-nil (IsGuarded count)
  own_fits false x here = All-cons (IsGuarded count) x [] here (All-nil (IsGuarded count))

  under_fits : (t : GroundCondition) → All Below (atoms_in t) → (x : Guarded) → IsGuarded count x → IsGuarded count (under t x)
  under_fits t below x here =
      let Q : GroundCondition → Type 0 = λ c. All Below (atoms_in c) in
      record {
        condition = below-All (t ∷ x.condition ∷ [])
            (All-cons Q t (x.condition ∷ []) below (All-cons Q x.condition [] here.condition (All-nil Q)));
        literals = here.literals;
      }

  guard_fits : (t : GroundCondition) → All Below (atoms_in t) → (c : Choice) → Fits c → Fits (guard t c)
  guard_fits t below c here = record {
    literals = no_literals;
    guarded = All-append (IsGuarded count) (own_part t c) (map (under t) c.guarded)
        (own_fits _ (record { condition = t; adds = c.adds; deletes = c.deletes; cost = c.cost })
        (record { condition = below; literals = here.literals }))
        (All-map (IsGuarded count) (under t) c.guarded
        (All-weaker (IsGuarded count) (λ x. IsGuarded count (under t x)) (under_fits t below) c.guarded here.guarded));
  }

  literal_adds : (o : Option ℕ) → ((k : ℕ) → o ≡ Some k → k < count) → AreLiterals count (numbers o) []
  literal_adds None within = no_literals
  literal_adds (Some k) within = record {
    adds_rise = refl;
    adds_below = All-cons Below k [] (within k refl) (All-nil Below);
    deletes_rise = refl;
    deletes_below = All-nil Below;
    disjoint = refl;
  }

  literal_deletes : (o : Option ℕ) → ((k : ℕ) → o ≡ Some k → k < count) → AreLiterals count [] (numbers o)
  literal_deletes None within = no_literals
  literal_deletes (Some k) within = record {
    adds_rise = refl;
    adds_below = All-nil Below;
    deletes_rise = refl;
    deletes_below = All-cons Below k [] (within k refl) (All-nil Below);
    disjoint = refl;
  }

  alone : (c : Choice) → Fits c → All Fits (c ∷ [])
  alone c here = All-cons Fits c [] here (All-nil Fits)

  mutual
    pub choices_fit : (e : Effect) (b : Binding) → All Fits (choices w n e b)
    choices_fit (Add a) b =
        alone _ (record {
          literals = literal_adds (number_of n (ground_atom b a)) (number_below (ground_atom b a));
          guarded = All-nil (IsGuarded count);
        })
    choices_fit (Delete a) b =
        alone _ (record {
          literals = literal_deletes (number_of n (ground_atom b a)) (number_below (ground_atom b a));
          guarded = All-nil (IsGuarded count);
        })
    choices_fit (Both' shape es) b = all_product (idle 1 ∷ []) (choices_each w n es b) start_fits (each_fits es b)
    choices_fit (Forall' params u (more_of-Effect e end_of-Effect)) b =
        all_product (idle 1 ∷ []) (map (λ b'. choices w n e b') (bindings w params b)) start_fits
        (All-map (All Fits) (λ b'. choices w n e b') (bindings w params b) (λ k x within. choices_fit e _))
    choices_fit (When' c u (more_of-Effect e end_of-Effect)) b =
        All-map Fits (guard (ground_condition w n c b)) (choices w n e b)
        (All-weaker Fits (λ x. Fits (guard (ground_condition w n c b) x))
        (guard_fits (ground_condition w n c b) (condition_below c b)) (choices w n e b) (choices_fit e b))
    choices_fit (Chance' shape branches) b =
        let own : ℕ = own_den branches in
        let inner : ℕ = inner_den w branches in
        let cs : List Choice = branch_choices w n own inner branches b in
        all_merged (with_rest (own * inner) cs)
        (All-append Fits cs _ (branches_fit own inner branches b) (alone _ (idle_fits _)))
    choices_fit (Cost v) b = alone _ (charge_fits v)
    choices_fit (CostOf a) b = alone _ (charge_fits (cost_of w (ground_atom b a)))

    each_fits : {m : _} (es : Row_of-Effect m) (b : Binding) → All (All Fits) (choices_each w n es b)
    each_fits end_of-Effect b = All-nil (All Fits)
    each_fits (more_of-Effect e es) b =
        All-cons (All Fits) (choices w n e b) (choices_each w n es b) (choices_fit e b) (each_fits es b)

    branches_fit : {m : _} (own inner : ℕ) (branches : Row_of-Branch m) (b : Binding)
        → All Fits (branch_choices w n own inner branches b)
    branches_fit own inner end_of-Branch b = All-nil Fits
    branches_fit own inner (more_of-Branch chance e branches) b =
        let k : ℕ = share own chance * (inner / den_of w e) in
        All-append Fits (map (scaled k) (choices w n e b)) (branch_choices w n own inner branches b)
        (All-map Fits (scaled k) (choices w n e b)
        (All-weaker Fits (λ x. Fits (scaled k x)) (λ x here. record { literals = here.literals; guarded = here.guarded })
        (choices w n e b) (choices_fit e b)))
        (branches_fit own inner branches b)
