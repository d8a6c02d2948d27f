-- The choices of `:init` only add, and no two of them add the same; so the initial states differ.
use Rattle.std.proofs.Common.{◌≡◌, ℕ, ◌<◌, Bool, true, false, List, [], ◌∷◌, ◌++◌, map, length, Option, None, Some, refl, arith}
use Rattle.std.specs.Prelude.{All, AllPairs, flat_map}
use Rattle.std.specs.Ordering.{nat_cmp}
use Rattle.std.proofs.lemmas.List.Elements.{All-nil, All-cons, All-head, All-tail, All-append, All-map}
use Rattle.std.proofs.lemmas.List.Kept.{AllPairs-cons}
use Rattle.std.proofs.lemmas.List.Quantifiers.{position-Some}
use Rattle.plain_list.specs.Texts.{rises, list_text}
use Rattle.plain_list.proofs.Related.{AllPairs-head, AllPairs-tail}
use Rattle.plain_list.specs.weighted.Merged.{with_item, with_items}
use Rattle.plain_list.specs.weighted.Mean.{products, positive}
use Rattle.ppddl_model.specs.declared.tree.Atom.{Atom}
use Rattle.ppddl_model.specs.declared.tree.InitBranch.{InitBranch}
use Rattle.ppddl_model.specs.declared.tree.InitItem.{InitItem}
use Rattle.ppddl_model.specs.declared.tree.InitItem.TheVariants as item
use Rattle.ppddl_model.specs.State.{same_name}
use Rattle.ppddl_model.specs.Objects.{ground_atom}
use Rattle.ppddl_model.specs.Denominator.{share}
use Rattle.ground_model.specs.declared.action.Choice.{Choice}
use Rattle.ground_meaning.specs.choices.Numbering.{Numbering, number_of}
use Rattle.ground_meaning.specs.choices.Same.{same_choice}
use Rattle.ground_meaning.specs.choices.Joint.{weight_of, idle, joined, added, numbers, with_factor, product_with}
use Rattle.ground_meaning.proofs.lemmas.choices.RisingLists.{rises-rising, All-rising}
use Rattle.ground_meaning.proofs.lemmas.choices.Fitting.{all-with_items, all-products, all-positive}
use Rattle.ground_meaning.proofs.lemmas.refusals.Instances.{all_from}
use Rattle.ground_meaning.specs.refusals.Starts.{item_den, true_choice, item_choices, start_choices}

-- ---- merged choices differ

abbrev pub Differ : Choice → Choice → Type 0
Differ x y = same_choice x y ≡ false

one_differs : (y : Choice) → AllPairs Differ (y ∷ [])
one_differs y = λ i j d before within. absurd (omega arith)

nothing_differs : AllPairs Differ []
nothing_differs = λ i j d before within. absurd (omega arith)

pairs_ahead : (x : Choice) (xs : List Choice) → AllPairs Differ (x ∷ xs) → All (Differ x) xs
pairs_ahead x xs pairs = all_from (Differ x) xs (AllPairs-head Differ x xs pairs)

module _ (y : Choice) where
  differ_with : (z : Choice) (xs : List Choice) → All (Differ z) xs → Differ z y → All (Differ z) (with_item same_choice added xs y)
  differ_with z [] each here = All-cons (Differ z) y [] here (All-nil (Differ z))
  differ_with z (x ∷ xs) each here =
      elim (same_choice x y) as (λ like. All (Differ z) (elim like [ true ↦ added x y ∷ xs | false ↦ x ∷ with_item same_choice added xs y ])) [
        | true ↦ All-cons (Differ z) (added x y) xs (All-head (Differ z) x xs each) (All-tail (Differ z) x xs each)
        | false ↦ All-cons (Differ z) x (with_item same_choice added xs y) (All-head (Differ z) x xs each)
            (differ_with z xs (All-tail (Differ z) x xs each) here)
      ]

  pairs_merged : (x : Choice) (xs : List Choice) (like : Bool) → same_choice x y ≡ like → AllPairs Differ (x ∷ xs)
      → AllPairs Differ (with_item same_choice added xs y)
      → AllPairs Differ (elim like [ true ↦ added x y ∷ xs | false ↦ x ∷ with_item same_choice added xs y ])
  pairs_merged x xs true e pairs rest =
      AllPairs-cons Differ (added x y) xs (pairs_ahead x xs pairs) (AllPairs-tail Differ x xs pairs)
  pairs_merged x xs false e pairs rest =
      AllPairs-cons Differ x (with_item same_choice added xs y) (differ_with x xs (pairs_ahead x xs pairs) e) rest

  pairs_with : (xs : List Choice) → AllPairs Differ xs → AllPairs Differ (with_item same_choice added xs y)
  pairs_with [] pairs = one_differs y
  pairs_with (x ∷ xs) pairs = pairs_merged x xs (same_choice x y) refl pairs (pairs_with xs (AllPairs-tail Differ x xs pairs))

pairs_with_all : (xs ys : List Choice) → AllPairs Differ xs → AllPairs Differ (with_items same_choice added xs ys)
pairs_with_all xs [] pairs = pairs
pairs_with_all xs (y ∷ ys) pairs = pairs_with_all (with_item same_choice added xs y) ys (pairs_with y xs pairs)

product_differs : (done : List Choice) (css : List (List Choice)) → AllPairs Differ done → AllPairs Differ (product_with done css)
product_differs done [] pairs = pairs
product_differs done (cs ∷ css) pairs =
    product_differs (with_factor done cs) css (pairs_with_all [] (positive weight_of (products joined done cs)) nothing_differs)

pub starts_differ : (n : Numbering) (init : List InitItem) → AllPairs Differ (start_choices n init)
starts_differ n init = product_differs (idle 1 ∷ []) (map (item_choices n) init) (one_differs (idle 1))

-- ---- choices that only add

module _ (count : ℕ) where
  pub record OnlyAdds (c : Choice) : Type 0 where
    pub rise : rises nat_cmp c.adds ≡ true
    pub below : All (λ k. k < count) c.adds
    pub deletes : c.deletes ≡ []
    pub guarded : c.guarded ≡ []
    pub cost : c.cost ≡ 0

  joined_adds : (x y : Choice) → OnlyAdds x → OnlyAdds y → OnlyAdds (joined x y)
  joined_adds x y here there = record {
    rise = rises-rising (x.adds ++ y.adds);
    below = All-rising (λ k. k < count) (x.adds ++ y.adds) (All-append (λ k. k < count) x.adds y.adds here.below there.below);
    deletes = rw (here.deletes, there.deletes) refl;
    guarded = rw (here.guarded, there.guarded) refl;
    cost = omega (arith, here.cost, there.cost);
  }

  factor_adds : (xs ys : List Choice) → All OnlyAdds xs → All OnlyAdds ys → All OnlyAdds (with_factor xs ys)
  factor_adds xs ys left right =
      all-with_items OnlyAdds (λ x y here there. record { rise = here.rise; below = here.below; deletes = here.deletes; guarded = here.guarded; cost = here.cost })
      [] (positive weight_of (products joined xs ys)) (All-nil OnlyAdds)
      (all-positive OnlyAdds (products joined xs ys) (all-products OnlyAdds OnlyAdds OnlyAdds joined_adds xs ys left right))

  product_adds : (done : List Choice) (css : List (List Choice)) → All OnlyAdds done → All (All OnlyAdds) css → All OnlyAdds (product_with done css)
  product_adds done [] here each = here
  product_adds done (cs ∷ css) here each =
      product_adds (with_factor done cs) css (factor_adds done cs here (All-head (All OnlyAdds) cs css each)) (All-tail (All OnlyAdds) cs css each)

  idle_adds : (weight : ℕ) → OnlyAdds (idle weight)
  idle_adds weight = record { rise = refl; below = All-nil (λ k. k < count); deletes = refl; guarded = refl; cost = refl }

module _ (n : Numbering) where
  abbrev count_of : ℕ
  count_of = length n.atoms

  number_is_below : (found : Option ℕ) → ((k : ℕ) → found ≡ Some k → k < count_of) → All (λ k. k < count_of) (numbers found)
  number_is_below None below = All-nil (λ k. k < count_of)
  number_is_below (Some k) below = All-cons (λ j. j < count_of) k [] (below k refl) (All-nil (λ j. j < count_of))

  numbers_below : (atoms : List Atom) → All (λ k. k < count_of) (flat_map (λ (a : Atom). numbers (number_of n (ground_atom [] a))) atoms)
  numbers_below [] = All-nil (λ k. k < count_of)
  numbers_below (a ∷ atoms) =
      All-append (λ k. k < count_of) (numbers (number_of n (ground_atom [] a))) (flat_map (λ (x : Atom). numbers (number_of n (ground_atom [] x))) atoms)
      (number_is_below (number_of n (ground_atom [] a)) (λ k found. (position-Some (same_name (list_text (ground_atom [] a))) n.atoms k [] found).0))
      (numbers_below atoms)

  true_adds : (weight : ℕ) (atoms : List Atom) → OnlyAdds count_of (true_choice n weight atoms)
  true_adds weight atoms = record {
    rise = rises-rising (flat_map (λ (a : Atom). numbers (number_of n (ground_atom [] a))) atoms);
    below = All-rising (λ k. k < count_of) (flat_map (λ (a : Atom). numbers (number_of n (ground_atom [] a))) atoms) (numbers_below atoms);
    deletes = refl;
    guarded = refl;
    cost = refl;
  }

  abbrev branch_of : List InitBranch → InitBranch → Choice
  branch_of branches branch = true_choice n (share (item_den (item.Chance branches)) branch.chance) branch.atoms

  item_adds : (i : InitItem) → All (OnlyAdds count_of) (item_choices n i)
  item_adds (item.Fact a) = All-cons (OnlyAdds count_of) (true_choice n 1 (a ∷ [])) [] (true_adds 1 (a ∷ [])) (All-nil (OnlyAdds count_of))
  item_adds (item.Value v) = All-cons (OnlyAdds count_of) (idle 1) [] (idle_adds count_of 1) (All-nil (OnlyAdds count_of))
  item_adds (item.Chance branches) =
      All-append (OnlyAdds count_of) (map (branch_of branches) branches) _
      (All-map (OnlyAdds count_of) (branch_of branches) branches (all_from (λ branch. OnlyAdds count_of (branch_of branches branch)) branches (λ branch inside. true_adds (share (item_den (item.Chance branches)) branch.chance) branch.atoms)))
      (All-cons (OnlyAdds count_of) (idle _) [] (idle_adds count_of _) (All-nil (OnlyAdds count_of)))

  pub start_adds : (init : List InitItem) → All (OnlyAdds count_of) (start_choices n init)
  start_adds init =
      product_adds count_of (idle 1 ∷ []) (map (item_choices n) init)
      (All-cons (OnlyAdds count_of) (idle 1) [] (idle_adds count_of 1) (All-nil (OnlyAdds count_of)))
      (All-map (All (OnlyAdds count_of)) (item_choices n) init (all_from (λ i. All (OnlyAdds count_of) (item_choices n i)) init (λ i inside. item_adds i)))
