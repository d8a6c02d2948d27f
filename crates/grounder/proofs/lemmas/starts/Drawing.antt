-- The choices of branches, one after another.
use Rattle.std.proofs.Common.{◌≡◌, ℕ, suc, ◌+◌, ◌-◌, ◌<◌, List, [], ◌∷◌, ◌++◌, map, drop, drop-cons, get_or, add-one, length, sym, ap, ◌∙◌, arith}
use Rattle.std.proofs.lemmas.List.{append_assoc, append-nil}
use Rattle.exact_fraction.specs.Divisors.{common_multiple}
use Rattle.plain_list.specs.weighted.Mean.{total, positive}
use Rattle.ppddl_model.specs.declared.tree.Atom.{Atom}
use Rattle.ppddl_model.specs.declared.tree.InitBranch.{InitBranch}
use Rattle.ppddl_model.specs.declared.tree.InitItem.{InitItem}
use Rattle.ppddl_model.specs.declared.tree.InitItem.TheVariants.{Fact, Chance}
use Rattle.ppddl_model.specs.Objects.{ground_atom}
use Rattle.ground_model.specs.declared.action.Choice.{Choice}
use Rattle.ground_meaning.specs.choices.Numbering.{Numbering, number_of}
use Rattle.ground_meaning.specs.choices.Rising.{rising}
use Rattle.ground_meaning.specs.choices.Joint.{weight_of, idle, numbers, with_rest, with_factor}
use Rattle.ground_meaning.specs.refusals.Starts.{item_den, item_choices}
use Rattle.grounder.specs.starts.Growing.{numbers_each, chance_choice, dens_of, adding}
use Rattle.grounder.proofs.lemmas.starts.Factors.{positive-append, factor-positive}
use Rattle.grounder.proofs.lemmas.starts.Dens.{chance_den}

pub drop_at : {X : Type 0} (l : List X) (i : ℕ) (x d : X) → i < length l → x ≡ get_or l i d → drop i l ≡ x ∷ drop (i + 1) l
drop_at l i x d within is = drop-cons l i d within ∙ ap (λ y. y ∷ drop (suc i) l) (sym is) ∙ ap (λ k. x ∷ drop k l) (sym (add-one i))

module _ {X : Type 0} (f : X → Choice) where
  pub record Gathered (drafts : List Choice) (used : ℕ) (rest all : List X) : Type 0 where
    pub same : drafts ++ positive weight_of (map f rest) ≡ positive weight_of (map f all)
    pub sum : used + total weight_of (map f rest) ≡ total weight_of (map f all)

  pub gathered_list : (drafts : List Choice) (used : ℕ) (xs ys all : List X) → xs ≡ ys → Gathered drafts used xs all → Gathered drafts used ys all
  gathered_list drafts used xs ys all is kept = record {
    same = ap (λ l. drafts ++ positive weight_of (map f l)) (sym is) ∙ kept.same;
    sum = ap (λ l. used + total weight_of (map f l)) (sym is) ∙ kept.sum;
  }

  pub gathered_more : (drafts next : List Choice) (used more : ℕ) (x : X) (rest all : List X) → Gathered drafts used (x ∷ rest) all
      → next ≡ drafts ++ positive weight_of (f x ∷ []) → more ≡ used + (f x).weight → Gathered next more rest all
  gathered_more drafts next used more x rest all kept is sum = record {
    same =
        ap (λ l. l ++ positive weight_of (map f rest)) is ∙ append_assoc drafts (positive weight_of (f x ∷ [])) (positive weight_of (map f rest))
        ∙ ap (λ l. drafts ++ l) (sym (positive-append (f x ∷ []) (map f rest))) ∙ kept.same;
    sum = let before = kept.sum in omega (arith, before, sum);
  }

  pub with_the_rest : (drafts : List Choice) (used den : ℕ) (all : List X) → Gathered drafts used [] all
      → drafts ++ positive weight_of (idle (den - used) ∷ []) ≡ positive weight_of (with_rest den (map f all))
  with_the_rest drafts used den all kept =
      let here : drafts ≡ positive weight_of (map f all) = sym (append-nil drafts) ∙ kept.same in
      let none = kept.sum in
      let sum : used ≡ total weight_of (map f all) = omega (arith, none) in
      (λ i. here i ++ positive weight_of (idle (den - sum i) ∷ []))
      ∙ sym (positive-append (map f all) (idle (den - total weight_of (map f all)) ∷ []))

module _ (n : Numbering) where
  pub numbers_more : (done next found : List ℕ) (a : Atom) (rest all : List Atom) → next ≡ done ++ found → found ≡ numbers (number_of n (ground_atom [] a))
      → done ++ numbers_each n (a ∷ rest) ≡ numbers_each n all → next ++ numbers_each n rest ≡ numbers_each n all
  numbers_more done next found a rest all is here before =
      ap (λ l. l ++ numbers_each n rest) is ∙ append_assoc done found (numbers_each n rest)
      ∙ ap (λ l. done ++ (l ++ numbers_each n rest)) here ∙ before

  pub fact_is : (before : List Choice) (a : Atom) (item : InitItem) (atoms : List ℕ) → item ≡ Fact a → atoms ≡ numbers (number_of n (ground_atom [] a))
      → with_factor before (adding (rising atoms) ∷ []) ≡ with_factor before (item_choices n item)
  fact_is before a item atoms is are =
      ap (λ l. with_factor before (adding (rising l) ∷ [])) (are ∙ sym (append-nil (numbers (number_of n (ground_atom [] a)))))
      ∙ ap (λ (i : InitItem). with_factor before (item_choices n i)) (sym is)

  pub chance_is : (before drafts : List Choice) (den : ℕ) (branches xs ys : List InitBranch) (item : InitItem) → item ≡ Chance branches
      → xs ≡ branches → ys ≡ branches → den ≡ common_multiple (dens_of xs)
      → drafts ≡ positive weight_of (with_rest den (map (chance_choice n den) ys))
      → with_factor before drafts ≡ with_factor before (item_choices n item)
  chance_is before drafts den branches xs ys item is first second den_is are =
      let whole : den ≡ item_den (Chance branches) = den_is ∙ ap (λ l. common_multiple (dens_of l)) first ∙ sym (chance_den branches) in
      ap (with_factor before) are ∙ factor-positive before (with_rest den (map (chance_choice n den) ys))
      ∙ (λ i. with_factor before (with_rest (whole i) (map (chance_choice n (whole i)) (second i))))
      ∙ ap (λ (i : InitItem). with_factor before (item_choices n i)) (sym is)
