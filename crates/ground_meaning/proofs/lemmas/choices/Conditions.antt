-- A condition on packed states holds exactly where the condition that it stands for does.
use Rattle.std.proofs.Common.{◌≡◌, ℕ, Bool, true, false, not, ◌&&◌, ◌||◌, List, [], ◌∷◌, map}
use Rattle.std.proofs.Common.{Option, Some, None, refl, sym, ap, ◌∙◌}
use Rattle.std.specs.Prelude.{All}
use Rattle.std.specs.List.{list_any, list_all}
use Rattle.std.proofs.lemmas.List.Elements.{All-head, All-tail}
use denote.Hole.Carrier.{hidden}
use Rattle.ppddl_model.specs.declared.tree.Condition.{Condition, Row_of-Condition}
use Rattle.ppddl_model.specs.declared.tree.Condition.{end_of-Condition, more_of-Condition}
use Rattle.ppddl_model.specs.declared.tree.Condition.TheVariants as bound
use Rattle.ppddl_model.specs.State.{GroundAtom, State, has, same_name}
use Rattle.ppddl_model.specs.Objects.{World, Binding, named, ground_atom, bindings}
use Rattle.ppddl_model.specs.Truth.{holds, all_hold, any_holds}
use Rattle.ground_model.specs.declared.condition.GroundCondition.{GroundCondition}
use Rattle.ground_model.specs.declared.condition.GroundCondition.{Row_of-GroundCondition}
use Rattle.ground_model.specs.declared.condition.GroundCondition.{end_of-GroundCondition}
use Rattle.ground_model.specs.declared.condition.GroundCondition.{more_of-GroundCondition}
use Rattle.ground_model.specs.declared.condition.GroundCondition.{items-the_row-GroundCondition}
use Rattle.ground_model.specs.declared.condition.GroundCondition.{items_hidden-the_row-GroundCondition-1}
use Rattle.ground_model.specs.declared.condition.GroundCondition.TheBlock.{shape-the_row-GroundCondition-0, hidden-the_row-GroundCondition-0, hidden-the_row-GroundCondition-1}
use Rattle.ground_model.specs.declared.condition.GroundCondition.TheVariants as condition
use Rattle.ground_model.specs.Truth.{truth, all_true, any_true}
use Rattle.ground_meaning.specs.choices.Numbering.{Numbering, number_of, is_fact, is_true, constant}
use Rattle.ground_meaning.specs.choices.Numbering.{ground_condition, ground_conditions}
use Rattle.ground_meaning.specs.choices.Change.{condition_atoms, conditions_atoms, AgreesOn}
use Rattle.ground_meaning.proofs.lemmas.choices.Lists.{All-append_left, All-append_right, All-from_flat_map}

module _ (bit : ℕ → Bool) where
  all_row : {n : _} (row : Row_of-GroundCondition n)
      → all_true bit row ≡ list_all (truth bit) (items-the_row-GroundCondition n row)
  all_row end_of-GroundCondition = refl
  all_row (more_of-GroundCondition c cs) = ap (λ b. truth bit c && b) (all_row cs)

  any_row : {n : _} (row : Row_of-GroundCondition n)
      → any_true bit row ≡ list_any (truth bit) (items-the_row-GroundCondition n row)
  any_row end_of-GroundCondition = refl
  any_row (more_of-GroundCondition c cs) = ap (λ b. truth bit c || b) (any_row cs)

  pub truth-All : (cs : List GroundCondition) → truth bit (condition.All cs) ≡ list_all (truth bit) cs
  truth-All cs =
      all_row (hidden-the_row-GroundCondition-1 cs)
      ∙ ap (list_all (truth bit)) (items_hidden-the_row-GroundCondition-1 cs)

  pub truth-Any : (cs : List GroundCondition) → truth bit (condition.Any cs) ≡ list_any (truth bit) cs
  truth-Any cs =
      any_row (hidden-the_row-GroundCondition-1 cs)
      ∙ ap (list_any (truth bit)) (items_hidden-the_row-GroundCondition-1 cs)

  pub truth-Not : (c : GroundCondition) → truth bit (condition.Not c) ≡ not (truth bit c)
  unfolding shape-the_row-GroundCondition-0 hidden-the_row-GroundCondition-0 hidden
  truth-Not c = refl

  all_over : {X : Type 0} (f : X → GroundCondition) (g : X → Bool) (xs : List X)
      → All (λ x. truth bit (f x) ≡ g x) xs → list_all (truth bit) (map f xs) ≡ list_all g xs
  all_over f g [] each = refl
  all_over f g (x ∷ xs) each =
      ap (λ b. b && list_all (truth bit) (map f xs)) (All-head (λ y. truth bit (f y) ≡ g y) x xs each)
      ∙ ap (λ b. g x && b) (all_over f g xs (All-tail (λ y. truth bit (f y) ≡ g y) x xs each))

  any_over : {X : Type 0} (f : X → GroundCondition) (g : X → Bool) (xs : List X)
      → All (λ x. truth bit (f x) ≡ g x) xs → list_any (truth bit) (map f xs) ≡ list_any g xs
  any_over f g [] each = refl
  any_over f g (x ∷ xs) each =
      ap (λ b. b || list_any (truth bit) (map f xs)) (All-head (λ y. truth bit (f y) ≡ g y) x xs each)
      ∙ ap (λ b. g x || b) (any_over f g xs (All-tail (λ y. truth bit (f y) ≡ g y) x xs each))

  truth-constant : (n : Numbering) (b : Bool) → truth bit (constant n b) ≡ b
  truth-constant n true = refl
  truth-constant n false = refl

  truth-atom : (n : Numbering) (fact : Bool) (number : Option ℕ)
      → truth bit (elim number [ Some k ↦ condition.Atom k | None ↦ constant n fact ])
      ≡ elim number [ Some k ↦ bit k | None ↦ fact ]
  truth-atom n fact (Some k) = refl
  truth-atom n fact None = truth-constant n fact

or_false : (a : Bool) → (a || false) ≡ a
or_false true = refl
or_false false = refl

module _ (w : World) (n : Numbering) (bit : ℕ → Bool) (s : State) where
  abbrev tied : GroundAtom → Type 0
  tied q = has s q ≡ is_true n bit q

  mutual
    pub condition_law : (c : Condition) (b : Binding) → AgreesOn n bit s (condition_atoms w c b)
        → truth bit (ground_condition w n c b) ≡ holds w c b s
    condition_law (bound.Atom a) b agrees =
        truth-atom bit n (is_fact n (ground_atom b a)) (number_of n (ground_atom b a))
        ∙ sym (All-head tied (ground_atom b a) [] agrees)
    condition_law (bound.Equal x y) b agrees = truth-constant bit n (same_name (named b x) (named b y))
    condition_law (bound.Not' u (more_of-Condition c end_of-Condition)) b agrees =
        truth-Not bit (ground_condition w n c b) ∙ ap not (condition_law c b agrees)
    condition_law (bound.All' shape cs) b agrees =
        truth-All bit (ground_conditions w n cs b) ∙ all_law cs b agrees
    condition_law (bound.Any' shape cs) b agrees =
        truth-Any bit (ground_conditions w n cs b) ∙ any_law cs b agrees
    condition_law (bound.Imply' u (more_of-Condition c end_of-Condition) v (more_of-Condition d end_of-Condition)) b agrees =
        let first = condition_law c b (All-append_left tied (condition_atoms w c b) (condition_atoms w d b) agrees) in
        let second = condition_law d b (All-append_right tied (condition_atoms w c b) (condition_atoms w d b) agrees) in
        truth-Any bit (condition.Not (ground_condition w n c b) ∷ ground_condition w n d b ∷ [])
        ∙ ap (λ x. x || (truth bit (ground_condition w n d b) || false))
        (truth-Not bit (ground_condition w n c b) ∙ ap not first)
        ∙ ap (λ x. not (holds w c b s) || x) (or_false (truth bit (ground_condition w n d b)) ∙ second)
    condition_law (bound.Exists' params u (more_of-Condition c end_of-Condition)) b agrees =
        truth-Any bit (map (λ b'. ground_condition w n c b') (bindings w params b))
        ∙ any_over bit (λ b'. ground_condition w n c b') (λ b'. holds w c b' s) (bindings w params b)
        (λ k x below. condition_law c _ (All-from_flat_map tied (condition_atoms w c) (bindings w params b) agrees k x below))
    condition_law (bound.Forall' params u (more_of-Condition c end_of-Condition)) b agrees =
        truth-All bit (map (λ b'. ground_condition w n c b') (bindings w params b))
        ∙ all_over bit (λ b'. ground_condition w n c b') (λ b'. holds w c b' s) (bindings w params b)
        (λ k x below. condition_law c _ (All-from_flat_map tied (condition_atoms w c) (bindings w params b) agrees k x below))

    all_law : {m : _} (cs : Row_of-Condition m) (b : Binding) → AgreesOn n bit s (conditions_atoms w cs b)
        → list_all (truth bit) (ground_conditions w n cs b) ≡ all_hold w cs b s
    all_law end_of-Condition b agrees = refl
    all_law (more_of-Condition c cs) b agrees =
        ap (λ x. x && list_all (truth bit) (ground_conditions w n cs b))
        (condition_law c b (All-append_left tied (condition_atoms w c b) (conditions_atoms w cs b) agrees))
        ∙ ap (λ x. holds w c b s && x)
        (all_law cs b (All-append_right tied (condition_atoms w c b) (conditions_atoms w cs b) agrees))

    any_law : {m : _} (cs : Row_of-Condition m) (b : Binding) → AgreesOn n bit s (conditions_atoms w cs b)
        → list_any (truth bit) (ground_conditions w n cs b) ≡ any_holds w cs b s
    any_law end_of-Condition b agrees = refl
    any_law (more_of-Condition c cs) b agrees =
        ap (λ x. x || list_any (truth bit) (ground_conditions w n cs b))
        (condition_law c b (All-append_left tied (condition_atoms w c b) (conditions_atoms w cs b) agrees))
        ∙ ap (λ x. holds w c b s || x)
        (any_law cs b (All-append_right tied (condition_atoms w c b) (conditions_atoms w cs b) agrees))
