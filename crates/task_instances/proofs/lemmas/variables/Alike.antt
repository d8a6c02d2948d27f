-- Forms under bindings under which all that they name stands for the same.
use Rattle.std.proofs.Common.{◌≡◌, ℕ, ◌*◌, ◌/◌, Bool, ◌||◌, cond, max, List, [], ◌∷◌, ◌++◌, map, length, refl, sym, ap, ◌∙◌}
use Rattle.std.specs.Prelude.{flat_map}
use Rattle.std.specs.List.{list_any}
use Rattle.std.proofs.lemmas.Bool.{or_left, or_right}
use Rattle.std.proofs.lemmas.List.{map-append}
use Rattle.ppddl_model.specs.declared.tree.Atom.{Atom}
use Rattle.ppddl_model.specs.declared.tree.Condition.{Condition, Row_of-Condition, end_of-Condition, more_of-Condition}
use Rattle.ppddl_model.specs.declared.tree.Condition.TheVariants as condition
use Rattle.ppddl_model.specs.declared.tree.Effect.{Effect, Row_of-Effect, end_of-Effect, more_of-Effect}
use Rattle.ppddl_model.specs.declared.tree.Effect.{Row_of-Branch, end_of-Branch, more_of-Branch}
use Rattle.ppddl_model.specs.declared.tree.Effect.TheVariants.{Add, Delete, Both', Forall', When', Chance', Cost, CostOf}
use Rattle.ppddl_model.specs.declared.tree.Param.{Param}
use Rattle.ppddl_model.specs.declared.tree.Term.{Term}
use Rattle.ppddl_model.specs.declared.tree.Term.TheVariants.{Variable, Object}
use Rattle.ppddl_model.specs.State.{Name, same_name}
use Rattle.ppddl_model.specs.Objects.{World, Binding, named, ground_atom, objects_of, bindings}
use Rattle.ppddl_model.specs.Functions.{cost_of}
use Rattle.ppddl_model.specs.Denominator.{share}
use Rattle.ppddl_model.proofs.States.{same_name-Decides}
use Rattle.ground_model.specs.declared.action.Choice.{Choice}
use Rattle.ground_model.specs.declared.condition.GroundCondition.TheVariants as grounded
use Rattle.ground_meaning.specs.choices.Numbering.{Numbering, number_of, constant, atom_condition, ground_condition, ground_conditions}
use Rattle.ground_meaning.specs.choices.Joint.{literal, charge, numbers, guard, scaled, merged, product_of, with_rest, own_den, inner_den, den_of}
use Rattle.ground_meaning.specs.choices.Joint.{choices, choices_each, branch_choices, charged, charged_choices, reduced, common_divisor, joint}
use Rattle.ground_meaning.specs.choices.Limits.{widest_product, greatest, widest, widest_each, widest_branches}
use Rattle.task_instances.specs.kept_rows.Stages.{is_variable, names_variable, each_names_variable}
use Rattle.task_instances.specs.variables.Named.{effect_names, each_effect_names, branches_name, StandAlike}

-- ---- what is named by a part is named by the whole

module _ (f g : Name → Bool) (b b' : Binding) (same : StandAlike (λ v. f v || g v) b b') where
  alike_first : StandAlike f b b'
  alike_first v is = same v (or_left (f v) (g v) is)

  alike_second : StandAlike g b b'
  alike_second v is = same v (or_right (f v) (g v) is)

-- one variable more stands for the same
alike_more : (f : Name → Bool) (p o : Name) (b b' : Binding) → StandAlike f b b' → StandAlike f ((p, o) ∷ b) ((p, o) ∷ b')
alike_more f p o b b' same v is = ap (λ k. cond (same_name p v) o k) (same v is)

-- ---- atoms

module _ (b b' : Binding) where
  term_alike : (t : Term) → StandAlike (λ v. is_variable v t) b b' → named b t ≡ named b' t
  term_alike (Variable u) same = same u ((same_name-Decides u u).1 refl)
  term_alike (Object o) same = refl

  terms_alike : (ts : List Term) → StandAlike (λ v. list_any (is_variable v) ts) b b' → map (named b) ts ≡ map (named b') ts
  terms_alike [] same = refl
  terms_alike (t ∷ ts) same =
      ap (λ n. n ∷ map (named b) ts) (term_alike t (alike_first (λ v. is_variable v t) (λ v. list_any (is_variable v) ts) b b' same))
      ∙ ap (λ l. named b' t ∷ l) (terms_alike ts (alike_second (λ v. is_variable v t) (λ v. list_any (is_variable v) ts) b b' same))

  atom_alike : (a : Atom) → StandAlike (λ v. list_any (is_variable v) a.args) b b' → ground_atom b a ≡ ground_atom b' a
  atom_alike a same = ap (λ l. a.predicate ∷ l) (terms_alike a.args same)

-- ---- quantifiers

flat_alike : {X Y Z : Type 0} (f : Y → Z) (g h : X → List Y) (xs : List X) → ((x : X) → map f (g x) ≡ map f (h x))
    → map f (flat_map g xs) ≡ map f (flat_map h xs)
flat_alike f g h [] same = refl
flat_alike f g h (x ∷ xs) same =
    map-append f (g x) (flat_map g xs)
    ∙ ap (λ l. l ++ map f (flat_map g xs)) (same x)
    ∙ ap (λ l. map f (h x) ++ l) (flat_alike f g h xs same)
    ∙ sym (map-append f (h x) (flat_map h xs))

bound_alike : {Z : Type 0} (w : World) (f : Binding → Z) (name : Name → Bool) → ((b b' : Binding) → StandAlike name b b' → f b ≡ f b')
    → (ps : List Param) (b b' : Binding) → StandAlike name b b' → map f (bindings w ps b) ≡ map f (bindings w ps b')
bound_alike w f name each [] b b' same = ap (λ k. k ∷ []) (each b b' same)
bound_alike w f name each (p ∷ ps) b b' same =
    flat_alike f (λ o. bindings w ps ((p.name, o) ∷ b)) (λ o. bindings w ps ((p.name, o) ∷ b')) (objects_of w p)
    (λ o. bound_alike w f name each ps ((p.name, o) ∷ b) ((p.name, o) ∷ b') (alike_more name p.name o b b' same))

module _ (w : World) (n : Numbering) where
  -- ---- conditions

  mutual
    pub condition_alike : (c : Condition) (b b' : Binding) → StandAlike (λ v. names_variable v c) b b'
        → ground_condition w n c b ≡ ground_condition w n c b'
    condition_alike (condition.Atom a) b b' same = ap (atom_condition n) (atom_alike b b' a same)
    condition_alike (condition.Equal x y) b b' same =
        ap (λ k. constant n (same_name k (named b y))) (term_alike b b' x (alike_first (λ v. is_variable v x) (λ v. is_variable v y) b b' same))
        ∙ ap (λ k. constant n (same_name (named b' x) k)) (term_alike b b' y (alike_second (λ v. is_variable v x) (λ v. is_variable v y) b b' same))
    condition_alike (condition.Not' u (more_of-Condition c end_of-Condition)) b b' same = ap grounded.Not (condition_alike c b b' same)
    condition_alike (condition.All' shape cs) b b' same = ap grounded.All (conditions_alike cs b b' same)
    condition_alike (condition.Any' shape cs) b b' same = ap grounded.Any (conditions_alike cs b b' same)
    condition_alike (condition.Imply' u (more_of-Condition c end_of-Condition) u' (more_of-Condition d end_of-Condition)) b b' same =
        ap (λ k. grounded.Any (grounded.Not k ∷ ground_condition w n d b ∷ []))
        (condition_alike c b b' (alike_first (λ v. names_variable v c) (λ v. names_variable v d) b b' same))
        ∙ ap (λ k. grounded.Any (grounded.Not (ground_condition w n c b') ∷ k ∷ []))
        (condition_alike d b b' (alike_second (λ v. names_variable v c) (λ v. names_variable v d) b b' same))
    condition_alike (condition.Exists' params u (more_of-Condition c end_of-Condition)) b b' same =
        ap grounded.Any (bound_alike w (λ x. ground_condition w n c x) (λ v. names_variable v c) (λ x y s. condition_alike c x y s) params b b' same)
    condition_alike (condition.Forall' params u (more_of-Condition c end_of-Condition)) b b' same =
        ap grounded.All (bound_alike w (λ x. ground_condition w n c x) (λ v. names_variable v c) (λ x y s. condition_alike c x y s) params b b' same)

    conditions_alike : {m : _} (cs : Row_of-Condition m) (b b' : Binding) → StandAlike (λ v. each_names_variable v cs) b b'
        → ground_conditions w n cs b ≡ ground_conditions w n cs b'
    conditions_alike end_of-Condition b b' same = refl
    conditions_alike (more_of-Condition c cs) b b' same =
        ap (λ k. k ∷ ground_conditions w n cs b)
        (condition_alike c b b' (alike_first (λ v. names_variable v c) (λ v. each_names_variable v cs) b b' same))
        ∙ ap (λ l. ground_condition w n c b' ∷ l)
        (conditions_alike cs b b' (alike_second (λ v. names_variable v c) (λ v. each_names_variable v cs) b b' same))

  -- ---- choices

  mutual
    pub choices_alike : (e : Effect) (b b' : Binding) → StandAlike (λ v. effect_names v e) b b' → choices w n e b ≡ choices w n e b'
    choices_alike (Add a) b b' same = ap (λ q. literal (numbers (number_of n q)) [] ∷ []) (atom_alike b b' a same)
    choices_alike (Delete a) b b' same = ap (λ q. literal [] (numbers (number_of n q)) ∷ []) (atom_alike b b' a same)
    choices_alike (Both' shape es) b b' same = ap product_of (choices_each_alike es b b' same)
    choices_alike (Forall' params u (more_of-Effect e end_of-Effect)) b b' same =
        ap product_of (bound_alike w (λ x. choices w n e x) (λ v. effect_names v e) (λ x y s. choices_alike e x y s) params b b' same)
    choices_alike (When' c u (more_of-Effect e end_of-Effect)) b b' same =
        ap (λ k. map (guard k) (choices w n e b))
        (condition_alike c b b' (alike_first (λ v. names_variable v c) (λ v. effect_names v e) b b' same))
        ∙ ap (λ l. map (guard (ground_condition w n c b')) l)
        (choices_alike e b b' (alike_second (λ v. names_variable v c) (λ v. effect_names v e) b b' same))
    choices_alike (Chance' shape branches) b b' same =
        ap (λ l. merged (with_rest (own_den branches * inner_den w branches) l))
        (branches_alike (own_den branches) (inner_den w branches) branches b b' same)
    choices_alike (Cost amount) b b' same = refl
    choices_alike (CostOf a) b b' same = ap (λ q. charge (cost_of w q) ∷ []) (atom_alike b b' a same)

    choices_each_alike : {m : _} (es : Row_of-Effect m) (b b' : Binding) → StandAlike (λ v. each_effect_names v es) b b'
        → choices_each w n es b ≡ choices_each w n es b'
    choices_each_alike end_of-Effect b b' same = refl
    choices_each_alike (more_of-Effect e es) b b' same =
        ap (λ k. k ∷ choices_each w n es b)
        (choices_alike e b b' (alike_first (λ v. effect_names v e) (λ v. each_effect_names v es) b b' same))
        ∙ ap (λ l. choices w n e b' ∷ l)
        (choices_each_alike es b b' (alike_second (λ v. effect_names v e) (λ v. each_effect_names v es) b b' same))

    branches_alike : {m : _} (own inner : ℕ) (branches : Row_of-Branch m) (b b' : Binding) → StandAlike (λ v. branches_name v branches) b b'
        → branch_choices w n own inner branches b ≡ branch_choices w n own inner branches b'
    branches_alike own inner end_of-Branch b b' same = refl
    branches_alike own inner (more_of-Branch chance e branches) b b' same =
        ap (λ l. map (scaled (share own chance * (inner / den_of w e))) l ++ branch_choices w n own inner branches b)
        (choices_alike e b b' (alike_first (λ v. effect_names v e) (λ v. branches_name v branches) b b' same))
        ∙ ap (λ l. map (scaled (share own chance * (inner / den_of w e))) (choices w n e b') ++ l)
        (branches_alike own inner branches b b' (alike_second (λ v. effect_names v e) (λ v. branches_name v branches) b b' same))

  pub charged_alike : (e : Effect) (b b' : Binding) → StandAlike (λ v. effect_names v e) b b'
      → (base : ℕ) → charged_choices w n e b base ≡ charged_choices w n e b' base
  charged_alike e b b' same base = ap (map (charged base)) (choices_alike e b b' same)

  pub joint_alike : (e : Effect) (b b' : Binding) → StandAlike (λ v. effect_names v e) b b'
      → (base : ℕ) → joint w n e b base ≡ joint w n e b' base
  joint_alike e b b' same base =
      ap
      (λ (cs : List Choice). record {
        list = map (reduced (common_divisor (den_of w e) cs)) (map (charged base) cs);
        den = den_of w e / common_divisor (den_of w e) cs;
      })
      (choices_alike e b b' same)

  -- ---- the longest list on the way

  mutual
    pub widest_alike : (e : Effect) (b b' : Binding) → StandAlike (λ v. effect_names v e) b b' → widest w n e b ≡ widest w n e b'
    widest_alike (Add a) b b' same = refl
    widest_alike (Delete a) b b' same = refl
    widest_alike (Both' shape es) b b' same =
        ap (λ k. max k (widest_product (choices_each w n es b))) (widest_each_alike es b b' same)
        ∙ ap (λ l. max (widest_each w n es b') (widest_product l)) (choices_each_alike es b b' same)
    widest_alike (Forall' params u (more_of-Effect e end_of-Effect)) b b' same =
        ap (λ l. max (greatest l) (widest_product (map (λ x. choices w n e x) (bindings w params b))))
        (bound_alike w (λ x. widest w n e x) (λ v. effect_names v e) (λ x y s. widest_alike e x y s) params b b' same)
        ∙ ap (λ l. max (greatest (map (λ x. widest w n e x) (bindings w params b'))) (widest_product l))
        (bound_alike w (λ x. choices w n e x) (λ v. effect_names v e) (λ x y s. choices_alike e x y s) params b b' same)
    widest_alike (When' c u (more_of-Effect e end_of-Effect)) b b' same =
        widest_alike e b b' (alike_second (λ v. names_variable v c) (λ v. effect_names v e) b b' same)
    widest_alike (Chance' shape branches) b b' same =
        ap (λ k. max k (length (choices w n (Chance' shape branches) b))) (widest_branches_alike branches b b' same)
        ∙ ap (λ l. max (widest_branches w n branches b') (length l)) (choices_alike (Chance' shape branches) b b' same)
    widest_alike (Cost amount) b b' same = refl
    widest_alike (CostOf a) b b' same = refl

    widest_each_alike : {m : _} (es : Row_of-Effect m) (b b' : Binding) → StandAlike (λ v. each_effect_names v es) b b'
        → widest_each w n es b ≡ widest_each w n es b'
    widest_each_alike end_of-Effect b b' same = refl
    widest_each_alike (more_of-Effect e es) b b' same =
        ap (λ k. max k (widest_each w n es b))
        (widest_alike e b b' (alike_first (λ v. effect_names v e) (λ v. each_effect_names v es) b b' same))
        ∙ ap (λ k. max (widest w n e b') k)
        (widest_each_alike es b b' (alike_second (λ v. effect_names v e) (λ v. each_effect_names v es) b b' same))

    widest_branches_alike : {m : _} (branches : Row_of-Branch m) (b b' : Binding) → StandAlike (λ v. branches_name v branches) b b'
        → widest_branches w n branches b ≡ widest_branches w n branches b'
    widest_branches_alike end_of-Branch b b' same = refl
    widest_branches_alike (more_of-Branch chance e branches) b b' same =
        ap (λ k. max k (widest_branches w n branches b))
        (widest_alike e b b' (alike_first (λ v. effect_names v e) (λ v. branches_name v branches) b b' same))
        ∙ ap (λ k. max (widest w n e b') k)
        (widest_branches_alike branches b b' (alike_second (λ v. effect_names v e) (λ v. branches_name v branches) b b' same))
