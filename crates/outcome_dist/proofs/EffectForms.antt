-- The choices of effects that are built from their parts, and how large effects are.
use Rattle.std.proofs.Common.{◌≡◌, ℕ, zero, suc, ◌+◌, ◌*◌, ◌<◌, ◌≤◌, ◌-◌, max, List, [], ◌∷◌, ◌++◌, length, map, take, drop, get_or, refl, sym, ap, ◌∙◌, arith}
use Rattle.std.specs.Prelude.{flat_map, IfOk, Result, Ok, Err}
use denote.Hole.Carrier.{hidden}
use Rattle.exact_fraction.specs.Divisors.{lcm_of, common_multiple}
use Rattle.plain_list.specs.weighted.Mean.{total}
use Rattle.ppddl_model.specs.declared.tree.Branch.{Branch}
use Rattle.ppddl_model.specs.declared.tree.Condition.{Condition}
use Rattle.ppddl_model.specs.declared.tree.Effect.{Effect, Row_of-Effect, end_of-Effect, more_of-Effect, items-the_row-Effect, items_hidden-the_row-Effect-0}
use Rattle.ppddl_model.specs.declared.tree.Effect.{Row_of-Branch, end_of-Branch, more_of-Branch, items-the_row-Branch, items_hidden-the_row-Branch-2}
use Rattle.ppddl_model.specs.declared.tree.Effect.TheBlock.{hidden-the_row-Effect-0, shape-the_row-Effect-1, hidden-the_row-Effect-1, hidden-the_row-Branch-2}
use Rattle.ppddl_model.specs.declared.tree.Effect.TheVariants as effect
use Rattle.ppddl_model.specs.declared.tree.Param.{Param}
use Rattle.ppddl_model.specs.Objects.{World, Binding, objects_of, bindings}
use Rattle.ground_model.specs.declared.action.Choice.{Choice}
use Rattle.ground_meaning.specs.choices.Numbering.{Numbering, ground_condition}
use Rattle.ground_meaning.specs.choices.Joint.{idle, guard, product_with, choices, choices_each, branch_choices, own_den, inner_den, dens_of, den_of, merged, with_rest}
use Rattle.ground_meaning.specs.choices.Limits.{widest, widest_each, widest_branches, widest_with, greatest}
use Rattle.ppddl_model.specs.declared.tree.ValueItem.{ValueItem}
use Rattle.ground_terms.specs.sizes.Valued.{with_values}
use Rattle.ground_terms.proofs.lemmas.sizes.Forgetting.{den_forgets}
use Rattle.outcome_dist.specs.Draws.{drawn, width, own_of, inner_of, branch_drawn, branches_drawn, branches_width}

module _ (w : World) (n : Numbering) where
  each_row : {m : _} (row : Row_of-Effect m) (b : Binding)
      → choices_each w n row b ≡ map (λ (e : Effect). choices w n e b) (items-the_row-Effect m row)
  each_row end_of-Effect b = refl
  each_row (more_of-Effect e es) b = ap (λ l. choices w n e b ∷ l) (each_row es b)

  wide_row : {m : _} (row : Row_of-Effect m) (b : Binding)
      → widest_each w n row b ≡ greatest (map (λ (e : Effect). widest w n e b) (items-the_row-Effect m row))
  wide_row end_of-Effect b = refl
  wide_row (more_of-Effect e es) b = ap (max (widest w n e b)) (wide_row es b)

  abbrev pub ch : Binding → Effect → List Choice
  ch b e = choices w n e b

  abbrev pub wi : Binding → Effect → ℕ
  wi b e = widest w n e b

  pub choices-Both : (whole : Effect) (es parts : List Effect) (b : Binding) → whole ≡ effect.Both es → parts ≡ es
      → drawn (idle 1 ∷ []) (ch b) parts ≡ choices w n whole b
  choices-Both whole es parts b is same =
      ap (drawn (idle 1 ∷ []) (ch b)) (same ∙ sym (items_hidden-the_row-Effect-0 es))
      ∙ ap (product_with (idle 1 ∷ [])) (sym (each_row (hidden-the_row-Effect-0 es) b))
      ∙ ap (λ e. choices w n e b) (sym is)

  pub width-Both : (whole : Effect) (es parts : List Effect) (b : Binding) → whole ≡ effect.Both es → parts ≡ es
      → width (idle 1 ∷ []) (ch b) (wi b) parts ≡ widest w n whole b
  width-Both whole es parts b is same =
      ap (width (idle 1 ∷ []) (ch b) (wi b)) (same ∙ sym (items_hidden-the_row-Effect-0 es))
      ∙ (λ i. max (sym (wide_row (hidden-the_row-Effect-0 es) b) i) (widest_with (idle 1 ∷ []) (sym (each_row (hidden-the_row-Effect-0 es) b) i)))
      ∙ ap (λ e. widest w n e b) (sym is)

  for_choices : (ps : List Param) (e : Effect) (b : Binding) → drawn (idle 1 ∷ []) (choices w n e) (bindings w ps b) ≡ choices w n (effect.Forall ps e) b
  unfolding shape-the_row-Effect-1 hidden-the_row-Effect-1 hidden
  for_choices ps e b = refl

  for_width : (ps : List Param) (e : Effect) (b : Binding)
      → width (idle 1 ∷ []) (choices w n e) (widest w n e) (bindings w ps b) ≡ widest w n (effect.Forall ps e) b
  unfolding shape-the_row-Effect-1 hidden-the_row-Effect-1 hidden
  for_width ps e b = refl

  pub choices-Forall : (whole e e' : Effect) (ps qs : List Param) (b : Binding) → whole ≡ effect.Forall ps e → e' ≡ e → qs ≡ ps
      → drawn (idle 1 ∷ []) (choices w n e') (bindings w qs b) ≡ choices w n whole b
  choices-Forall whole e e' ps qs b is inner variables =
      (λ i. drawn (idle 1 ∷ []) (choices w n (inner i)) (bindings w (variables i) b)) ∙ for_choices ps e b ∙ ap (λ k. choices w n k b) (sym is)

  pub width-Forall : (whole e e' : Effect) (ps qs : List Param) (b : Binding) → whole ≡ effect.Forall ps e → e' ≡ e → qs ≡ ps
      → width (idle 1 ∷ []) (choices w n e') (widest w n e') (bindings w qs b) ≡ widest w n whole b
  width-Forall whole e e' ps qs b is inner variables =
      (λ i. width (idle 1 ∷ []) (choices w n (inner i)) (widest w n (inner i)) (bindings w (variables i) b)) ∙ for_width ps e b
      ∙ ap (λ k. widest w n k b) (sym is)

  when_choices : (c : Condition) (e : Effect) (b : Binding) → map (guard (ground_condition w n c b)) (choices w n e b) ≡ choices w n (effect.When c e) b
  unfolding shape-the_row-Effect-1 hidden-the_row-Effect-1 hidden
  when_choices c e b = refl

  when_width : (c : Condition) (e : Effect) (b : Binding) → widest w n e b ≡ widest w n (effect.When c e) b
  unfolding shape-the_row-Effect-1 hidden-the_row-Effect-1 hidden
  when_width c e b = refl

  pub choices-When : (whole e : Effect) (c : Condition) (b : Binding) → whole ≡ effect.When c e
      → map (guard (ground_condition w n c b)) (choices w n e b) ≡ choices w n whole b
  choices-When whole e c b is = when_choices c e b ∙ ap (λ k. choices w n k b) (sym is)

  pub width-When : (whole e e' : Effect) (c : Condition) (b : Binding) → whole ≡ effect.When c e → e' ≡ e → widest w n e' b ≡ widest w n whole b
  width-When whole e e' c b is same = ap (λ k. widest w n k b) same ∙ when_width c e b ∙ ap (λ k. widest w n k b) (sym is)

  own_row : {m : _} (row : Row_of-Branch m) → own_den row ≡ own_of (items-the_row-Branch m row)
  own_row end_of-Branch = refl
  own_row (more_of-Branch chance e branches) = ap (lcm_of chance.den) (own_row branches)

  dens_row : {m : _} (row : Row_of-Branch m) → dens_of w row ≡ map (λ (x : Branch). den_of w x.effect) (items-the_row-Branch m row)
  dens_row end_of-Branch = refl
  dens_row (more_of-Branch chance e branches) = ap (λ l. den_of w e ∷ l) (dens_row branches)

  branch_row : {m : _} (own inner : ℕ) (row : Row_of-Branch m) (b : Binding)
      → branch_choices w n own inner row b ≡ flat_map (branch_drawn w n own inner b) (items-the_row-Branch m row)
  branch_row own inner end_of-Branch b = refl
  branch_row own inner (more_of-Branch chance e branches) b =
      ap (λ l. branch_drawn w n own inner b (record { chance = chance; effect = e }) ++ l) (branch_row own inner branches b)

  wide_branch_row : {m : _} (row : Row_of-Branch m) (b : Binding)
      → widest_branches w n row b ≡ greatest (map (λ (x : Branch). widest w n x.effect b) (items-the_row-Branch m row))
  wide_branch_row end_of-Branch b = refl
  wide_branch_row (more_of-Branch chance e branches) b = ap (max (widest w n e b)) (wide_branch_row branches b)

  abbrev whole_row : {m : _} → ℕ → ℕ → Row_of-Branch m → Binding → List Choice
  whole_row own inner row b = merged (with_rest (own * inner) (branch_choices w n own inner row b))

  drawn_row : {m : _} (row : Row_of-Branch m) (b : Binding)
      → whole_row (own_den row) (inner_den w row) row b ≡ branches_drawn w n (items-the_row-Branch m row) b
  drawn_row row b =
      (λ i. whole_row (own_row row i) (ap common_multiple (dens_row row) i) row b)
      ∙ ap (λ l. merged (with_rest (own_of (items-the_row-Branch _ row) * inner_of w (items-the_row-Branch _ row)) l))
      (branch_row (own_of (items-the_row-Branch _ row)) (inner_of w (items-the_row-Branch _ row)) row b)

  pub choices-Chance : (whole : Effect) (branches parts : List Branch) (b : Binding) → whole ≡ effect.Chance branches → parts ≡ branches
      → branches_drawn w n parts b ≡ choices w n whole b
  choices-Chance whole branches parts b is same =
      ap (λ l. branches_drawn w n l b) (same ∙ sym (items_hidden-the_row-Branch-2 branches)) ∙ sym (drawn_row (hidden-the_row-Branch-2 branches) b)
      ∙ ap (λ e. choices w n e b) (sym is)

  pub width-Chance : (whole : Effect) (branches parts : List Branch) (b : Binding) → whole ≡ effect.Chance branches → parts ≡ branches
      → branches_width w n parts b ≡ widest w n whole b
  width-Chance whole branches parts b is same =
      ap (λ l. branches_width w n l b) (same ∙ sym (items_hidden-the_row-Branch-2 branches))
      ∙ (λ i. max (sym (wide_branch_row (hidden-the_row-Branch-2 branches) b) i) (length (sym (drawn_row (hidden-the_row-Branch-2 branches) b) i)))
      ∙ ap (λ e. widest w n e b) (sym is)

-- ---- bindings

pub first_variable : (w : World) (ps : List Param) (p : Param) (b : Binding) → (length ps ≡ 0 → ⊥) → p ≡ get_or ps 0 p
    → bindings w ps b ≡ flat_map (λ o. bindings w (drop 1 ps) ((p.name, o) ∷ b)) (objects_of w p)
first_variable w [] p b some is = absurd (some refl)
first_variable w (q ∷ ps) p b some is = ap (λ (r : Param). bindings w (r ∷ ps) b) (sym is)

pub no_variable : (w : World) (ps : List Param) (b : Binding) → length ps ≡ 0 → b ∷ [] ≡ bindings w ps b
no_variable w [] b none = refl
no_variable w (q ∷ ps) b none = absurd (omega (arith, none))

pub flat-map : {X Y Z : Type 0} (f : Y → List Z) (g : X → Y) (xs : List X) → flat_map (λ x. f (g x)) xs ≡ flat_map f (map g xs)
flat-map f g [] = refl
flat-map f g (x ∷ xs) = ap (λ l. f (g x) ++ l) (flat-map f g xs)

take-all : {X : Type 0} (i : ℕ) (xs : List X) → length xs ≤ i → take i xs ≡ xs
take-all zero [] short = refl
take-all (suc i) [] short = refl
take-all zero (x ∷ xs) short = absurd (omega arith)
take-all (suc i) (x ∷ xs) short = ap (λ l. x ∷ l) (take-all i xs (omega arith))

pub tail_is : {X : Type 0} (xs : List X) → take (length xs - 1) (drop 1 xs) ≡ drop 1 xs
tail_is [] = refl
tail_is (x ∷ xs) = take-all (length (x ∷ xs) - 1) xs (omega arith)

-- ---- how large an effect is, so that recursions end

abbrev mutual
  pub mass : Effect → ℕ
  mass (effect.Both' shape es) = 1 + masses es
  mass (effect.Forall' ps u es) = 1 + length ps + masses es
  mass (effect.When' c u es) = 1 + masses es
  mass (effect.Chance' shape branches) = 1 + branch_masses branches
  mass _ = 1

  pub masses : {n : _} → Row_of-Effect n → ℕ
  masses end_of-Effect = 0
  masses (more_of-Effect e es) = mass e + masses es

  pub branch_masses : {n : _} → Row_of-Branch n → ℕ
  branch_masses end_of-Branch = 0
  branch_masses (more_of-Branch chance e branches) = mass e + branch_masses branches

masses_row : {n : _} (row : Row_of-Effect n) → masses row ≡ total mass (items-the_row-Effect n row)
masses_row end_of-Effect = refl
masses_row (more_of-Effect e es) = ap (λ k. mass e + k) (masses_row es)

abbrev pub branch_mass : Branch → ℕ
branch_mass x = mass x.effect

branch_masses_row : {n : _} (row : Row_of-Branch n) → branch_masses row ≡ total branch_mass (items-the_row-Branch n row)
branch_masses_row end_of-Branch = refl
branch_masses_row (more_of-Branch chance e branches) = ap (λ k. mass e + k) (branch_masses_row branches)

pub mass-Both : (es : List Effect) → mass (effect.Both es) ≡ 1 + total mass es
mass-Both es = ap (λ k. 1 + k) (masses_row (hidden-the_row-Effect-0 es) ∙ ap (total mass) (items_hidden-the_row-Effect-0 es))

pub mass-Chance : (branches : List Branch) → mass (effect.Chance branches) ≡ 1 + total branch_mass branches
mass-Chance branches =
    ap (λ k. 1 + k) (branch_masses_row (hidden-the_row-Branch-2 branches) ∙ ap (total branch_mass) (items_hidden-the_row-Branch-2 branches))

pub mass-Forall : (ps : List Param) (e : Effect) → mass (effect.Forall ps e) ≡ 1 + length ps + (mass e + 0)
unfolding shape-the_row-Effect-1 hidden-the_row-Effect-1 hidden
mass-Forall ps e = refl

pub mass-When : (c : Condition) (e : Effect) → mass (effect.When c e) ≡ 1 + (mass e + 0)
unfolding shape-the_row-Effect-1 hidden-the_row-Effect-1 hidden
mass-When c e = refl

pub part-within : {X : Type 0} (f : X → ℕ) (xs : List X) (i : ℕ) (d : X) → i < length xs → f (get_or xs i d) ≤ total f xs
part-within f [] i d within = absurd (omega arith)
part-within f (x ∷ xs) zero d within = omega arith
part-within f (x ∷ xs) (suc i) d within = let later = part-within f xs i d (omega arith) in omega (arith, later)

pub drop-all : {X : Type 0} (i : ℕ) (xs : List X) → length xs ≤ i → drop i xs ≡ []
drop-all zero [] short = refl
drop-all (suc i) [] short = refl
drop-all zero (x ∷ xs) short = absurd (omega arith)
drop-all (suc i) (x ∷ xs) short = drop-all i xs (omega arith)

pub ok_always : {X E : Type 0} (A : Type 0) → A → (r : Result X E) → IfOk r (λ _. A)
ok_always A a (Ok x) = a
ok_always A a (Err e) = tt

-- ---- denominators do not depend on the values of functions

pub den_same : (w : World) (values : List ValueItem) (e : Effect) → den_of w e ≡ den_of (with_values w values) e
den_same w values e = sym (den_forgets w values e)

pub inner_forgets : (w : World) (values : List ValueItem) (branches : List Branch) → inner_of w branches ≡ inner_of (with_values w values) branches
inner_forgets w values branches = ap common_multiple (each branches)
  where
    each : (xs : List Branch) → map (λ (x : Branch). den_of w x.effect) xs ≡ map (λ (x : Branch). den_of (with_values w values) x.effect) xs
    each [] = refl
    each (x ∷ xs) = λ i. den_same w values x.effect i ∷ each xs i
