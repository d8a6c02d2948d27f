-- Sizes of conditions and effects that are built from their parts.
use Rattle.std.proofs.Common.{◌≡◌, ◌+◌, ◌*◌, List, [], length, ◌⊎◌, inl, inr, add-zero, refl, sym, ap, ◌∙◌, arith}
use denote.Hole.Carrier.{hidden}
use Rattle.plain_list.specs.weighted.Mean.{total}
use Rattle.ppddl_model.specs.declared.tree.Condition.{Condition, Row_of-Condition, end_of-Condition, more_of-Condition, items-the_row-Condition, items_hidden-the_row-Condition-1}
use Rattle.ppddl_model.specs.declared.tree.Condition.TheBlock.{shape-the_row-Condition-0, hidden-the_row-Condition-0, hidden-the_row-Condition-1}
use Rattle.ppddl_model.specs.declared.tree.Condition.TheVariants as condition
use Rattle.ppddl_model.specs.declared.tree.Branch.{Branch}
use Rattle.ppddl_model.specs.declared.tree.Effect.{Effect, Row_of-Effect, end_of-Effect, more_of-Effect, items-the_row-Effect, items_hidden-the_row-Effect-0}
use Rattle.ppddl_model.specs.declared.tree.Effect.{Row_of-Branch, end_of-Branch, more_of-Branch, items-the_row-Branch, items_hidden-the_row-Branch-2}
use Rattle.ppddl_model.specs.declared.tree.Effect.TheBlock.{hidden-the_row-Effect-0, hidden-the_row-Effect-1, hidden-the_row-Branch-2}
use Rattle.ppddl_model.specs.declared.tree.Effect.TheVariants as effect
use Rattle.ppddl_model.specs.declared.tree.Param.{Param}
use Rattle.ppddl_model.specs.Objects.{World, bindings}
use Rattle.ground_terms.specs.sizes.Counted.{counted}
use Rattle.ground_meaning.specs.choices.Limits.{condition_size, conditions_size, effect_size, effects_size, branches_size}

module _ (w : World) where
  sizes_row : {n : _} (row : Row_of-Condition n) → conditions_size w row ≡ total (condition_size w) (items-the_row-Condition n row)
  sizes_row end_of-Condition = refl
  sizes_row (more_of-Condition c cs) = ap (λ k. condition_size w c + k) (sizes_row cs)

pub size-All : (w : World) (cs : List Condition) → condition_size w (condition.All cs) ≡ 1 + total (condition_size w) cs
size-All w cs = ap (λ k. 1 + k) (sizes_row w (hidden-the_row-Condition-1 cs) ∙ ap (total (condition_size w)) (items_hidden-the_row-Condition-1 cs))

pub size-Any : (w : World) (cs : List Condition) → condition_size w (condition.Any cs) ≡ 1 + total (condition_size w) cs
size-Any w cs = ap (λ k. 1 + k) (sizes_row w (hidden-the_row-Condition-1 cs) ∙ ap (total (condition_size w)) (items_hidden-the_row-Condition-1 cs))

pub size-Not : (w : World) (c : Condition) → condition_size w (condition.Not c) ≡ 1 + (condition_size w c + 0)
unfolding shape-the_row-Condition-0 hidden-the_row-Condition-0 hidden
size-Not w c = refl

imply : (w : World) (c d : Condition) → condition_size w (condition.Imply c d) ≡ 1 + (condition_size w c + 0) + (condition_size w d + 0)
unfolding shape-the_row-Condition-0 hidden-the_row-Condition-0 hidden
imply w c d = refl

exists : (w : World) (ps : List Param) (c : Condition) → condition_size w (condition.Exists ps c) ≡ 1 + length (bindings w ps []) * (condition_size w c + 0)
unfolding shape-the_row-Condition-0 hidden-the_row-Condition-0 hidden
exists w ps c = refl

forall : (w : World) (ps : List Param) (c : Condition) → condition_size w (condition.Forall ps c) ≡ 1 + length (bindings w ps []) * (condition_size w c + 0)
unfolding shape-the_row-Condition-0 hidden-the_row-Condition-0 hidden
forall w ps c = refl

pub size-Imply : (w : World) (whole c d c' d' : Condition) → whole ≡ condition.Imply c d → c' ≡ c → d' ≡ d
    → condition_size w whole ≡ 1 + condition_size w c' + condition_size w d'
size-Imply w whole c d c' d' is first second =
    let one : condition_size w c' ≡ condition_size w c = ap (condition_size w) first in
    let two : condition_size w d' ≡ condition_size w d = ap (condition_size w) second in
    let all : condition_size w whole ≡ 1 + (condition_size w c + 0) + (condition_size w d + 0) = ap (condition_size w) is ∙ imply w c d in
    omega (arith, one, two, all)

quantified : (w : World) (whole c c' : Condition) (ps qs : List Param) → c' ≡ c → qs ≡ ps
    → condition_size w whole ≡ 1 + length (bindings w ps []) * (condition_size w c + 0)
    → condition_size w whole ≡ 1 + length (bindings w qs []) * condition_size w c'
quantified w whole c c' ps qs inner variables is =
    is ∙ ap (λ k. 1 + length (bindings w ps []) * k) (add-zero (condition_size w c) ∙ sym (ap (condition_size w) inner))
    ∙ ap (λ k. 1 + length (bindings w k []) * condition_size w c') (sym variables)

pub size-Quantified : (w : World) (whole c c' : Condition) (ps qs : List Param)
    → (whole ≡ condition.Exists ps c) ⊎ (whole ≡ condition.Forall ps c) → c' ≡ c → qs ≡ ps
    → condition_size w whole ≡ 1 + length (bindings w qs []) * condition_size w c'
size-Quantified w whole c c' ps qs (inl is) inner variables =
    quantified w whole c c' ps qs inner variables (ap (condition_size w) is ∙ exists w ps c)
size-Quantified w whole c c' ps qs (inr is) inner variables =
    quantified w whole c c' ps qs inner variables (ap (condition_size w) is ∙ forall w ps c)

pub ruleset condition_sizes = (size-All, size-Any, size-Not)

-- ---- effects

module _ (w : World) where
  effects_row : {n : _} (row : Row_of-Effect n) → effects_size w row ≡ total (effect_size w) (items-the_row-Effect n row)
  effects_row end_of-Effect = refl
  effects_row (more_of-Effect e es) = ap (λ k. effect_size w e + k) (effects_row es)

  branches_row : {n : _} (row : Row_of-Branch n) → branches_size w row ≡ total (λ (x : Branch). effect_size w x.effect) (items-the_row-Branch n row)
  branches_row end_of-Branch = refl
  branches_row (more_of-Branch chance e branches) = ap (λ k. effect_size w e + k) (branches_row branches)

pub size-Both : (w : World) (es : List Effect) → effect_size w (effect.Both es) ≡ 1 + total (effect_size w) es
size-Both w es = ap (λ k. 1 + k) (effects_row w (hidden-the_row-Effect-0 es) ∙ ap (total (effect_size w)) (items_hidden-the_row-Effect-0 es))

pub size-Chance : (w : World) (branches : List Branch)
    → effect_size w (effect.Chance branches) ≡ 1 + total (λ (x : Branch). effect_size w x.effect) branches
size-Chance w branches =
    ap (λ k. 1 + k) (branches_row w (hidden-the_row-Branch-2 branches) ∙ ap (total (λ (x : Branch). effect_size w x.effect)) (items_hidden-the_row-Branch-2 branches))

for_each : (w : World) (ps : List Param) (e : Effect) → effect_size w (effect.Forall ps e) ≡ 1 + length (bindings w ps []) * (effect_size w e + 0)
unfolding hidden-the_row-Effect-1 hidden
for_each w ps e = refl

under : (w : World) (c : Condition) (e : Effect) → effect_size w (effect.When c e) ≡ 1 + condition_size w c + (effect_size w e + 0)
unfolding hidden-the_row-Effect-1 hidden
under w c e = refl

pub size-For : (w : World) (whole e e' : Effect) (ps qs : List Param) → whole ≡ effect.Forall ps e → e' ≡ e → qs ≡ ps
    → effect_size w whole ≡ 1 + length (bindings w qs []) * effect_size w e'
size-For w whole e e' ps qs is inner variables =
    ap (effect_size w) is ∙ for_each w ps e
    ∙ ap (λ k. 1 + length (bindings w ps []) * k) (add-zero (effect_size w e) ∙ sym (ap (effect_size w) inner))
    ∙ ap (λ k. 1 + length (bindings w k []) * effect_size w e') (sym variables)

pub size-When : (w : World) (whole : Effect) (c : Condition) (e e' : Effect) → whole ≡ effect.When c e → e' ≡ e
    → effect_size w whole ≡ 1 + condition_size w c + effect_size w e'
size-When w whole c e e' is inner =
    let same : effect_size w e' ≡ effect_size w e = ap (effect_size w) inner in
    let all : effect_size w whole ≡ 1 + condition_size w c + (effect_size w e + 0) = ap (effect_size w) is ∙ under w c e in
    omega (arith, same, all)

pub begun-Both : (w : World) (whole : Effect) (es parts : List Effect) → whole ≡ effect.Both es → parts ≡ es
    → counted (1 + total (effect_size w) parts) ≡ counted (effect_size w whole)
begun-Both w whole es parts is same =
    ap (λ l. counted (1 + total (effect_size w) l)) same ∙ ap counted (sym (ap (effect_size w) is ∙ size-Both w es))

pub begun-Chance : (w : World) (whole : Effect) (branches parts : List Branch) → whole ≡ effect.Chance branches → parts ≡ branches
    → counted (1 + total (λ (x : Branch). effect_size w x.effect) parts) ≡ counted (effect_size w whole)
begun-Chance w whole branches parts is same =
    ap (λ l. counted (1 + total (λ (x : Branch). effect_size w x.effect) l)) same ∙ ap counted (sym (ap (effect_size w) is ∙ size-Chance w branches))
