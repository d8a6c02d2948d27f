-- Effects, form by form: the tree, or the first fault.
-- Sources: PDDL 2.1 (Fox and Long 2003) for conditional effects, PPDDL 1.0 for chances and rewards.
--     effect_head w          what a group is that begins with the word w
--     effect d s f           one effect
--     effect_in d s          what stands in a group that is one
--     deletion, effects, for_all, conditional, branches
--                            what stands behind the head
use Rattle.std.specs.Prelude.{ℕ, List, [], ◌∷◌, ◌++◌, map, Bool, ◌||◌, if◌then◌else◌, Result, Ok}
use Rattle.plain_list.specs.Results.{◌>>=◌}
use Rattle.exact_fraction.specs.declared.fraction.Fraction.{Fraction}
use Rattle.ppddl_lex.specs.declared.keywords.TheConstants.{NOT, AND, FORALL, WHEN, PROBABILISTIC, DECREASE, INCREASE, ASSIGN, SCALE_UP, SCALE_DOWN}
use Rattle.ppddl_model.specs.declared.refusal.TextCode.TheVariants.{Expected, Unsupported}
use Rattle.ppddl_model.specs.declared.tree.Branch.{Branch}
use Rattle.ppddl_model.specs.declared.tree.Condition.{Condition}
use Rattle.ppddl_model.specs.declared.tree.Effect.{Effect}
use Rattle.ppddl_model.specs.declared.tree.Effect.TheVariants as tree
use Rattle.ppddl_model.specs.declared.tree.Param.{Param}
use Rattle.ppddl_forms.specs.names.Declarations.{Declared}
use Rattle.ppddl_cursor.specs.declared.place.Place.{Place}
use Rattle.ppddl_cursor.specs.Ahead.{same}
use Rattle.ppddl_cursor.specs.Forms.{Form, Forms, lone, group, none, more}
use Rattle.ppddl_cursor.specs.Reading.{Fault, fails, ends}
use Rattle.ppddl_cursor.specs.Sequences.{one_then, last}
use Rattle.ppddl_forms.specs.declared.effect_head.EffectHead.{EffectHead}
use Rattle.ppddl_forms.specs.declared.effect_head.EffectHead.TheVariants as head
use Rattle.ppddl_forms.specs.Chances.{next_chance}
use Rattle.ppddl_forms.specs.Conditions.{condition}
use Rattle.ppddl_forms.specs.Costs.{cost}
use Rattle.ppddl_forms.specs.Terms.{Scope, atom, atom_in}
use Rattle.ppddl_forms.specs.Variables.{variable_list}

abbrev pub is_unsupported : List ℕ → Bool
is_unsupported w = same w INCREASE.now || same w ASSIGN.now || same w SCALE_UP.now || same w SCALE_DOWN.now

abbrev pub effect_head : List ℕ → EffectHead
effect_head w =
    if same w NOT.now then head.Not
    else if same w AND.now then head.And
    else if same w FORALL.now then head.Forall
    else if same w WHEN.now then head.When
    else if same w PROBABILISTIC.now then head.Probabilistic
    else if same w DECREASE.now then head.Decrease
    else if is_unsupported w then head.Unsupported
    else head.Predicate

abbrev pub chances_of : List Branch → List Fraction
chances_of = map (λ (branch : Branch). branch.chance)

module _ (d : Declared) where
  -- ATOM )
  unfoldable pub deletion : Scope → Forms → Place → Result Effect Fault
  deletion s = one_then (atom d s) (λ x. last (tree.Delete x))

  unfoldable mutual
    pub effect : Scope → Form → Result Effect Fault
    effect s (lone w a) = fails Expected a
    effect s (group a fs b) = effect_in s fs b

    -- `( )` does nothing
    pub effect_in : Scope → Forms → Place → Result Effect Fault
    effect_in s none b = Ok (tree.Both [])
    effect_in s (more (group a gs c) fs) b = fails Expected a
    effect_in s (more (lone w a) fs) b = elim (effect_head w) [
      | head.Not ↦ deletion s fs b
      | head.And ↦ effects s fs b >>= λ es. Ok (tree.Both es)
      | head.Forall ↦ for_all s fs b
      | head.When ↦ conditional s fs b
      | head.Probabilistic ↦ branches s [] fs b >>= λ bs. Ok (tree.Chance bs)
      | head.Decrease ↦ cost d s fs b
      | head.Unsupported ↦ fails Unsupported a
      | head.Predicate ↦ atom_in d s (more (lone w a) fs) b >>= λ x. Ok (tree.Add x)
    ]

    -- EFFECT* )
    pub effects : Scope → Forms → Place → Result (List Effect) Fault
    effects s none b = Ok []
    effects s (more f fs) b = effect s f >>= λ e. effects s fs b >>= λ es. Ok (e ∷ es)

    -- ( VARIABLES ) EFFECT )
    pub for_all : Scope → Forms → Place → Result Effect Fault
    for_all s none b = fails Expected b
    for_all s (more f fs) b = variable_list d f >>= λ params. for_each s params fs b

    pub for_each : Scope → List Param → Forms → Place → Result Effect Fault
    for_each s params none b = fails Expected b
    for_each s params (more f fs) b = effect (params ∷ s) f >>= λ e. ends fs b >>= λ u. Ok (tree.Forall params e)

    -- CONDITION EFFECT )
    pub conditional : Scope → Forms → Place → Result Effect Fault
    conditional s none b = fails Expected b
    conditional s (more f fs) b = condition d s f >>= λ c. guarded s c fs b

    pub guarded : Scope → Condition → Forms → Place → Result Effect Fault
    guarded s c none b = fails Expected b
    guarded s c (more f fs) b = effect s f >>= λ e. ends fs b >>= λ u. Ok (tree.When c e)

    -- `PROBABILITY EFFECT` any number of times, and `)`, behind the branches seen
    pub branches : Scope → List Branch → Forms → Place → Result (List Branch) Fault
    branches s seen none b = Ok seen
    branches s seen (more f fs) b = next_chance (chances_of seen) f >>= λ p. branch s seen p fs b

    pub branch : Scope → List Branch → Fraction → Forms → Place → Result (List Branch) Fault
    branch s seen p none b = fails Expected b
    branch s seen p (more f fs) b = effect s f >>= λ e. branches s (seen ++ record { chance = p; effect = e } ∷ []) fs b
