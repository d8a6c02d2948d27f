-- Conditions, form by form: the tree, or the first fault.
-- Source: PDDL 2.1 (Fox and Long 2003).
--     condition_head w         what a group is that begins with the word w
--     condition d s f          one condition
--     condition_in d s         what stands in a group that is one
--     negation, conditions, implication, quantified, equality
--                              what stands behind the head
use Rattle.std.specs.Prelude.{ℕ, List, [], ◌∷◌, Bool, ◌||◌, if◌then◌else◌, Result, Ok}
use Rattle.plain_list.specs.Results.{◌>>=◌}
use Rattle.ppddl_lex.specs.declared.keywords.TheConstants.{NOT, AND, OR, IMPLY, EXISTS, FORALL}
use Rattle.ppddl_model.specs.declared.refusal.TextCode.TheVariants.{Expected, Unsupported}
use Rattle.ppddl_model.specs.declared.tree.Condition.{Condition}
use Rattle.ppddl_model.specs.declared.tree.Condition.TheVariants as tree
use Rattle.ppddl_model.specs.declared.tree.Param.{Param}
use Rattle.ppddl_forms.specs.names.Declarations.{Declared}
use Rattle.ppddl_cursor.specs.declared.place.Place.{Place}
use Rattle.ppddl_cursor.specs.Ahead.{same}
use Rattle.ppddl_cursor.specs.Forms.{Form, Forms, lone, group, none, more}
use Rattle.ppddl_cursor.specs.Reading.{Fault, fails, ends}
use Rattle.ppddl_cursor.specs.Sequences.{one_then, last}
use Rattle.ppddl_forms.specs.declared.condition_head.ConditionHead.{ConditionHead}
use Rattle.ppddl_forms.specs.declared.condition_head.ConditionHead.TheVariants as head
use Rattle.ppddl_forms.specs.declared.symbols.TheConstants.{EQUAL, LESS, AT_MOST, GREATER, AT_LEAST}
use Rattle.ppddl_forms.specs.Terms.{Scope, term, atom_in}
use Rattle.ppddl_forms.specs.Variables.{variable_list}

abbrev pub is_comparison : List ℕ → Bool
is_comparison w = same w LESS.now || same w AT_MOST.now || same w GREATER.now || same w AT_LEAST.now

abbrev pub condition_head : List ℕ → ConditionHead
condition_head w =
    if same w NOT.now then head.Not
    else if same w AND.now then head.And
    else if same w OR.now then head.Or
    else if same w IMPLY.now then head.Imply
    else if same w EXISTS.now then head.Exists
    else if same w FORALL.now then head.Forall
    else if same w EQUAL.now then head.Equal
    else if is_comparison w then head.Comparison
    else head.Predicate

module _ (d : Declared) where
  -- TERM TERM )
  unfoldable pub equality : Scope → Forms → Place → Result Condition Fault
  equality s = one_then (term d s) (λ x. one_then (term d s) (λ y. last (tree.Equal x y)))

  unfoldable mutual
    pub condition : Scope → Form → Result Condition Fault
    condition s (lone w a) = fails Expected a
    condition s (group a fs b) = condition_in s fs b

    -- `( )` is true
    pub condition_in : Scope → Forms → Place → Result Condition Fault
    condition_in s none b = Ok (tree.All [])
    condition_in s (more (group a gs c) fs) b = fails Expected a
    condition_in s (more (lone w a) fs) b = elim (condition_head w) [
      | head.Not ↦ negation s fs b
      | head.And ↦ conditions s fs b >>= λ cs. Ok (tree.All cs)
      | head.Or ↦ conditions s fs b >>= λ cs. Ok (tree.Any cs)
      | head.Imply ↦ implication s fs b
      | head.Exists ↦ quantified s fs b >>= λ q. Ok (tree.Exists q.0 q.1)
      | head.Forall ↦ quantified s fs b >>= λ q. Ok (tree.Forall q.0 q.1)
      | head.Equal ↦ equality s fs b
      | head.Comparison ↦ fails Unsupported a
      | head.Predicate ↦ atom_in d s (more (lone w a) fs) b >>= λ x. Ok (tree.Atom x)
    ]

    -- CONDITION )
    pub negation : Scope → Forms → Place → Result Condition Fault
    negation s none b = fails Expected b
    negation s (more f fs) b = condition s f >>= λ c. ends fs b >>= λ u. Ok (tree.Not c)

    -- CONDITION* )
    pub conditions : Scope → Forms → Place → Result (List Condition) Fault
    conditions s none b = Ok []
    conditions s (more f fs) b = condition s f >>= λ c. conditions s fs b >>= λ cs. Ok (c ∷ cs)

    -- CONDITION CONDITION )
    pub implication : Scope → Forms → Place → Result Condition Fault
    implication s none b = fails Expected b
    implication s (more f fs) b = condition s f >>= λ c. implied s c fs b

    pub implied : Scope → Condition → Forms → Place → Result Condition Fault
    implied s c none b = fails Expected b
    implied s c (more f fs) b = condition s f >>= λ e. ends fs b >>= λ u. Ok (tree.Imply c e)

    -- ( VARIABLES ) CONDITION )
    pub quantified : Scope → Forms → Place → Result (List Param × Condition) Fault
    quantified s none b = fails Expected b
    quantified s (more f fs) b = variable_list d f >>= λ params. bound s params fs b

    pub bound : Scope → List Param → Forms → Place → Result (List Param × Condition) Fault
    bound s params none b = fails Expected b
    bound s params (more f fs) b = condition (params ∷ s) f >>= λ c. ends fs b >>= λ u. Ok (params, c)
