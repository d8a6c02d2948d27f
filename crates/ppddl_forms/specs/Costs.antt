-- Costs, and functions whose values are costs.
-- Source: PDDL 2.1 (Fox and Long 2003) for functions, PPDDL 1.0 for rewards.
--     function_in d s       `NAME TERM* )` of a declared function, and where its name stands
--     function_term d s     `( NAME TERM* )`, or the NAME of a function without parameters
--     is_named w            w has the form of a name, reserved or not, so it is not taken for a number
--     cost d s              `REWARD VALUE )` of a `decrease`
use Rattle.std.specs.Prelude.{ℕ, List, [], length, Bool, ◌||◌, ◌==◌, if◌then◌else◌, Option, Some, None, Result, Ok}
use Rattle.ppddl_lex.specs.Words.{is_name, is_reserved}
use Rattle.ppddl_model.specs.declared.limits.TheConstants.{MOST_COST}
use Rattle.ppddl_model.specs.declared.refusal.TextCode.TheVariants.{UnknownName, Arity}
use Rattle.ppddl_model.specs.declared.tree.Atom.{Atom}
use Rattle.ppddl_model.specs.declared.tree.Effect.{Effect}
use Rattle.ppddl_model.specs.declared.tree.Effect.TheVariants as tree
use Rattle.ppddl_model.specs.declared.tree.PredicateDecl.{PredicateDecl}
use Rattle.ppddl_forms.specs.names.Declarations.{Declared, predicate_named}
use Rattle.ppddl_cursor.specs.declared.place.Place.{Place}
use Rattle.ppddl_cursor.specs.Forms.{Form, Forms}
use Rattle.ppddl_cursor.specs.Reading.{Fault, fails}
use Rattle.ppddl_cursor.specs.Sequences.{in_group, one_then, last, giving, checking, word_or_group}
use Rattle.ppddl_forms.specs.declared.name.Name.{Name}
use Rattle.ppddl_forms.specs.Sequences.{by_word}
use Rattle.ppddl_forms.specs.Terms.{Scope, atom_of, application}
use Rattle.ppddl_forms.specs.Words.{name, amount, reward}

abbrev pub bare : Name → Option PredicateDecl → Result (Atom × Place) Fault
bare n None = fails UnknownName n.place
bare n (Some f) = if length f.params == 0 then Ok (atom_of n [], n.place) else fails Arity n.place

-- NAME
unfoldable pub bare_function : Declared → Form → Result (Atom × Place) Fault
bare_function d = checking (λ n. bare n (predicate_named d.functions n.text)) name

module _ (d : Declared) (s : Scope) where
  unfoldable pub function_in : Forms → Place → Result (Atom × Place) Fault
  function_in = one_then name (λ n. giving (λ x. (x, n.place)) (application d s n (predicate_named d.functions n.text)))

  unfoldable pub function_group : Form → Result (Atom × Place) Fault
  function_group = in_group function_in

  unfoldable pub function_term : Form → Result (Atom × Place) Fault
  function_term = word_or_group (bare_function d) function_group

abbrev pub is_named : List ℕ → Bool
is_named w = is_name w || is_reserved w

unfoldable pub amount_cost : Form → Result Effect Fault
amount_cost = checking (λ n. Ok (tree.Cost n)) (amount 0 MOST_COST)

unfoldable pub function_cost : Declared → Form → Result Effect Fault
function_cost d = checking (λ x. Ok (tree.CostOf x.0)) (bare_function d)

-- AMOUNT or NAME
unfoldable pub word_cost : Declared → Form → Result Effect Fault
word_cost d = by_word is_named (function_cost d) amount_cost

unfoldable pub group_cost : Declared → Scope → Form → Result Effect Fault
group_cost d s = checking (λ x. Ok (tree.CostOf x.0)) (function_group d s)

unfoldable pub cost_value : Declared → Scope → Form → Result Effect Fault
cost_value d s = word_or_group (word_cost d) (group_cost d s)

unfoldable pub cost : Declared → Scope → Forms → Place → Result Effect Fault
cost d s = one_then reward (λ u. one_then (cost_value d s) last)
