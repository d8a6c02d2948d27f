-- Items of `:init`, form by form: the tree, or the first fault. No variable is in sight.
-- Sources: PPDDL 1.0 for items by chance, PDDL 2.1 (Fox and Long 2003) for values of functions.
--     init_head w          what a group is that begins with the word w
--     negative d           `ATOM )` behind `not`: it adds nothing
--     added d              what a branch adds: `( )`, an atom, or `( and ATOM* )`
--     branches d           probabilities, each with what its branch adds
--     value d values       `FUNCTION AMOUNT )` behind `=`, which gives the function no other value than those given before
--     item d values        one item, behind those that gave the values
use Rattle.std.specs.Prelude.{ℕ, List, [], ◌∷◌, ◌++◌, map, Bool, true, false, ◌||◌, if◌then◌else◌, Result, Ok}
use Rattle.exact_fraction.specs.declared.fraction.Fraction.{Fraction}
use Rattle.ppddl_lex.specs.declared.keywords.TheConstants.{NOT, AND, FORALL, WHEN, PROBABILISTIC, DECREASE, INCREASE, ASSIGN}
use Rattle.ppddl_model.specs.declared.limits.TheConstants.{MOST_COST}
use Rattle.ppddl_model.specs.declared.refusal.TextCode.TheVariants.{Twice}
use Rattle.ppddl_model.specs.declared.tree.Atom.{Atom}
use Rattle.ppddl_model.specs.declared.tree.InitBranch.{InitBranch}
use Rattle.ppddl_model.specs.declared.tree.InitItem.{InitItem}
use Rattle.ppddl_model.specs.declared.tree.InitItem.TheVariants as tree
use Rattle.ppddl_model.specs.declared.tree.ValueItem.{ValueItem}
use Rattle.ppddl_model.specs.Objects.{ground_atom}
use Rattle.ppddl_forms.specs.names.Declarations.{Declared}
use Rattle.ppddl_cursor.specs.declared.place.Place.{Place}
use Rattle.ppddl_cursor.specs.Ahead.{same}
use Rattle.ppddl_cursor.specs.Forms.{Form, Forms}
use Rattle.ppddl_cursor.specs.Reading.{Fault, fails}
use Rattle.ppddl_cursor.specs.Sequences.{in_group, one_then, last, optional, giving, checking}
use Rattle.ppddl_forms.specs.declared.symbols.TheConstants.{EQUAL}
use Rattle.ppddl_forms.specs.Chances.{next_chance}
use Rattle.ppddl_forms.specs.Costs.{function_term}
use Rattle.ppddl_forms.specs.Sequences.{many_behind}
use Rattle.ppddl_forms.specs.Terms.{atom, atom_in}
use Rattle.ppddl_forms.specs.Words.{amount}
use Rattle.ppddl_forms.specs.declared.items.init_head.InitHead.{InitHead}
use Rattle.ppddl_forms.specs.declared.items.init_head.InitHead.TheVariants as head
use Rattle.ppddl_forms.specs.items.Sequences.{skipped, unsupported, by_head, pairs}
use Rattle.ppddl_forms.specs.items.Values.{has_another}

abbrev pub is_effect : List ℕ → Bool
is_effect w = same w INCREASE.now || same w DECREASE.now || same w ASSIGN.now || same w WHEN.now || same w FORALL.now || same w AND.now

abbrev pub init_head : List ℕ → InitHead
init_head w =
    if same w NOT.now then head.Not
    else if same w PROBABILISTIC.now then head.Probabilistic
    else if same w EQUAL.now then head.Value
    else if is_effect w then head.Unsupported
    else head.Predicate

abbrev pub is_and : List ℕ → Bool
is_and w = same w AND.now

abbrev pub chances_of : List InitBranch → List Fraction
chances_of = map (λ (branch : InitBranch). branch.chance)

abbrev pub branch_of : Fraction → List Atom → InitBranch
branch_of p atoms = record { chance = p; atoms = atoms }

abbrev pub with_branch : List InitBranch → Fraction → List Atom → List InitBranch
with_branch seen p atoms = seen ++ branch_of p atoms ∷ []

module _ (d : Declared) where
  -- `( not ATOM )` is an item by chance without a branch
  unfoldable pub negative : Forms → Place → Result InitItem Fault
  negative = one_then (atom d []) (λ x. last (tree.Chance []))

  -- ATOM*, or NAME and its arguments
  unfoldable pub added_by : Bool → Forms → Place → Result (List Atom) Fault
  added_by true = one_then skipped (λ u. many_behind (atom d []) [])
  added_by false = giving (λ x. x ∷ []) (atom_in d [])

  unfoldable pub added_in : Forms → Place → Result (List Atom) Fault
  added_in = optional [] (by_head is_and added_by)

  unfoldable pub added : Form → Result (List Atom) Fault
  added = in_group added_in

  unfoldable pub next_branch : List InitBranch → Fraction → Form → Result (List InitBranch) Fault
  next_branch seen p = checking (λ atoms. Ok (with_branch seen p atoms)) added

  unfoldable pub branches : List InitBranch → Forms → Place → Result (List InitBranch) Fault
  branches = pairs (λ seen. next_chance (chances_of seen)) next_branch

-- judged where the amount was read
abbrev pub new_value : List ValueItem → Atom × Place → ℕ → Result ℕ Fault
new_value values f n = if has_another values (ground_atom [] f.0) n then fails Twice f.1 else Ok n

module _ (d : Declared) (values : List ValueItem) where
  unfoldable pub value : Forms → Place → Result InitItem Fault
  value = one_then (function_term d [])
      (λ f. one_then (checking (new_value values f) (amount 0 MOST_COST)) (λ n. last (tree.Value (record { function = f.0; value = n }))))

  abbrev pub item_by : InitHead → Forms → Place → Result InitItem Fault
  item_by head.Not = one_then skipped (λ u. negative d)
  item_by head.Probabilistic = one_then skipped (λ u. giving (λ bs. tree.Chance bs) (branches d []))
  item_by head.Value = one_then skipped (λ u. value)
  item_by head.Unsupported = one_then unsupported last
  item_by head.Predicate = giving (λ x. tree.Fact x) (atom_in d [])

  unfoldable pub item_in : Forms → Place → Result InitItem Fault
  item_in = by_head init_head item_by

  unfoldable pub item : Form → Result InitItem Fault
  item = in_group item_in
