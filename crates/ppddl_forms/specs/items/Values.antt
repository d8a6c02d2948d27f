-- Values that `:init` gives to functions.
-- Source: PDDL 2.1 (Fox and Long 2003).
--     same_term s t               whether two functions with their objects are equal
--     value_in values t           the value of a function with its objects, by the first item that gives it one
--     has_another values t n      it has one, which is not n
--     IsIndexed values entries    a map finds the value of each function with its objects
use Rattle.std.specs.Prelude.{◌≡◌, ℕ, List, [], ◌∷◌, Bool, false, not, ◌==◌, if◌then◌else◌, Option, Some, None}
use Rattle.std.specs.Cmp.Lexicographic.{pointwise}
use Rattle.std.specs.Map.{lookup}
use Rattle.ppddl_model.specs.declared.tree.ValueItem.{ValueItem}
use Rattle.ppddl_model.specs.Objects.{ground_atom}
use Rattle.ppddl_model.specs.State.{GroundAtom}
use Rattle.ppddl_cursor.specs.Ahead.{same}

abbrev pub same_term : GroundAtom → GroundAtom → Bool
same_term = pointwise same

abbrev pub term_of : ValueItem → GroundAtom
term_of v = ground_atom [] v.function

abbrev pub value_in : List ValueItem → GroundAtom → Option ℕ
value_in [] t = None
value_in (v ∷ values) t = if same_term t (term_of v) then Some v.value else value_in values t

abbrev pub is_another : ℕ → Option ℕ → Bool
is_another n None = false
is_another n (Some m) = not (m == n)

abbrev pub has_another : List ValueItem → GroundAtom → ℕ → Bool
has_another values t n = is_another n (value_in values t)

abbrev pub IsIndexed : List ValueItem → List (GroundAtom × ℕ) → Type 0
IsIndexed values entries = (t : GroundAtom) → lookup (same_term t) entries ≡ value_in values t
