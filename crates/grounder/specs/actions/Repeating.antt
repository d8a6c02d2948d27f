-- Instances that differ from one that was formed before in their names alone.
--     agree_where named row other      the rows have the same objects at each parameter that is named
--     agrees_before named rows place   there is a row before that at the place, and they agree so
--     under_name name x                a ground action under another name
--     IsLike task base i x             the instance is that action under its own name
--     IsLast task base i list          the instance is the last of the ground actions
use Rattle.std.specs.Prelude.{◌≡◌, ℕ, ◌-◌, nat_eq, nat_lt, Bool, true, not, ◌&&◌, ◌||◌}
use Rattle.std.specs.Prelude.{List, [], ◌∷◌, length, slice_get, slice_index_or, Some, Ok}
use Rattle.ppddl_model.specs.declared.tree.Task.{Task}
use Rattle.ppddl_model.specs.Steps.{Instance, instance_name}
use Rattle.ground_model.specs.declared.action.GroundAction.{GroundAction}
use Rattle.grounder.specs.actions.Growing.{action_or_limit}

abbrev pub agree_where : List Bool → List ℕ → List ℕ → Bool
agree_where (is_named ∷ named) (o ∷ row) (p ∷ other) =
    (not is_named || nat_eq o p) && agree_where named row other
agree_where named row other = true

abbrev pub agrees_before : List Bool → List (List ℕ) → ℕ → Bool
agrees_before named rows place =
    nat_lt 0 place
    && agree_where named (slice_index_or rows place []) (slice_index_or rows (place - 1) [])

abbrev pub under_name : List ℕ → GroundAction → GroundAction
under_name name x =
    record { name = name; condition = x.condition; choices = x.choices; den = x.den }

abbrev pub IsLike : Task → ℕ → Instance → GroundAction → Type 0
IsLike task base i x = action_or_limit task base i ≡ Ok (under_name (instance_name i) x)

pub record IsLast (task : Task) (base : ℕ) (i : Instance) (list : List GroundAction) : Type 0 where
  pub action : GroundAction
  pub stands : slice_get list (length list - 1) ≡ Some action
  pub formed : action_or_limit task base i ≡ Ok action
