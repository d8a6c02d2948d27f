-- Changes of a packed state, one after another. What they come to is `next_state`.
--     with_atom, without_atom      one atom made true, or false; bits past the last word are left out
--     with_atoms, without_atoms    each of a list
--     with_parts, without_parts    the adds, or the deletes, of the guarded parts whose condition holds
--     changed                      the deletes of a choice with those of its guarded parts, then the adds
use Rattle.std.specs.Prelude.{ℕ, Bool, cond, not, ◌&&◌, ◌||◌, nat_eq, List, [], ◌∷◌, length}
use Rattle.ground_model.specs.declared.action.Choice.{Choice}
use Rattle.ground_model.specs.declared.action.Guarded.{Guarded}
use Rattle.ground_model.specs.Packed.{State, has_bit, packed}
use Rattle.ground_model.specs.Truth.{truth}

abbrev pub with_atom : State → ℕ → State
with_atom s a = packed (λ q. nat_eq q a || has_bit s q) (length s)

abbrev pub without_atom : State → ℕ → State
without_atom s a = packed (λ q. not (nat_eq q a) && has_bit s q) (length s)

abbrev pub with_atoms : State → List ℕ → State
with_atoms s [] = s
with_atoms s (a ∷ more) = with_atoms (with_atom s a) more

abbrev pub without_atoms : State → List ℕ → State
without_atoms s [] = s
without_atoms s (a ∷ more) = without_atoms (without_atom s a) more

module _ (bit : ℕ → Bool) where
  abbrev pub with_parts : State → List Guarded → State
  with_parts s [] = s
  with_parts s (x ∷ xs) = with_parts (cond (truth bit x.condition) (with_atoms s x.adds) s) xs

  abbrev pub without_parts : State → List Guarded → State
  without_parts s [] = s
  without_parts s (x ∷ xs) = without_parts (cond (truth bit x.condition) (without_atoms s x.deletes) s) xs

abbrev pub changed : State → Choice → State
changed s c =
    let copy = packed (has_bit s) (length s) in
    let deleted = without_parts (has_bit s) (without_atoms copy c.deletes) c.guarded in
    with_parts (has_bit s) (with_atoms deleted c.adds) c.guarded
