-- What a joint choice does in a state of a task, and what an entry of the task's outcomes does: the
-- atoms that are added, those that are deleted and not added, and the cost.
--     Change                   these three
--     settled adds deletes c   that of all adds and deletes, which may have atoms in common
--     name_of order k          the atom with the number k, where order has the atoms by their numbers
--     atoms_at order ks        the set of the atoms with these numbers
--     change_of order bit c    the change of a choice, with those guarded parts whose condition holds
--     entry_change base x      the change of an entry, the base cost included
--     condition_atoms w c b    the atoms that stand in a condition, every quantifier expanded
--     tested_atoms w e b       the atoms that stand in a condition of an effect, every `forall` expanded
--     IsNumbered n order q     the atom has a number, and order has it there
--     AgreesOn n bit s atoms   s and bit say the same of these atoms
--     IsView order view        each numbered atom is true in view s where its bit is set in the packed state
--                              s, and the others are the same in all
--     Describes w n order bit s e b
--                              all literals of e have numbers, and bit says what s says of the atoms that e tests
use Rattle.std.specs.Prelude.{◌≡◌, ◌<◌, ℕ, ◌+◌, Bool, false, length, All, List, [], ◌∷◌, ◌++◌, map, flat_map, Some}
use Rattle.std.specs.Prelude.{slice_index_or}
use Rattle.std.specs.List.{list_any}
use Rattle.ppddl_model.specs.declared.tree.Condition.{Condition, Row_of-Condition}
use Rattle.ppddl_model.specs.declared.tree.Condition.{end_of-Condition, more_of-Condition}
use Rattle.ppddl_model.specs.declared.tree.Condition.TheVariants as condition
use Rattle.ppddl_model.specs.declared.tree.Effect.{Effect, Row_of-Effect, end_of-Effect}
use Rattle.ppddl_model.specs.declared.tree.Effect.{more_of-Effect, Row_of-Branch, end_of-Branch}
use Rattle.ppddl_model.specs.declared.tree.Effect.{more_of-Branch}
use Rattle.ppddl_model.specs.declared.tree.Effect.TheVariants.{Both', Forall', When', Chance'}
use Rattle.ppddl_model.specs.State.{GroundAtom, same_atom, State, no_atoms, has}
use Rattle.ppddl_model.specs.State.{with_atoms, without}
use Rattle.ppddl_model.specs.Objects.{World, Binding, ground_atom, bindings}
use Rattle.ppddl_model.specs.Changing.{literals}
use Rattle.ppddl_model.specs.Outcomes.{Entry}
use Rattle.ground_model.specs.declared.action.Choice.{Choice}
use Rattle.ground_model.specs.Packed as packed
use Rattle.ground_model.specs.Packed.{has_bit}
use Rattle.ground_model.specs.Choices.{active_adds, active_deletes, cost_of}
use Rattle.ground_meaning.specs.choices.Numbering.{Numbering, number_of, is_true}

pub record Change : Type 0 where
  pub adds : State
  pub deletes : State
  pub cost : ℕ

abbrev pub settled : State → State → ℕ → Change
settled adds deletes cost =
    record { adds = adds; deletes = without deletes adds; cost = cost }

abbrev pub entry_change : ℕ → Entry → Change
entry_change base x = settled x.adds x.deletes (x.cost + base)

module _ (order : List GroundAtom) where
  abbrev pub name_of : ℕ → GroundAtom
  name_of k = slice_index_or order k []

  abbrev pub atoms_at : List ℕ → State
  atoms_at ks = with_atoms no_atoms (map name_of ks)

  abbrev pub change_of : (ℕ → Bool) → Choice → Change
  change_of bit c =
      settled (atoms_at (c.adds ++ active_adds bit c.guarded))
      (atoms_at (c.deletes ++ active_deletes bit c.guarded)) (cost_of bit c)

-- ---- the atoms that decide

module _ (w : World) where
  abbrev mutual
    pub condition_atoms : Condition → Binding → List GroundAtom
    condition_atoms (condition.Atom a) b = ground_atom b a ∷ []
    condition_atoms (condition.Equal x y) b = []
    condition_atoms (condition.Not' u (more_of-Condition c end_of-Condition)) b =
        condition_atoms c b
    condition_atoms (condition.All' shape cs) b = conditions_atoms cs b
    condition_atoms (condition.Any' shape cs) b = conditions_atoms cs b
    condition_atoms (condition.Imply' u (more_of-Condition c end_of-Condition) v
        (more_of-Condition d end_of-Condition)) b = condition_atoms c b ++ condition_atoms d b
    condition_atoms (condition.Exists' params u (more_of-Condition c end_of-Condition)) b =
        flat_map (λ b'. condition_atoms c b') (bindings w params b)
    condition_atoms (condition.Forall' params u (more_of-Condition c end_of-Condition)) b =
        flat_map (λ b'. condition_atoms c b') (bindings w params b)

    pub conditions_atoms : {m : _} → Row_of-Condition m → Binding → List GroundAtom
    conditions_atoms end_of-Condition b = []
    conditions_atoms (more_of-Condition c cs) b = condition_atoms c b ++ conditions_atoms cs b

  abbrev mutual
    pub tested_atoms : Effect → Binding → List GroundAtom
    tested_atoms (Both' shape es) b = tested_each es b
    tested_atoms (Forall' params u (more_of-Effect e end_of-Effect)) b =
        flat_map (λ b'. tested_atoms e b') (bindings w params b)
    tested_atoms (When' c u (more_of-Effect e end_of-Effect)) b =
        condition_atoms c b ++ tested_atoms e b
    tested_atoms (Chance' shape branches) b = tested_branches branches b
    tested_atoms _ b = []

    pub tested_each : {m : _} → Row_of-Effect m → Binding → List GroundAtom
    tested_each end_of-Effect b = []
    tested_each (more_of-Effect e es) b = tested_atoms e b ++ tested_each es b

    pub tested_branches : {m : _} → Row_of-Branch m → Binding → List GroundAtom
    tested_branches end_of-Branch b = []
    tested_branches (more_of-Branch chance e branches) b =
        tested_atoms e b ++ tested_branches branches b

pub record IsNumbered (n : Numbering) (order : List GroundAtom) (q : GroundAtom) : Type 0 where
  pub number : ℕ
  pub known : number_of n q ≡ Some number
  pub stands : name_of order number ≡ q

abbrev pub AgreesOn : Numbering → (ℕ → Bool) → State → List GroundAtom → Type 0
AgreesOn n bit s atoms = All (λ q. has s q ≡ is_true n bit q) atoms

module _ (w : World) (n : Numbering) (order : List GroundAtom) where
  pub record Describes (bit : ℕ → Bool) (s : State) (e : Effect) (b : Binding) : Type 0 where
    pub numbered : All (IsNumbered n order) (literals w e b)
    pub agrees : AgreesOn n bit s (tested_atoms w e b)

-- ---- packed states

module _ (order : List GroundAtom) where
  pub record IsView (view : packed.State → State) : Type 0 where
    pub numbered : (s : packed.State) (k : ℕ) → k < length order
        → has (view s) (name_of order k) ≡ has_bit s k
    pub others : (s t : packed.State) (q : GroundAtom) → list_any (same_atom q) order ≡ false
        → has (view s) q ≡ has (view t) q
