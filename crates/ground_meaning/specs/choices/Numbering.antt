-- How the atoms of a task stand in a ground problem.
--     Numbering            the texts of the atoms that may change, and of the facts of `:init`
--     number_of n q        the number of an atom that may change: the place of its text; None of any other
--     is_fact n q          whether the atom is a fact
--     is_true n bit q      the truth of an atom where bit says which numbered atoms are true: an atom
--                          without a number is true where it is a fact
--     constant b           the condition that is always b
--     atom_condition n q   an atom as a condition on packed states
--     ground_condition w n c b
--                          c under b as a condition on packed states, form by form: quantifiers are
--                          expanded, equalities and atoms without numbers are constants
use Rattle.std.specs.Prelude.{ℕ, Bool, true, false, List, [], ◌∷◌, map, Option, Some, None}
use Rattle.std.specs.List.{position}
use Rattle.plain_list.specs.Texts.{list_text}
use Rattle.ppddl_model.specs.declared.tree.Condition.{Condition, Row_of-Condition}
use Rattle.ppddl_model.specs.declared.tree.Condition.{end_of-Condition, more_of-Condition}
use Rattle.ppddl_model.specs.declared.tree.Condition.TheVariants as condition
use Rattle.ppddl_model.specs.State.{same_name, GroundAtom}
use Rattle.ppddl_model.specs.Objects.{World, Binding, named, ground_atom, bindings}
use Rattle.ppddl_model.specs.Changing.{has_text}
use Rattle.ground_model.specs.declared.condition.GroundCondition.{GroundCondition}
use Rattle.ground_model.specs.declared.condition.GroundCondition.TheVariants.{True, False, Atom}
use Rattle.ground_model.specs.declared.condition.GroundCondition.TheVariants.{Not, All, Any}

pub record Numbering : Type 0 where
  pub atoms : List (List ℕ)
  pub facts : List (List ℕ)

module _ (n : Numbering) where
  abbrev pub number_of : GroundAtom → Option ℕ
  number_of q = position (same_name (list_text q)) n.atoms

  abbrev pub is_fact : GroundAtom → Bool
  is_fact q = has_text n.facts q

  abbrev pub is_true : (ℕ → Bool) → GroundAtom → Bool
  is_true bit q = elim (number_of q) [ Some k ↦ bit k | None ↦ is_fact q ]

  abbrev pub constant : Bool → GroundCondition
  constant b = elim b [ true ↦ True | false ↦ False ]

  abbrev pub atom_condition : GroundAtom → GroundCondition
  atom_condition q = elim (number_of q) [ Some k ↦ Atom k | None ↦ constant (is_fact q) ]

module _ (w : World) (n : Numbering) where
  abbrev mutual
    pub ground_condition : Condition → Binding → GroundCondition
    ground_condition (condition.Atom a) b = atom_condition n (ground_atom b a)
    ground_condition (condition.Equal x y) b = constant n (same_name (named b x) (named b y))
    ground_condition (condition.Not' u (more_of-Condition c end_of-Condition)) b =
        Not (ground_condition c b)
    ground_condition (condition.All' shape cs) b = All (ground_conditions cs b)
    ground_condition (condition.Any' shape cs) b = Any (ground_conditions cs b)
    ground_condition (condition.Imply' u (more_of-Condition c end_of-Condition) v
        (more_of-Condition d end_of-Condition)) b =
        Any (Not (ground_condition c b) ∷ ground_condition d b ∷ [])
    ground_condition (condition.Exists' params u (more_of-Condition c end_of-Condition)) b =
        Any (map (λ b'. ground_condition c b') (bindings w params b))
    ground_condition (condition.Forall' params u (more_of-Condition c end_of-Condition)) b =
        All (map (λ b'. ground_condition c b') (bindings w params b))

    pub ground_conditions : {m : _} → Row_of-Condition m → Binding → List GroundCondition
    ground_conditions end_of-Condition b = []
    ground_conditions (more_of-Condition c cs) b = ground_condition c b ∷ ground_conditions cs b
