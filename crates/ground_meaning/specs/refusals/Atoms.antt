-- The atoms of a ground problem: the changing atoms of a task, numbered in bytewise order of their texts.
--     with_atom a atoms     atoms that rise by their texts, with a in them where its text is not there yet
--     by_texts atoms        the atoms by rising texts, one for each text
--     texts_of atoms        their texts
--     order_of task         the changing atoms in order; the place of an atom is its number
--     numbering_of task     their texts, and those of the facts of `:init`
use Rattle.std.specs.Prelude.{ℕ, List, [], ◌∷◌, map}
use Rattle.std.specs.declared.cmp.Ordering.TheVariants.{Less, Equal, Greater}
use Rattle.plain_list.specs.Texts.{list_text, compare_texts}
use Rattle.ppddl_model.specs.declared.tree.Task.{Task}
use Rattle.ppddl_model.specs.State.{GroundAtom}
use Rattle.ppddl_model.specs.Changing.{facts, changing_atoms}
use Rattle.ground_meaning.specs.choices.Numbering.{Numbering}

abbrev pub with_atom : GroundAtom → List GroundAtom → List GroundAtom
with_atom a [] = a ∷ []
with_atom a (x ∷ atoms) = elim (compare_texts (list_text a) (list_text x)) [
  | Less ↦ a ∷ x ∷ atoms
  | Equal ↦ x ∷ atoms
  | Greater ↦ x ∷ with_atom a atoms
]

abbrev pub by_texts : List GroundAtom → List GroundAtom
by_texts [] = []
by_texts (a ∷ atoms) = with_atom a (by_texts atoms)

abbrev pub texts_of : List GroundAtom → List (List ℕ)
texts_of atoms = map list_text (by_texts atoms)

module _ (task : Task) where
  abbrev pub order_of : List GroundAtom
  order_of = by_texts (changing_atoms task)

  abbrev pub numbering_of : Numbering
  numbering_of = record { atoms = texts_of (changing_atoms task); facts = texts_of (facts task) }
