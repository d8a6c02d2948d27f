-- Texts of ground atoms that are put into an ordered set one after another.
--     with_texts texts more      the texts with each of more in its place, where it is not there yet
--     literal_texts w b e        the texts of the literals of an effect
--     ground_texts w a ps b      of an atom under all ways to bind variables on top of b
--     instance_texts w q b       of a quantified atom
--     first_texts w q            of one that names no parameter of an action, and no texts of any other
--     under_texts w b q          of one that names a parameter, and no texts of any other
--     atom_texts atoms           the texts of atoms without variables
--     init_branch_texts x        of those of a branch of an item of `:init`
--     chance_texts i             of those that an item may make true by chance
--     fact_texts i               of the fact that an item names, if it names one
use Rattle.std.specs.Prelude.{ℕ, cond, List, [], ◌∷◌, map}
use Rattle.std.specs.BTreeSet.{insert_key}
use Rattle.plain_list.specs.Texts.{list_text, compare_texts}
use Rattle.ppddl_model.specs.declared.tree.Atom.{Atom}
use Rattle.ppddl_model.specs.declared.tree.Effect.{Effect}
use Rattle.ppddl_model.specs.declared.tree.InitBranch.{InitBranch}
use Rattle.ppddl_model.specs.declared.tree.InitItem.{InitItem}
use Rattle.ppddl_model.specs.declared.tree.Param.{Param}
use Rattle.ppddl_model.specs.Objects.{World, Binding, ground_atom, bindings}
use Rattle.ppddl_model.specs.Changing.{literals, chance_atoms, fact_atoms}
use Rattle.task_instances.specs.declared.quantified_atoms.quantified_atom.QuantifiedAtom.{QuantifiedAtom}
use Rattle.task_instances.specs.quantified_atoms.Quantified.{variables_of, is_settled}

abbrev pub with_texts : List (List ℕ) → List (List ℕ) → List (List ℕ)
with_texts texts [] = texts
with_texts texts (text ∷ more) = with_texts (insert_key compare_texts texts text) more

module _ (w : World) where
  abbrev pub literal_texts : Binding → Effect → List (List ℕ)
  literal_texts b e = map list_text (literals w e b)

  abbrev pub ground_texts : Atom → List Param → Binding → List (List ℕ)
  ground_texts a ps b = map list_text (map (λ b'. ground_atom b' a) (bindings w ps b))

  abbrev pub instance_texts : QuantifiedAtom → Binding → List (List ℕ)
  instance_texts q b = ground_texts q.atom.now (variables_of q) b

  abbrev pub first_texts : QuantifiedAtom → List (List ℕ)
  first_texts q = cond (is_settled q) (instance_texts q []) []

  abbrev pub under_texts : Binding → QuantifiedAtom → List (List ℕ)
  under_texts b q = cond (is_settled q) [] (instance_texts q b)

abbrev pub atom_text : Atom → List ℕ
atom_text a = list_text (ground_atom [] a)

abbrev pub atom_texts : List Atom → List (List ℕ)
atom_texts atoms = map atom_text atoms

abbrev pub init_branch_texts : InitBranch → List (List ℕ)
init_branch_texts x = atom_texts x.atoms

abbrev pub chance_texts : InitItem → List (List ℕ)
chance_texts i = map list_text (chance_atoms i)

abbrev pub fact_texts : InitItem → List (List ℕ)
fact_texts i = map list_text (fact_atoms i)
