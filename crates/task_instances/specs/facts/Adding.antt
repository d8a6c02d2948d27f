-- The names, keys and ground atoms that the parts of a task give.
--     predicate_of a           the predicate of an atom
--     branch_predicates b      the predicates that a branch of an item of `:init` names
--     fact_keys i              the key of the fact that an item names, if it names one
--     value_key v              the key of the function term to which a value is given
--     value_atoms v            this function term
use Rattle.std.specs.Prelude.{List, [], ◌∷◌, map}
use Rattle.ppddl_model.specs.declared.tree.Atom.{Atom}
use Rattle.ppddl_model.specs.declared.tree.InitBranch.{InitBranch}
use Rattle.ppddl_model.specs.declared.tree.InitItem.{InitItem}
use Rattle.ppddl_model.specs.declared.tree.ValueItem.{ValueItem}
use Rattle.ppddl_model.specs.State.{Name, GroundAtom}
use Rattle.ppddl_model.specs.Objects.{ground_atom}
use Rattle.ppddl_model.specs.Changing.{fact_atoms}
use Rattle.ground_terms.specs.terms.Keys.{key_of}

abbrev pub predicate_of : Atom → Name
predicate_of a = a.predicate

abbrev pub branch_predicates : InitBranch → List Name
branch_predicates branch = map predicate_of branch.atoms

abbrev pub fact_keys : InitItem → List Name
fact_keys i = map key_of (fact_atoms i)

abbrev pub value_key : ValueItem → Name
value_key v = key_of (ground_atom [] v.function)

abbrev pub value_atoms : ValueItem → List GroundAtom
value_atoms v = ground_atom [] v.function ∷ []
