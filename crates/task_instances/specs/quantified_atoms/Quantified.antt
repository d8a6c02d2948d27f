-- The atoms of an effect, each with the quantified variables that it names.
--     variables_of q            the variables of a quantified atom, the outermost first
--     is_bound_by ps t          whether a term is an object, or one of these variables
--     is_settled q              whether each variable of the atom is one of its own, so that what it stands for depends on no other
--     instances_of w q b        the ground atoms for which it stands, its variables bound in all ways on top of b
--     passes w f q b            whether each of these passes a test
--     all_pass w f qs b         whether so does each quantified atom
--     is_literal k              whether literals are meant
--     effect_atoms w k e b      the literals of an effect, or its function terms, with every `forall` expanded
--     part_pass, branch_pass    whether each of those of a part, or of a branch, passes a test
--     HasAtoms w k e qs         the quantified atoms stand for those of the effect, whatever the order and however often each is named
--     IsWithAtoms w k e before after   behind the quantified atoms before stand those of the effect
use Rattle.std.specs.Prelude.{◌≡◌, Bool, true, false, ◌&&◌, List, map}
use Rattle.std.specs.List.{list_all, list_any}
use Rattle.ppddl_model.specs.declared.tree.Branch.{Branch}
use Rattle.ppddl_model.specs.declared.tree.Effect.{Effect}
use Rattle.ppddl_model.specs.declared.tree.Param.{Param}
use Rattle.ppddl_model.specs.declared.tree.Term.{Term}
use Rattle.ppddl_model.specs.declared.tree.Term.TheVariants.{Variable, Object}
use Rattle.ppddl_model.specs.State.{GroundAtom}
use Rattle.ppddl_model.specs.Objects.{World, Binding, ground_atom, bindings}
use Rattle.ppddl_model.specs.Functions.{function_terms}
use Rattle.ppddl_model.specs.Changing.{literals}
use Rattle.task_instances.specs.declared.quantified_atoms.atom_kind.AtomKind.{AtomKind}
use Rattle.task_instances.specs.declared.quantified_atoms.atom_kind.AtomKind.TheVariants.{Literal, FunctionTerm}
use Rattle.task_instances.specs.declared.quantified_atoms.quantified_atom.QuantifiedAtom.{QuantifiedAtom}
use Rattle.task_instances.specs.quantified_atoms.Needed.{hides, params_of}

abbrev pub variables_of : QuantifiedAtom → List Param
variables_of q = params_of q.variables.items

abbrev pub is_bound_by : List Param → Term → Bool
is_bound_by ps (Variable u) = list_any (hides u) ps
is_bound_by ps (Object o) = true

abbrev pub is_settled : QuantifiedAtom → Bool
is_settled q = list_all (is_bound_by (variables_of q)) q.atom.now.args

abbrev pub is_literal : AtomKind → Bool
is_literal Literal = true
is_literal FunctionTerm = false

module _ (w : World) where
  abbrev pub instances_of : QuantifiedAtom → Binding → List GroundAtom
  instances_of q b = map (λ b'. ground_atom b' q.atom.now) (bindings w (variables_of q) b)

  abbrev pub effect_atoms : AtomKind → Effect → Binding → List GroundAtom
  effect_atoms Literal e b = literals w e b
  effect_atoms FunctionTerm e b = function_terms w e b

  module _ (f : GroundAtom → Bool) where
    abbrev pub passes : QuantifiedAtom → Binding → Bool
    passes q b = list_all f (instances_of q b)

    abbrev pub all_pass : List QuantifiedAtom → Binding → Bool
    all_pass qs b = list_all (λ (q : QuantifiedAtom). passes q b) qs

  abbrev pub part_pass : AtomKind → (GroundAtom → Bool) → Binding → Effect → Bool
  part_pass k f b e = list_all f (effect_atoms k e b)

  abbrev pub branch_pass : AtomKind → (GroundAtom → Bool) → Binding → Branch → Bool
  branch_pass k f b x = part_pass k f b x.effect

  abbrev pub HasAtoms : AtomKind → Effect → List QuantifiedAtom → Type 0
  HasAtoms k e qs = (f : GroundAtom → Bool) (b : Binding) → all_pass f qs b ≡ list_all f (effect_atoms k e b)

  abbrev pub IsWithAtoms : AtomKind → Effect → List QuantifiedAtom → List QuantifiedAtom → Type 0
  IsWithAtoms k e before after =
      (f : GroundAtom → Bool) (b : Binding) → all_pass f after b ≡ (all_pass f before b && list_all f (effect_atoms k e b))
