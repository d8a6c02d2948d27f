-- The atoms and the actions of a ground problem are spelled with names of the form that the task's have.
use Rattle.std.proofs.Common.{◌≡◌, ℕ, ◌<◌, Bool, true, List, [], ◌∷◌, length, refl, sym, subst, arith}
use Rattle.std.specs.Prelude.{Contains}
use Rattle.std.specs.List.{list_all}
use Rattle.std.proofs.lemmas.Bool.{and_parts, and_from}
use Rattle.plain_list.specs.Texts.{list_text}
use Rattle.plain_list.proofs.Members.{Contains-map_cases}
use Rattle.ppddl_model.specs.declared.tree.Action.{Action}
use Rattle.ppddl_model.specs.declared.tree.Task.{Task}
use Rattle.ppddl_model.specs.State.{Name}
use Rattle.ppddl_model.specs.Changing.{changing_atoms, kept_instances}
use Rattle.ppddl_model.specs.Steps.{Instance, Charges}
use Rattle.ppddl_model.specs.WellFormed.{IsWellFormed}
use Rattle.ground_model.specs.declared.action.GroundAction.{GroundAction}
use Rattle.ground_meaning.specs.refusals.Atoms.{numbering_of}
use Rattle.ground_meaning.specs.refusals.Problem.{ground_action, ground_problem}
use Rattle.ground_meaning.specs.refusals.Laws.{IsListOf, AreListsOf, HaveForm}
use Rattle.ground_meaning.proofs.lemmas.refusals.Formed.{all_at, has_names, IsFormed}
use Rattle.ground_meaning.proofs.lemmas.refusals.Instances.{instance_parts, kept_is_instance, binding_is_formed, changing_formed}
use Rattle.ground_meaning.proofs.lemmas.refusals.Naming.{values_of, formed_values}
use Rattle.ground_meaning.proofs.lemmas.refusals.Order.{text_is_ones}

some_names : (q : List Name) → has_names q ≡ true → 0 < length q
some_names [] some = absurd cc
some_names (x ∷ q) some = omega arith

module _ (form : Name → Bool) (task : Task) (charges : Charges) (fit : IsWellFormed task) (have : HaveForm form task) where
  atom_is_list : (text : List ℕ) → Contains (numbering_of task).atoms text → IsListOf form text
  atom_is_list text inside =
      let found = Contains-map_cases list_text (changing_atoms task) text (text_is_ones (changing_atoms task) text inside) in
      let formed : IsFormed form found.0 = changing_formed form task have.objects have.predicates fit found.0 found.1 in
      let parts = and_parts (has_names found.0) (list_all form found.0) formed in
      record { names = found.0; some = some_names found.0 parts.0; each = parts.1; spelled = sym found.2 }

  instance_is_list : (i : Instance) → Contains (kept_instances task) i → IsListOf form (ground_action task charges i).name
  instance_is_list i kept =
      let inside = kept_is_instance task i kept in
      record {
        names = i.action.name ∷ values_of i.action.params i.binding;
        some = omega arith;
        each = and_from (form i.action.name) (list_all form (values_of i.action.params i.binding))
            (all_at (λ (a : Action). form a.name) task.domain.actions i.action have.actions (instance_parts task i inside).0)
            (formed_values form i.action.params i.binding i.action.params (binding_is_formed form task have.objects i inside) (λ p there. there));
        spelled = refl;
      }

  pub are_lists : AreListsOf form (ground_problem task charges)
  are_lists = record {
    atoms = atom_is_list;
    actions = λ a inside.
        let found = Contains-map_cases (ground_action task charges) (kept_instances task) a inside in
        subst (λ (b : GroundAction). IsListOf form b.name) found.2 (instance_is_list found.0 found.1);
  }
