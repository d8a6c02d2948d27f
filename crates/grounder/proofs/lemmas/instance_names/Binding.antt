-- What the variables of an action stand for, where they are bound to the objects of a row.
use Rattle.std.proofs.Common.{◌≡◌, ℕ, Bool, true, false, not, ◌||◌, cond, List, [], ◌∷◌, map, length, refl, sym, ap, ◌∙◌, arith}
use Rattle.std.specs.List.{list_any}
use Rattle.std.proofs.lemmas.Bool.{and_parts, not-true}
use Rattle.plain_list.specs.Texts.{list_text}
use Rattle.ppddl_model.specs.declared.tree.Action.{Action}
use Rattle.ppddl_model.specs.declared.tree.Param.{Param}
use Rattle.ppddl_model.specs.declared.tree.Task.{Task}
use Rattle.ppddl_model.specs.State.{Name, same_name}
use Rattle.ppddl_model.specs.Objects.{World, Binding, bound}
use Rattle.ppddl_model.specs.Steps.{instance_name}
use Rattle.ppddl_model.specs.WellFormed.{are_distinct}
use Rattle.ppddl_model.proofs.States.{same_name-Decides}
use Rattle.type_table.specs.Types.{object_at}
use Rattle.type_table.proofs.Lists.{by_test}
use Rattle.type_table.proofs.Numbered.{same_name_itself}
use Rattle.task_instances.specs.facts.Facts.{table_of}
use Rattle.task_instances.specs.kept_rows.Kept.{bound_to}
use Rattle.grounder.specs.instance_names.Names.{variables_of, instance_of_row}

abbrev name_of : Param → Name
name_of p = p.name

-- it does not matter which name is asked first
turned : (a b : Name) → same_name a b ≡ false → same_name b a ≡ false
turned a b other = by_test (same_name b a)
    (λ same. let back : same_name a b ≡ true = (same_name-Decides a b).1 (sym ((same_name-Decides b a).0 same)) in absurd cc)
    (λ apart. apart)

or_false : (a b : Bool) → (a || b) ≡ false → (a ≡ false) × (b ≡ false)
or_false true b none = absurd cc
or_false false b none = (refl, none)

module _ (w : World) where
  -- a name that no further variable has keeps what it stands for
  kept : (params : List Param) (row : List ℕ) (b : Binding) (name : Name) → list_any (same_name name) (map name_of params) ≡ false
      → bound (bound_to w params row b) name ≡ bound b name
  kept [] row b name none = refl
  kept (p ∷ params) [] b name none = refl
  kept (p ∷ params) (o ∷ row) b name none =
      let parts = or_false (same_name name p.name) (list_any (same_name name) (map name_of params)) none in
      kept params row ((p.name, object_at w o) ∷ b) name parts.1
      ∙ ap (λ t. cond t (object_at w o) (bound b name)) (turned name p.name parts.0)

  pub all_bound : (params : List Param) (row : List ℕ) (b : Binding) → are_distinct (map name_of params) ≡ true → length row ≡ length params
      → map (object_at w) row ≡ map (λ (p : Param). bound (bound_to w params row b) p.name) params
  all_bound [] [] b distinct long = refl
  all_bound [] (o ∷ row) b distinct long = absurd (omega (arith, long))
  all_bound (p ∷ params) [] b distinct long = absurd (omega (arith, long))
  all_bound (p ∷ params) (o ∷ row) b distinct long =
      let parts = and_parts (not (list_any (same_name p.name) (map name_of params))) (are_distinct (map name_of params)) distinct in
      let here : object_at w o ≡ bound (bound_to w params row ((p.name, object_at w o) ∷ b)) p.name
      = sym (kept params row ((p.name, object_at w o) ∷ b) p.name (not-true (list_any (same_name p.name) (map name_of params)) parts.0)
      ∙ ap (λ t. cond t (object_at w o) (bound b p.name)) (same_name_itself p.name)) in
      let later = all_bound params row ((p.name, object_at w o) ∷ b) parts.1 (omega (arith, long)) in
      λ i. here i ∷ later i

pub named_by_row : (task : Task) (a : Action) (row : List ℕ) (name : Name) (table : World) → are_distinct (variables_of a) ≡ true → length row ≡ length a.params
    → name ≡ a.name → table ≡ table_of task → list_text (name ∷ map (object_at table) row) ≡ instance_name (instance_of_row task a row)
named_by_row task a row name table distinct long is at =
    (λ i. list_text (is i ∷ map (object_at (at i)) row)) ∙ ap (λ l. list_text (a.name ∷ l)) (all_bound (table_of task) a.params row [] distinct long)
