-- What the keys of facts and of function terms tell.
use Rattle.std.proofs.Common.{◌≡◌, Bool, true, false, ◌||◌, ◌&&◌, List, [], ◌∷◌, ◌++◌, map, refl, sym, ap, ◌∙◌, true≢false}
use Rattle.std.specs.Prelude.{flat_map, is_some}
use Rattle.std.specs.Option.{option_map}
use Rattle.std.specs.List.{list_any, list_all, find}
use Rattle.std.proofs.lemmas.List.{map-append}
use Rattle.std.proofs.lemmas.Bool.{and_parts}
use Rattle.ppddl_model.specs.declared.tree.InitItem.{InitItem}
use Rattle.ppddl_model.specs.declared.tree.ObjectDecl.{ObjectDecl}
use Rattle.ppddl_model.specs.declared.tree.Task.{Task}
use Rattle.ppddl_model.specs.declared.tree.TypeDecl.{TypeDecl}
use Rattle.ppddl_model.specs.declared.tree.ValueItem.{ValueItem}
use Rattle.ppddl_model.specs.State.{Name, same_name, GroundAtom, same_atom, no_atoms}
use Rattle.ppddl_model.specs.Objects.{ground_atom}
use Rattle.ppddl_model.specs.Functions.{is_value_of}
use Rattle.ppddl_model.specs.Changing.{fact_atoms}
use Rattle.ppddl_model.specs.WellFormed.{is_plain, is_type, has_one_type}
use Rattle.ppddl_model.proofs.States.{has-with_atoms, same_atom-Decides}
use Rattle.type_table.specs.Types.{is_known}
use Rattle.type_table.proofs.Lists.{by_test}
use Rattle.ground_terms.specs.terms.Keys.{key_of}
use Rattle.ground_terms.proofs.lemmas.terms.Keying.{keys_tell}
use Rattle.task_instances.specs.known_conditions.Known.{facts_of, AreKeys}
use Rattle.task_instances.specs.fact_rows.Adding.{with_names}
use Rattle.task_instances.specs.facts.Adding.{fact_keys, value_key}
use Rattle.task_instances.specs.facts.Facts.{AreValued}
use Rattle.task_instances.proofs.lemmas.fact_rows.Adding.{any-with_names}

or-false : (a : Bool) → (a || false) ≡ a
or-false true = refl
or-false false = refl

keys_of_all : (items : List InitItem) → flat_map fact_keys items ≡ map key_of (facts_of items)
keys_of_all [] = refl
keys_of_all (i ∷ items) =
    ap (λ l. fact_keys i ++ l) (keys_of_all items) ∙ sym (map-append key_of (fact_atoms i) (flat_map fact_atoms items))

-- it does not matter which atom is asked first
turned : (p q : GroundAtom) → same_atom p q ≡ same_atom q p
turned p q = by_test (same_atom p q)
    (λ e. e ∙ sym ((same_atom-Decides q p).1 (sym ((same_atom-Decides p q).0 e))))
    (λ e. by_test (same_atom q p)
    (λ t. absurd (true≢false (sym ((same_atom-Decides p q).1 (sym ((same_atom-Decides q p).0 t))) ∙ e)))
    (λ f. e ∙ sym f))

any_key : (q : GroundAtom) (atoms : List GroundAtom) → list_any (same_name (key_of q)) (map key_of atoms) ≡ list_any (same_atom q) atoms
any_key q [] = refl
any_key q (a ∷ atoms) =
    ap (λ b. b || list_any (same_name (key_of q)) (map key_of atoms)) (keys_tell q a ∙ turned a q)
    ∙ ap (λ b. same_atom q a || b) (any_key q atoms)

pub facts_are_told : (items : List InitItem) (keys : List Name) → keys ≡ with_names [] (flat_map fact_keys items) → AreKeys keys items
facts_are_told items keys are = record {
  tell = λ q.
      ap (list_any (same_name (key_of q))) are
      ∙ any-with_names [] (flat_map fact_keys items) (key_of q)
      ∙ ap (list_any (same_name (key_of q))) (keys_of_all items)
      ∙ any_key q (facts_of items)
      ∙ sym (has-with_atoms no_atoms (facts_of items) q ∙ or-false (list_any (same_atom q) (facts_of items)));
}

-- ---- function terms

pub found_any : {X Y : Type 0} (f : X → Y) (p : X → Bool) (xs : List X) → is_some (option_map f (find p xs)) ≡ list_any p xs
found_any f p [] = refl
found_any f p (x ∷ xs) = by_test (p x)
    (λ e. rw e refl)
    (λ e. rw e (found_any f p xs))

any_value : (t : GroundAtom) (items : List ValueItem) → list_any (same_name (key_of t)) (map value_key items) ≡ list_any (is_value_of t) items
any_value t [] = refl
any_value t (v ∷ items) =
    ap (λ b. b || list_any (same_name (key_of t)) (map value_key items)) (keys_tell t (ground_atom [] v.function) ∙ turned (ground_atom [] v.function) t)
    ∙ ap (λ b. is_value_of t v || b) (any_value t items)

pub values_are_told : (task : Task) (items : List ValueItem) (keys : List Name) → keys ≡ with_names [] (map value_key items)
    → items ≡ task.problem.values → AreValued keys task
values_are_told task items keys are same = λ t.
    ap (list_any (same_name (key_of t))) are
    ∙ any-with_names [] (map value_key items) (key_of t)
    ∙ any_value t items
    ∙ ap (list_any (is_value_of t)) same
    ∙ sym (found_any (λ (v : ValueItem). v.value) (is_value_of t) task.problem.values)

-- ---- types of objects

pub objects_known : (types : List TypeDecl) (all objects : List ObjectDecl)
    → list_all (λ (o : ObjectDecl). is_plain o.name && is_type types o.kind && has_one_type all o) objects ≡ true
    → list_all (is_known types) objects ≡ true
objects_known types all [] fit = refl
objects_known types all (o ∷ objects) fit =
    let parts = and_parts (is_plain o.name && is_type types o.kind && has_one_type all o)
    (list_all (λ (x : ObjectDecl). is_plain x.name && is_type types x.kind && has_one_type all x) objects) fit in
    let first = and_parts (is_plain o.name && is_type types o.kind) (has_one_type all o) parts.0 in
    let kind = and_parts (is_plain o.name) (is_type types o.kind) first.0 in
    ap (λ b. b && list_all (is_known types) objects) kind.1 ∙ objects_known types all objects parts.1
