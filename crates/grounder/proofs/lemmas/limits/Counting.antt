-- Counts of objects and instances, and tests of counts that stop.
use Rattle.std.proofs.Common.{◌≡◌, ℕ, suc, ◌+◌, ◌*◌, ◌<◌, ◌≤◌, List, [], ◌∷◌, map, filter, length, drop, drop-cons, get_or, add-one, length-append, refl, sym, ap, ◌∙◌, arith}
use Rattle.std.specs.Prelude.{flat_map, codes, Result, Ok, Err, Some}
use Rattle.std.specs.List.{list_any}
use Rattle.std.proofs.lemmas.List.{length-map}
use Rattle.std.proofs.lemmas.Bool.{le-leb, lt-leb}
use Rattle.plain_list.specs.weighted.Mean.{total}
use Rattle.plain_list.specs.Results.{◌>>=◌}
use Rattle.ppddl_model.specs.declared.tree.Action.{Action}
use Rattle.ppddl_model.specs.declared.tree.ObjectDecl.{ObjectDecl}
use Rattle.ppddl_model.specs.declared.tree.Task.{Task}
use Rattle.ppddl_model.specs.Objects.{World, Binding, bindings, is_under}
use Rattle.ppddl_model.specs.Steps.{Instance, world, instances}
use Rattle.ground_meaning.specs.choices.Joint.{den_of}
use Rattle.ground_meaning.specs.choices.Limits.{condition_size}
use Rattle.ground_meaning.specs.declared.refusals.limits.LimitCode.{LimitCode}
use Rattle.ground_meaning.specs.declared.refusals.limits.LimitCode.TheVariants.{Denominator, GroundSize, Instances, Objects}
use Rattle.ground_meaning.specs.refusals.Codes.{most_of}
use Rattle.ground_meaning.specs.refusals.Limits.{checked, within, tried, actions_within}
use Rattle.ground_terms.specs.sizes.Counted.{counted}
use Rattle.ground_terms.specs.sizes.Typed.{names_of}
use Rattle.ground_terms.proofs.lemmas.sizes.OfTypes.{type_named}
use Rattle.type_table.specs.Numbered.{number_of}
use Rattle.type_table.specs.Types.{type_names, object_at, objects_under}
use Rattle.ground_terms.proofs.lemmas.sizes.CostSteps.{bindings-valued}
use Rattle.ground_terms.proofs.lemmas.sizes.Forgetting.{condition_forgets, den_forgets}
use Rattle.ground_terms.proofs.lemmas.sizes.Stopping.{counted-add, counted-mul, counted_within}
use Rattle.task_instances.specs.facts.Facts.{table_of}
use Rattle.grounder.specs.limits.Early.{sizes_of, one_within, early_limits}

-- ---- objects

pub all_under : (w : World) (objects : List ObjectDecl)
    → filter (λ (o : ObjectDecl). list_any (is_under w o.kind) (codes "object" ∷ [])) objects ≡ objects
all_under w [] = refl
all_under w (o ∷ objects) = ap (λ l. o ∷ l) (all_under w objects)

pub objects_long : (w : World) (result : List ℕ) (k : ℕ) → Some k ≡ number_of (type_names w.types) (codes "object")
    → map (object_at w) result ≡ objects_under w k → length result ≡ length w.objects
objects_long w result k is are =
    sym (length-map result (object_at w))
    ∙ ap length (are ∙ ap (λ kind. names_of w (kind ∷ [])) (type_named w (codes "object") k is))
    ∙ length-map (filter (λ (o : ObjectDecl). list_any (is_under w o.kind) (codes "object" ∷ [])) w.objects) (λ (o : ObjectDecl). o.name)
    ∙ ap length (all_under w w.objects)

-- ---- instances

tried_is : (task : Task) (a : Action) → length (bindings (table_of task) a.params []) ≡ tried task a
tried_is task a = ap length (sym (bindings-valued (table_of task) task.problem.values a.params []))

abbrev pub tried_by_table : Task → Action → ℕ
tried_by_table task a = length (bindings (table_of task) a.params [])

abbrev instance_of : Action → Binding → Instance
instance_of a b = record { action = a; binding = b }

instances_long : (task : Task) (actions : List Action)
    → total (tried_by_table task) actions
    ≡ length (flat_map (λ (a : Action). map (instance_of a) (bindings (world task) a.params [])) actions)
instances_long task [] = refl
instances_long task (a ∷ actions) =
    ap (λ n. n + total (tried_by_table task) actions) (tried_is task a ∙ sym (length-map (bindings (world task) a.params []) (instance_of a)))
    ∙ ap (λ n. length (map (instance_of a) (bindings (world task) a.params [])) + n) (instances_long task actions)
    ∙ sym (length-append (map (instance_of a) (bindings (world task) a.params []))
    (flat_map (λ (x : Action). map (instance_of x) (bindings (world task) x.params [])) actions))

pub all_tried : (task : Task) → counted (0 + total (tried_by_table task) task.domain.actions) ≡ counted (length (instances task))
all_tried task = let none : 0 + total (tried_by_table task) task.domain.actions ≡ total (tried_by_table task) task.domain.actions = omega arith in
    ap counted (none ∙ instances_long task task.domain.actions)

-- ---- tests

pub test_counted : (n most : ℕ) → most < 18446744073709551615 → (counted n ≤ most → n ≤ most) × (most < counted n → most < n)
test_counted n most small = ((λ within. omega arith), (λ above. omega arith))

pub passes : (n : ℕ) (code : LimitCode) → n ≤ most_of code → within n code ≡ Ok tt
passes n code small = ap (λ b. checked b code) (le-leb n (most_of code) small)

pub fails : (n : ℕ) (code : LimitCode) → most_of code < n → within n code ≡ Err code
fails n code above = ap (λ b. checked b code) (lt-leb n (most_of code) above)

-- ---- one action

module _ (task : Task) (a : Action) (size : ℕ) where
  abbrev den : ℕ
  den = den_of (world task) a.effect

  abbrev whole_size : ℕ
  whole_size = size + sizes_of task a

  den_is : (d : ℕ) → d ≡ counted (den_of (table_of task) a.effect) → d ≡ counted den
  den_is d is = is ∙ ap counted (sym (den_forgets (table_of task) task.problem.values a.effect))

  pub too_fine : (d : ℕ) → d ≡ counted (den_of (table_of task) a.effect) → most_of Denominator < d → Err Denominator ≡ one_within task size a
  too_fine d is above =
      let small : most_of Denominator < 18446744073709551615 = omega arith in
      let same : d ≡ counted den = den_is d is in
      let over : most_of Denominator < den = (test_counted den (most_of Denominator) small).1 (omega (arith, same, above)) in
      sym (ap (λ r. r >>= λ _. within whole_size GroundSize >>= λ _. Ok whole_size) (fails den Denominator over))

  fine : (d : ℕ) → d ≡ counted (den_of (table_of task) a.effect) → d ≤ most_of Denominator → within den Denominator ≡ Ok tt
  fine d is under =
      let small : most_of Denominator < 18446744073709551615 = omega arith in
      let same : d ≡ counted den = den_is d is in
      passes den Denominator ((test_counted den (most_of Denominator) small).0 (omega (arith, same, under)))

  module _ (d t c sizes whole : ℕ) (is : d ≡ counted (den_of (table_of task) a.effect)) (under : d ≤ most_of Denominator) (room : size ≤ most_of GroundSize)
      (ways : t ≡ counted (tried_by_table task a)) (each : c ≡ counted (condition_size (table_of task) a.condition))
      (times : sizes ≡ counted (t * c)) (plus : whole ≡ counted (size + sizes)) where
    whole_is : whole ≡ counted whole_size
    whole_is =
        let known : size ≡ counted size = counted_within size (omega (arith, room)) in
        let product : sizes ≡ counted (sizes_of task a)
        = times ∙ (λ i. counted (ways i * each i)) ∙ counted-mul (tried_by_table task a) (condition_size (table_of task) a.condition)
        ∙ (λ i. counted (tried_is task a i * sym (condition_forgets (table_of task) task.problem.values a.condition) i)) in
        plus ∙ (λ i. counted (known i + product i)) ∙ counted-add size (sizes_of task a)

    pub too_large : most_of GroundSize < whole → Err GroundSize ≡ one_within task size a
    too_large above =
        let small : most_of GroundSize < 18446744073709551615 = omega arith in
        let same : whole ≡ counted whole_size = whole_is in
        let over : most_of GroundSize < whole_size = (test_counted whole_size (most_of GroundSize) small).1 (omega (arith, same, above)) in
        sym (ap (λ r. r >>= λ _. within whole_size GroundSize >>= λ _. Ok whole_size) (fine d is under)
        ∙ ap (λ r. r >>= λ _. Ok whole_size) (fails whole_size GroundSize over))

    pub fits : whole ≤ most_of GroundSize → Ok whole ≡ one_within task size a
    fits below =
        let small : most_of GroundSize < 18446744073709551615 = omega arith in
        let same : whole ≡ counted whole_size = whole_is in
        let inside : whole_size ≤ most_of GroundSize = (test_counted whole_size (most_of GroundSize) small).0 (omega (arith, same, below)) in
        let exact : whole ≡ whole_size = same ∙ sym (counted_within whole_size (omega (arith, inside))) in
        ap Ok exact
        ∙ sym (ap (λ r. r >>= λ _. within whole_size GroundSize >>= λ _. Ok whole_size) (fine d is under)
        ∙ ap (λ r. r >>= λ _. Ok whole_size) (passes whole_size GroundSize inside))

-- ---- one action more

bound_ok : {A : Type 0} (first second : Result (Unit {0}) LimitCode) (n s : ℕ) (f : ℕ → Result A LimitCode)
    → (first >>= λ _. second >>= λ _. Ok n) ≡ Ok s → (first >>= λ _. second >>= λ _. f n) ≡ f s
bound_ok (Ok u) (Ok v) n s f is = let same : n ≡ s = cc in ap f same
bound_ok (Ok u) (Err e) n s f is = absurd cc
bound_ok (Err e) second n s f is = absurd cc

module _ (task : Task) (actions : List Action) (i : ℕ) (a : Action) (size : ℕ) (whole : Result ℕ LimitCode) (within_list : i < length actions)
    (is : a ≡ get_or actions i a) (before : actions_within task size (drop i actions) ≡ whole) where
  rest_is : actions_within task size (a ∷ drop (i + 1) actions) ≡ whole
  rest_is =
      sym (ap (actions_within task size) (drop-cons actions i a within_list)
      ∙ ap (λ (x : Action). actions_within task size (x ∷ drop (suc i) actions)) (sym is)
      ∙ ap (λ k. actions_within task size (a ∷ drop k actions)) (sym (add-one i)))
      ∙ before

  pub one_more : (s : ℕ) → Ok s ≡ one_within task size a → actions_within task s (drop (i + 1) actions) ≡ whole
  one_more s step =
      sym (bound_ok (within (den_of (world task) a.effect) Denominator) (within (size + sizes_of task a) GroundSize) (size + sizes_of task a) s
      (λ n. actions_within task n (drop (i + 1) actions)) (sym step))
      ∙ rest_is

-- ---- in order

module _ (task : Task) where
  abbrev then_instances : Result (Unit {0}) LimitCode → Result ℕ LimitCode
  then_instances r = r >>= λ _. actions_within task 0 task.domain.actions

  pub many_objects : most_of Objects < length (world task).objects → Err Objects ≡ early_limits task
  many_objects above =
      sym (ap (λ r. r >>= λ _. then_instances (within (length (instances task)) Instances)) (fails (length (world task).objects) Objects above))
