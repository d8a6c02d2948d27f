-- The haul: going along a road costs the length that `:init` gives to it. Giving up costs ten units.
use Rattle.std.specs.Prelude.{◌≡◌, ℕ, Bool, true, false, List, [], ◌∷◌, map, Some, codes}
use Rattle.std.proofs.Common.{refl}
use Rattle.decision_process.specs.Least.{least}
use Rattle.ppddl_model.specs.declared.tree.Term.{Term}
use Rattle.ppddl_model.specs.declared.tree.Term.TheVariants.{Variable, Object}
use Rattle.ppddl_model.specs.declared.tree.Atom.{Atom}
use Rattle.ppddl_model.specs.declared.tree.Param.{Param}
use Rattle.ppddl_model.specs.declared.tree.Action.{Action}
use Rattle.ppddl_model.specs.declared.tree.ValueItem.{ValueItem}
use Rattle.ppddl_model.specs.declared.tree.Task.{Task}
use Rattle.ppddl_model.specs.declared.tree.InitItem.TheVariants.{Fact}
use Rattle.ppddl_model.specs.declared.tree.Effect.TheVariants as effect
use Rattle.ppddl_model.specs.declared.tree.Effect.TheBlock.{shape-the_row-Effect-0, hidden-the_row-Effect-0, hidden-the_row-Effect-1, shape-the_row-Branch-2, hidden-the_row-Branch-2}
use Rattle.ppddl_model.specs.declared.tree.Condition.TheVariants as condition
use Rattle.ppddl_model.specs.declared.tree.Condition.TheBlock.{shape-the_row-Condition-0, hidden-the_row-Condition-0, hidden-the_row-Condition-1}
use denote.Hole.Carrier.{hidden}
use Rattle.ppddl_model.specs.State.{Name, State, no_atoms, with_atoms}
use Rattle.ppddl_model.specs.Steps.{Instance, Charges, world, instance_name, open_instances, step, process, least_step_cost}
use Rattle.ppddl_model.specs.WellFormed.{values_fit}
use Rattle.ppddl_model.specs.Changing.{kept_instances, state_of_texts}

abbrev of : Name → List Term → Atom
of name args = record { predicate = name; args = args }

abbrev any_object : Name → Param
any_object variable = record { name = variable; kinds = codes "object" ∷ [] }

abbrev x_and_y : List Term
x_and_y = Variable (codes "?x") ∷ Variable (codes "?y") ∷ []

abbrev pub go : Action
go = record {
  name = codes "go";
  line = 4;
  params = any_object (codes "?x") ∷ any_object (codes "?y") ∷ [];
  condition = condition.All
      (condition.Atom (of (codes "at") (Variable (codes "?x") ∷ [])) ∷ condition.Atom (of (codes "road") x_and_y) ∷ []);
  effect = effect.Both
      (effect.Add (of (codes "at") (Variable (codes "?y") ∷ [])) ∷ effect.Delete (of (codes "at") (Variable (codes "?x") ∷ []))
      ∷ effect.CostOf (of (codes "length") x_and_y) ∷ []);
}

abbrev road : Name → Name → Atom
road x y = of (codes "road") (Object x ∷ Object y ∷ [])

-- `(= (length X Y) VALUE)`
abbrev length_of : Name → Name → ℕ → ValueItem
length_of x y value = record { function = of (codes "length") (Object x ∷ Object y ∷ []); value = value }

-- roads from a to b, from b to c and from a to c
abbrev pub at_first : List Atom
at_first =
    of (codes "at") (Object (codes "a") ∷ [])
    ∷ road (codes "a") (codes "b") ∷ road (codes "b") (codes "c") ∷ road (codes "a") (codes "c") ∷ []

-- the haul over roads with these lengths
abbrev haul : List ValueItem → Task
haul lengths = record {
  domain = record {
    name = codes "haul";
    types = [];
    constants = [];
    predicates = record { name = codes "at"; params = any_object (codes "?x") ∷ [] }
        ∷ record { name = codes "road"; params = any_object (codes "?x") ∷ any_object (codes "?y") ∷ [] } ∷ [];
    functions = record { name = codes "length"; params = any_object (codes "?x") ∷ any_object (codes "?y") ∷ [] } ∷ [];
    actions = go ∷ [];
  };
  domain_file = 1;
  problem = record {
    name = codes "haul-1";
    file = 1;
    line = 7;
    objects = map (λ name. record { name = name; kind = codes "object" }) (codes "a" ∷ codes "b" ∷ codes "c" ∷ []);
    init = map Fact at_first;
    values = lengths;
    goal = condition.Atom (of (codes "at") (Object (codes "c") ∷ []));
    goal_reward = Some 10000000;
  };
}

-- one and a half units, two units and four units
abbrev pub whole_haul : Task
whole_haul = haul (length_of (codes "a") (codes "b") 1500000 ∷ length_of (codes "b") (codes "c") 2000000 ∷ length_of (codes "a") (codes "c") 4000000 ∷ [])

-- no length from b to c
abbrev missing_haul : Task
missing_haul = haul (length_of (codes "a") (codes "b") 1500000 ∷ length_of (codes "a") (codes "c") 4000000 ∷ [])

-- the way from a to c costs nothing
abbrev free_haul : Task
free_haul = haul (length_of (codes "a") (codes "b") 1500000 ∷ length_of (codes "b") (codes "c") 2000000 ∷ length_of (codes "a") (codes "c") 0 ∷ [])

abbrev charges : Charges
charges = record { penalty = 10000000; step_cost = 0 }

abbrev at : Name → State
at x = with_atoms no_atoms
    ((codes "at" ∷ x ∷ []) ∷ (codes "road" ∷ codes "a" ∷ codes "b" ∷ []) ∷ (codes "road" ∷ codes "b" ∷ codes "c" ∷ [])
    ∷ (codes "road" ∷ codes "a" ∷ codes "c" ∷ []) ∷ [])

abbrev going : Name → Name → Instance
going x y = record { action = go; binding = (codes "?y", y) ∷ (codes "?x", x) ∷ [] }

two_ways_from_a : open_instances whole_haul (at (codes "a")) ≡ going (codes "a") (codes "b") ∷ going (codes "a") (codes "c") ∷ []
unfolding shape-the_row-Effect-0 hidden-the_row-Effect-0 hidden-the_row-Effect-1 shape-the_row-Branch-2 hidden-the_row-Branch-2 shape-the_row-Condition-0 hidden-the_row-Condition-0 hidden-the_row-Condition-1 hidden
two_ways_from_a = refl

no_way_from_b : open_instances missing_haul (at (codes "b")) ≡ []
unfolding shape-the_row-Effect-0 hidden-the_row-Effect-0 hidden-the_row-Effect-1 shape-the_row-Branch-2 hidden-the_row-Branch-2 shape-the_row-Condition-0 hidden-the_row-Condition-0 hidden-the_row-Condition-1 hidden
no_way_from_b = refl

-- the step costs the length of its road
a_step : step whole_haul charges (going (codes "a") (codes "b")) (at (codes "a")) ≡ record { weight = 1; next = at (codes "b"); cost = 1500000 } ∷ []
unfolding shape-the_row-Effect-0 hidden-the_row-Effect-0 hidden-the_row-Effect-1 shape-the_row-Branch-2 hidden-the_row-Branch-2 shape-the_row-Condition-0 hidden-the_row-Condition-0 hidden-the_row-Condition-1 hidden
a_step = refl

three_roads_are_kept : map instance_name (kept_instances whole_haul) ≡ codes "(go a b)" ∷ codes "(go a c)" ∷ codes "(go b c)" ∷ []
unfolding shape-the_row-Effect-0 hidden-the_row-Effect-0 hidden-the_row-Effect-1 shape-the_row-Branch-2 hidden-the_row-Branch-2 shape-the_row-Condition-0 hidden-the_row-Condition-0 hidden-the_row-Condition-1 hidden
three_roads_are_kept = refl

two_are_kept : map instance_name (kept_instances missing_haul) ≡ codes "(go a b)" ∷ codes "(go a c)" ∷ []
unfolding shape-the_row-Effect-0 hidden-the_row-Effect-0 hidden-the_row-Effect-1 shape-the_row-Branch-2 hidden-the_row-Branch-2 shape-the_row-Condition-0 hidden-the_row-Condition-0 hidden-the_row-Condition-1 hidden
two_are_kept = refl

least_of_the_lengths : least_step_cost whole_haul charges ≡ 1500000
unfolding shape-the_row-Effect-0 hidden-the_row-Effect-0 hidden-the_row-Effect-1 shape-the_row-Branch-2 hidden-the_row-Branch-2 shape-the_row-Condition-0 hidden-the_row-Condition-0 hidden-the_row-Condition-1 hidden
least_of_the_lengths = refl

-- so the action may cost nothing
least_is_nothing : least_step_cost free_haul charges ≡ 0
unfolding shape-the_row-Effect-0 hidden-the_row-Effect-0 hidden-the_row-Effect-1 shape-the_row-Branch-2 hidden-the_row-Branch-2 shape-the_row-Condition-0 hidden-the_row-Condition-0 hidden-the_row-Condition-1 hidden
least_is_nothing = refl

over_b : least (process whole_haul charges) 2 (at (codes "a")) ≡ 3500000
unfolding shape-the_row-Effect-0 hidden-the_row-Effect-0 hidden-the_row-Effect-1 shape-the_row-Branch-2 hidden-the_row-Branch-2 shape-the_row-Condition-0 hidden-the_row-Condition-0 hidden-the_row-Condition-1 hidden
over_b = refl

-- over b no way leads on
straight_to_c : least (process missing_haul charges) 2 (at (codes "a")) ≡ 4000000
unfolding shape-the_row-Effect-0 hidden-the_row-Effect-0 hidden-the_row-Effect-1 shape-the_row-Branch-2 hidden-the_row-Branch-2 shape-the_row-Condition-0 hidden-the_row-Condition-0 hidden-the_row-Condition-1 hidden
straight_to_c = refl

-- the roads are true besides
only_where_it_is : state_of_texts whole_haul (codes "(at a)" ∷ []) ≡ at (codes "a")
unfolding shape-the_row-Effect-0 hidden-the_row-Effect-0 hidden-the_row-Effect-1 shape-the_row-Branch-2 hidden-the_row-Branch-2 shape-the_row-Condition-0 hidden-the_row-Condition-0 hidden-the_row-Condition-1 hidden
only_where_it_is = refl

abbrev fit : Task → Bool
fit task = values_fit (world task) task.domain task.problem.values

-- a value that is given twice is one value, and two values of one term are none
given_twice : fit (haul (length_of (codes "a") (codes "b") 1500000 ∷ length_of (codes "a") (codes "b") 1500000 ∷ [])) ≡ true
given_twice = refl

two_values : fit (haul (length_of (codes "a") (codes "b") 1500000 ∷ length_of (codes "a") (codes "b") 2000000 ∷ [])) ≡ false
two_values = refl

-- d is no object
no_such_object : fit (haul (length_of (codes "a") (codes "d") 1500000 ∷ [])) ≡ false
no_such_object = refl
