-- The task that the line of places spells: places in a row, and at each but the last an action that moves on with some probability.
--     place i              the atom of place i
--     place_decl i         its predicate, which has no parameters
--     chance_of t          t tenths, in lowest terms
--     move_effect seed i   one unit of cost, and by chance from place i to the next one
--     move seed i          the action at place i, which stands on line 3 + i
--     line_task n seed     n places, from the first to the last
use Rattle.std.specs.Prelude.{ℕ, ◌+◌, ◌-◌, [], ◌∷◌, map, Some, codes}
use Rattle.std.specs.List.{range_with_len}
use Rattle.exact_fraction.specs.declared.fraction.Fraction.{Fraction}
use Rattle.exact_fraction.specs.Numbers.{lowest_terms}
use Rattle.ppddl_model.specs.declared.tree.Action.{Action}
use Rattle.ppddl_model.specs.declared.tree.Atom.{Atom}
use Rattle.ppddl_model.specs.declared.tree.Condition.TheVariants as condition
use Rattle.ppddl_model.specs.declared.tree.Effect.{Effect}
use Rattle.ppddl_model.specs.declared.tree.Effect.TheVariants as effect
use Rattle.ppddl_model.specs.declared.tree.InitItem.TheVariants as item
use Rattle.ppddl_model.specs.declared.tree.PredicateDecl.{PredicateDecl}
use Rattle.ppddl_model.specs.declared.tree.Task.{Task}
use Rattle.plan_report.specs.Line.{tenths, numbered}

abbrev pub place : ℕ → Atom
place i = record { predicate = numbered (codes "at") i; args = [] }

abbrev pub place_decl : ℕ → PredicateDecl
place_decl i = record { name = numbered (codes "at") i; params = [] }

abbrev pub chance_of : ℕ → Fraction
chance_of t = lowest_terms (record { num = t; den = 10 })

abbrev pub move_effect : ℕ → ℕ → Effect
move_effect seed i = effect.Both (
    effect.Cost 1000000
    ∷ effect.Chance (record { chance = chance_of (tenths seed i); effect = effect.Both (effect.Delete (place i) ∷ effect.Add (place (i + 1)) ∷ []) } ∷ [])
    ∷ [])

abbrev pub move : ℕ → ℕ → Action
move seed i = record { name = numbered (codes "go") i; line = 3 + i; params = []; condition = condition.Atom (place i); effect = move_effect seed i }

abbrev pub line_task : ℕ → ℕ → Task
line_task n seed = record {
  domain = record {
    name = codes "line";
    types = [];
    constants = [];
    predicates = map place_decl (range_with_len 0 n);
    functions = [];
    actions = map (move seed) (range_with_len 0 (n - 1));
  };
  domain_file = 1;
  problem = record {
    name = numbered (codes "line-") n;
    file = 1;
    line = n + 3;
    objects = [];
    init = item.Fact (place 0) ∷ [];
    values = [];
    goal = condition.Atom (place (n - 1));
    goal_reward = Some 100000000000;
  };
}
