-- What is known of a condition in every reachable state: true, false, or left open.
-- Source: Kleene's strong three-valued logic (Kleene 1952).
--     known_not, known_and, known_or     Kleene's negation, conjunction and disjunction; None is what is left open
--     known w changing at_first c b      what is known of c under b, where the predicates `changing` may change and the others are as at first
--     is_not_false x                     whether x is true or left open
use Rattle.std.specs.Prelude.{Bool, true, false, not, cond, List, [], ◌∷◌, map, Option, Some, None}
use Rattle.std.specs.List.{list_any}
use Rattle.std.specs.Option.{option_map}
use Rattle.ppddl_model.specs.declared.tree.Condition.{Condition, Row_of-Condition, end_of-Condition, more_of-Condition}
use Rattle.ppddl_model.specs.declared.tree.Condition.TheVariants as condition
use Rattle.ppddl_model.specs.State.{Name, same_name, State, has}
use Rattle.ppddl_model.specs.Objects.{World, Binding, named, ground_atom, bindings}

abbrev pub known_not : Option Bool → Option Bool
known_not = option_map not

abbrev pub known_and : Option Bool → Option Bool → Option Bool
known_and (Some false) y = Some false
known_and (Some true) y = y
known_and None (Some false) = Some false
known_and None _ = None

abbrev pub known_or : Option Bool → Option Bool → Option Bool
known_or (Some true) y = Some true
known_or (Some false) y = y
known_or None (Some true) = Some true
known_or None _ = None

abbrev pub known_all : List (Option Bool) → Option Bool
known_all [] = Some true
known_all (x ∷ xs) = known_and x (known_all xs)

abbrev pub known_any : List (Option Bool) → Option Bool
known_any [] = Some false
known_any (x ∷ xs) = known_or x (known_any xs)

module _ (w : World) (changing : List Name) (at_first : State) where
  abbrev mutual
    pub known : Condition → Binding → Option Bool
    known (condition.Atom a) b =
        cond (list_any (same_name a.predicate) changing) None (Some (has at_first (ground_atom b a)))
    known (condition.Equal x y) b = Some (same_name (named b x) (named b y))
    known (condition.Not' u (more_of-Condition c end_of-Condition)) b = known_not (known c b)
    known (condition.All' shape cs) b = known_all (known_each cs b)
    known (condition.Any' shape cs) b = known_any (known_each cs b)
    known (condition.Imply' u (more_of-Condition c end_of-Condition) v (more_of-Condition d end_of-Condition)) b =
        known_or (known_not (known c b)) (known d b)
    known (condition.Exists' params u (more_of-Condition c end_of-Condition)) b = known_any (map (λ b'. known c b') (bindings w params b))
    known (condition.Forall' params u (more_of-Condition c end_of-Condition)) b = known_all (map (λ b'. known c b') (bindings w params b))

    pub known_each : {n : _} → Row_of-Condition n → Binding → List (Option Bool)
    known_each end_of-Condition b = []
    known_each (more_of-Condition c cs) b = known c b ∷ known_each cs b

abbrev pub is_not_false : Option Bool → Bool
is_not_false None = true
is_not_false (Some b) = b
