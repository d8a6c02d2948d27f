-- What is known of a condition beforehand, from the items of `:init`.
--     facts_of init               the atoms that the items name as facts
--     first_state init            the state of these facts
--     known_in w changing init c b
--                                 what is known of c under b
--     joined all x y              Kleene's conjunction, or his disjunction
--     joined_each all xs          of a list
--     AreKeys keys init           the keys tell of each atom whether it is a fact
use Rattle.std.specs.Prelude.{◌≡◌, Bool, cond, List, flat_map, Option}
use Rattle.std.specs.List.{list_any}
use Rattle.ppddl_model.specs.declared.tree.Condition.{Condition}
use Rattle.ppddl_model.specs.declared.tree.InitItem.{InitItem}
use Rattle.ppddl_model.specs.State.{Name, same_name, GroundAtom, State, no_atoms, has, with_atoms}
use Rattle.ppddl_model.specs.Objects.{World, Binding}
use Rattle.ppddl_model.specs.Known.{known, known_and, known_or, known_all, known_any}
use Rattle.ppddl_model.specs.Changing.{fact_atoms}
use Rattle.ground_terms.specs.terms.Keys.{key_of}

abbrev pub facts_of : List InitItem → List GroundAtom
facts_of init = flat_map fact_atoms init

abbrev pub first_state : List InitItem → State
first_state init = with_atoms no_atoms (facts_of init)

abbrev pub known_in : World → List Name → List InitItem → Condition → Binding → Option Bool
known_in w changing init = known w changing (first_state init)

abbrev pub joined : Bool → Option Bool → Option Bool → Option Bool
joined all x y = cond all (known_and x y) (known_or x y)

abbrev pub joined_each : Bool → List (Option Bool) → Option Bool
joined_each all xs = cond all (known_all xs) (known_any xs)

pub record AreKeys (keys : List Name) (init : List InitItem) : Type 0 where
  pub tell : (q : GroundAtom) → list_any (same_name (key_of q)) keys ≡ has (first_state init) q
