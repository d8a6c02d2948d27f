-- What is known of conditions, computed: `(done)` may change, `(old b1)` is a fact and `(old c1)` is none.
use Rattle.std.specs.Prelude.{◌≡◌, [], ◌∷◌, true, false, Bool, Option, Some, None, codes}
use Rattle.std.proofs.Common.{refl}
use Rattle.ppddl_model.specs.declared.tree.Term.TheVariants.{Object}
use Rattle.ppddl_model.specs.declared.tree.Condition.{Condition}
use Rattle.ppddl_model.specs.declared.tree.Condition.TheVariants as condition
use Rattle.ppddl_model.specs.declared.tree.Condition.TheBlock.{shape-the_row-Condition-0, hidden-the_row-Condition-0, hidden-the_row-Condition-1}
use denote.Hole.Carrier.{hidden}
use Rattle.ppddl_model.specs.State.{Name, no_atoms, with_atom}
use Rattle.ppddl_model.specs.Known.{known}
use Rattle.ppddl_model.specs.examples.Conditions.{garage, each, is_old}

abbrev known_of : Condition → Option Bool
known_of c = known garage (codes "done" ∷ []) (with_atom no_atoms (codes "old" ∷ codes "b1" ∷ [])) c []

abbrev old : Name → Condition
old name = condition.Atom (record { predicate = codes "old"; args = Object name ∷ [] })

abbrev done : Condition
done = condition.Atom (record { predicate = codes "done"; args = [] })

left_open : known_of done ≡ None
unfolding shape-the_row-Condition-0 hidden-the_row-Condition-0 hidden-the_row-Condition-1 hidden
left_open = refl

false_in_any_case : known_of (condition.All (done ∷ old (codes "c1") ∷ [])) ≡ Some false
unfolding shape-the_row-Condition-0 hidden-the_row-Condition-0 hidden-the_row-Condition-1 hidden
false_in_any_case = refl

true_in_any_case : known_of (condition.Imply done (old (codes "b1"))) ≡ Some true
unfolding shape-the_row-Condition-0 hidden-the_row-Condition-0 hidden-the_row-Condition-1 hidden
true_in_any_case = refl

-- the rules take no account of a condition that is repeated
not_seen_through : known_of (condition.Any (done ∷ condition.Not done ∷ [])) ≡ None
unfolding shape-the_row-Condition-0 hidden-the_row-Condition-0 hidden-the_row-Condition-1 hidden
not_seen_through = refl

some_old_one : known_of (condition.Exists (each (codes "?x") (codes "vehicle" ∷ []) ∷ []) (condition.All (condition.Atom (is_old (codes "?x")) ∷ done ∷ []))) ≡ None
unfolding shape-the_row-Condition-0 hidden-the_row-Condition-0 hidden-the_row-Condition-1 hidden
some_old_one = refl
