use Rattle.std.proofs.Common.{◌≡◌, ◌∙◌, ◌++◌, ◌∷◌, [], true, false, length, length-append, nat_eq, ap, sym, subst, arith, if◌then◌else◌, eqb-true, rules}
use Rattle.std.specs.List.{list_any, IsDistinct}
use Rattle.std.proofs.lemmas.Map.Views.{Contains-from_any}
use Rattle.type_table.specs.Forest.{parent_at, IsPathTo}
use Rattle.type_table.proofs.Climbing.{loop_of, distinct_none, path_begins, path_goes_on, path_few}
use Rattle.type_table.proofs.forest.walk_up.Goals as goal

pub loop-top-init : goal.loop-top-init
loop-top-init c =
    subst (λ keys. IsPathTo c.args.parents.now c.args.kind keys c.args.kind × IsDistinct nat_eq keys) (sym c.requires.begins)
    (path_begins c.args.parents.now c.args.kind c.requires.kind, distinct_none)

pub returns-then-not-branch-clause-cycle : goal.returns-then-not-branch-clause-cycle
returns-then-not-branch-clause-cycle c _ =
    let l = c.loop-top in
    let met : list_any (nat_eq l.top) l.path.keys ≡ true = search rules in
    loop_of c.args.parents.now c.args.kind l.path.keys l.top c.requires.within c.requires.kind l.invariant.0 (Contains-from_any eqb-true l.top l.path.keys met)

pub loop-top-smaller : goal.loop-top-smaller
loop-top-smaller c =
    let l = c.loop-top in
    let parents = c.args.parents.now in
    let new : list_any (nat_eq l.top) l.path.keys ≡ false = search rules in
    let keys : c.add_new.new.path.keys ≡ l.path.keys ++ l.top ∷ [] = c.in_ok-add_new.ensures.keys ∙ ap (λ b. if b then l.path.keys else l.path.keys ++ l.top ∷ []) new in
    let next = path_goes_on parents c.args.kind l.path.keys l.top c.requires.within l.invariant.0 c.if-parents-top.true in
    let few = path_few parents c.args.kind (l.path.keys ++ l.top ∷ []) (parent_at parents l.top) c.requires.within next c.requires.kind (subst (IsDistinct nat_eq) keys c.in_ok-add_new.ensures.distinct) in
    omega (arith, ap length keys, length-append l.path.keys (l.top ∷ []), few)

pub loop-top-preserved : goal.loop-top-preserved
loop-top-preserved c =
    let l = c.loop-top in
    let parents = c.args.parents.now in
    let new : list_any (nat_eq l.top) l.path.keys ≡ false = search rules in
    let keys : c.add_new.new.path.keys ≡ l.path.keys ++ l.top ∷ [] = c.in_ok-add_new.ensures.keys ∙ ap (λ b. if b then l.path.keys else l.path.keys ++ l.top ∷ []) new in
    (subst (λ ks. IsPathTo parents c.args.kind ks (parent_at parents l.top)) (sym keys) (path_goes_on parents c.args.kind l.path.keys l.top c.requires.within l.invariant.0 c.if-parents-top.true), c.in_ok-add_new.ensures.distinct)
