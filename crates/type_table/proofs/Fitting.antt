-- Cycles in the words of well-formed tasks.
use Rattle.std.proofs.Common.{◌≡◌, Bool, true, false, not, ◌&&◌, ◌||◌, List, [], ◌∷◌, length, true≢false, refl, sym, ap, ◌∙◌}
use Rattle.std.specs.Prelude.{codes}
use Rattle.std.specs.List.{list_any, list_all}
use Rattle.ppddl_model.specs.declared.tree.TypeDecl.{TypeDecl}
use Rattle.ppddl_model.specs.State.{same_name}
use Rattle.ppddl_model.specs.Objects.{upward}
use Rattle.ppddl_model.specs.WellFormed.{is_ordered, types_fit}
use Rattle.type_table.specs.Types.{is_circular, has_cycle}

split : (a b p : Bool) → (not a && not b) ≡ (not a && not (not (a && p) && (a || b)))
split true b p = refl
split false b p = refl

pub ordered_is_not_circular : (types : List TypeDecl) (t : TypeDecl)
    → is_ordered types t ≡ (not (same_name t.name (codes "object")) && not (is_circular types t))
ordered_is_not_circular types t =
    split (same_name t.name (codes "object")) (list_any (same_name t.name) (upward (length types) types t.parent)) (same_name t.parent (codes "object"))

second : (a b : Bool) → (a && b) ≡ true → b ≡ true
second true b both = both
second false b both = absurd (true≢false (sym both))

first : (a b : Bool) → (a && b) ≡ true → a ≡ true
first true b both = refl
first false b both = both

not_true : (b : Bool) → not b ≡ true → b ≡ false
not_true true e = sym e
not_true false e = refl

none_circular : (types some : List TypeDecl) → list_all (is_ordered types) some ≡ true → list_any (is_circular types) some ≡ false
none_circular types [] all = refl
none_circular types (t ∷ some) all =
    let ordered : is_ordered types t ≡ true = first (is_ordered types t) (list_all (is_ordered types) some) all in
    let straight : is_circular types t ≡ false = not_true (is_circular types t)
    (second (not (same_name t.name (codes "object"))) (not (is_circular types t)) (sym (ordered_is_not_circular types t) ∙ ordered)) in
    ap (λ b. b || list_any (is_circular types) some) straight
    ∙ none_circular types some (second (is_ordered types t) (list_all (is_ordered types) some) all)

pub fitting_has_no_cycle : (types : List TypeDecl) → types_fit types ≡ true → has_cycle types ≡ false
fitting_has_no_cycle types fit = none_circular types types (second _ (list_all (is_ordered types) types) fit)
