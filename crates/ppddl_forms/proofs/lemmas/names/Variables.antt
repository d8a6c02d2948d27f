-- Variables in sight, list by list from the innermost.
use Rattle.std.proofs.Common.{◌≡◌, Bool, List, [], ◌∷◌, ◌++◌, length, reverse, refl, Some, None, ap, ◌∙◌, arith}
use Rattle.std.proofs.lemmas.List.{reverse-append}
use Rattle.std.specs.List.{find}
use Rattle.std.specs.Option.{option_map, option_or}
use Rattle.std.proofs.lemmas.List.Folds.{find-append}
use Rattle.ppddl_model.specs.declared.tree.Param.{Param}
use Rattle.ppddl_model.specs.State.{Name, same_name}
use Rattle.ppddl_forms.specs.names.Sight.{in_sight, kinds_in}

abbrev kinds_of : Param → List Name
kinds_of p = p.kinds

abbrev is_named : Name → Param → Bool
is_named v p = same_name p.name v

module _ (lists rest : List (List Param)) (params : List Param) (v : Name) (are : lists ≡ rest ++ params ∷ []) where
  innermost : kinds_in (reverse lists) v ≡ option_map kinds_of (option_or (find (is_named v) params) (find (is_named v) (in_sight (reverse rest))))
  innermost =
      ap (λ ls. kinds_in (reverse ls) v) are
      ∙ ap (λ ls. kinds_in ls v) (reverse-append rest (params ∷ []))
      ∙ ap (option_map kinds_of) (find-append (is_named v) params (in_sight (reverse rest)))

  pub innermost_has : (p : Param) → find (is_named v) params ≡ Some p → kinds_in (reverse lists) v ≡ Some p.kinds
  innermost_has p found = innermost ∙ ap (λ o. option_map kinds_of (option_or o (find (is_named v) (in_sight (reverse rest))))) found

  pub innermost_lacks : find (is_named v) params ≡ None → kinds_in (reverse lists) v ≡ kinds_in (reverse rest) v
  innermost_lacks none = innermost ∙ ap (λ o. option_map kinds_of (option_or o (find (is_named v) (in_sight (reverse rest))))) none

pub none_left : (lists : List (List Param)) (v : Name) → length lists ≡ 0 → kinds_in (reverse lists) v ≡ None
none_left [] v empty = refl
none_left (params ∷ lists) v empty = absurd (omega (arith, empty))
