-- One declaration more.
use Rattle.std.proofs.Common.{◌≡◌, ℕ, ◌+◌, ◌<◌, List, [], ◌∷◌, ◌++◌, length, take, get_or, map, sym, ap, subst, ◌∙◌}
use Rattle.std.specs.List.{AllZip, position_or_len}
use Rattle.std.proofs.lemmas.List.{take_more}
use Rattle.ppddl_model.specs.declared.tree.ObjectDecl.{ObjectDecl}
use Rattle.ppddl_model.specs.declared.tree.TypeDecl.{TypeDecl}
use Rattle.ppddl_model.specs.State.{Name, same_name}
use Rattle.ppddl_model.specs.Objects.{once}
use Rattle.type_table.specs.declared.link.Link.{Link}
use Rattle.type_table.specs.Numbered.{with_name}
use Rattle.type_table.specs.Types.{type_names}
use Rattle.type_table.specs.Reading.{IsLinkOf, IsKindOf}
use Rattle.type_table.proofs.Lists.{zip_push, zip_weaker}
use Rattle.type_table.proofs.Numbered.{number-kept}
use Rattle.type_table.proofs.Once.{type_names-push, once-push, with_object, names-with_object, object_name, object-new, object-there}

link_kept : (names : List Name) (other : Name) (l : Link) (t : TypeDecl) → IsLinkOf names l t → IsLinkOf (with_name names other) l t
link_kept names other l t is = record {
  child = number-kept names other t.name l.child is.child;
  parent = number-kept names other t.parent l.parent is.parent;
}

module _ (names : List Name) (links : List Link) (types : List TypeDecl) (i : ℕ) (t : TypeDecl) (within : i < length types) (is : t ≡ get_or types i t) where
  one_more : take (i + 1) types ≡ take i types ++ t ∷ []
  one_more = take_more types i t within ∙ ap (λ u. take i types ++ u ∷ []) (sym is)

  pub names_more : names ≡ type_names (take i types) → with_name (with_name names t.name) t.parent ≡ type_names (take (i + 1) types)
  names_more are = ap (λ l. with_name (with_name l t.name) t.parent) are ∙ sym (type_names-push (take i types) t) ∙ ap type_names (sym one_more)

  pub links_more : AllZip (IsLinkOf names) links (take i types) → (l : Link) → IsLinkOf (with_name (with_name names t.name) t.parent) l t
      → AllZip (IsLinkOf (with_name (with_name names t.name) t.parent)) (links ++ l ∷ []) (take (i + 1) types)
  links_more all l link =
      let now : List Name = with_name (with_name names t.name) t.parent in
      subst (AllZip (IsLinkOf now) (links ++ l ∷ [])) (sym one_more)
      (zip_push (IsLinkOf now) links (take i types) l t
      (zip_weaker (IsLinkOf names) (IsLinkOf now) (λ k u is. link_kept (with_name names t.name) t.parent k u (link_kept names t.name k u is)) links (take i types) all) link)

module _ (types names : List Name) (kinds : List ℕ) (objects : List ObjectDecl) (i : ℕ) (o : ObjectDecl) (within : i < length objects) (is : o ≡ get_or objects i o) where
  object_more : once (take (i + 1) objects) ≡ with_object (once (take i objects)) o
  object_more = ap once (take_more objects i o within ∙ ap (λ u. take i objects ++ u ∷ []) (sym is)) ∙ once-push (take i objects) o

  pub object_names_more : names ≡ map object_name (once (take i objects)) → with_name names o.name ≡ map object_name (once (take (i + 1) objects))
  object_names_more are = ap (λ l. with_name l o.name) are ∙ sym (names-with_object (once (take i objects)) o) ∙ ap (map object_name) (sym object_more)

  pub kinds_more : AllZip (IsKindOf types) kinds (once (take i objects)) → (k : ℕ) → IsKindOf types k o
      → position_or_len (same_name o.name) (map object_name (once (take i objects))) ≡ length (once (take i objects))
      → AllZip (IsKindOf types) (kinds ++ k ∷ []) (once (take (i + 1) objects))
  kinds_more all k kind last =
      subst (AllZip (IsKindOf types) (kinds ++ k ∷ [])) (sym (object_more ∙ object-new (once (take i objects)) o last))
      (zip_push (IsKindOf types) kinds (once (take i objects)) k o all kind)

  pub kinds_same : AllZip (IsKindOf types) kinds (once (take i objects))
      → (position_or_len (same_name o.name) (map object_name (once (take i objects))) ≡ length (once (take i objects)) → ⊥)
      → AllZip (IsKindOf types) kinds (once (take (i + 1) objects))
  kinds_same all before =
      subst (AllZip (IsKindOf types) kinds) (sym (object_more ∙ object-there (once (take i objects)) o before)) all
