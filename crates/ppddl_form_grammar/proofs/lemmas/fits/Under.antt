-- Types where there are more: a type stays one, and stays under those that it is under.
use Rattle.std.proofs.Common.{◌≡◌, ℕ, zero, suc, ◌≤◌, Bool, true, ◌||◌, List, [], ◌++◌, length, filter, flat_map, inl, inr, ap, ◌∙◌, arith, length-append, codes}
use Rattle.std.specs.List.{list_any}
use Rattle.std.proofs.lemmas.Bool.{or_cases, or_left, or_right}
use Rattle.std.proofs.lemmas.List.Concat.{flat_map-append}
use Rattle.std.proofs.lemmas.List.Elements.{filter-append}
use Rattle.ppddl_model.specs.declared.tree.TypeDecl.{TypeDecl}
use Rattle.ppddl_model.specs.Objects.{upward}
use Rattle.ppddl_model.specs.State.{Name, same_name}
use Rattle.ppddl_model.specs.WellFormed.{is_type}
use Rattle.ppddl_form_grammar.proofs.lemmas.fits.Tests.{any-left, any-flat_map}

module _ (types more : List TypeDecl) where
  abbrev names_it : Name → TypeDecl → Bool
  names_it kind t = same_name kind t.name || same_name kind t.parent

  pub type-grows : (kind : Name) → is_type types kind ≡ true → is_type (types ++ more) kind ≡ true
  type-grows kind is = elim (or_cases (same_name kind (codes "object")) (list_any (names_it kind) types) is) [
    | inl top ↦ or_left (same_name kind (codes "object")) (list_any (names_it kind) (types ++ more)) top
    | inr some ↦ or_right (same_name kind (codes "object")) (list_any (names_it kind) (types ++ more)) (any-left (names_it kind) types more some)
  ]

  abbrev parents : ℕ → List TypeDecl → TypeDecl → List Name
  parents n all t = upward n all t.parent

  abbrev declares : Name → TypeDecl → Bool
  declares kind t = same_name t.name kind

  -- a type is above itself
  upward-first : (p : Name → Bool) (n : ℕ) (all : List TypeDecl) (kind : Name) → p kind ≡ true → list_any p (upward n all kind) ≡ true
  upward-first p zero all kind is = or_left (p kind) (list_any p []) is
  upward-first p (suc n) all kind is = or_left (p kind) (list_any p (flat_map (parents n all) (filter (declares kind) all))) is

  pub upward-grows : (p : Name → Bool) (n m : ℕ) → n ≤ m → (kind : Name) → list_any p (upward n types kind) ≡ true → list_any p (upward m (types ++ more) kind) ≡ true
  upward-grows p zero m fewer kind some = elim (or_cases (p kind) (list_any p []) some) [
    | inl here ↦ upward-first p m (types ++ more) kind here
    | inr none ↦ absurd cc
  ]
  upward-grows p (suc n) zero fewer kind some = absurd (omega (arith, fewer))
  upward-grows p (suc n) (suc m) fewer kind some =
      let above : List TypeDecl → List Name = λ all. flat_map (parents m (types ++ more)) (filter (declares kind) all) in
      elim (or_cases (p kind) (list_any p (flat_map (parents n types) (filter (declares kind) types))) some) [
        | inl here ↦ or_left (p kind) (list_any p (above (types ++ more))) here
        | inr higher ↦
            let own : list_any p (above types) ≡ true =
            any-flat_map p (parents n types) (parents m (types ++ more)) (λ t. upward-grows p n m (omega (arith, fewer)) t.parent) (filter (declares kind) types) higher in
            let parted : above (types ++ more) ≡ above types ++ above more =
            ap (flat_map (parents m (types ++ more))) (filter-append (declares kind) types more)
            ∙ flat_map-append (parents m (types ++ more)) (filter (declares kind) types) (filter (declares kind) more) in
            or_right (p kind) (list_any p (above (types ++ more))) (ap (list_any p) parted ∙ any-left p (above types) (above more) own)
      ]

  pub above-grows : (p : Name → Bool) (kind : Name) → list_any p (upward (length types) types kind) ≡ true
      → list_any p (upward (length (types ++ more)) (types ++ more) kind) ≡ true
  above-grows p kind = upward-grows p (length types) (length (types ++ more)) (omega (arith, length-append types more)) kind
