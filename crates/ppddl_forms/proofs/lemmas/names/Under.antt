-- Names that are no types: each is under itself and `object` alone, and nothing else is under it.
use Rattle.std.proofs.Common.{◌≡◌, ℕ, zero, suc, Bool, true, false, cond, ◌||◌, List, [], ◌∷◌, length, filter, refl, ap, ◌∙◌}
use Rattle.std.specs.Prelude.{flat_map, codes}
use Rattle.std.specs.List.{list_any}
use Rattle.std.proofs.lemmas.List.Folds.{list_any-append}
use Rattle.std.proofs.lemmas.List.Concat.{flat_map-cons}
use Rattle.ppddl_model.specs.declared.tree.TypeDecl.{TypeDecl}
use Rattle.ppddl_model.specs.State.{Name, same_name}
use Rattle.ppddl_model.specs.Objects.{upward, is_under}
use Rattle.ppddl_model.specs.WellFormed.{is_type}
use Rattle.type_table.specs.Types.{table_world}
use Rattle.ppddl_forms.proofs.lemmas.names.Finding.{by_test, same_name-sym}

or_false : (a : Bool) → (a || false) ≡ a
or_false true = refl
or_false false = refl

neither : (a b : Bool) → (a || b) ≡ false → (a ≡ false) × (b ≡ false)
neither true b e = (e, elim b as (λ v. v ≡ false) [ true ↦ e | false ↦ refl ])
neither false b e = (refl, e)

abbrev names_it : Name → TypeDecl → Bool
names_it name t = same_name name t.name || same_name name t.parent

-- what is declared of a name that is no type
none_declared : (types : List TypeDecl) (kind : Name) → list_any (names_it kind) types ≡ false
    → filter (λ (t : TypeDecl). same_name t.name kind) types ≡ []
none_declared [] kind none = refl
none_declared (t ∷ types) kind none =
    let split = neither (names_it kind t) (list_any (names_it kind) types) none in
    let not_it = (neither (same_name kind t.name) (same_name kind t.parent) split.0).0 in
    ap (λ b. cond b (t ∷ filter (λ (t : TypeDecl). same_name t.name kind) types) (filter (λ (t : TypeDecl). same_name t.name kind) types)) (same_name-sym t.name kind ∙ not_it)
    ∙ none_declared types kind split.1

above_none : (n : ℕ) (types : List TypeDecl) (kind : Name) → list_any (names_it kind) types ≡ false → upward n types kind ≡ kind ∷ []
above_none zero types kind none = refl
above_none (suc n) types kind none = ap (λ ts. kind ∷ flat_map (λ (t : TypeDecl). upward n types t.parent) ts) (none_declared types kind none)

module _ (types : List TypeDecl) (other : Name) (none : list_any (names_it other) types ≡ false) where
  not_further : (n : ℕ) → ((kind : Name) → list_any (same_name other) (upward n types kind) ≡ same_name other kind)
      → (ts : List TypeDecl) (kind : Name) → list_any (names_it other) ts ≡ false
      → list_any (same_name other) (flat_map (λ (t : TypeDecl). upward n types t.parent) (filter (λ (t : TypeDecl). same_name t.name kind) ts)) ≡ false
  not_further n above [] kind absent = refl
  not_further n above (t ∷ ts) kind absent =
      let split = neither (names_it other t) (list_any (names_it other) ts) absent in
      let not_parent = (neither (same_name other t.name) (same_name other t.parent) split.0).1 in
      let f : TypeDecl → List Name = λ (u : TypeDecl). upward n types u.parent in
      let later = filter (λ (u : TypeDecl). same_name u.name kind) ts in
      let rest = not_further n above ts kind split.1 in
      by_test (same_name t.name kind)
      (λ e.
      ap (λ b. list_any (same_name other) (flat_map f (cond b (t ∷ later) later))) e
      ∙ ap (list_any (same_name other)) (flat_map-cons f t later)
      ∙ list_any-append (same_name other) (f t) (flat_map f later)
      ∙ (λ i. (above t.parent ∙ not_parent) i || rest i))
      (λ e. ap (λ b. list_any (same_name other) (flat_map f (cond b (t ∷ later) later))) e ∙ rest)

  not_above : (n : ℕ) (kind : Name) → list_any (same_name other) (upward n types kind) ≡ same_name other kind
  not_above zero kind = or_false (same_name other kind)
  not_above (suc n) kind = ap (λ b. same_name other kind || b) (not_further n (not_above n) types kind none) ∙ or_false (same_name other kind)

-- ---- what is under what

pub under-no_type : (types : List TypeDecl) (kind other : Name) → is_type types kind ≡ false
    → is_under (table_world types []) kind other ≡ (same_name other (codes "object") || same_name other kind)
under-no_type types kind other none =
    let absent = (neither (same_name kind (codes "object")) (list_any (names_it kind) types) none).1 in
    ap (λ names. same_name other (codes "object") || list_any (same_name other) names) (above_none (length types) types kind absent)
    ∙ ap (λ b. same_name other (codes "object") || b) (or_false (same_name other kind))

pub under_no_type : (types : List TypeDecl) (kind other : Name) → is_type types other ≡ false
    → is_under (table_world types []) kind other ≡ (same_name other (codes "object") || same_name other kind)
under_no_type types kind other none =
    let absent = (neither (same_name other (codes "object")) (list_any (names_it other) types) none).1 in
    ap (λ b. same_name other (codes "object") || b) (not_above types other absent (length types) kind)
