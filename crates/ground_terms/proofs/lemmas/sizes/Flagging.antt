-- Flags that are set for the objects of types, one type after the other.
use Rattle.std.proofs.Common.{◌≡◌, ℕ, ◌+◌, ◌<◌, Bool, true, false, ◌||◌, List, [], ◌∷◌, map, filter, length, get_or, take, nat_eq, refl, sym, ap, subst, ◌∙◌, arith}
use Rattle.std.specs.Prelude.{All, Contains, replicate}
use Rattle.std.specs.List.{list_any}
use Rattle.std.proofs.lemmas.List.{get_or-replicate, length-replicate}
use Rattle.std.proofs.lemmas.List.Elements.{Contains-get_or}
use Rattle.std.proofs.lemmas.List.Folds.{list_any_more}
use Rattle.plain_list.proofs.Members.{Contains-map, Contains-map_cases}
use Rattle.ppddl_model.specs.declared.tree.ObjectDecl.{ObjectDecl}
use Rattle.ppddl_model.specs.State.{Name}
use Rattle.ppddl_model.specs.Objects.{World, is_under}
use Rattle.type_table.specs.Types.{kind_at, object_at, object_names}
use Rattle.type_table.proofs.Lists.{Contains-filter, Contains-filter_cases, get-map, map_length}
use Rattle.type_table.proofs.Bridge.{same_number, same_tests, in_numbers, numbers_in}
use Rattle.ground_terms.specs.sizes.Flags.{IsMarkedBy, AreFlags}
use Rattle.ground_terms.specs.sizes.Typed.{IsTyped, names_of}

or_none : (a : Bool) → (a || false) ≡ a
or_none true = refl
or_none false = refl

abbrev origin : ObjectDecl
origin = record { name = []; kind = [] }

module _ (w : World) where
  kind_of_number : (i : ℕ) (d : ObjectDecl) → i < length w.objects → kind_at w i ≡ (get_or w.objects i d).kind
  kind_of_number i d below = get-map (λ (o : ObjectDecl). o.kind) w.objects i [] d below

  name_of_number : (i : ℕ) (d : ObjectDecl) → i < length w.objects → object_at w i ≡ (get_or w.objects i d).name
  name_of_number i d below = get-map (λ (o : ObjectDecl). o.name) w.objects i [] d below

  same_object : IsTyped w → (i j : ℕ) → i < length w.objects → j < length w.objects → object_at w i ≡ object_at w j → i ≡ j
  same_object typed i j below lower same =
      let many : length w.objects ≡ length (object_names w) = map_length (λ (o : ObjectDecl). o.name) w.objects in
      same_number (object_names w) typed.distinct i j (omega (arith, many, below)) (omega (arith, many, lower)) same

  module _ (typed : IsTyped w) (kind : Name) (row : List ℕ) (named : map (object_at w) row ≡ names_of w (kind ∷ []))
      (within : All (λ o. o < length w.objects) row) where
    abbrev of_kind : ObjectDecl → Bool
    of_kind o = list_any (is_under w o.kind) (kind ∷ [])

    row_to : (i : ℕ) → i < length w.objects → list_any (λ o. nat_eq o i) row ≡ true → is_under w (kind_at w i) kind ≡ true
    row_to i below inside =
        let there : Contains (names_of w (kind ∷ [])) (object_at w i)
        = subst (λ names. Contains names (object_at w i)) named (Contains-map (object_at w) row i (in_numbers i row inside)) in
        let from = Contains-map_cases (λ (o : ObjectDecl). o.name) (filter of_kind w.objects) (object_at w i) there in
        let d : ObjectDecl = from.0 in
        let kept = Contains-filter_cases of_kind w.objects d from.1 in
        let (k, lower, is) = kept.0 in
        let same : i ≡ k = same_object typed i k below lower (sym from.2 ∙ ap (λ (o : ObjectDecl). o.name) (sym is) ∙ sym (name_of_number k d lower)) in
        let its : kind_at w i ≡ d.kind = ap (kind_at w) same ∙ kind_of_number k d lower ∙ ap (λ (o : ObjectDecl). o.kind) is in
        ap (λ x. is_under w x kind) its ∙ sym (or_none (is_under w d.kind kind)) ∙ kept.1

    row_from : (i : ℕ) → i < length w.objects → is_under w (kind_at w i) kind ≡ true → list_any (λ o. nat_eq o i) row ≡ true
    row_from i below under =
        let d : ObjectDecl = get_or w.objects i origin in
        let passes : of_kind d ≡ true = ap (λ x. is_under w x kind || false) (sym (kind_of_number i origin below)) ∙ ap (λ b. b || false) under in
        let there : Contains (map (object_at w) row) d.name
        = subst (λ names. Contains names d.name) (sym named)
        (Contains-map (λ (o : ObjectDecl). o.name) (filter of_kind w.objects) d (Contains-filter of_kind w.objects d (Contains-get_or w.objects i origin below) passes)) in
        let from = Contains-map_cases (object_at w) row d.name there in
        let o : ℕ = from.0 in
        let (k, lower, is) = from.1 in
        let bound : o < length w.objects = subst (λ x. x < length w.objects) is (within k o lower) in
        let same : o ≡ i = same_object typed o i bound below (from.2 ∙ sym (name_of_number i origin below)) in
        numbers_in i row (subst (Contains row) same from.1)

    pub row_has : (i : ℕ) → i < length w.objects → list_any (λ o. nat_eq o i) row ≡ is_under w (kind_at w i) kind
    row_has i below = same_tests (list_any (λ o. nat_eq o i) row) (is_under w (kind_at w i) kind) (row_to i below) (row_from i below)

  pub none_flagged : (n : ℕ) → AreFlags w [] (replicate n false)
  none_flagged n i low below = get_or-replicate n i false false (omega (arith, low, length-replicate n false))

  pub flagged_more : IsTyped w → (kinds : List Name) (k : ℕ) (kind given : Name) (row : List ℕ) (old new : List Bool) → k < length kinds
      → kind ≡ get_or kinds k kind → given ≡ kind → map (object_at w) row ≡ names_of w (given ∷ []) → All (λ o. o < length w.objects) row
      → AreFlags w (take k kinds) old → IsMarkedBy (λ i. list_any (λ o. nat_eq o i) row) old new → AreFlags w (take (k + 1) kinds) new
  flagged_more typed kinds k kind given row old new lt is same named within before marked i low below =
      let p : Name → Bool = is_under w (kind_at w i) in
      marked.1 i (omega (arith, low, marked.0))
      ∙ (λ j. before i (omega (arith, low, marked.0)) below j || row_has typed given row named within i below j)
      ∙ ap (λ x. list_any p (take k kinds) || p x) (same ∙ is)
      ∙ sym (list_any_more p kinds k kind lt)
