-- Types by name: what is under a type is a type, so that a name that is none has no objects.
use Rattle.std.proofs.Common.{◌≡◌, ℕ, zero, suc, ◌<◌, Bool, true, false, ◌&&◌, ◌||◌, cond, List, [], ◌∷◌, map, filter, length, get_or, Some, inl, inr, true≢false, refl, sym, ap, subst, ◌∙◌, arith}
use Rattle.std.specs.Prelude.{All, Contains, codes}
use Rattle.std.specs.List.{list_any, list_all}
use Rattle.std.proofs.lemmas.List.Elements.{All-get_or}
use Rattle.plain_list.proofs.Members.{Contains-first, Contains-later, Contains-flat_map_cases, Contains-cons_cases, Contains-nil}
use Rattle.ppddl_model.specs.declared.tree.ObjectDecl.{ObjectDecl}
use Rattle.ppddl_model.specs.declared.tree.TypeDecl.{TypeDecl}
use Rattle.ppddl_model.specs.State.{Name, same_name}
use Rattle.ppddl_model.specs.Objects.{World, upward, is_under}
use Rattle.ppddl_model.specs.WellFormed.{is_type}
use Rattle.ppddl_model.proofs.States.{same_name-Decides}
use Rattle.type_table.specs.Numbered.{number_of, name_at}
use Rattle.type_table.specs.Types.{type_names, is_known, kind_at, type_at, object_at, object_names}
use Rattle.type_table.proofs.Lists.{Contains-filter_cases, get-map, map_length}
use Rattle.type_table.proofs.Numbered.{number_is}
use Rattle.type_table.proofs.Bridge.{same_number}
use Rattle.ground_terms.specs.sizes.Typed.{IsTyped, names_of}

or_cases : (a b : Bool) {P : Type 0} → (a ≡ true → P) → (b ≡ true → P) → (a || b) ≡ true → P
or_cases true b left right either = left refl
or_cases false b left right either = right either

right_or : (a b : Bool) → b ≡ true → (a || b) ≡ true
right_or true b holds = refl
right_or false b holds = holds

pub and_first : (a b : Bool) → (a && b) ≡ true → a ≡ true
and_first true b both = refl
and_first false b both = both

pub and_second : (a b : Bool) → (a && b) ≡ true → b ≡ true
and_second true b both = both
and_second false b both = absurd (true≢false (sym both))

not_true : (b : Bool) → (b ≡ true → ⊥) → b ≡ false
not_true true never = absurd (never refl)
not_true false never = refl

abbrev names_type : List TypeDecl → Name → TypeDecl → Bool
names_type types name t = same_name name t.name || same_name name t.parent

any_of : {X : Type 0} (p : X → Bool) (xs : List X) (x : X) → Contains xs x → p x ≡ true → list_any p xs ≡ true
any_of p [] x there holds = absurd (Contains-nil x there)
any_of p (y ∷ xs) x there holds = elim (Contains-cons_cases y xs x there) [
  | inl same ↦ ap (λ z. z || list_any p xs) (ap p same ∙ holds)
  | inr later ↦ right_or (p y) (list_any p xs) (any_of p xs x later holds)
]

found_of : {X : Type 0} (p : X → Bool) (xs : List X) → list_any p xs ≡ true → (x : X) × Contains xs x × (p x ≡ true)
found_of p [] holds = absurd (true≢false (sym holds))
found_of p (x ∷ xs) holds =
    or_cases (p x) (list_any p xs) (λ here. (x, Contains-first x xs, here))
    (λ later. let found = found_of p xs later in (found.0, Contains-later x xs found.0 found.1, found.2)) holds

pub all_at : {X : Type 0} (p : X → Bool) (xs : List X) (i : ℕ) (d : X) → i < length xs → list_all p xs ≡ true → p (get_or xs i d) ≡ true
all_at p [] i d within all = absurd (omega arith)
all_at p (x ∷ xs) zero d within all = and_first (p x) (list_all p xs) all
all_at p (x ∷ xs) (suc i) d within all = all_at p xs i d (omega arith) (and_second (p x) (list_all p xs) all)

module _ (types : List TypeDecl) where
  parent_is_type : (t : TypeDecl) → Contains types t → is_type types t.parent ≡ true
  parent_is_type t there =
      right_or (same_name t.parent (codes "object")) (list_any (names_type types t.parent) types)
      (any_of (names_type types t.parent) types t there
      (right_or (same_name t.parent t.name) (same_name t.parent t.parent) ((same_name-Decides t.parent t.parent).1 refl)))

  above_is_type : (n : ℕ) (kind other : Name) → is_type types kind ≡ true → Contains (upward n types kind) other → is_type types other ≡ true
  above_is_type zero kind other known there = elim (Contains-cons_cases kind [] other there) [
    | inl same ↦ subst (λ k. is_type types k ≡ true) same known
    | inr none ↦ absurd (Contains-nil other none)
  ]
  above_is_type (suc n) kind other known there = elim (Contains-cons_cases kind _ other there) [
    | inl same ↦ subst (λ k. is_type types k ≡ true) same known
    | inr later ↦
        let found = Contains-flat_map_cases (λ (t : TypeDecl). upward n types t.parent) (filter (λ (t : TypeDecl). same_name t.name kind) types) other later in
        let is = Contains-filter_cases (λ (t : TypeDecl). same_name t.name kind) types found.0 found.1 in
        above_is_type n found.0.parent other (parent_is_type found.0 is.0) found.2
  ]

module _ (w : World) where
  not_under : (kind other : Name) → is_type w.types other ≡ false → is_type w.types kind ≡ true → is_under w kind other ≡ false
  not_under kind other unknown known =
      not_true (is_under w kind other) (λ under.
      or_cases (same_name other (codes "object")) (list_any (same_name other) (upward (length w.types) w.types kind))
      (λ object. true≢false (sym (ap (λ b. b || list_any (names_type w.types other) w.types) object) ∙ unknown))
      (λ above.
      let found = found_of (same_name other) (upward (length w.types) w.types kind) above in
      let same : other ≡ found.0 = (same_name-Decides other found.0).0 found.2 in
      true≢false (sym (above_is_type w.types (length w.types) kind found.0 known found.1) ∙ ap (is_type w.types) (sym same) ∙ unknown))
      under)

  kind_is_type : IsTyped w → (o : ℕ) → o < length w.objects → is_type w.types (kind_at w o) ≡ true
  kind_is_type typed o within =
      let d : ObjectDecl = record { name = []; kind = [] } in
      ap (is_type w.types) (get-map (λ (x : ObjectDecl). x.kind) w.objects o [] d within)
      ∙ all_at (is_known w.types) w.objects o d within typed.known

  pub object_of_none : IsTyped w → (o : ℕ) → o < length w.objects → (kind : Name) → false ≡ is_type w.types kind → false ≡ is_under w (kind_at w o) kind
  object_of_none typed o within kind unknown = sym (not_under (kind_at w o) kind (sym unknown) (kind_is_type typed o within))

  pub type_named : (kind : Name) (k : ℕ) → Some k ≡ number_of (type_names w.types) kind → type_at w k ≡ kind
  type_named kind k is = (number_is (type_names w.types) kind k (sym is)).named

  none_of : (objects : List ObjectDecl) → list_all (is_known w.types) objects ≡ true → (kind : Name) → is_type w.types kind ≡ false
      → map (λ (o : ObjectDecl). o.name) (filter (λ (o : ObjectDecl). list_any (is_under w o.kind) (kind ∷ [])) objects) ≡ []
  none_of [] all kind unknown = refl
  none_of (o ∷ objects) all kind unknown =
      let out : list_any (is_under w o.kind) (kind ∷ []) ≡ false
      = ap (λ b. b || false) (not_under o.kind kind unknown (and_first (is_known w.types o) (list_all (is_known w.types) objects) all)) in
      ap (λ b. map (λ (x : ObjectDecl). x.name) (cond b (o ∷ filter (λ (x : ObjectDecl). list_any (is_under w x.kind) (kind ∷ [])) objects) (filter (λ (x : ObjectDecl). list_any (is_under w x.kind) (kind ∷ [])) objects))) out
      ∙ none_of objects (and_second (is_known w.types o) (list_all (is_known w.types) objects) all) kind unknown

  pub none_named : IsTyped w → (kind : Name) → false ≡ is_type w.types kind → [] ≡ names_of w (kind ∷ [])
  none_named typed kind unknown = sym (none_of w.objects typed.known kind (sym unknown))

  -- ---- the row of all objects

  abbrev pub of_any : List Name → ℕ → Bool
  of_any kinds o = list_any (is_under w (kind_at w o)) kinds

  abbrev IsObject : ℕ → ObjectDecl → Type 0
  IsObject o d = (object_at w o ≡ d.name) × (kind_at w o ≡ d.kind)

  every_object : (objects : List ObjectDecl)
      → filter (λ (o : ObjectDecl). list_any (is_under w o.kind) (codes "object" ∷ [])) objects ≡ objects
  every_object [] = refl
  every_object (o ∷ objects) = ap (λ l. o ∷ l) (every_object objects)

  chosen : (kinds : List Name) (row : List ℕ) (objects : List ObjectDecl) → length row ≡ length objects
      → ((i : ℕ) → i < length row → IsObject (get_or row i 0) (get_or objects i (record { name = []; kind = [] })))
      → map (object_at w) (filter (of_any kinds) row)
      ≡ map (λ (o : ObjectDecl). o.name) (filter (λ (o : ObjectDecl). list_any (is_under w o.kind) kinds) objects)
  chosen kinds [] [] long are = refl
  chosen kinds [] (o ∷ objects) long are = absurd (omega arith)
  chosen kinds (k ∷ row) [] long are = absurd (omega arith)
  chosen kinds (k ∷ row) (o ∷ objects) long are =
      let first = are 0 (omega arith) in
      let later : map (object_at w) (filter (of_any kinds) row)
      ≡ map (λ (x : ObjectDecl). x.name) (filter (λ (x : ObjectDecl). list_any (is_under w x.kind) kinds) objects)
      = chosen kinds row objects (omega arith) (λ i within. are (suc i) (omega arith)) in
      step (of_any kinds k) (list_any (is_under w o.kind) kinds) (ap (λ kind. list_any (is_under w kind) kinds) first.1) k o row objects first.0 later
    where
      step : (a b : Bool) → a ≡ b → (k : ℕ) (o : ObjectDecl) (row : List ℕ) (objects : List ObjectDecl) → object_at w k ≡ o.name
          → map (object_at w) (filter (of_any kinds) row)
          ≡ map (λ (x : ObjectDecl). x.name) (filter (λ (x : ObjectDecl). list_any (is_under w x.kind) kinds) objects)
          → map (object_at w) (cond a (k ∷ filter (of_any kinds) row) (filter (of_any kinds) row))
          ≡ map (λ (x : ObjectDecl). x.name) (cond b (o ∷ filter (λ (x : ObjectDecl). list_any (is_under w x.kind) kinds) objects)
          (filter (λ (x : ObjectDecl). list_any (is_under w x.kind) kinds) objects))
      step true true same k o row objects name later = cc
      step false false same k o row objects name later = later
      step true false same k o row objects name later = absurd (true≢false same)
      step false true same k o row objects name later = absurd (true≢false (sym same))

  pub of_row : IsTyped w → (kinds : List Name) (row : List ℕ) → map (object_at w) row ≡ names_of w (codes "object" ∷ [])
      → All (λ o. o < length w.objects) row → map (object_at w) (filter (of_any kinds) row) ≡ names_of w kinds
  of_row typed kinds row named within =
      let names : map (object_at w) row ≡ object_names w = named ∙ ap (map (λ (o : ObjectDecl). o.name)) (every_object w.objects) in
      let long : length row ≡ length w.objects = map_length (object_at w) row ∙ ap length names ∙ sym (map_length (λ (o : ObjectDecl). o.name) w.objects) in
      chosen kinds row w.objects long (λ i below.
      let d : ObjectDecl = record { name = []; kind = [] } in
      let less : i < length w.objects = omega (arith, long) in
      let fits : get_or row i 0 < length w.objects = All-get_or (λ o. o < length w.objects) row i 0 below within in
      let all : length (object_names w) ≡ length w.objects = sym (map_length (λ (o : ObjectDecl). o.name) w.objects) in
      let same : name_at (object_names w) (get_or row i 0) ≡ name_at (object_names w) i
      = sym (get-map (object_at w) row i [] 0 below) ∙ ap (λ l. get_or l i []) names in
      let at : get_or row i 0 ≡ i
      = same_number (object_names w) typed.distinct (get_or row i 0) i (omega (arith, all, fits)) (omega (arith, all, less)) same in (
        ap (object_at w) at ∙ get-map (λ (o : ObjectDecl). o.name) w.objects i [] d less,
        ap (kind_at w) at ∙ get-map (λ (o : ObjectDecl). o.kind) w.objects i [] d less,
      ))

  pub count_of_row : IsTyped w → (kinds : List Name) (row : List ℕ) → map (object_at w) row ≡ names_of w (codes "object" ∷ [])
      → All (λ o. o < length w.objects) row → length (filter (of_any kinds) row) ≡ length (names_of w kinds)
  count_of_row typed kinds row named within =
      map_length (object_at w) (filter (of_any kinds) row) ∙ ap length (of_row typed kinds row named within)
