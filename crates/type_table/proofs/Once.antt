-- Items that are taken once by their names, one more at a time.
use Rattle.std.proofs.Common.{◌≡◌, ◌≢◌, ℕ, Bool, true, false, not, ◌||◌, List, [], ◌∷◌, ◌++◌, length, map, filter, true≢false, refl, sym, ap, subst, ◌∙◌, if◌then◌else◌, append_assoc, append-nil, arith}
use Rattle.std.specs.Prelude.{cond, flat_map, codes, is_some, Some, None, Option}
use Rattle.std.specs.List.{list_any, position_or_len, IsDistinct, AllByRecursion}
use Rattle.std.proofs.lemmas.List.Elements.{filter-append}
use Rattle.std.proofs.lemmas.List.{map-append}
use Rattle.std.proofs.lemmas.Grind.{flat_map-append}
use Rattle.std.proofs.lemmas.Map.Keys.{IsDistinct-head, IsDistinct-tail, IsDistinct-cons}
use Rattle.ppddl_model.specs.declared.tree.ObjectDecl.{ObjectDecl}
use Rattle.ppddl_model.specs.declared.tree.TypeDecl.{TypeDecl}
use Rattle.ppddl_model.specs.State.{Name, same_name}
use Rattle.ppddl_model.specs.Objects.{once}
use Rattle.ppddl_model.specs.WellFormed.{is_type}
use Rattle.ppddl_model.proofs.States.{same_name-Decides}
use Rattle.type_table.specs.Numbered.{each_once, with_name, number_of}
use Rattle.type_table.specs.Types.{type_names}
use Rattle.type_table.proofs.Lists.{by_test, any-map, map_length, placed, unplaced, position_at}
use Rattle.type_table.proofs.Numbered.{has_number}

same_name_turned : (a b : Name) (r : Bool) → same_name a b ≡ r → same_name b a ≡ r
same_name_turned a b true e = (same_name-Decides b a).1 (sym ((same_name-Decides a b).0 e))
same_name_turned a b false e = by_test (same_name b a)
    (λ t. absurd (true≢false (sym ((same_name-Decides a b).1 (sym ((same_name-Decides b a).0 t))) ∙ e)))
    (λ f. f)

module _ {X : Type 0} (key : X → Name) where
  abbrev differs : X → X → Bool
  differs x y = not (same_name (key y) (key x))

  abbrev once_by : List X → List X
  once_by [] = []
  once_by (x ∷ xs) = x ∷ filter (differs x) (once_by xs)

  abbrev is_there : List X → X → Bool
  is_there xs y = list_any (λ x. same_name (key y) (key x)) xs

  abbrev with_by : List X → X → List X
  with_by xs y = if is_there xs y then xs else xs ++ y ∷ []

  -- what has another name is found in a list as in what of it differs from x
  there-filter : (x y : X) → same_name (key y) (key x) ≡ false → (xs : List X) → is_there (filter (differs x) xs) y ≡ is_there xs y
  there-filter x y apart [] = refl
  there-filter x y apart (z ∷ xs) = by_test (same_name (key z) (key x))
      (λ e.
      let other : same_name (key y) (key z) ≡ false = subst (λ n. same_name (key y) n ≡ false) (sym ((same_name-Decides (key z) (key x)).0 e)) apart in
      ap (λ b. is_there (cond (not b) (z ∷ filter (differs x) xs) (filter (differs x) xs)) y) e
      ∙ there-filter x y apart xs
      ∙ sym (ap (λ b. b || is_there xs y) other))
      (λ e.
      ap (λ b. is_there (cond (not b) (z ∷ filter (differs x) xs) (filter (differs x) xs)) y) e
      ∙ ap (λ b. same_name (key y) (key z) || b) (there-filter x y apart xs))

  once_more : (x y : X) (xs : List X) → x ∷ filter (differs x) (with_by xs y) ≡ with_by (x ∷ filter (differs x) xs) y
  once_more x y xs =
      let kept : List X → List X = filter (differs x) in
      by_test (same_name (key y) (key x))
      (λ e.
      sym (ap (λ b. if b || is_there (kept xs) y then x ∷ kept xs else x ∷ kept xs ++ y ∷ []) e
      ∙ by_test (is_there xs y)
      (λ t. ap (λ b. x ∷ kept (if b then xs else xs ++ y ∷ [])) (sym t))
      (λ t.
      sym (ap (λ b. x ∷ kept (if b then xs else xs ++ y ∷ [])) t
      ∙ ap (λ l. x ∷ l) (filter-append (differs x) xs (y ∷ []) ∙ ap (λ b. kept xs ++ cond (not b) (y ∷ []) []) e ∙ append-nil (kept xs))))))
      (λ e.
      let found : (same_name (key y) (key x) || is_there (kept xs) y) ≡ is_there xs y = ap (λ b. b || is_there (kept xs) y) e ∙ there-filter x y e xs in
      sym (ap (λ b. if b then x ∷ kept xs else x ∷ kept xs ++ y ∷ []) found
      ∙ by_test (is_there xs y)
      (λ t.
      ap (λ b. if b then x ∷ kept xs else x ∷ kept xs ++ y ∷ []) t
      ∙ sym (ap (λ b. x ∷ kept (if b then xs else xs ++ y ∷ [])) t))
      (λ t.
      ap (λ b. if b then x ∷ kept xs else x ∷ kept xs ++ y ∷ []) t
      ∙ sym (ap (λ b. x ∷ kept (if b then xs else xs ++ y ∷ [])) t
      ∙ ap (λ l. x ∷ l) (filter-append (differs x) xs (y ∷ []) ∙ ap (λ b. kept xs ++ cond (not b) (y ∷ []) []) e)))))

  once_by-push : (xs : List X) (y : X) → once_by (xs ++ y ∷ []) ≡ with_by (once_by xs) y
  once_by-push [] y = refl
  once_by-push (x ∷ xs) y = ap (λ l. x ∷ filter (differs x) l) (once_by-push xs y) ∙ once_more x y (once_by xs)

  -- names by with_name
  names-with_by : (xs : List X) (y : X) → map key (with_by xs y) ≡ with_name (map key xs) (key y)
  names-with_by xs y =
      let found : is_there xs y ≡ list_any (same_name (key y)) (map key xs) = any-map (same_name (key y)) key xs in
      by_test (is_there xs y)
      (λ e. ap (λ b. map key (if b then xs else xs ++ y ∷ [])) e ∙ sym (ap (λ b. if b then map key xs else map key xs ++ key y ∷ []) (sym found ∙ e)))
      (λ e.
      ap (λ b. map key (if b then xs else xs ++ y ∷ [])) e ∙ map-append key xs (y ∷ [])
      ∙ sym (ap (λ b. if b then map key xs else map key xs ++ key y ∷ []) (sym found ∙ e)))

-- ---- names

each_once_by : (names : List Name) → once_by (λ n. n) names ≡ each_once names
each_once_by [] = refl
each_once_by (n ∷ names) = ap (λ l. n ∷ filter (λ (x : Name). not (same_name x n)) l) (each_once_by names)

pub each_once-push : (names : List Name) (name : Name) → each_once (names ++ name ∷ []) ≡ with_name (each_once names) name
each_once-push names name =
    sym (each_once_by (names ++ name ∷ [])) ∙ once_by-push (λ n. n) names name ∙ ap (λ l. with_name l name) (each_once_by names)

abbrev names_of : TypeDecl → List Name
names_of t = t.name ∷ t.parent ∷ []

pub type_names-push : (types : List TypeDecl) (t : TypeDecl)
    → type_names (types ++ t ∷ []) ≡ with_name (with_name (type_names types) t.name) t.parent
type_names-push types t =
    let before : List Name = codes "object" ∷ flat_map names_of types in
    ap (λ l. each_once (codes "object" ∷ l)) (flat_map-append names_of types (t ∷ []))
    ∙ ap each_once (sym (append_assoc before (t.name ∷ []) (t.parent ∷ [])))
    ∙ each_once-push (before ++ t.name ∷ []) t.parent
    ∙ ap (λ l. with_name l t.parent) (each_once-push before t.name)

-- ---- which names there are

pub in_each_once : (name : Name) (names : List Name) → list_any (same_name name) (each_once names) ≡ list_any (same_name name) names
in_each_once name [] = refl
in_each_once name (x ∷ names) = by_test (same_name name x)
    (λ e. ap (λ b. b || list_any (same_name name) (filter (λ (y : Name). not (same_name y x)) (each_once names))) e ∙ sym (ap (λ b. b || list_any (same_name name) names) e))
    (λ e. ap (λ b. same_name name x || b) (there-filter (λ n. n) x name e (each_once names) ∙ in_each_once name names))

or_assoc : (a b c : Bool) → (a || (b || c)) ≡ ((a || b) || c)
or_assoc true b c = refl
or_assoc false b c = refl

in_names_of : (name : Name) (types : List TypeDecl)
    → list_any (same_name name) (flat_map names_of types) ≡ list_any (λ (t : TypeDecl). same_name name t.name || same_name name t.parent) types
in_names_of name [] = refl
in_names_of name (t ∷ types) =
    or_assoc (same_name name t.name) (same_name name t.parent) (list_any (same_name name) (flat_map names_of types))
    ∙ ap (λ b. (same_name name t.name || same_name name t.parent) || b) (in_names_of name types)

is_some_place : (name : Name) (names : List Name) → is_some (number_of names name) ≡ list_any (same_name name) names
is_some_place name names = by_test (list_any (same_name name) names)
    (λ e. ap is_some (position_at (same_name name) names (placed (same_name name) names e)) ∙ sym e)
    (λ e. by_found (number_of names name) (has_number names name) e)
  where
    by_found : (found : Option ℕ) → ((k : ℕ) → found ≡ Some k → list_any (same_name name) names ≡ true)
        → list_any (same_name name) names ≡ false → is_some found ≡ list_any (same_name name) names
    by_found None there e = sym e
    by_found (Some k) there e = sym (there k refl)

pub known_is_type : (types : List TypeDecl) (name : Name) → is_some (number_of (type_names types) name) ≡ is_type types name
known_is_type types name =
    is_some_place name (type_names types)
    ∙ in_each_once name (codes "object" ∷ flat_map names_of types)
    ∙ ap (λ b. same_name name (codes "object") || b) (in_names_of name types)

-- ---- objects

abbrev pub object_name : ObjectDecl → Name
object_name o = o.name

once_is_by : (objects : List ObjectDecl) → once_by object_name objects ≡ once objects
once_is_by [] = refl
once_is_by (o ∷ objects) = ap (λ l. o ∷ filter (λ (x : ObjectDecl). not (same_name x.name o.name)) l) (once_is_by objects)

abbrev pub with_object : List ObjectDecl → ObjectDecl → List ObjectDecl
with_object = with_by object_name

pub once-push : (objects : List ObjectDecl) (o : ObjectDecl) → once (objects ++ o ∷ []) ≡ with_object (once objects) o
once-push objects o = sym (once_is_by (objects ++ o ∷ [])) ∙ once_by-push object_name objects o ∙ ap (λ l. with_object l o) (once_is_by objects)

pub names-with_object : (objects : List ObjectDecl) (o : ObjectDecl) → map object_name (with_object objects o) ≡ with_name (map object_name objects) o.name
names-with_object = names-with_by object_name

-- ---- names that are taken once differ

all-filter : {X : Type 0} (P : X → Type 0) (p : X → Bool) (xs : List X) → AllByRecursion P xs → AllByRecursion P (filter p xs)
all-filter P p [] all = tt
all-filter P p (x ∷ xs) all = by_test (p x)
    (λ e. subst (λ b. AllByRecursion P (cond b (x ∷ filter p xs) (filter p xs))) (sym e) (all.0, all-filter P p xs all.1))
    (λ e. subst (λ b. AllByRecursion P (cond b (x ∷ filter p xs) (filter p xs))) (sym e) (all-filter P p xs all.1))

distinct-filter : {X : Type 0} (eq : X → X → Bool) (p : X → Bool) (xs : List X) → IsDistinct eq xs → IsDistinct eq (filter p xs)
distinct-filter eq p [] distinct = distinct
distinct-filter eq p (x ∷ xs) distinct = by_test (p x)
    (λ e. subst (λ b. IsDistinct eq (cond b (x ∷ filter p xs) (filter p xs))) (sym e)
    (IsDistinct-cons eq x (filter p xs) (all-filter (λ y. eq x y ≡ false) p xs (IsDistinct-head eq x xs distinct)) (distinct-filter eq p xs (IsDistinct-tail eq x xs distinct))))
    (λ e. subst (λ b. IsDistinct eq (cond b (x ∷ filter p xs) (filter p xs))) (sym e) (distinct-filter eq p xs (IsDistinct-tail eq x xs distinct)))

all_differ : (name : Name) (names : List Name) → AllByRecursion (λ y. same_name name y ≡ false) (filter (λ (x : Name). not (same_name x name)) names)
all_differ name [] = tt
all_differ name (x ∷ names) =
    let kept : List Name = filter (λ (y : Name). not (same_name y name)) names in
    by_test (same_name x name)
    (λ e. subst (λ b. AllByRecursion (λ y. same_name name y ≡ false) (cond (not b) (x ∷ kept) kept)) (sym e) (all_differ name names))
    (λ e. subst (λ b. AllByRecursion (λ y. same_name name y ≡ false) (cond (not b) (x ∷ kept) kept)) (sym e) (same_name_turned x name false e, all_differ name names))

pub each_once_distinct : (names : List Name) → IsDistinct same_name (each_once names)
unfolding IsDistinct
each_once_distinct [] = tt
each_once_distinct (n ∷ names) =
    IsDistinct-cons same_name n (filter (λ (x : Name). not (same_name x n)) (each_once names)) (all_differ n (each_once names))
    (distinct-filter same_name (λ (x : Name). not (same_name x n)) (each_once names) (each_once_distinct names))

-- ---- an object's place tells whether it is new

there_by_name : (objects : List ObjectDecl) (o : ObjectDecl)
    → list_any (λ (x : ObjectDecl). same_name o.name x.name) objects ≡ list_any (same_name o.name) (map object_name objects)
there_by_name objects o = any-map (same_name o.name) object_name objects

pub object-new : (objects : List ObjectDecl) (o : ObjectDecl) → position_or_len (same_name o.name) (map object_name objects) ≡ length objects
    → with_object objects o ≡ objects ++ o ∷ []
object-new objects o last = by_test (list_any (same_name o.name) (map object_name objects))
    (λ e. absurd (omega (arith, placed (same_name o.name) (map object_name objects) e, last, map_length object_name objects)))
    (λ e. ap (λ b. if b then objects else objects ++ o ∷ []) (there_by_name objects o ∙ e))

pub object-there : (objects : List ObjectDecl) (o : ObjectDecl) → position_or_len (same_name o.name) (map object_name objects) ≢ length objects
    → with_object objects o ≡ objects
object-there objects o before = by_test (list_any (same_name o.name) (map object_name objects))
    (λ e. ap (λ b. if b then objects else objects ++ o ∷ []) (there_by_name objects o ∙ e))
    (λ e. absurd (before (unplaced (same_name o.name) (map object_name objects) e ∙ sym (map_length object_name objects))))

-- so do those of objects

differs_by_name : (o : ObjectDecl) (objects : List ObjectDecl)
    → map object_name (filter (λ (x : ObjectDecl). not (same_name x.name o.name)) objects) ≡ filter (λ (x : Name). not (same_name x o.name)) (map object_name objects)
differs_by_name o [] = refl
differs_by_name o (x ∷ objects) = by_test (same_name x.name o.name)
    (λ e.
    ap (λ b. map object_name (cond (not b) (x ∷ filter (λ (y : ObjectDecl). not (same_name y.name o.name)) objects) (filter (λ (y : ObjectDecl). not (same_name y.name o.name)) objects))) e
    ∙ differs_by_name o objects
    ∙ sym (ap (λ b. cond (not b) (x.name ∷ filter (λ (y : Name). not (same_name y o.name)) (map object_name objects)) (filter (λ (y : Name). not (same_name y o.name)) (map object_name objects))) e))
    (λ e.
    ap (λ b. map object_name (cond (not b) (x ∷ filter (λ (y : ObjectDecl). not (same_name y.name o.name)) objects) (filter (λ (y : ObjectDecl). not (same_name y.name o.name)) objects))) e
    ∙ ap (λ l. x.name ∷ l) (differs_by_name o objects)
    ∙ sym (ap (λ b. cond (not b) (x.name ∷ filter (λ (y : Name). not (same_name y o.name)) (map object_name objects)) (filter (λ (y : Name). not (same_name y o.name)) (map object_name objects))) e))

names_of_once : (objects : List ObjectDecl) → map object_name (once objects) ≡ each_once (map object_name objects)
names_of_once [] = refl
names_of_once (o ∷ objects) =
    ap (λ l. o.name ∷ l) (differs_by_name o (once objects) ∙ ap (filter (λ (x : Name). not (same_name x o.name))) (names_of_once objects))

pub objects_distinct : (objects : List ObjectDecl) → IsDistinct same_name (map object_name (once objects))
objects_distinct objects = subst (IsDistinct same_name) (sym (names_of_once objects)) (each_once_distinct (map object_name objects))
