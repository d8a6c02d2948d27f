-- The world of a table, by number.
use Rattle.std.proofs.Common.{◌≡◌, ℕ, suc, ◌+◌, ◌<◌, Bool, true, false, ◌||◌, List, [], ◌∷◌, length, map, filter, get_or, refl, sym, ap, subst, ◌∙◌, arith, Vec}
use Rattle.std.specs.Prelude.{cond, All, IsTrue}
use Rattle.std.specs.List.{list_any, list_all, IsDistinct, AllZip, range_with_len}
use Rattle.std.proofs.lemmas.List.Elements.{Contains-get_or, All-filter, All-from_get_or}
use Rattle.std.proofs.lemmas.List.FromFn.{length-range_with_len, get_or-range_with_len}
use Rattle.std.proofs.lemmas.Slice.Zip.{AllZip-long}
use Rattle.ppddl_model.specs.declared.tree.ObjectDecl.{ObjectDecl}
use Rattle.ppddl_model.specs.declared.tree.TypeDecl.{TypeDecl}
use Rattle.ppddl_model.specs.State.{Name, same_name}
use Rattle.ppddl_model.specs.Objects.{World, once, is_under}
use Rattle.type_table.specs.Numbered.{name_at}
use Rattle.type_table.specs.Reading.{items_of, IsKindOf, has_kind, objects_of_numbers}
use Rattle.type_table.specs.Rows.{EachRow}
use Rattle.type_table.specs.Types.{table_world, type_names, object_names, type_at, object_at, kind_at, objects_under, is_known, under}
use Rattle.type_table.specs.Hierarchy.{members_of}
use Rattle.type_table.specs.Table.{world_of, IsTable}
use Rattle.type_table.proofs.Lists.{by_test, map_length, get-map}
use Rattle.type_table.proofs.Numbered.{number_is}
use Rattle.type_table.proofs.Once.{object_name, known_is_type, objects_distinct}
use Rattle.type_table.proofs.RowSteps.{row_of_vector}
use Rattle.type_table.proofs.Bridge.{zip_left}

abbrev object_kind : ObjectDecl → Name
object_kind o = o.kind

names_are : (types objects : List Name) (kinds : List ℕ) → length kinds ≡ length objects → map object_name (objects_of_numbers types objects kinds) ≡ objects
names_are types [] kinds long = refl
names_are types (o ∷ objects) [] long = absurd (omega (arith, long))
names_are types (o ∷ objects) (k ∷ kinds) long = ap (λ l. o ∷ l) (names_are types objects kinds (omega (arith, long)))

kinds_are : (types objects : List Name) (kinds : List ℕ) → length kinds ≡ length objects → map object_kind (objects_of_numbers types objects kinds) ≡ map (name_at types) kinds
kinds_are types [] [] long = refl
kinds_are types [] (k ∷ kinds) long = absurd (omega (arith, long))
kinds_are types (o ∷ objects) [] long = absurd (omega (arith, long))
kinds_are types (o ∷ objects) (k ∷ kinds) long = ap (λ l. name_at types k ∷ l) (kinds_are types objects kinds (omega (arith, long)))

objects_are : (types : List Name) (kinds : List ℕ) (objects : List ObjectDecl) → AllZip (IsKindOf types) kinds objects
    → objects_of_numbers types (map object_name objects) kinds ≡ objects
objects_are types [] [] all = refl
objects_are types [] (o ∷ objects) all = absurd all
objects_are types (k ∷ kinds) [] all = absurd all
objects_are types (k ∷ kinds) (o ∷ objects) all =
    let is = number_is types o.kind k all.0 in
    λ i. record { name = o.name; kind = is.named i } ∷ objects_are types kinds objects all.1 i

-- items that pass a test, by their places
ranged : {X Y : Type 0} (xs : List X) (a : ℕ) (q : ℕ → Bool) (g : ℕ → Y) (Q : X → Bool) (f : X → Y)
    → ((i : ℕ) (d : X) → i < length xs → (q (a + i) ≡ Q (get_or xs i d)) × (g (a + i) ≡ f (get_or xs i d)))
    → map g (filter q (range_with_len a (length xs))) ≡ map f (filter Q xs)
ranged [] a q g Q f same = refl
ranged (x ∷ xs) a q g Q f same =
    let here : a + 0 ≡ a = omega arith in
    let first = same 0 x (omega arith) in
    let test : q a ≡ Q x = ap q (sym here) ∙ first.0 in
    let value : g a ≡ f x = ap g (sym here) ∙ first.1 in
    let rest : map g (filter q (range_with_len (a + 1) (length xs))) ≡ map f (filter Q xs) = ranged xs (a + 1) q g Q f
    (λ i d below.
    let moved : (a + 1) + i ≡ a + suc i = omega arith in
    let later = same (suc i) d (omega arith) in
    (ap q moved ∙ later.0, ap g moved ∙ later.1)) in
    by_test (Q x)
    (λ e.
    ap (λ b. map g (cond b (a ∷ filter q (range_with_len (a + 1) (length xs))) (filter q (range_with_len (a + 1) (length xs))))) (test ∙ e)
    ∙ (λ i. value i ∷ rest i)
    ∙ sym (ap (λ b. map f (cond b (x ∷ filter Q xs) (filter Q xs))) e))
    (λ e.
    ap (λ b. map g (cond b (a ∷ filter q (range_with_len (a + 1) (length xs))) (filter q (range_with_len (a + 1) (length xs))))) (test ∙ e)
    ∙ rest
    ∙ sym (ap (λ b. map f (cond b (x ∷ filter Q xs) (filter Q xs))) e))

or_false : (b : Bool) → b ≡ (b || false)
or_false true = refl
or_false false = refl

-- ---- what a table that keeps its invariant says of its world

module _ {A : Type 0} (types : List TypeDecl) (objects : List Name) (kinds : List ℕ) (rows : List (Vec ℕ A)) (table : IsTable types objects kinds rows) where
  abbrev w : World
  w = world_of types objects kinds

  pub world_names : object_names w ≡ objects
  world_names = names_are (type_names types) objects kinds table.long

  pub many_objects : length w.objects ≡ length objects
  many_objects = map_length object_name w.objects ∙ ap length world_names

  pub world_kind : (o : ℕ) → o < length w.objects → kind_at w o ≡ name_at (type_names types) (get_or kinds o 0)
  world_kind o below =
      ap (λ l. name_at l o) (kinds_are (type_names types) objects kinds table.long)
      ∙ get-map (name_at (type_names types)) kinds o [] 0 (omega (arith, below, many_objects, table.long))

  pub members_are : (k : ℕ) → map (object_at w) (members_of types kinds k) ≡ objects_under w k
  members_are k =
      let many : length kinds ≡ length w.objects = table.long ∙ sym many_objects in
      ap (λ n. map (object_at w) (filter (λ o. under types (get_or kinds o 0) k) (range_with_len 0 n))) many
      ∙ ranged w.objects 0 (λ o. under types (get_or kinds o 0) k) (object_at w) (λ o. list_any (is_under w o.kind) (type_at w k ∷ [])) object_name
      (λ i d below.
      let here : 0 + i ≡ i = omega arith in (
        ap (λ o. under types (get_or kinds o 0) k) here
            ∙ ap (λ kind. is_under w kind (type_at w k)) (sym (world_kind i below) ∙ get-map object_kind w.objects i [] d below)
            ∙ or_false (is_under w (get_or w.objects i d).kind (type_at w k)),
        ap (object_at w) here ∙ get-map object_name w.objects i [] d below,
      ))

  pub members_within : (k : ℕ) → All (λ o. o < length w.objects) (members_of types kinds k)
  members_within k =
      All-filter (λ o. under types (get_or kinds o 0) k) (λ o. o < length w.objects) (range_with_len 0 (length kinds))
      (All-from_get_or (λ o. o < length w.objects) (range_with_len 0 (length kinds)) 0
      (λ i below. omega (
        arith,
        below,
        many_objects,
        table.long,
        length-range_with_len 0 (length kinds),
        get_or-range_with_len 0 (length kinds) i 0
            (subst (λ n. i < n) (length-range_with_len 0 (length kinds)) below),
      )))

  pub row_is : (k : ℕ) (row : Vec ℕ A) → k < length (type_names types) → row ≡ get_or rows k row → row.items ≡ members_of types kinds k
  row_is k row below is =
      sym (row_of_vector rows k row (omega (arith, below, table.members.many, map_length items_of rows)) is) ∙ table.members.each k below

-- ---- what is made

module _ (types : List TypeDecl) (names : List Name) (objects : List ObjectDecl) (kinds : List ℕ) (named : names ≡ map object_name (once objects))
    (all : AllZip (IsKindOf (type_names types)) kinds (once objects)) where
  pub kinds_long : length kinds ≡ length names
  kinds_long = sym (AllZip-long (IsKindOf (type_names types)) kinds (once objects) all) ∙ map_length object_name (once objects) ∙ ap length (sym named)

  pub kinds_within : All (λ k. k < length (type_names types)) kinds
  kinds_within i d below =
      let found = zip_left (IsKindOf (type_names types)) kinds (once objects) all (get_or kinds i d) (Contains-get_or kinds i d below) in
      (number_is (type_names types) found.0.kind (get_or kinds i d) found.2).within

  pub world_is : world_of types names kinds ≡ table_world types objects
  world_is =
      ap (λ l. record { types = types; objects = l; values = [] })
      (ap (λ ns. objects_of_numbers (type_names types) ns kinds) named ∙ objects_are (type_names types) kinds (once objects) all)

  pub is_table : {A : Type 0} (rows : List (Vec ℕ A)) → EachRow (length (type_names types)) (λ k row. row ≡ members_of types kinds k) (map items_of rows) → IsTable types names kinds rows
  is_table rows members = record {
    long = kinds_long;
    within = kinds_within;
    distinct = subst (IsDistinct same_name) (sym named) (objects_distinct objects);
    members = members;
  }

pub all_known : (types : List TypeDecl) (objects : List ObjectDecl) → IsTrue (list_all (is_known types) objects) → IsTrue (list_all (has_kind (type_names types)) objects)
all_known types objects known = subst (λ test. IsTrue (list_all test objects)) (sym (λ i o. known_is_type types o.kind i)) known
