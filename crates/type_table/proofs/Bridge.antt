-- The rows of a hierarchy tell what is under what.
use Rattle.std.proofs.Common.{◌≡◌, inl, inr, ℕ, ◌<◌, ◌==◌, Bool, true, false, not, ◌&&◌, ◌||◌, List, [], ◌∷◌, length, map, filter, get_or, nat_eq, refl, sym, ap, subst, ◌∙◌, arith, eq-eqb, eqb-true, true≢false, codes, Vec, Some}
use Rattle.std.specs.Prelude.{Contains, flat_map}
use Rattle.std.specs.List.{list_any, position_or_len, IsDistinct, AllZip}
use Rattle.std.proofs.lemmas.List.Elements.{Contains-get_or}
use Rattle.std.proofs.lemmas.Map.Keys.{apart_from_distinct}
use Rattle.std.proofs.lemmas.Map.Views.{Contains-from_any, list_any-from_Contains}
use Rattle.std.proofs.lemmas.Bool.{cases_lt}
use Rattle.std.proofs.lemmas.List.{get_or_past, get_or_default}
use Rattle.std.proofs.lemmas.Cmp.{eq_by_cmp_equiv}
use Rattle.std.specs.Cmp.{nat_cmp_total}
use Rattle.std.specs.Cmp.Lexicographic.{lists_total}
use Rattle.plain_list.proofs.Members.{Contains-first, Contains-later, Contains-cons_cases, Contains-nil, Contains-map, Contains-map_cases}
use Rattle.ppddl_model.specs.declared.tree.TypeDecl.{TypeDecl}
use Rattle.ppddl_model.specs.State.{Name, same_name}
use Rattle.ppddl_model.specs.Objects.{upward, is_under}
use Rattle.ppddl_model.proofs.States.{same_name-Decides}
use Rattle.type_table.specs.declared.link.Link.{Link}
use Rattle.type_table.specs.Numbered.{number_of, name_at}
use Rattle.type_table.specs.Reading.{items_of, IsLinkOf, type_of}
use Rattle.type_table.specs.Rows.{row_at, parents_of, EachRow, IsClosed, IsReached, Leads, HasRound, in_row, is_round}
use Rattle.type_table.specs.Types.{type_names, table_world, is_circular, has_cycle, under}
use Rattle.type_table.specs.Hierarchy.{IsRowOf, IsHierarchy}
use Rattle.type_table.specs.declared.above.Above.{Above}
use Rattle.type_table.specs.Above.{rows_of, IsSound}
use Rattle.type_table.proofs.Lists.{by_test, map_length, placed, position_at, Contains-filter, Contains-filter_cases, any-map}
use Rattle.type_table.proofs.Numbered.{number_is, same_name_itself}
use Rattle.type_table.proofs.Once.{each_once_distinct}
use Rattle.type_table.proofs.Ancestors.{IsAbove, above_itself, above_parent, above_within}

pub same_tests : (a b : Bool) → (a ≡ true → b ≡ true) → (b ≡ true → a ≡ true) → a ≡ b
same_tests true b to from = sym (to refl)
same_tests false true to from = from refl
same_tests false false to from = refl

name_in : (name : Name) (names : List Name) → list_any (same_name name) names ≡ true → Contains names name
name_in name names = Contains-from_any (λ a b. (same_name-Decides a b).0) name names

in_name : (name : Name) (names : List Name) → Contains names name → list_any (same_name name) names ≡ true
in_name name names = list_any-from_Contains (eq_by_cmp_equiv (lists_total nat_cmp_total)) name names

-- ---- distinct names

pub same_number : (names : List Name) → IsDistinct same_name names → (i j : ℕ) → i < length names → j < length names → name_at names i ≡ name_at names j → i ≡ j
same_number names distinct i j below within same = elim (cases_lt i j) [
  | inl lower ↦ absurd (differ i j lower within same)
  | inr more ↦ elim (cases_lt j i) [
    | inl lower ↦ absurd (differ j i lower below (sym same))
    | inr less ↦ omega arith
  ]
]
  where
    differ : (k m : ℕ) → k < m → m < length names → name_at names k ≡ name_at names m → ⊥
    differ k m lower bound equal =
        true≢false (sym ((same_name-Decides (name_at names k) (name_at names m)).1 equal) ∙ apart_from_distinct same_name names k m [] distinct lower bound)

pub own_number : (names : List Name) → IsDistinct same_name names → (k : ℕ) → k < length names → number_of names (name_at names k) ≡ Some k
own_number names distinct k below =
    let name : Name = name_at names k in
    let within : position_or_len (same_name name) names < length names = placed (same_name name) names (in_name name names (Contains-get_or names k [] below)) in
    let at : number_of names name ≡ Some (position_or_len (same_name name) names) = position_at (same_name name) names within in
    let is = number_is names name (position_or_len (same_name name) names) at in
    at ∙ ap Some (same_number names distinct (position_or_len (same_name name) names) k is.within below is.named)

-- ---- links and declarations

pub links_are : (names : List Name) (links : List Link) (types : List TypeDecl) → AllZip (IsLinkOf names) links types → map (type_of names) links ≡ types
links_are names [] [] all = refl
links_are names [] (t ∷ types) all = absurd all
links_are names (l ∷ links) [] all = absurd all
links_are names (l ∷ links) (t ∷ types) all =
    let child = number_is names t.name l.child all.0.child in
    let parent = number_is names t.parent l.parent all.0.parent in
    let is : type_of names l ≡ t = λ i. record { name = child.named i; parent = parent.named i } in
    λ i. is i ∷ links_are names links types all.1 i

pub zip_left : {A B : Type 0} (R : A → B → Type 0) (xs : List A) (ys : List B) → AllZip R xs ys → (x : A) → Contains xs x → (y : B) × Contains ys y × R x y
zip_left R [] [] all x inside = absurd (Contains-nil x inside)
zip_left R [] (y ∷ ys) all x inside = absurd all
zip_left R (z ∷ xs) [] all x inside = absurd all
zip_left R (z ∷ xs) (y ∷ ys) all x inside = elim (Contains-cons_cases z xs x inside) [
  | inl same ↦ (y, Contains-first y ys, subst (λ w. R w y) same all.0)
  | inr later ↦
      let found = zip_left R xs ys all.1 x later in
      (found.0, Contains-later y ys found.0 found.1, found.2)
]

zip_right : {A B : Type 0} (R : A → B → Type 0) (xs : List A) (ys : List B) → AllZip R xs ys → (y : B) → Contains ys y → (x : A) × Contains xs x × R x y
zip_right R [] [] all y inside = absurd (Contains-nil y inside)
zip_right R [] (z ∷ ys) all y inside = absurd all
zip_right R (x ∷ xs) [] all y inside = absurd all
zip_right R (x ∷ xs) (z ∷ ys) all y inside = elim (Contains-cons_cases z ys y inside) [
  | inl same ↦ (x, Contains-first x xs, subst (R x) same all.0)
  | inr later ↦
      let found = zip_right R xs ys all.1 y later in
      (found.0, Contains-later x xs found.0 found.1, found.2)
]

-- ---- members of rows

pub in_numbers : (o : ℕ) (row : List ℕ) → list_any (λ x. nat_eq x o) row ≡ true → Contains row o
in_numbers o [] passes = absurd (true≢false (sym passes))
in_numbers o (x ∷ row) passes = by_test (nat_eq x o)
    (λ e. subst (Contains (x ∷ row)) (eqb-true x o e) (Contains-first x row))
    (λ e. Contains-later x row o (in_numbers o row (sym (ap (λ b. b || list_any (λ y. nat_eq y o) row) e) ∙ passes)))

pub numbers_in : (o : ℕ) (row : List ℕ) → Contains row o → list_any (λ x. nat_eq x o) row ≡ true
numbers_in o [] inside = absurd (Contains-nil o inside)
numbers_in o (x ∷ row) inside = elim (Contains-cons_cases x row o inside) [
  | inl same ↦ ap (λ b. b || list_any (λ y. nat_eq y o) row) (eq-eqb x o same)
  | inr later ↦ by_test (nat_eq x o)
      (λ e. ap (λ b. b || list_any (λ y. nat_eq y o) row) e)
      (λ e. ap (λ b. b || list_any (λ y. nat_eq y o) row) e ∙ numbers_in o row later)
]

-- ---- numbers of types

pub distinct_types : (types : List TypeDecl) → IsDistinct same_name (type_names types)
distinct_types types = each_once_distinct (codes "object" ∷ flat_map (λ (t : TypeDecl). t.name ∷ t.parent ∷ []) types)

-- 0 is the number of `object`
pub is_object : (types : List TypeDecl) (o : ℕ) → o < length (type_names types) → (o == 0) ≡ same_name (name_at (type_names types) o) (codes "object")
is_object types o below = same_tests (o == 0) (same_name (name_at (type_names types) o) (codes "object"))
    (λ e. ap (λ m. same_name (name_at (type_names types) m) (codes "object")) (eqb-true o 0 e) ∙ same_name_itself (codes "object"))
    (λ e. eq-eqb o 0 (same_number (type_names types) (distinct_types types) o 0 below (omega arith) ((same_name-Decides (name_at (type_names types) o) (codes "object")).0 e)))

pub links_within : (names : List Name) (links : List Link) (types : List TypeDecl) → AllZip (IsLinkOf names) links types
    → (l : Link) → Contains links l → (l.child < length names) × (l.parent < length names)
links_within names links types linked l inside =
    let declared = zip_left (IsLinkOf names) links types linked l inside in
    let child = number_is names declared.0.name l.child declared.2.child in
    let parent = number_is names declared.0.parent l.parent declared.2.parent in
    (child.within, parent.within)

-- ---- what is reached is what is above

module _ (types : List TypeDecl) (links : List Link) (parents : List (List ℕ))
    (linked : AllZip (IsLinkOf (type_names types)) links types)
    (above : EachRow (length (type_names types)) (λ k row. row ≡ parents_of links k) parents) where
  abbrev names : List Name
  names = type_names types

  distinct_names : IsDistinct same_name names
  distinct_names = distinct_types types

  -- a parent by number is one by name, and back
  link_of_parent : (a x : ℕ) → Contains (row_at parents a) x → (l : Link) × Contains links l × (l.child ≡ a) × (l.parent ≡ x)
  link_of_parent a x inside = elim (cases_lt a (length names)) [
    | inl below ↦
        let from = Contains-map_cases (λ (l : Link). l.parent) (filter (λ (l : Link). l.child == a) links) x (subst (λ row. Contains row x) (above.each a below) inside) in
        let kept = Contains-filter_cases (λ (l : Link). l.child == a) links from.0 from.1 in
        (from.0, kept.0, eqb-true from.0.child a kept.1, from.2)
    | inr past ↦ absurd (Contains-nil x (subst (λ row. Contains row x) (get_or_past parents a [] (omega (arith, above.many, past))) inside))
  ]

  parent_of_link : (a : ℕ) (l : Link) → a < length names → Contains links l → l.child ≡ a → Contains (row_at parents a) l.parent
  parent_of_link a l below inside is =
      subst (λ row. Contains row l.parent) (sym (above.each a below))
      (Contains-map (λ (m : Link). m.parent) (filter (λ (m : Link). m.child == a) links) l
      (Contains-filter (λ (m : Link). m.child == a) links l inside (eq-eqb l.child a is)))

  -- parents are types
  pub parents_within : (a x : ℕ) → Contains (row_at parents a) x → x < length parents
  parents_within a x inside =
      let link = link_of_parent a x inside in
      let declared = zip_left (IsLinkOf names) links types linked link.0 link.1 in
      let parent = number_is names declared.0.parent link.0.parent declared.2.parent in
      omega (arith, parent.within, link.3, above.many)

  module _ (k : ℕ) where
    abbrev is_walked : ℕ → Bool
    is_walked a = list_any (same_name (name_at names a)) (upward (length types) types (name_at names k))

    walks_are_closed : IsClosed parents is_walked
    walks_are_closed a x walked inside =
        let link = link_of_parent a x inside in
        let declared = zip_left (IsLinkOf names) links types linked link.0 link.1 in
        let t = declared.0 in
        let child = number_is names t.name link.0.child declared.2.child in
        let parent = number_is names t.parent link.0.parent declared.2.parent in
        let from : IsAbove types t.name (name_at names k) = subst (λ n. IsAbove types n (name_at names k)) (ap (name_at names) (sym link.2) ∙ child.named)
        (name_in (name_at names a) (upward (length types) types (name_at names k)) walked) in
        let on : IsAbove types t.parent (name_at names k) = above_parent types (name_at names k) t declared.1 from in
        in_name (name_at names x) (upward (length types) types (name_at names k))
        (subst (λ n. IsAbove types n (name_at names k)) (sym parent.named ∙ ap (name_at names) link.3) on)

    led_is_walked : (o : ℕ) → Leads parents k o → is_walked o ≡ true
    led_is_walked o leads = leads is_walked walks_are_closed (in_name (name_at names k) (upward (length types) types (name_at names k)) (above_itself types (name_at names k)))

  module _ (k : ℕ) (row : List ℕ) (known : k < length names) (reached : IsReached parents k row) where
    record Found (name : Name) : Type 0 where
      number : ℕ
      bound : number < length names
      names_it : name_at names number ≡ name
      inside : Contains row number

    found_is_closed : (t : TypeDecl) → Contains types t → Found t.name → Found t.parent
    found_is_closed t declared found =
        let link = zip_right (IsLinkOf names) links types linked t declared in
        let l = link.0 in
        let child = number_is names t.name l.child link.2.child in
        let parent = number_is names t.parent l.parent link.2.parent in
        let same : l.child ≡ found.number = same_number names distinct_names l.child found.number child.within found.bound (child.named ∙ sym found.names_it) in
        record {
          number = l.parent;
          bound = parent.within;
          names_it = parent.named;
          inside = reached.closed found.number l.parent found.inside (parent_of_link found.number l found.bound link.1 same);
        }

    walked_is_found : (o : ℕ) → o < length names → is_walked k o ≡ true → Contains row o
    walked_is_found o below walked =
        let begins : Found (name_at names k) = record { number = k; bound = known; names_it = refl; inside = reached.itself } in
        let found = above_within types Found found_is_closed (name_at names k) (name_at names o)
        (name_in (name_at names o) (upward (length types) types (name_at names k)) walked) begins in
        subst (Contains row) (same_number names distinct_names found.number o found.bound below found.names_it) found.inside

    found_is_walked : (o : ℕ) → Contains row o → is_walked k o ≡ true
    found_is_walked o inside =
        reached.least (is_walked k) (walks_are_closed k) (in_name (name_at names k) (upward (length types) types (name_at names k)) (above_itself types (name_at names k))) o inside

    exact : (o : ℕ) → o < length names → in_row row o ≡ under types k o
    exact o below =
        let there : list_any (λ x. nat_eq x o) row ≡ is_walked k o = same_tests (list_any (λ x. nat_eq x o) row) (is_walked k o)
        (λ e. found_is_walked o (in_numbers o row e)) (λ e. numbers_in o row (walked_is_found o below e)) in
        λ i. is_object types o below i || there i

    pub reached_is_row : IsRowOf types k row
    reached_is_row = record {
      distinct = reached.distinct;
      within = λ x inside. omega (arith, reached.within x inside, above.many);
      exact = exact;
    }

-- ---- a round is a cycle

any_of : {X : Type 0} (p : X → Bool) (xs : List X) (x : X) → Contains xs x → p x ≡ true → list_any p xs ≡ true
any_of p [] x inside passes = absurd (Contains-nil x inside)
any_of p (y ∷ xs) x inside passes = elim (Contains-cons_cases y xs x inside) [
  | inl here ↦ ap (λ b. b || list_any p xs) (ap p here ∙ passes)
  | inr later ↦ ap (λ b. p y || b) (any_of p xs x later passes) ∙ or_true (p y)
]
  where
    or_true : (b : Bool) → (b || true) ≡ true
    or_true true = refl
    or_true false = refl

module _ (types : List TypeDecl) (given : List Name) (links : List Link) (parents : List (List ℕ))
    (named : given ≡ type_names types) (linked : AllZip (IsLinkOf given) links types)
    (above : EachRow (length given) (λ k row. row ≡ parents_of links k) parents) where
  abbrev linked_types : AllZip (IsLinkOf (type_names types)) links types
  linked_types = subst (λ ns. AllZip (IsLinkOf ns) links types) named linked

  abbrev above_types : EachRow (length (type_names types)) (λ k row. row ≡ parents_of links k) parents
  above_types = subst (λ ns. EachRow (length ns) (λ k row. row ≡ parents_of links k) parents) named above

  pub cycle_of_round : HasRound parents → has_cycle types ≡ true
  cycle_of_round round =
      let found = link_of_parent types links parents linked_types above_types round.child round.parent round.declared in
      let l = found.0 in
      let within = links_within (type_names types) links types linked_types l found.1 in
      let object : (o : ℕ) → o < length (type_names types) → same_name (name_at (type_names types) o) (codes "object") ≡ (o == 0) = λ o bound. sym (is_object types o bound) in
      let apart : ((l.child == 0) && (l.parent == 0)) ≡ false = by_test (l.child == 0)
      (λ e. by_test (l.parent == 0)
      (λ f. absurd (round.real (sym found.2 ∙ eqb-true l.child 0 e) (sym found.3 ∙ eqb-true l.parent 0 f)))
      (λ f. (λ i. e i && f i)))
      (λ e. ap (λ b. b && (l.parent == 0)) e) in
      let up : under types l.parent l.child ≡ true = elim round.back [
        | inl top ↦ ap (λ b. b || is_walked types links parents linked_types above_types l.parent l.child) (object l.child within.0 ∙ eq-eqb l.child 0 (found.2 ∙ top))
        | inr leads ↦ ap (λ b. same_name (name_at (type_names types) l.child) (codes "object") || b)
            (led_is_walked types links parents linked_types above_types l.parent l.child
            (λ inside closed begins. ap inside found.2 ∙ leads inside closed (ap inside (sym found.3) ∙ begins)))
            ∙ or_true_last (same_name (name_at (type_names types) l.child) (codes "object"))
      ] in
      let circular : is_circular types (type_of (type_names types) l) ≡ true =
      (λ i. not (object l.child within.0 i && object l.parent within.1 i) && up i) ∙ ap (λ b. not b && true) apart in
      sym (ap (list_any (is_circular types)) (links_are (type_names types) links types linked_types))
      ∙ any_of (is_circular types) (map (type_of (type_names types)) links) (type_of (type_names types) l) (Contains-map (type_of (type_names types)) links l found.1) circular
    where
      or_true_last : (b : Bool) → (b || true) ≡ true
      or_true_last true = refl
      or_true_last false = refl

-- ---- the whole hierarchy

module _ (types : List TypeDecl) (names : List Name) (links : List Link) (parents rows : List (List ℕ))
    (named : names ≡ type_names types) (linked : AllZip (IsLinkOf names) links types)
    (above : EachRow (length names) (λ k row. row ≡ parents_of links k) parents)
    (reached : EachRow (length parents) (IsReached parents) rows) where
  linked_names : AllZip (IsLinkOf (type_names types)) links types
  linked_names = subst (λ ns. AllZip (IsLinkOf ns) links types) named linked

  above_names : EachRow (length (type_names types)) (λ k row. row ≡ parents_of links k) parents
  above_names = subst (λ ns. EachRow (length ns) (λ k row. row ≡ parents_of links k) parents) named above

  pub types_are : map (type_of names) links ≡ types
  types_are = links_are names links types linked

  each_row : (k : ℕ) → k < length names → IsRowOf types k (row_at rows k)
  each_row k below =
      reached_is_row types links parents linked_names above_names k (row_at rows k) (omega (arith, below, ap length named))
      (reached.each k (omega (arith, below, above.many)))

  pub is_hierarchy : (what : Above) → rows_of what ≡ rows → IsSound what → IsHierarchy names links what
  is_hierarchy what is sound = record {
    named = named ∙ ap type_names (sym types_are);
    many = ap length is ∙ omega (arith, reached.many, above.many);
    each = λ k below. subst (λ rs. IsRowOf (map (type_of names) links) k (row_at rs k)) (sym is) (subst (λ ts. IsRowOf ts k (row_at rows k)) (sym types_are) (each_row k below));
    sound = sound;
  }

  round_is_circular : (l : Link) → Contains links l → is_round rows l ≡ is_circular types (type_of names l)
  round_is_circular l inside =
      let within = links_within (type_names types) links types linked_names l inside in
      let known : l.parent < length names = omega (arith, within.1, ap length named) in
      let below : is_under (table_world types []) (name_at names l.parent) (name_at names l.child) ≡ under types l.parent l.child =
      (λ i. is_under (table_world types []) (name_at (named i) l.parent) (name_at (named i) l.child)) in
      let object : (o : ℕ) → o < length (type_names types) → (o == 0) ≡ same_name (name_at names o) (codes "object") =
      λ o bound. is_object types o bound ∙ ap (λ ns. same_name (name_at ns o) (codes "object")) (sym named) in
      let child : (l.child == 0) ≡ same_name (name_at names l.child) (codes "object") = object l.child within.0 in
      let parent : (l.parent == 0) ≡ same_name (name_at names l.parent) (codes "object") = object l.parent within.1 in
      let leads : in_row (row_at rows l.parent) l.child ≡ is_under (table_world types []) (name_at names l.parent) (name_at names l.child) =
      (each_row l.parent known).exact l.child within.0 ∙ sym below in
      λ i. not (child i && parent i) && leads i

  rounds_are_circular : (some : List Link) → ((l : Link) → Contains some l → Contains links l)
      → list_any (is_round rows) some ≡ list_any (λ l. is_circular types (type_of names l)) some
  rounds_are_circular [] all = refl
  rounds_are_circular (l ∷ some) all =
      λ i. round_is_circular l (all l (Contains-first l some)) i || rounds_are_circular some (λ m inside. all m (Contains-later l some m inside)) i

  pub round_is_cycle : list_any (is_round rows) links ≡ has_cycle types
  round_is_cycle =
      rounds_are_circular links (λ l inside. inside)
      ∙ any-map (is_circular types) (type_of names) links
      ∙ ap (list_any (is_circular types)) types_are

pub all_parents_within : (types : List TypeDecl) (names : List Name) (links : List Link) (parents : List (List ℕ)) → names ≡ type_names types → AllZip (IsLinkOf names) links types
    → EachRow (length names) (λ k row. row ≡ parents_of links k) parents → (a x : ℕ) → Contains (row_at parents a) x → x < length parents
all_parents_within types given links parents named linked above =
    parents_within types links parents (subst (λ ns. AllZip (IsLinkOf ns) links types) named linked)
    (subst (λ ns. EachRow (length ns) (λ k row. row ≡ parents_of links k) parents) named above)

-- ---- as the code has it

pub above_of : {A : Type 0} (n : ℕ) (names : List Name) (slice links : List Link) (vs ws : List (Vec ℕ A)) → n ≡ length names → slice ≡ links → ws ≡ vs
    → EachRow n (λ k row. row ≡ parents_of slice k) (map items_of vs) → EachRow (length names) (λ k row. row ≡ parents_of links k) (map items_of ws)
above_of n names slice links vs ws many are is above =
    subst (λ us. EachRow (length names) (λ k row. row ≡ parents_of links k) (map items_of us)) (sym is)
    (subst (λ ls. EachRow (length names) (λ k row. row ≡ parents_of ls k) (map items_of vs)) are
    (subst (λ m. EachRow m (λ k row. row ≡ parents_of slice k) (map items_of vs)) many above))

pub child_below : (names : List Name) (links slice : List Link) (types : List TypeDecl) → AllZip (IsLinkOf names) links types → slice ≡ links
    → (k : ℕ) (d : Link) → k < length slice → (get_or slice k d).child < length names
child_below names links slice types linked are k d below =
    (links_within names links types linked (get_or slice k d) (subst (λ ls. Contains ls (get_or slice k d)) are (Contains-get_or slice k d below))).0

pub parent_below : (names : List Name) (links slice : List Link) (types : List TypeDecl) → AllZip (IsLinkOf names) links types → slice ≡ links
    → (k : ℕ) (d : Link) → k < length slice → (get_or slice k d).parent < length names
parent_below names links slice types linked are k d below =
    (links_within names links types linked (get_or slice k d) (subst (λ ls. Contains ls (get_or slice k d)) are (Contains-get_or slice k d below))).1

pub reached_of : {A : Type 0} (vs : List (Vec ℕ A)) (rows : List (List ℕ)) → EachRow (length vs) (IsReached (map items_of vs)) rows
    → EachRow (length (map items_of vs)) (IsReached (map items_of vs)) rows
reached_of vs rows reached = subst (λ m. EachRow m (IsReached (map items_of vs)) rows) (map_length items_of vs) reached

pub row_found : (rows slice : List (List ℕ)) (k : ℕ) (row : List ℕ) → slice ≡ rows → k < length rows → row ≡ get_or slice k row → row ≡ row_at rows k
row_found rows slice k row are below is = is ∙ ap (λ rs. get_or rs k row) are ∙ get_or_default rows k row [] below
