-- Types that are read: more of them, none twice and none above itself, with names in lower case.
--     all_under-..         what holds of each type under a parent, and the names in their order
--     Listed               what is kept of types while they are read
use Rattle.std.proofs.Common.{◌≡◌, Bool, true, false, not, ◌&&◌, ◌||◌, cond, List, [], ◌∷◌, ◌++◌, length, map, filter, codes, Ok, refl, sym, ap, subst, ◌∙◌, true≢false, append_assoc, append-nil}
use Rattle.std.specs.List.{list_any, list_all}
use Rattle.std.proofs.lemmas.Bool.{and_parts, and_from, or_parts, or_left, not_from_false, false_from_ne_true}
use Rattle.std.proofs.lemmas.List.{map-append}
use Rattle.std.proofs.lemmas.List.Elements.{filter-append}
use Rattle.plain_list.proofs.Results.{bind_ok, ok_is, test_fails}
use Rattle.ppddl_model.specs.declared.tree.TypeDecl.{TypeDecl}
use Rattle.ppddl_model.specs.Objects.{upward, is_under}
use Rattle.ppddl_model.specs.State.{Name, same_name}
use Rattle.ppddl_model.specs.WellFormed.{are_distinct, types_fit}
use Rattle.ppddl_forms.specs.names.Declarations.{Declared, with_types}
use Rattle.ppddl_cursor.specs.declared.place.Place.{Place}
use Rattle.ppddl_cursor.specs.Ahead.{same}
use Rattle.ppddl_cursor.specs.Forms.{Form, lone, group}
use Rattle.ppddl_cursor.specs.Reading.{Fault}
use Rattle.ppddl_cursor.specs.Sequences.{checking, word_or_group}
use Rattle.type_table.specs.Types.{table_world, is_circular, has_cycle}
use Rattle.ppddl_forms.specs.declared.name.Name as word
use Rattle.ppddl_forms.specs.declared.symbols.TheConstants.{OBJECT}
use Rattle.ppddl_forms.specs.Words.{name}
use Rattle.ppddl_forms.specs.items.Sequences.{unsupported}
use Rattle.ppddl_reader.specs.sections.Types.{ListedTypes, no_types, is_object, with_waiting, with_seen, seen_type, new_type, another_type, types_wait, under, all_under, with_parent, parent_type, types_under, all_types}
use Rattle.ppddl_form_grammar.proofs.lemmas.forms.Parts.{on_true, on_false}
use Rattle.ppddl_form_grammar.proofs.lemmas.fits.Declared.{distinct-grows, types-fit, objects-grow, declarations-grow}
use Rattle.ppddl_form_grammar.proofs.lemmas.fits.Tests.{by_test, all-both}
use Rattle.ppddl_grammar.specs.fits.Fitting.{IsFit, DeclaresTypes}
use Rattle.ppddl_grammar.specs.fits.Laws.{TypesAreDeclared, TypesKeepFit, TypesHaveNames}
use Rattle.ppddl_grammar.specs.fits.Names.{is_lower_name, is_named_type, IsLower, HaveLowerNames}
use Rattle.ppddl_grammar.proofs.lemmas.fits.Lower.{lower-each, name-lower, same-named, any-same}
use Rattle.ppddl_grammar.proofs.lemmas.fits.Walks.{Any, any-forms, either_way, typed-gives}

abbrev type_name : TypeDecl → Name
type_name t = t.name

abbrev names_of : List TypeDecl → List Name
names_of = map type_name

abbrev type_of : Name → Name → TypeDecl
type_of kind w = record { name = w; parent = kind }

-- ---- types under one parent

-- what holds of each that was there, and of those that are put behind them
module _ (p : TypeDecl → Bool) (q : Name → Bool) (kind : Name) (one : (w : Name) → q w ≡ true → list_all p (under kind w) ≡ true) where
  all_under-all : (done : List TypeDecl) (ws : List Name) → list_all p done ≡ true → list_all q ws ≡ true → list_all p (all_under kind done ws) ≡ true
  all_under-all done [] each others = each
  all_under-all done (w ∷ ws) each others =
      let parts = and_parts (q w) (list_all q ws) others in
      all_under-all (done ++ under kind w) ws (all-both p done (under kind w) each (one w parts.0)) parts.1

abbrev is_other : Name → Bool
is_other w = not (is_object w)

-- the names but `object`, in their order
one_under : (kind w : Name) → filter is_other (names_of (under kind w)) ≡ filter is_other (w ∷ [])
one_under kind w = by_test (is_object w && is_object kind)
    (λ both.
    ap (λ b. filter is_other (names_of (cond b [] (type_of kind w ∷ [])))) both
    ∙ sym (ap (λ b. cond (not b) (w ∷ []) []) (and_parts (is_object w) (is_object kind) both).0))
    (λ one. ap (λ b. filter is_other (names_of (cond b [] (type_of kind w ∷ [])))) one)

next_under : (kind : Name) (done : List TypeDecl) (w : Name) → filter is_other (names_of (done ++ under kind w)) ≡ filter is_other (names_of done ++ w ∷ [])
next_under kind done w =
    ap (filter is_other) (map-append type_name done (under kind w))
    ∙ filter-append is_other (names_of done) (names_of (under kind w))
    ∙ ap (λ l. filter is_other (names_of done) ++ l) (one_under kind w)
    ∙ sym (filter-append is_other (names_of done) (w ∷ []))

all_under-names : (kind : Name) (done : List TypeDecl) (ws : List Name) → filter is_other (names_of (all_under kind done ws)) ≡ filter is_other (names_of done ++ ws)
all_under-names kind done [] = ap (filter is_other) (sym (append-nil (names_of done)))
all_under-names kind done (w ∷ ws) =
    all_under-names kind (done ++ under kind w) ws
    ∙ filter-append is_other (names_of (done ++ under kind w)) ws
    ∙ ap (λ l. l ++ filter is_other ws) (next_under kind done w)
    ∙ sym (filter-append is_other (names_of done ++ w ∷ []) ws)
    ∙ ap (filter is_other) (append_assoc (names_of done) (w ∷ []) ws)

-- ---- `object` is under nothing

abbrev is_top : Name → Bool
is_top w = same_name w (codes "object")

-- not `object` under itself
abbrev is_proper : TypeDecl → Bool
is_proper t = not (is_top t.name && is_top t.parent)

under-proper : (kind w : Name) → list_all is_proper (under kind w) ≡ true
under-proper kind w = by_test (is_object w && is_object kind)
    (λ both. ap (λ b. list_all is_proper (cond b [] (type_of kind w ∷ []))) both)
    (λ one.
    let apart : (is_top w && is_top kind) ≡ false
    = sym (ap (λ b. b && is_object kind) (same-named w OBJECT.now) ∙ ap (λ b. is_top w && b) (same-named kind OBJECT.now)) ∙ one in
    ap (λ b. list_all is_proper (cond b [] (type_of kind w ∷ []))) one
    ∙ and_from (is_proper (type_of kind w)) true (not_from_false (is_top w && is_top kind) apart) refl)

abbrev is_top_type : TypeDecl → Bool
is_top_type t = is_top t.name

below_top : (all : List TypeDecl) (t : TypeDecl) → is_proper t ≡ true → is_circular all t ≡ false → is_top_type t ≡ false
below_top all t proper acyclic = false_from_ne_true (is_top t.name)
    (λ top.
    let circular : is_circular all t ≡ true
    = and_from (is_proper t) (is_under (table_world all []) t.parent t.name) proper (or_left (is_top t.name) (list_any (same_name t.name) (upward (length all) all t.parent)) top) in
    true≢false (sym circular ∙ acyclic))

none_top : (all ts : List TypeDecl) → list_all is_proper ts ≡ true → list_any (is_circular all) ts ≡ false → list_any is_top_type ts ≡ false
none_top all [] proper acyclic = refl
none_top all (t ∷ ts) proper acyclic =
    let own = and_parts (is_proper t) (list_all is_proper ts) proper in
    let cycles = or_parts (is_circular all t) (list_any (is_circular all) ts) acyclic in
    ap (λ b. b || list_any is_top_type ts) (below_top all t own.0 cycles.0) ∙ none_top all ts own.1 cycles.1

-- where no type is `object`, all names are kept
others_only : (ts : List TypeDecl) → list_any is_top_type ts ≡ false → filter is_other (names_of ts) ≡ names_of ts
others_only [] none = refl
others_only (t ∷ ts) none =
    let parts = or_parts (is_top_type t) (list_any is_top_type ts) none in
    ap (λ b. cond (not b) (t.name ∷ filter is_other (names_of ts)) (filter is_other (names_of ts))) (same-named t.name OBJECT.now ∙ parts.0)
    ∙ ap (λ l. t.name ∷ l) (others_only ts parts.1)

-- ---- types while they are read

-- the names but `object` are those seen, in their order, and none stands twice
record Listed (s : ListedTypes) : Type 0 where
  distinct : are_distinct s.seen ≡ true
  seen : filter is_other (names_of s.done ++ s.waiting) ≡ s.seen
  proper : list_all is_proper s.done ≡ true

none_listed : Listed no_types
none_listed = record { distinct = refl; seen = refl; proper = refl }

-- one name more waits
seen-waits : (s : ListedTypes) (w : Name) → filter is_other (names_of s.done ++ (s.waiting ++ w ∷ [])) ≡ filter is_other (names_of s.done ++ s.waiting) ++ filter is_other (w ∷ [])
seen-waits s w = ap (filter is_other) (sym (append_assoc (names_of s.done) s.waiting (w ∷ []))) ∙ filter-append is_other (names_of s.done ++ s.waiting) (w ∷ [])

waits-top : (s : ListedTypes) (w : Name) → Listed s → is_object w ≡ true → Listed (with_waiting s w)
waits-top s w listed top = record {
  distinct = listed.distinct;
  seen =
      seen-waits s w
      ∙ ap (λ b. filter is_other (names_of s.done ++ s.waiting) ++ cond (not b) (w ∷ []) []) top
      ∙ append-nil (filter is_other (names_of s.done ++ s.waiting))
      ∙ listed.seen;
  proper = listed.proper;
}

waits-other : (s : ListedTypes) (w : Name) → Listed s → is_object w ≡ false → list_any (same w) s.seen ≡ false → Listed (with_waiting (with_seen s w) w)
waits-other s w listed other new = record {
  distinct = distinct-grows s.seen w listed.distinct (sym (any-same w s.seen) ∙ new);
  seen =
      seen-waits s w
      ∙ ap (λ b. filter is_other (names_of s.done ++ s.waiting) ++ cond (not b) (w ∷ []) []) other
      ∙ ap (λ l. l ++ w ∷ []) listed.seen;
  proper = listed.proper;
}

seen-listed : (s : ListedTypes) (n : word.Name) (u : ListedTypes) → Listed s → seen_type s n ≡ Ok u → Listed (with_waiting u n.text)
seen-listed s n u listed is = by_test (is_object n.text)
    (λ top. subst (λ v. Listed (with_waiting v n.text)) (ok_is {E = Fault} s u (on_true (is_object n.text) (Ok s) _ (Ok u) top is)) (waits-top s n.text listed top))
    (λ other.
    let t = test_fails (list_any (same n.text) s.seen) _ (Ok (with_seen s n.text)) u (on_false (is_object n.text) (Ok s) _ (Ok u) other is) in
    subst (λ v. Listed (with_waiting v n.text)) (ok_is {E = Fault} (with_seen s n.text) u t.1) (waits-other s n.text listed other t.0))

another-listed : (s : ListedTypes) (f : Form) (t : ListedTypes) → Listed s → Any f → another_type s f ≡ Ok t → Listed t
unfolding another_type checking
another-listed s f t listed any is =
    let r = bind_ok (name f) (new_type s) t is in
    let q = bind_ok (seen_type s r.0) (λ u. Ok (with_waiting u r.0.text)) t r.2 in
    subst Listed (ok_is {E = Fault} (with_waiting q.0 r.0.text) t q.2) (seen-listed s r.0 q.0 listed q.1)

every : (ws : List Name) → list_all (λ w. true) ws ≡ true
every [] = refl
every (w ∷ ws) = every ws

parent-listed : (s : ListedTypes) (kind : Name) → Listed s → Listed (with_parent kind s)
parent-listed s kind listed = record {
  distinct = listed.distinct;
  seen = ap (filter is_other) (append-nil (names_of (all_under kind s.done s.waiting))) ∙ all_under-names kind s.done s.waiting ∙ listed.seen;
  proper = all_under-all is_proper (λ w. true) kind (λ w any. under-proper kind w) s.done s.waiting listed.proper (every s.waiting);
}

under-listed : (s : ListedTypes) (f : Form) (t : ListedTypes) → Listed s → Any f → types_under s f ≡ Ok t → Listed t
unfolding types_under checking
under-listed s f t listed any is =
    let r = bind_ok (parent_type f) (λ n. Ok (with_parent n.text s)) t is in subst Listed (ok_is {E = Fault} (with_parent r.0.text s) t r.2) (parent-listed s r.0.text listed)

-- ---- the end of a section

abbrev last_types : ListedTypes → List TypeDecl
last_types s = all_under OBJECT.now s.done s.waiting

last-fit : (s : ListedTypes) → Listed s → has_cycle (last_types s) ≡ false → types_fit (last_types s) ≡ true
last-fit s listed acyclic =
    let none = none_top (last_types s) (last_types s) (parent-listed s OBJECT.now listed).proper acyclic in
    let names : names_of (last_types s) ≡ s.seen = sym (others_only (last_types s) none) ∙ all_under-names OBJECT.now s.done s.waiting ∙ listed.seen in
    types-fit (last_types s) (ap are_distinct names ∙ listed.distinct) none acyclic

module _ (d : Declared) where
  -- what the end of a section gives
  ended : (s : ListedTypes) (b : Place) (e : Declared) → all_types d s b ≡ Ok e → (has_cycle (d.types ++ last_types s) ≡ false) × (with_types d (last_types s) ≡ e)
  ended s b e is =
      let t = test_fails (has_cycle (d.types ++ last_types s)) _ (Ok (with_types d (last_types s))) e is in (t.0, ok_is {E = Fault} (with_types d (last_types s)) e t.1)

  ended-fit : (s : ListedTypes) (b : Place) (e : Declared) → Listed s → all_types d s b ≡ Ok e → d.types ≡ [] → IsFit d → IsFit e
  ended-fit s b e listed is none fit =
      let t = ended s b e is in
      let only : d.types ++ last_types s ≡ last_types s = ap (λ l. l ++ last_types s) none in
      subst IsFit t.1 (record {
        types = ap types_fit only ∙ last-fit s listed (sym (ap has_cycle only) ∙ t.0);
        objects = objects-grow d.types (last_types s) d.objects fit.objects;
        predicates = declarations-grow d.types (last_types s) d.predicates fit.predicates;
        functions = declarations-grow d.types (last_types s) d.functions fit.functions;
      })

-- ---- names

record Named (s : ListedTypes) : Type 0 where
  done : list_all is_named_type s.done ≡ true
  waiting : list_all is_lower_name s.waiting ≡ true

one_named : (kind : Name) → is_lower_name kind ≡ true → (w : Name) → is_lower_name w ≡ true → list_all is_named_type (under kind w) ≡ true
one_named kind above w named = by_test (is_object w && is_object kind)
    (λ both. ap (λ b. list_all is_named_type (cond b [] (type_of kind w ∷ []))) both)
    (λ one.
    ap (λ b. list_all is_named_type (cond b [] (type_of kind w ∷ []))) one
    ∙ and_from (is_named_type (type_of kind w)) true (and_from (is_lower_name w) (is_lower_name kind) named above) refl)

all_named : (s : ListedTypes) (kind : Name) → Named s → is_lower_name kind ≡ true → list_all is_named_type (all_under kind s.done s.waiting) ≡ true
all_named s kind named above = all_under-all is_named_type is_lower_name kind (one_named kind above) s.done s.waiting named.done named.waiting

waits-named : (s : ListedTypes) (w : Name) → Named s → is_lower_name w ≡ true → Named (with_waiting s w)
waits-named s w named lower = record { done = named.done; waiting = all-both is_lower_name s.waiting (w ∷ []) named.waiting (and_from (is_lower_name w) true lower refl) }

another-named : (s : ListedTypes) (f : Form) (t : ListedTypes) → Named s → IsLower f → another_type s f ≡ Ok t → Named t
unfolding another_type checking
another-named s f t named lower is =
    let r = bind_ok (name f) (new_type s) t is in
    let q = bind_ok (seen_type s r.0) (λ u. Ok (with_waiting u r.0.text)) t r.2 in
    let own = name-lower f r.0 r.1 lower in
    let next : Named (with_waiting s r.0.text) = waits-named s r.0.text named own in
    subst Named (ok_is {E = Fault} (with_waiting q.0 r.0.text) t q.2)
    (either_way (is_object r.0.text) (Ok s) _ (Ok q.0)
    (λ top. subst (λ v. Named (with_waiting v r.0.text)) (ok_is {E = Fault} s q.0 top) next)
    (λ other.
    let e = (test_fails (list_any (same r.0.text) s.seen) _ (Ok (with_seen s r.0.text)) q.0 other).1 in
    subst (λ v. Named (with_waiting v r.0.text)) (ok_is {E = Fault} (with_seen s r.0.text) q.0 e) (record { done = next.done; waiting = next.waiting })) q.1)

parent-lower : (f : Form) (n : word.Name) → parent_type f ≡ Ok n → IsLower f → is_lower_name n.text ≡ true
unfolding parent_type word_or_group unsupported
parent-lower (lone w a) n is lower = name-lower (lone w a) n is lower
parent-lower (group a fs b) n is lower = absurd cc

under-named : (s : ListedTypes) (f : Form) (t : ListedTypes) → Named s → IsLower f → types_under s f ≡ Ok t → Named t
unfolding types_under checking
under-named s f t named lower is =
    let r = bind_ok (parent_type f) (λ n. Ok (with_parent n.text s)) t is in
    subst Named (ok_is {E = Fault} (with_parent r.0.text s) t r.2) (record { done = all_named s r.0.text named (parent-lower f r.0 r.1 lower); waiting = refl })

ended-named : (d : Declared) (s : ListedTypes) (b : Place) (e : Declared) → Named s → all_types d s b ≡ Ok e → HaveLowerNames d → HaveLowerNames e
ended-named d s b e named is have = subst HaveLowerNames (ended d s b e is).1 (record {
  types = all-both is_named_type d.types (last_types s) have.types (all_named s OBJECT.now named refl);
  objects = have.objects;
  predicates = have.predicates;
  functions = have.functions;
})

-- ---- laws

pub types-declared : TypesAreDeclared
types-declared d fs b e is =
    typed-gives another_type types_wait types_under (all_types d) (λ s. Unit {0}) Any (DeclaresTypes d) (λ s f t holds any is. tt) (λ s f t holds any is. tt)
    (λ s at last holds own. (last_types s, sym (ended d s at last own).1)) no_types fs b e tt (any-forms fs) is

pub types-keep_fit : TypesKeepFit
types-keep_fit d fs b e is =
    typed-gives another_type types_wait types_under (all_types d) Listed Any (λ last. d.types ≡ [] → IsFit d → IsFit last) another-listed under-listed
    (ended-fit d) no_types fs b e none_listed (any-forms fs) is

pub types-have_names : TypesHaveNames
types-have_names d fs b e is lower =
    typed-gives another_type types_wait types_under (all_types d) Named IsLower (λ last. HaveLowerNames d → HaveLowerNames last) another-named under-named
    (ended-named d) no_types fs b e (record { done = refl; waiting = refl }) (lower-each fs lower) is
