-- Declarations and names: what is new fits behind what fits, and stays so where there are more types.
use Rattle.std.proofs.Common.{◌≡◌, ℕ, ◌≤◌, Bool, true, false, not, ◌==◌, ◌&&◌, ◌||◌, List, [], ◌∷◌, ◌++◌, length, map, Option, Some, None, codes, nat_le, cond, refl, sym, ap, ◌∙◌, inl, inr, arith}
use Rattle.std.specs.Char.{is_ascii_alphabetic, is_ascii_alphanumeric}
use Rattle.std.specs.Int.{is_in_range}
use Rattle.std.specs.List.{list_any, list_all}
use Rattle.std.proofs.lemmas.Bool.{and_parts, and_from, or_cases, or_parts, or_from, eqb-true, ne_eqb, le-leb, leb-true, not-true, not_from_false, false_from_ne_true, true≢false}
use Rattle.std.proofs.lemmas.List.Folds.{list_any-append}
use Rattle.ppddl_lex.specs.Words.{is_name_byte, has_name_form, is_reserved}
use Rattle.ppddl_model.specs.declared.tree.ObjectDecl.{ObjectDecl}
use Rattle.ppddl_model.specs.declared.tree.Param.{Param}
use Rattle.ppddl_model.specs.declared.tree.PredicateDecl.{PredicateDecl}
use Rattle.ppddl_model.specs.declared.tree.TypeDecl.{TypeDecl}
use Rattle.ppddl_model.specs.Objects.{upward, is_under}
use Rattle.ppddl_model.specs.State.{Name, same_name}
use Rattle.ppddl_model.specs.WellFormed.{is_plain, are_distinct, is_type, is_ordered, has_one_type, params_fit}
use Rattle.ppddl_model.proofs.States.{same_name-Decides}
use Rattle.ppddl_forms.specs.names.Declarations.{predicate_named}
use Rattle.type_table.specs.Types.{table_world, is_circular}
use Rattle.ppddl_form_grammar.specs.fits.Laws.{declaration, NameIsPlain, ParamsGrow, ObjectsGrow, DeclarationsGrow, DistinctGrows, TypesFit, DeclarationFits}
use Rattle.ppddl_form_grammar.proofs.lemmas.fits.Tests.{all-weaker, all-both, none-each}
use Rattle.ppddl_form_grammar.proofs.lemmas.fits.Under.{type-grows}
use Rattle.ppddl_form_grammar.proofs.lemmas.fits.Atoms.{params_fit-grows}

-- ---- names are plain

abbrev is_plain_byte : ℕ → Bool
is_plain_byte b = nat_le 33 b && not (b == 40) && not (b == 41)

plain_above : (b : ℕ) → 42 ≤ b → is_plain_byte b ≡ true
plain_above b above =
    let no_left : not (b == 40) ≡ true = ap not (ne_eqb b 40 (λ e. omega (arith, e, above))) in
    let no_right : not (b == 41) ≡ true = ap not (ne_eqb b 41 (λ e. omega (arith, e, above))) in
    and_from (nat_le 33 b && not (b == 40)) (not (b == 41)) (and_from (nat_le 33 b) (not (b == 40)) (le-leb 33 b (omega (arith, above))) no_left) no_right

range_above : (low high b : ℕ) → 42 ≤ low → is_in_range low high b ≡ true → 42 ≤ b
range_above low high b above is = let parts = and_parts (nat_le low b) (nat_le b high) is in omega (arith, above, leb-true low b parts.0)

letter_above : (b : ℕ) → is_ascii_alphabetic b ≡ true → 42 ≤ b
letter_above b is = elim (or_cases (is_in_range 65 90 b) (is_in_range 97 122 b) is) [
  | inl large ↦ range_above 65 90 b (omega arith) large
  | inr small ↦ range_above 97 122 b (omega arith) small
]

alphanumeric_above : (b : ℕ) → is_ascii_alphanumeric b ≡ true → 42 ≤ b
alphanumeric_above b is = elim (or_cases (is_in_range 48 57 b || is_in_range 65 90 b) (is_in_range 97 122 b) is) [
  | inl first ↦ elim (or_cases (is_in_range 48 57 b) (is_in_range 65 90 b) first) [
    | inl digit ↦ range_above 48 57 b (omega arith) digit
    | inr large ↦ range_above 65 90 b (omega arith) large
  ]
  | inr small ↦ range_above 97 122 b (omega arith) small
]

byte_above : (b : ℕ) → is_name_byte b ≡ true → 42 ≤ b
byte_above b is = elim (or_cases (is_ascii_alphanumeric b || b == 45) (b == 95) is) [
  | inl first ↦ elim (or_cases (is_ascii_alphanumeric b) (b == 45) first) [
    | inl one ↦ alphanumeric_above b one
    | inr dash ↦ omega (arith, eqb-true b 45 dash)
  ]
  | inr line ↦ omega (arith, eqb-true b 95 line)
]

pub name_is_plain : NameIsPlain
name_is_plain [] is = absurd cc
name_is_plain (b ∷ bs) is =
    let form = and_parts (has_name_form (b ∷ bs)) (not (is_reserved (b ∷ bs))) is in
    let parts = and_parts (is_ascii_alphabetic b) (list_all is_name_byte bs) form.0 in
    and_from (is_plain_byte b) (list_all is_plain_byte bs) (plain_above b (letter_above b parts.0))
    (all-weaker is_name_byte is_plain_byte (λ c one. plain_above c (byte_above c one)) bs parts.1)

-- ---- where there are more types

pub params-grow : ParamsGrow
params-grow types more = params_fit-grows types (types ++ more) (type-grows types more)

abbrev object_fits : List TypeDecl → List ObjectDecl → ObjectDecl → Bool
object_fits types os o = is_plain o.name && is_type types o.kind && has_one_type os o

pub objects-grow : ObjectsGrow
objects-grow types more os = all-weaker (object_fits types os) (object_fits (types ++ more) os)
    (λ o fit.
    let first = and_parts (is_plain o.name && is_type types o.kind) (has_one_type os o) fit in
    let second = and_parts (is_plain o.name) (is_type types o.kind) first.0 in
    and_from (is_plain o.name && is_type (types ++ more) o.kind) (has_one_type os o)
    (and_from (is_plain o.name) (is_type (types ++ more) o.kind) second.0 (type-grows types more o.kind second.1)) first.1) os

abbrev is_fit : List TypeDecl → PredicateDecl → Bool
is_fit types d = is_plain d.name && params_fit types d.params

abbrev name_of : PredicateDecl → Name
name_of d = d.name

pub declarations-grow : DeclarationsGrow
declarations-grow types more ds fit =
    let parts = and_parts (are_distinct (map name_of ds)) (list_all (is_fit types) ds) fit in
    and_from (are_distinct (map name_of ds)) (list_all (is_fit (types ++ more)) ds) parts.0
    (all-weaker (is_fit types) (is_fit (types ++ more))
    (λ d one.
    let own = and_parts (is_plain d.name) (params_fit types d.params) one in
    and_from (is_plain d.name) (params_fit (types ++ more) d.params) own.0 (params-grow types more d.params own.1)) ds parts.1)

-- ---- one more

other_name : (a b : Name) → same_name a b ≡ false → same_name b a ≡ false
other_name a b differ = false_from_ne_true (same_name b a)
    (λ is. true≢false (sym ((same_name-Decides a b).1 (sym ((same_name-Decides b a).0 is))) ∙ differ))

pub distinct-grows : DistinctGrows
distinct-grows [] name apart new = refl
distinct-grows (n ∷ ns) name apart new =
    let parts = and_parts (not (list_any (same_name n) ns)) (are_distinct ns) apart in
    let news = or_parts (same_name name n) (list_any (same_name name) ns) new in
    let last : (same_name n name || list_any (same_name n) []) ≡ false = or_from (same_name n name) false (other_name name n news.0) refl in
    let none : list_any (same_name n) (ns ++ name ∷ []) ≡ false =
    list_any-append (same_name n) ns (name ∷ []) ∙ or_from (list_any (same_name n) ns) (list_any (same_name n) (name ∷ [])) (not-true (list_any (same_name n) ns) parts.0) last in
    and_from (not (list_any (same_name n) (ns ++ name ∷ []))) (are_distinct (ns ++ name ∷ [])) (ap not none) (distinct-grows ns name parts.1 news.1)

unnamed_by : (name : Name) (d : PredicateDecl) (rest : Option PredicateDecl) (b : Bool) → same_name d.name name ≡ b → cond b (Some d) rest ≡ None → (b ≡ false) × (rest ≡ None)
unnamed_by name d rest true same none = absurd cc
unnamed_by name d rest false same none = (refl, none)

unnamed : (ds : List PredicateDecl) (name : Name) → predicate_named ds name ≡ None → list_any (same_name name) (map name_of ds) ≡ false
unnamed [] name none = refl
unnamed (d ∷ ds) name none =
    let parts = unnamed_by name d (predicate_named ds name) (same_name d.name name) refl none in
    or_from (same_name name d.name) (list_any (same_name name) (map name_of ds)) (other_name d.name name parts.0) (unnamed ds name parts.1)

names_push : (ds : List PredicateDecl) (name : Name) (ps : List Param) → map name_of (ds ++ declaration name ps ∷ []) ≡ map name_of ds ++ name ∷ []
names_push [] name ps = refl
names_push (d ∷ ds) name ps = ap (λ l. d.name ∷ l) (names_push ds name ps)

pub declaration_fits : DeclarationFits
declaration_fits types ds name ps fit named new params =
    let parts = and_parts (are_distinct (map name_of ds)) (list_all (is_fit types) ds) fit in
    let one : is_fit types (declaration name ps) ≡ true = and_from (is_plain name) (params_fit types ps) (name_is_plain name named) params in
    and_from (are_distinct (map name_of (ds ++ declaration name ps ∷ []))) (list_all (is_fit types) (ds ++ declaration name ps ∷ []))
    (ap are_distinct (names_push ds name ps) ∙ distinct-grows (map name_of ds) name parts.0 (unnamed ds name new))
    (all-both (is_fit types) ds (declaration name ps ∷ []) parts.1 (and_from (is_fit types (declaration name ps)) true one refl))

-- ---- types without a cycle

abbrev is_top : TypeDecl → Bool
is_top t = same_name t.name (codes "object")

ordered : (types : List TypeDecl) (t : TypeDecl) → is_top t ≡ false → is_circular types t ≡ false → is_ordered types t ≡ true
ordered types t below acyclic =
    let above : Bool = list_any (same_name t.name) (upward (length types) types t.parent) in
    let under : is_under (table_world types []) t.parent t.name ≡ false = sym (ap (λ b. not (b && same_name t.parent (codes "object")) && is_under (table_world types []) t.parent t.name) below) ∙ acyclic in
    let parts = or_parts (is_top t) above under in
    and_from (not (is_top t)) (not above) (not_from_false (is_top t) below) (not_from_false above parts.1)

pub types-fit : TypesFit
types-fit types apart below acyclic =
    and_from (are_distinct (map (λ (t : TypeDecl). t.name) types)) (list_all (is_ordered types) types) apart
    (none-each is_top (is_circular types) (is_ordered types) (ordered types) types below acyclic)
