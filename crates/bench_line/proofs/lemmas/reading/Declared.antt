-- What the line's domain declares, and that its names are new.
--     declared n           what the domain of n places declares
--     moves seed k         the actions at the first k places
--     declares             the forms of the places declare them
--     place_found          a place is the predicate of its name
--     move_new             the action at a place has a name that none before it has
use Rattle.std.proofs.Common.{◌≡◌, ℕ, zero, suc, ◌+◌, ◌^◌, ◌<◌, ◌≤◌, ◌==◌, ◌||◌, true, false, cond, List, [], ◌∷◌, ◌++◌, map, codes, Some, None, refl, ap, subst, ◌∙◌, arith}
use Rattle.std.specs.List.{list_any, range_with_len}
use Rattle.std.proofs.lemmas.Bool.{eqb-true, eqb-false, false_from_ne_true}
use Rattle.std.proofs.lemmas.List.FromFn.{map-range_with_len_more}
use Rattle.std.proofs.lemmas.Slice.Eq.{bytes_eq-Decides}
use Rattle.ppddl_model.specs.declared.tree.Action.{Action}
use Rattle.ppddl_model.specs.declared.tree.PredicateDecl.{PredicateDecl}
use Rattle.ppddl_model.specs.State.{same_name}
use Rattle.ppddl_model.proofs.States.{same_name-Decides}
use Rattle.ppddl_cursor.specs.Ahead.{same}
use Rattle.ppddl_forms.specs.names.Declarations.{Declared, nothing, predicate_named}
use Rattle.ppddl_reader.specs.domains.Actions.{names_of}
use Rattle.ppddl_form_grammar.specs.forms.Lists as list_by
use Rattle.ppddl_form_grammar.specs.forms.Words as word_by
use Rattle.ppddl_form_grammar.specs.forms.Words.{Each}
use Rattle.ppddl_grammar.specs.sections.Declarations as declared_by
use Rattle.ppddl_grammar.specs.sections.Declarations.{AreNew, IsDeclaration, IsPredicates}
use Rattle.plan_report.specs.Line.{numbered}
use Rattle.bench_line.specs.LineTask.{place_decl, move}
use Rattle.bench_line.proofs.lemmas.reading.Names.{place_is_name, numbered-injective}
use Rattle.bench_line.proofs.lemmas.reading.Spelling.{place_forms}

abbrev pub places : ℕ → List PredicateDecl
places k = map place_decl (range_with_len 0 k)

abbrev pub moves : ℕ → ℕ → List Action
moves seed k = map (move seed) (range_with_len 0 k)

abbrev pub declared : ℕ → Declared
declared n = record { types = []; objects = []; predicates = places n; functions = [] }

pub one_place_more : (k : ℕ) → places (k + 1) ≡ places k ++ place_decl k ∷ []
one_place_more k = map-range_with_len_more place_decl 0 k k (omega arith)

pub one_move_more : (seed k : ℕ) → moves seed (k + 1) ≡ moves seed k ++ move seed k ∷ []
one_move_more seed k = map-range_with_len_more (move seed) 0 k k (omega arith)

-- ---- the predicates

other_place : (i j : ℕ) → i < 2 ^ 64 → j < 2 ^ 64 → (i ≡ j → ⊥) → same_name (numbered (codes "at") i) (numbered (codes "at") j) ≡ false
other_place i j small few other = false_from_ne_true (same_name (numbered (codes "at") i) (numbered (codes "at") j))
    (λ e. other (numbered-injective (codes "at") i j small few ((same_name-Decides (numbered (codes "at") i) (numbered (codes "at") j)).0 e)))

same_place : (i j : ℕ) → i ≡ j → same_name (numbered (codes "at") i) (numbered (codes "at") j) ≡ true
same_place i j e = (same_name-Decides (numbered (codes "at") i) (numbered (codes "at") j)).1 (ap (numbered (codes "at")) e)

found_from : (k a j : ℕ) → a ≤ j → j < a + k → a + k < 2 ^ 64
    → predicate_named (map place_decl (range_with_len a k)) (numbered (codes "at") j) ≡ Some (place_decl j)
found_from zero a j low high few = absurd (omega arith)
found_from (suc k) a j low high few =
    (elim (a == j) as (λ v. (a == j) ≡ v → predicate_named (map place_decl (range_with_len a (suc k))) (numbered (codes "at") j) ≡ Some (place_decl j)) [
      | true ↦ λ e.
          let same_one : a ≡ j = eqb-true a j e in
          ap (λ v. cond v (Some (place_decl a)) (predicate_named (map place_decl (range_with_len (a + 1) k)) (numbered (codes "at") j))) (same_place a j same_one)
          ∙ ap (λ i. Some (place_decl i)) same_one
      | false ↦ λ e.
          let other : a ≡ j → ⊥ = eqb-false a j e in
          ap (λ v. cond v (Some (place_decl a)) (predicate_named (map place_decl (range_with_len (a + 1) k)) (numbered (codes "at") j))) (other_place a j (omega arith) (omega arith) other)
          ∙ found_from k (a + 1) j (omega arith) (omega arith) (omega arith)
    ]) refl

pub place_found : (n j : ℕ) → j < n → n < 2 ^ 64 → predicate_named (places n) (numbered (codes "at") j) ≡ Some (place_decl j)
place_found n j there few = found_from n 0 j (omega arith) (omega arith) (omega arith)

missing_from : (k a j : ℕ) → a + k ≤ j → j < 2 ^ 64 → predicate_named (map place_decl (range_with_len a k)) (numbered (codes "at") j) ≡ None
missing_from zero a j behind few = refl
missing_from (suc k) a j behind few =
    ap (λ v. cond v (Some (place_decl a)) (predicate_named (map place_decl (range_with_len (a + 1) k)) (numbered (codes "at") j)))
    (other_place a j (omega arith) few (λ e. absurd (omega arith)))
    ∙ missing_from k (a + 1) j (omega arith) few

are_new : (k a : ℕ) → a + k < 2 ^ 64 → AreNew (places a) (map place_decl (range_with_len a k))
are_new zero a few = tt
are_new (suc k) a few =
    (missing_from a 0 a (omega arith) (omega arith), subst (λ ps. AreNew ps (map place_decl (range_with_len (a + 1) k))) (one_place_more a) (are_new k (a + 1) (omega arith)))

are_declarations : (d : Declared) (k a : ℕ) → a + k < 2 ^ 64 → Each (IsDeclaration d) (place_forms a k) (map place_decl (range_with_len a k))
are_declarations d zero a few = word_by.no_form
are_declarations d (suc k) a few =
    word_by.one_more
    (declared_by.declared (word_by.name (place_is_name a (omega arith))) (list_by.variables list_by.no_variable (λ i j v before within. absurd (omega arith))))
    (are_declarations d k (a + 1) (omega arith))

pub declares : (n : ℕ) → n < 2 ^ 64 → IsPredicates nothing (place_forms 0 n) (places n)
declares n few = record { each = are_declarations nothing n 0 (omega arith); new = are_new n 0 (omega arith) }

-- ---- the actions

other_move : (i j : ℕ) → i < 2 ^ 64 → j < 2 ^ 64 → (i ≡ j → ⊥) → same (numbered (codes "go") i) (numbered (codes "go") j) ≡ false
other_move i j small few other = false_from_ne_true (same (numbered (codes "go") i) (numbered (codes "go") j))
    (λ e. other (numbered-injective (codes "go") i j small few ((bytes_eq-Decides (numbered (codes "go") i) (numbered (codes "go") j)).0 e)))

none_named : (seed k b a : ℕ) → b + k ≤ a → a < 2 ^ 64 → list_any (same (numbered (codes "go") a)) (names_of (map (move seed) (range_with_len b k))) ≡ false
none_named seed zero b a behind few = refl
none_named seed (suc k) b a behind few =
    ap (λ v. v || list_any (same (numbered (codes "go") a)) (names_of (map (move seed) (range_with_len (b + 1) k))))
    (other_move a b few (omega arith) (λ e. absurd (omega arith)))
    ∙ none_named seed k (b + 1) a (omega arith) few

pub move_new : (seed a : ℕ) → a < 2 ^ 64 → list_any (same (move seed a).name) (names_of (moves seed a)) ≡ false
move_new seed a few = none_named seed a 0 a (omega arith) few
