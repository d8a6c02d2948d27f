-- Clap's command for the commands of the program.
use Rattle.std.proofs.Common.{◌≡◌, refl, sym, ap, ◌∙◌, ℕ, zero, suc, ◌+◌, ◌<◌, Bool, true, false, ◌||◌, cond, List, [], ◌∷◌, ◌++◌, Some, true≢false, arith, map, lit≤}
use Rattle.std.specs.Str.{bytes_eq}
use Rattle.clap.specs.Walk.{Rule, arg_by_id, arg_by_index, arg_by_long}
use Rattle.clap.specs.Simple.{is_simple}
use Rattle.plan_request.specs.words.Words.{Text, is_among}
use Rattle.plan_request.specs.words.Table.{IsTable, built_option, built_positional, built_rules, forms, name_at, placed, plan_app}
use Rattle.plan_request.proofs.lemmas.words.Single.{or_parts, same_text, text_refl}

pub simple : is_simple (plan_app forms) ≡ true
simple = refl

-- ---- what the rules find

long_found : (n : Text) (os : List Text) (rest : List Rule) → is_among n os ≡ true → arg_by_long (map built_option os ++ rest) n ≡ Some (built_option n)
long_found n [] rest e = absurd (true≢false (sym e))
long_found n (o ∷ os) rest e =
    let Found : Bool → Type 0 = λ b. bytes_eq o n ≡ b → (b || is_among n os) ≡ true → cond (b || false) (Some (built_option o)) (arg_by_long (map built_option os ++ rest) n) ≡ Some (built_option n) in
    (elim (bytes_eq o n) as Found [
      | true ↦ λ h k. ap (λ x. Some (built_option x)) (same_text o n h)
      | false ↦ λ h k. long_found n os rest k
    ]) refl e

id_found : (n : Text) (os : List Text) (rest : List Rule) → is_among n os ≡ true → arg_by_id (map built_option os ++ rest) n ≡ Some (built_option n)
id_found n [] rest e = absurd (true≢false (sym e))
id_found n (o ∷ os) rest e =
    let Found : Bool → Type 0 = λ b. bytes_eq o n ≡ b → (b || is_among n os) ≡ true → cond b (Some (built_option o)) (arg_by_id (map built_option os ++ rest) n) ≡ Some (built_option n) in
    (elim (bytes_eq o n) as Found [
      | true ↦ λ h k. ap (λ x. Some (built_option x)) (same_text o n h)
      | false ↦ λ h k. id_found n os rest k
    ]) refl e

-- options are passed over
place_behind : (p : Text) (os : List Text) (rest : List Rule) → is_among p os ≡ false → arg_by_id (map built_option os ++ rest) p ≡ arg_by_id rest p
place_behind p [] rest e = refl
place_behind p (o ∷ os) rest e =
    let parts = or_parts (bytes_eq o p) (is_among p os) e in
    rw parts.0 (place_behind p os rest parts.1)

index_behind : (i : ℕ) (os : List Text) (rest : List Rule) → arg_by_index (map built_option os ++ rest) i ≡ arg_by_index rest i
index_behind i [] rest = refl
index_behind i (o ∷ os) rest = index_behind i os rest

pub one_table : (os : List Text) (p : Text) → is_among p os ≡ false → IsTable (built_rules os (p ∷ [])) os (p ∷ [])
one_table os p e = record {
  long = λ n among. long_found n os (placed 1 (p ∷ [])) among;
  id = λ n among. id_found n os (placed 1 (p ∷ [])) among;
  index = λ k lt. at_index k lt;
  place = λ k lt. at_place k lt;
  apart = λ k lt. at_apart k lt;
  distinct = λ j k below lt. absurd (let x : k < 1 = lt in omega arith);
  few = lit≤ tt;
}
  where
    at_index : (k : ℕ) → k < 1 → arg_by_index (built_rules os (p ∷ [])) (k + 1) ≡ Some (built_positional (k + 1) (name_at (p ∷ []) k))
    at_index zero lt = index_behind 1 os (placed 1 (p ∷ []))
    at_index (suc k) lt = absurd (omega arith)

    at_place : (k : ℕ) → k < 1 → arg_by_id (built_rules os (p ∷ [])) (name_at (p ∷ []) k) ≡ Some (built_positional (k + 1) (name_at (p ∷ []) k))
    at_place zero lt = place_behind p os (placed 1 (p ∷ [])) e ∙ rw (text_refl p) refl
    at_place (suc k) lt = absurd (omega arith)

    at_apart : (k : ℕ) → k < 1 → is_among (name_at (p ∷ []) k) os ≡ false
    at_apart zero lt = e
    at_apart (suc k) lt = absurd (omega arith)

pub two_table : (p q : Text) → bytes_eq p q ≡ false → IsTable (built_rules [] (p ∷ q ∷ [])) [] (p ∷ q ∷ [])
two_table p q e = record {
  long = λ n among. absurd (true≢false (sym among));
  id = λ n among. absurd (true≢false (sym among));
  index = λ k lt. at_index k lt;
  place = λ k lt. at_place k lt;
  apart = λ k lt. refl;
  distinct = λ j k below lt. at_distinct j k below lt;
  few = lit≤ tt;
}
  where
    at_index : (k : ℕ) → k < 2 → arg_by_index (built_rules [] (p ∷ q ∷ [])) (k + 1) ≡ Some (built_positional (k + 1) (name_at (p ∷ q ∷ []) k))
    at_index zero lt = refl
    at_index (suc zero) lt = refl
    at_index (suc (suc k)) lt = absurd (omega arith)

    at_place : (k : ℕ) → k < 2 → arg_by_id (built_rules [] (p ∷ q ∷ [])) (name_at (p ∷ q ∷ []) k) ≡ Some (built_positional (k + 1) (name_at (p ∷ q ∷ []) k))
    at_place zero lt = rw (text_refl p) refl
    at_place (suc zero) lt = rw (e, text_refl q) refl
    at_place (suc (suc k)) lt = absurd (omega arith)

    at_distinct : (j k : ℕ) → j < k → k < 2 → bytes_eq (name_at (p ∷ q ∷ []) j) (name_at (p ∷ q ∷ []) k) ≡ false
    at_distinct zero (suc zero) below lt = e
    at_distinct zero zero below lt = absurd (omega arith)
    at_distinct (suc j) (suc zero) below lt = absurd (omega arith)
    at_distinct (suc j) zero below lt = absurd (omega arith)
    at_distinct j (suc (suc k)) below lt = absurd (omega arith)
