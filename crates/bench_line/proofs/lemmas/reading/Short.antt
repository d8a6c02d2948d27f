-- The text of a line of at most 1,000 places is within the limit of texts.
use Rattle.std.proofs.Common.{◌≡◌, ℕ, ◌+◌, ◌-◌, ◌*◌, ◌<◌, ◌≤◌, List, [], ◌∷◌, ◌++◌, length, arith}
use Rattle.std.specs.Prelude.{All, flat_map, decimal, codes}
use Rattle.std.specs.List.{range_with_len}
use Rattle.std.proofs.lemmas.Fmt.{length-decimal-le}
use Rattle.std.proofs.lemmas.List.{length-append}
use Rattle.std.proofs.lemmas.List.Elements.{All-head, All-tail}
use Rattle.std.proofs.lemmas.List.FromFn.{length-range_with_len}
use Rattle.ppddl_lex.specs.declared.lexer.TheConstants.{MOST_TEXT}
use Rattle.plan_report.specs.Line.{tenths, numbered, place_text, action_text, line_text}
use Rattle.bench_line.proofs.lemmas.grounding.Lists.{all_below}

length-flat_map-le : (f : ℕ → List ℕ) (k : ℕ) (xs : List ℕ) → All (λ i. length (f i) ≤ k) xs → length (flat_map f xs) ≤ k * length xs
length-flat_map-le f k [] each = omega arith
length-flat_map-le f k (x ∷ xs) each =
    omega (
      arith,
      length-append (f x) (flat_map f xs),
      All-head (λ i. length (f i) ≤ k) x xs each,
      length-flat_map-le f k xs (All-tail (λ i. length (f i) ≤ k) x xs each),
    )

-- ---- numbers of four digits at most

decimal_few : (i : ℕ) → i < 10000 → length (decimal i) ≤ 4
decimal_few i small = length-decimal-le 4 i (omega arith) (omega (arith, small)) (omega (arith, small))

numbered_few : (word : List ℕ) (i : ℕ) → i < 10000 → length (numbered word i) ≤ length word + 4
numbered_few word i small = omega (arith, length-append word (decimal i), decimal_few i small)

length-six : (a b c d e f : List ℕ) → length (a ++ b ++ c ++ d ++ e ++ f) ≡ length a + length b + length c + length d + length e + length f
length-six a b c d e f =
    omega (
      arith,
      length-append a b,
      length-append (a ++ b) c,
      length-append (a ++ b ++ c) d,
      length-append (a ++ b ++ c ++ d) e,
      length-append (a ++ b ++ c ++ d ++ e) f,
    )

-- ---- the parts of the text

place_few : (i : ℕ) → i < 1000 → length (place_text i) ≤ 20
place_few i small =
    omega (arith, length-append (numbered (codes " (at") i) (codes ")"), numbered_few (codes " (at") i (omega (arith, small)))

action_few : (seed i : ℕ) → i < 1000 → length (action_text seed i) ≤ 200
action_few seed i small =
    omega (
      arith,
      length-six (numbered (codes "(:action go") i) (numbered (codes " :precondition (at") i)
          (numbered (codes ") :effect (and (decrease (reward) 1) (probabilistic 0.") (tenths seed i))
          (numbered (codes " (and (not (at") i) (numbered (codes ")) (at") (i + 1)) (codes ")))))\n"),
      numbered_few (codes "(:action go") i (omega (arith, small)),
      numbered_few (codes " :precondition (at") i (omega (arith, small)),
      numbered_few (codes ") :effect (and (decrease (reward) 1) (probabilistic 0.") (tenths seed i) (omega arith),
      numbered_few (codes " (and (not (at") i (omega (arith, small)),
      numbered_few (codes ")) (at") (i + 1) (omega (arith, small)),
    )

pub line_is_short : (n seed : ℕ) → n ≤ 1000 → length (line_text n seed) ≤ MOST_TEXT
line_is_short n seed most =
    let places : List ℕ = flat_map place_text (range_with_len 0 n) in
    let actions : List ℕ = flat_map (action_text seed) (range_with_len 0 (n - 1)) in
    let places_few : length places ≤ 20 * length (range_with_len 0 n)
    = length-flat_map-le place_text 20 (range_with_len 0 n) (all_below (λ i. length (place_text i) ≤ 20) n (λ i within. place_few i (omega (arith, within, most)))) in
    let actions_few : length actions ≤ 200 * length (range_with_len 0 (n - 1))
    = length-flat_map-le (action_text seed) 200 (range_with_len 0 (n - 1)) (all_below (λ i. length (action_text seed i) ≤ 200) (n - 1) (λ i within. action_few seed i (omega (arith, within, most)))) in
    let head : List ℕ = codes "(define (domain line)\n(:predicates" in
    omega (
      arith,
      length-six (head ++ places) (codes ")\n") actions (numbered (codes ")\n(define (problem line-") n)
          (numbered (codes ") (:domain line) (:init (at0)) (:goal (at") (n - 1)) (codes ")) (:goal-reward 100000) (:metric maximize (reward)))\n"),
      length-append head places,
      places_few,
      actions_few,
      length-range_with_len 0 n,
      length-range_with_len 0 (n - 1),
      numbered_few (codes ")\n(define (problem line-") n (omega (arith, most)),
      numbered_few (codes ") (:domain line) (:init (at0)) (:goal (at") (n - 1) (omega (arith, most)),
      most,
    )
