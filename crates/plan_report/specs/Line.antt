-- A planning problem of any length by which the program is measured: places in a row, and at each an action
-- that moves on with some probability. The lower the probability, the more rounds a solver needs.
--     tenths seed i        the probability at place i in tenths, from 1 to 9
--     numbered word i      a word with a number behind it
--     place_text i         the predicate of place i, behind a blank
--     action_text seed i   the action at place i
--     line_text n seed     the domain and the problem
use Rattle.std.specs.Prelude.{ℕ, ◌+◌, ◌-◌, ◌*◌, ◌%◌, List, ◌++◌, codes, decimal}
use Rattle.std.specs.List.{flat_map, range_with_len}

abbrev pub tenths : ℕ → ℕ → ℕ
tenths seed i = 1 + (seed % 9 + i * i) % 9

abbrev pub numbered : List ℕ → ℕ → List ℕ
numbered word i = word ++ decimal i

abbrev pub place_text : ℕ → List ℕ
place_text i = numbered (codes " (at") i ++ codes ")"

abbrev pub action_text : ℕ → ℕ → List ℕ
action_text seed i =
    numbered (codes "(:action go") i
    ++ numbered (codes " :precondition (at") i
    ++ numbered (codes ") :effect (and (decrease (reward) 1) (probabilistic 0.") (tenths seed i)
    ++ numbered (codes " (and (not (at") i
    ++ numbered (codes ")) (at") (i + 1)
    ++ codes ")))))\n"

abbrev pub line_text : ℕ → ℕ → List ℕ
line_text n seed =
    codes "(define (domain line)\n(:predicates"
    ++ flat_map place_text (range_with_len 0 n)
    ++ codes ")\n"
    ++ flat_map (action_text seed) (range_with_len 0 (n - 1))
    ++ numbered (codes ")\n(define (problem line-") n
    ++ numbered (codes ") (:domain line) (:init (at0)) (:goal (at") (n - 1)
    ++ codes ")) (:goal-reward 100000) (:metric maximize (reward)))\n"
