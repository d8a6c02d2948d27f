-- The numbers that are given are in their ranges.
use Rattle.std.proofs.Common.{◌≡◌, refl, ℕ, ◌-◌, ◌≤◌, ◌^◌, Bool, true, false, ◌&&◌, List, length, Option, Some, None, Ok, Err, arith, lit≤}
use Rattle.std.specs.Prelude.{IfSome, option_map, leb, min, nat_lt, codes, if◌then◌else◌}
use Rattle.std.specs.Str.Parse.{digits_value}
use Rattle.std.proofs.lemmas.Bool.{leb-true, ltb-false}
use Rattle.exact_fraction.specs.Numbers.{Ratio, is_numeral, amount_from, decimal_of, micro_units}
use Rattle.exact_fraction.specs.declared.refusal.NumberRefusal.TheVariants.{TooManyDigits, OutOfRange}
use Rattle.plan_request.specs.words.Scans.{formed}
use Rattle.plan_request.specs.words.Words.{Text}
use Rattle.plan_request.specs.Numbers.{◌>>=◌, whole, amount, at_least, unless_given}
use Rattle.plan_request.specs.Commands.{command_named}
use Rattle.plan_request.specs.declared.ends.Ends.{Ends}
use Rattle.plan_request.specs.declared.ends.Ends.TheVariants as to
use Rattle.plan_request.specs.declared.lower.Lower.{Lower}
use Rattle.plan_request.specs.declared.lower.Lower.TheVariants as lowers
use Rattle.plan_request.specs.declared.command.Command.{Command}
use Rattle.plan_request.specs.declared.command.Command.TheVariants.{Solve, Check, Serve, Ground, Bench, Merge, Walk, Draw}
use Rattle.plan_request.specs.Asked.{Given, Asked, to_serve, to_ground, to_merge, to_walk, to_draw, given_in, lower_of, ends_of, swept_unasked, progress_of}
use Rattle.plan_request.specs.Asked.{penalty_of, sources_of, effort_of, sizes_of, solving_of, merging_of, walking_of, drawing_of, solved_of, checked_of, benched_of, asked_as, asked_by, request_of}
use Rattle.plan_request.specs.Laws.{IsBetween, AreTerms, IsEffort, AreSizes, IsSolving, IsMerging, IsWalking, IsDrawing, IsInRange}
use Rattle.plan_request.proofs.Options.{of_some, if_then_some, if_mapped, if_bound, if_any}

and_left : (a b : Bool) → (a && b) ≡ true → a ≡ true
and_left true b e = refl
and_left false b e = e

and_right : (a b : Bool) → (a && b) ≡ true → b ≡ true
and_right true b e = e
and_right false b e = absurd (cc)

whole_between : (least most : ℕ) (text : List ℕ) → IfSome (whole least most text) (IsBetween least most)
unfolding whole
whole_between least most text =
    let n = digits_value 10 text in
    if_then_some (IsBetween least most) (is_numeral text && leb (length text) 20 && leb least n && leb n most) n
    (λ holds. (
      leb-true least n (and_right (is_numeral text && leb (length text) 20) (leb least n) (and_left (is_numeral text && leb (length text) 20 && leb least n) (leb n most) holds)),
      leb-true n most (and_right (is_numeral text && leb (length text) 20 && leb least n) (leb n most) holds),
    ))

pub whole_below : (least most : ℕ) (text : List ℕ) (n : ℕ) → whole least most text ≡ Some n → n ≤ most
whole_below least most text n is = (of_some (IsBetween least most) (whole least most text) n (whole_between least most text) is).1

-- what is no more than may be
not_above : (most : ℕ) (b : Bool) (n : ℕ) → nat_lt most n ≡ b → (least : ℕ) → IfSome (at_least least (if b then Err OutOfRange else Ok n)) (IsBetween least most)
not_above most true n is least = tt
not_above most false n is least = if_then_some (IsBetween least most) (leb least n) n (λ holds. (leb-true least n holds, omega (arith, ltb-false most n is)))

amount_between_from : (least most : ℕ) (o : Option Ratio) → IfSome (at_least least (amount_from most o)) (IsBetween least most)
amount_between_from least most None = tt
amount_between_from least most (Some r) =
    let Says : Bool → Type 0 = λ b. IfSome (at_least least (if b then Err TooManyDigits else if nat_lt most (micro_units r) then Err OutOfRange else Ok (micro_units r))) (IsBetween least most) in
    elim (nat_lt (10 ^ 6) r.den) as Says [ true ↦ tt | false ↦ not_above most (nat_lt most (micro_units r)) (micro_units r) refl least ]

amount_between : (least most : ℕ) (text : List ℕ) → IfSome (amount least most text) (IsBetween least most)
unfolding amount
amount_between least most text = amount_between_from least most (decimal_of text)

-- the default is in the range too
unless_given_in : {A : Type 0} (P : A → Type 0) (default : A) (read : List ℕ → Option A) → P default → ((text : List ℕ) → IfSome (read text) P) → (o : Option (List ℕ)) → IfSome (unless_given default read o) P
unless_given_in P default read holds reads None = holds
unless_given_in P default read holds reads (Some text) = reads text

whole_in : (default least most : ℕ) → IsBetween least most default → (o : Option (List ℕ)) → IfSome (unless_given default (whole least most) o) (IsBetween least most)
whole_in default least most holds = unless_given_in (IsBetween least most) default (whole least most) holds (whole_between least most)

amount_in : (default least most : ℕ) → IsBetween least most default → (o : Option (List ℕ)) → IfSome (unless_given default (amount least most) o) (IsBetween least most)
amount_in default least most holds = unless_given_in (IsBetween least most) default (amount least most) holds (amount_between least most)

-- ---- the parts of requests

penalty_in : (o : Option (List ℕ)) → IfSome (penalty_of o) (λ p. IfSome p (IsBetween 1 (10 ^ 14)))
unfolding penalty_of
penalty_in o =
    unless_given_in (λ p. IfSome p (IsBetween 1 (10 ^ 14))) None (λ text. option_map Some (amount 1 (10 ^ 14) text)) tt
    (λ text. if_mapped (IsBetween 1 (10 ^ 14)) (λ p. IfSome p (IsBetween 1 (10 ^ 14))) Some (amount 1 (10 ^ 14) text) (amount_between 1 (10 ^ 14) text) (λ n holds. holds)) o

sources_in : (given : Given) → IfSome (sources_of given) AreTerms
unfolding sources_of
sources_in given =
    if_bound _ AreTerms (given (codes "DOMAIN")) _ (if_any _)
    (λ domain _. if_bound _ AreTerms (penalty_of (given (codes "penalty"))) _ (penalty_in (given (codes "penalty")))
    (λ penalty p. if_bound _ AreTerms (unless_given 0 (amount 0 (10 ^ 12)) (given (codes "step-cost"))) _ (amount_in 0 0 (10 ^ 12) (lit≤ tt, lit≤ tt) (given (codes "step-cost")))
    (λ step_cost c. record { penalty = p; step_cost = c.1 })))

effort_in : (given : Given) → IfSome (effort_of given) IsEffort
unfolding effort_of
effort_in given =
    if_bound _ IsEffort (unless_given 1000 (amount 0 (10 ^ 14)) (given (codes "gap"))) _ (amount_in 1000 0 (10 ^ 14) (lit≤ tt, lit≤ tt) (given (codes "gap")))
    (λ gap a. if_bound _ IsEffort (unless_given 1000 (whole 0 100000) (given (codes "rounds"))) _ (whole_in 1000 0 100000 (lit≤ tt, lit≤ tt) (given (codes "rounds")))
    (λ rounds b. if_bound _ IsEffort (unless_given 64 (whole 0 4096) (given (codes "trials"))) _ (whole_in 64 0 4096 (lit≤ tt, lit≤ tt) (given (codes "trials")))
    (λ trials c. if_bound _ IsEffort (unless_given 1000 (whole 1 10000) (given (codes "depth"))) _ (whole_in 1000 1 10000 (lit≤ tt, lit≤ tt) (given (codes "depth")))
    (λ depth d. if_bound _ IsEffort (unless_given 10 (whole 1 1000) (given (codes "tau"))) _ (whole_in 10 1 1000 (lit≤ tt, lit≤ tt) (given (codes "tau")))
    (λ tau e. if_bound _ IsEffort (unless_given 1 (whole 0 (2 ^ 64 - 1)) (given (codes "seed"))) _ (whole_in 1 0 (2 ^ 64 - 1) (lit≤ tt, lit≤ tt) (given (codes "seed")))
    (λ seed f. if_bound _ IsEffort (ends_of (given (codes "ends"))) _ (if_any _)
    (λ ends _. record { gap = a.1; rounds = b.1; trials = c.1; depth = d; tau = e; seed = omega (arith, f.1) })))))))

swept_default : (ends : Ends) (states : ℕ) → 65 ≤ states → IsBetween 64 (states - 1) (swept_unasked ends (states - 1))
swept_default to.Depth states le = (omega arith, omega arith)
swept_default to.New states le = (omega arith, omega arith)

sizes_in : (ends : Ends) (given : Given) → IfSome (sizes_of ends given) AreSizes
unfolding sizes_of
sizes_in ends given =
    if_bound _ AreSizes (unless_given 4 (whole 1 16) (given (codes "workers"))) _ (whole_in 4 1 16 (lit≤ tt, lit≤ tt) (given (codes "workers")))
    (λ workers a. if_bound _ AreSizes (unless_given 65536 (whole 65 262144) (given (codes "states"))) _ (whole_in 65536 65 262144 (lit≤ tt, lit≤ tt) (given (codes "states")))
    (λ states b. if_bound _ AreSizes (unless_given (swept_unasked ends (states - 1)) (whole 64 (states - 1)) (given (codes "sweep-states"))) _ (whole_in (swept_unasked ends (states - 1)) 64 (states - 1) (swept_default ends states b.0) (given (codes "sweep-states")))
    (λ swept c. record { workers = a; states = b; least_swept = c.0; fewer_swept = omega (arith, c.1, b.0) })))

solving_in : (lower : Lower) (given : Given) → IfSome (solving_of lower given) IsSolving
unfolding solving_of
solving_in lower given =
    if_bound AreTerms IsSolving (sources_of given) _ (sources_in given)
    (λ sources a. if_bound _ IsSolving (given (codes "cert")) _ (if_any _)
    (λ certificate _. if_bound IsEffort IsSolving (effort_of given) _ (effort_in given)
    (λ effort b. if_bound AreSizes IsSolving (sizes_of effort.ends given) _ (sizes_in effort.ends given)
    (λ sizes c. if_bound _ IsSolving (progress_of (given (codes "progress"))) _ (if_any _)
    (λ progress _. record { terms = a; effort = b; sizes = c })))))

merging_in : (given : Given) → IfSome (merging_of given) IsMerging
unfolding merging_of
merging_in given =
    if_bound AreTerms IsMerging (sources_of given) _ (sources_in given)
    (λ sources a. if_bound _ IsMerging (given (codes "cert")) _ (if_any _)
    (λ first _. if_bound _ IsMerging (given (codes "with")) _ (if_any _)
    (λ second _. if_bound _ IsMerging (given (codes "into")) _ (if_any _) (λ into _. a))))

walking_in : (given : Given) → IfSome (walking_of given) IsWalking
unfolding walking_of
walking_in given =
    if_bound AreTerms IsWalking (sources_of given) _ (sources_in given)
    (λ sources a. if_bound _ IsWalking (given (codes "cert")) _ (if_any _)
    (λ certificate _. if_bound _ IsWalking (unless_given 1 (whole 0 (2 ^ 64 - 1)) (given (codes "seed"))) _ (whole_in 1 0 (2 ^ 64 - 1) (lit≤ tt, lit≤ tt) (given (codes "seed")))
    (λ seed b. if_bound _ IsWalking (unless_given 10 (whole 1 100) (given (codes "walks"))) _ (whole_in 10 1 100 (lit≤ tt, lit≤ tt) (given (codes "walks")))
    (λ walks c. if_bound _ IsWalking (unless_given 1000 (whole 1 10000) (given (codes "steps"))) _ (whole_in 1000 1 10000 (lit≤ tt, lit≤ tt) (given (codes "steps")))
    (λ steps d. record { terms = a; seed = omega (arith, b.1); walks = c; steps = d })))))

drawing_in : (given : Given) → IfSome (drawing_of given) IsDrawing
unfolding drawing_of
drawing_in given =
    if_bound AreTerms IsDrawing (sources_of given) _ (sources_in given)
    (λ sources a. if_bound _ IsDrawing (given (codes "cert")) _ (if_any _)
    (λ certificate _. if_bound _ IsDrawing (given (codes "into")) _ (if_any _)
    (λ into _. if_bound _ IsDrawing (unless_given 200 (whole 1 10000) (given (codes "states"))) _ (whole_in 200 1 10000 (lit≤ tt, lit≤ tt) (given (codes "states")))
    (λ states b. record { terms = a; states = b }))))

solved_in : (given : Given) → IfSome (solved_of given) IsInRange
unfolding solved_of
solved_in given =
    if_bound _ IsInRange (lower_of (given (codes "lower"))) _ (if_any _)
    (λ lower _. if_bound IsSolving IsInRange (solving_of lower given) _ (solving_in lower given) (λ solving holds. holds))

checked_in : (given : Given) → IfSome (checked_of given) IsInRange
unfolding checked_of
checked_in given =
    if_bound AreTerms IsInRange (sources_of given) _ (sources_in given)
    (λ sources a. if_bound _ IsInRange (given (codes "cert")) _ (if_any _) (λ certificate _. a))

benched_in : (given : Given) → IfSome (benched_of given) IsInRange
unfolding benched_of
benched_in given =
    if_bound (IsBetween 2 1000) IsInRange (given (codes "N") >>= whole 2 1000) _ (if_bound _ (IsBetween 2 1000) (given (codes "N")) (whole 2 1000) (if_any _) (λ text _. whole_between 2 1000 text))
    (λ places a. if_bound (IsBetween 0 (2 ^ 64 - 1)) IsInRange (given (codes "SEED") >>= whole 0 (2 ^ 64 - 1)) _ (if_bound _ (IsBetween 0 (2 ^ 64 - 1)) (given (codes "SEED")) (whole 0 (2 ^ 64 - 1)) (if_any _) (λ text _. whole_between 0 (2 ^ 64 - 1) text))
    (λ seed b. (a, omega (arith, b.1))))

asked_in : (command : Command) (given : Given) → IfSome (asked_as command given) IsInRange
asked_in Solve given = solved_in given
asked_in Check given = checked_in given
asked_in Serve given = if_mapped IsSolving IsInRange to_serve (solving_of lowers.None given) (solving_in lowers.None given) (λ s holds. holds)
asked_in Ground given = if_mapped AreTerms IsInRange to_ground (sources_of given) (sources_in given) (λ s holds. holds)
asked_in Bench given = benched_in given
asked_in Merge given = if_mapped IsMerging IsInRange to_merge (merging_of given) (merging_in given) (λ m holds. holds)
asked_in Walk given = if_mapped IsWalking IsInRange to_walk (walking_of given) (walking_in given) (λ w holds. holds)
asked_in Draw given = if_mapped IsDrawing IsInRange to_draw (drawing_of given) (drawing_in given) (λ d holds. holds)

asked_by_in : (name : Text) (given : Given) → IfSome (asked_by name given) IsInRange
asked_by_in name given = if_bound _ IsInRange (command_named name) (λ command. asked_as command given) (if_any _) (λ command _. asked_in command given)

pub in_range : (words : List Text) (q : Asked) → request_of words ≡ Some q → IsInRange q
unfolding request_of
in_range words q is =
    of_some IsInRange _ q (if_bound _ IsInRange (formed words) (λ (f, items). asked_by f.name (given_in f items)) (if_any _) (λ (f, items) _. asked_by_in f.name (given_in f items))) is

pub states_least : (o : Option (List ℕ)) (n : ℕ) → unless_given 65536 (whole 65 262144) o ≡ Some n → 65 ≤ n
states_least o n is = (of_some (IsBetween 65 262144) _ n (whole_in 65536 65 262144 (lit≤ tt, lit≤ tt) o) is).0
