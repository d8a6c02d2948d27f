-- What is answered while a search is made, and what the search knows in the end of the states that were told of.
--     Streams                    what a source and a sink show: the input, the bytes that were put, and the count of puts that failed
--     IsSoundInterval g s i      the interval is ordered, within the penalty, and no wider than the first one of the state; it covers the
--                                least cost from the state, and its act, by its code, is worth its upper value
--     IsFar p starts swept s     the state is none of those near the starts, to the greatest depth with at most so many states
--     IsSound g swept r          an interval that a reply tells is sound, and a state that was not found is far from the starts
--     HasServed g swept old new served replies
--                                a server has answered by these replies; each is sound, and a later one of one state is no wider; the
--                                sink's count of faults rose exactly where a put failed
--     IsWithin g rows s i        the rows say of the state an interval that is no wider
--     IsKept g rows r            no wider than the interval that a reply tells
--     IsServed g swept rows old new served
--                                what a server has answered, and the rows keep it
--     IsUnserved                 source and sink are as they were
--     WasServed g swept old new  a server has answered
use Rattle.std.specs.Prelude.{◌≡◌, ℕ, ◌<◌, ◌≤◌, cond, List, Option}
use Rattle.std.specs.List.{AllByRecursion}
use Rattle.shelf_io.specs.Causes.{one_more}
use Rattle.decision_process.specs.Least.{Covers}
use Rattle.decision_process.specs.Levels.{IsDepthWithin}
use Rattle.decision_process.specs.Process.{Process, Start}
use Rattle.decision_process.specs.Readings.{Row, low, high}
use Rattle.decision_process.specs.sweeps.Sweeps.{IsNear}
use Rattle.ground_model.specs.Packed.{State, same_state}
use Rattle.ground_model.specs.Ground.{Ground}
use Rattle.ground_model.specs.Steps.{ground_process, ground_starts}
use Rattle.bound_core.specs.Numbers.{first_word}
use Rattle.word_table.specs.rule.Told.{IsWorth}
use Rattle.bound_words.specs.declared.bounds.Interval.{Interval}
use Rattle.bound_words.specs.Intervals.{word_in}
use Rattle.policy_server.specs.declared.served.Served.{Served}
use Rattle.policy_server.specs.Replies.{Reply, NoQuery, NoAtom, Unvisited, Found, FollowEach}
use Rattle.policy_server.specs.Serving.{Input, input, is_write_fault, HasAnswered}

-- ---- source and sink

pub record Streams : Type 0 where
  pub source : Input
  pub taken : Option (List ℕ)
  pub faults : ℕ

abbrev pub streams : {I O : Type 0} → (I → Option (List ℕ)) → (I → ℕ) → (I → ℕ) → (O → Option (List ℕ)) → (O → ℕ)
    → I → O → Streams
streams left ends faults taken put_faults source sink = record {
  source = input left ends faults source;
  taken = taken sink;
  faults = put_faults sink;
}

-- ---- what is answered

pub record IsSoundInterval (g : Ground) (s : State) (i : Interval) : Type 0 where
  pub is_code : i.code < 65536
  pub ordered : i.lower ≤ i.upper
  pub within_quit : i.upper ≤ g.penalty
  pub within_first : word_in i ≤ first_word g s
  pub covers : Covers (ground_process g) i.lower i.upper s
  pub worth : IsWorth g s (word_in i)

pub record IsFar {S A : Type 0} (p : Process S A) (starts : List (Start S)) (swept : ℕ) (s : S) : Type 0 where
  pub depth : Option ℕ
  pub fits : IsDepthWithin p starts swept depth
  pub far : IsNear p starts depth s → ⊥

abbrev pub IsSound : Ground → ℕ → Reply → Type 0
IsSound g swept NoQuery = Unit {0}
IsSound g swept NoAtom = Unit {0}
IsSound g swept (Unvisited s) = IsFar (ground_process g) (ground_starts g) swept s
IsSound g swept (Found s id i) = IsSoundInterval g s i

pub record HasServed (g : Ground) (swept : ℕ) (old new : Streams) (served : Served) (replies : List Reply) : Type 0 where
  pub answered : HasAnswered g old.source new.source old.taken new.taken served replies
  pub faults : new.faults ≡ cond (is_write_fault served.end) (one_more old.faults) old.faults
  pub in_turn : FollowEach replies
  pub sound : AllByRecursion (IsSound g swept) replies

-- ---- what is kept of it

pub record IsWithin (g : Ground) (rows : List (Row State ℕ)) (s : State) (i : Interval) : Type 0 where
  pub lower : i.lower ≤ low same_state rows s
  pub upper : high (ground_process g) same_state rows s ≤ i.upper

abbrev pub IsKept : Ground → List (Row State ℕ) → Reply → Type 0
IsKept g rows NoQuery = Unit {0}
IsKept g rows NoAtom = Unit {0}
IsKept g rows (Unvisited s) = Unit {0}
IsKept g rows (Found s id i) = IsWithin g rows s i

pub record IsServed (g : Ground) (swept : ℕ) (rows : List (Row State ℕ)) (old new : Streams) (served : Served) : Type 0 where
  pub replies : List Reply
  pub has : HasServed g swept old new served replies
  pub kept : AllByRecursion (IsKept g rows) replies

-- ---- refusals

abbrev pub IsUnserved : {I O : Type 0} → I → I → O → O → Type 0
IsUnserved from to before after = (to ≡ from) × (after ≡ before)

pub record WasServed (g : Ground) (swept : ℕ) (old new : Streams) : Type 0 where
  pub served : Served
  pub replies : List Reply
  pub has : HasServed g swept old new served replies
