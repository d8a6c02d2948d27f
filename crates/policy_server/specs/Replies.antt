-- Replies to queries.
--     Reply                      that a line is no query, or names an atom that the problem has not; that a state was not found; the
--                                interval that was found of a state, under its id
--     act_text g code            the act of a code, as reports print it
--     text_of g r                the line of a reply
--     texts g rs                 the lines of replies
--     Fits q r                   a reply of the kind that the query wants
--     FitEach g lines rs         one reply for each line, in order
--     loads_of rs                the loads of numbers that replies tell of, the last first
--     IsUnvisited v s w          since v a bucket of the run of s was found empty behind buckets of other states, and v had no id with s
--     IsFound g v s id i w       the interval, found since v under the id, which w has with s: no wider than what v had seen of s, and no
--                                narrower than what w has; it covers the least cost, and its act, a code of 16 bits, is worth its upper
--                                value
--     IsTold g v w r             what a reply tells
--     Follows r r'               a later reply of one state is no wider, and never that the state was not found
--     Serves b k l rs            what a pass has noted since k are these replies and looks
use Rattle.std.specs.Prelude.{◌≡◌, ◌≢◌, ℕ, ◌<◌, ◌≤◌, cond, nat_eq, List, [], ◌∷◌, ◌++◌, codes, Some, None, IsTrue}
use Rattle.std.specs.List.{slice_get, AllByRecursion}
use Rattle.decision_process.specs.Least.{Covers}
use Rattle.ground_model.specs.Packed.{State}
use Rattle.ground_model.specs.Ground.{Ground}
use Rattle.ground_model.specs.Steps.{ground_process}
use Rattle.bound_core.specs.declared.codes.TheConstants.{AT_GOAL, GIVE_UP}
use Rattle.word_table.specs.declared.view.notes.Load.{Load}
use Rattle.word_table.specs.declared.view.notes.Load.TheVariants.{Lower, Upper}
use Rattle.word_table.specs.declared.view.notes.Look.TheVariants.{Empty}
use Rattle.word_table.specs.declared.view.View.{View}
use Rattle.word_table.specs.view.Views.{has_state, seen_lower, seen_upper, IsClear}
use Rattle.word_table.specs.view.Laws.{HasMore}
use Rattle.word_table.specs.rule.Told.{IsWorth}
use Rattle.word_table.specs.Seen.{Board, Knowledge, IsOf}
use Rattle.bound_words.specs.declared.bounds.Interval.{Interval}
use Rattle.bound_words.specs.Intervals.{word_in}
use Rattle.state_interner.specs.Interned.{AddsLooks, HasLooked, IsIdOf}
use Rattle.plan_report.specs.Units.{units}
use Rattle.policy_server.specs.Queries.{Query, query_of}
use Rattle.policy_server.specs.Queries as query

pub data Reply : Type 0 where
  NoQuery : Reply
  NoAtom : Reply
  Unvisited : State → Reply
  Found : State → ℕ → Interval → Reply

-- ---- texts

abbrev pub name_text : Ground → ℕ → List ℕ
name_text g code = elim (slice_get g.actions code) [ None ↦ [] | Some a ↦ a.name ]

abbrev pub act_text : Ground → ℕ → List ℕ
act_text g code =
    cond (nat_eq code GIVE_UP) (codes "give-up")
    (cond (nat_eq code AT_GOAL) (codes "goal") (name_text g code))

abbrev pub interval_text : Ground → Interval → List ℕ
interval_text g i =
    codes "interval " ++ units i.lower ++ codes " " ++ units i.upper ++ codes " " ++ act_text g i.code
    ++ codes "\n"

abbrev pub text_of : Ground → Reply → List ℕ
text_of g NoQuery = codes "error syntax\n"
text_of g NoAtom = codes "error atom\n"
text_of g (Unvisited s) = codes "unvisited\n"
text_of g (Found s id i) = interval_text g i

abbrev pub texts : Ground → List Reply → List ℕ
texts g [] = []
texts g (r ∷ rs) = text_of g r ++ texts g rs

-- ---- which reply

abbrev pub Fits : Query → Reply → Type 0
Fits query.NoQuery NoQuery = Unit {0}
Fits query.NoAtom NoAtom = Unit {0}
Fits (query.Asks s) (Unvisited t) = t ≡ s
Fits (query.Asks s) (Found t id i) = t ≡ s
Fits q r = ⊥

abbrev pub FitEach : Ground → List (List ℕ) → List Reply → Type 0
FitEach g [] [] = Unit {0}
FitEach g (line ∷ lines) (r ∷ rs) = Fits (query_of g line) r × FitEach g lines rs
FitEach g [] (r ∷ rs) = ⊥
FitEach g (line ∷ lines) [] = ⊥

-- ---- what a reply tells

abbrev pub loads_in : Reply → List Load
loads_in NoQuery = []
loads_in NoAtom = []
loads_in (Unvisited s) = []
loads_in (Found s id i) = Upper id (word_in i) ∷ Lower id i.lower ∷ []

abbrev pub loads_of : List Reply → List Load
loads_of [] = []
loads_of (r ∷ rs) = loads_of rs ++ loads_in r

pub record IsUnvisited (v : View) (s : State) (w : View) : Type 0 where
  pub bucket : ℕ
  pub empty : HasLooked v w (Empty bucket)
  pub clear : IsClear w s bucket
  pub none : (id : ℕ) → IsTrue (has_state v id s) → ⊥

pub record IsFound (g : Ground) (v : View) (s : State) (id : ℕ) (i : Interval) (w : View) : Type 0 where
  pub is_id : IsIdOf w s id
  pub is_code : i.code < 65536
  pub lower_since : seen_lower v s ≤ i.lower
  pub upper_since : word_in i ≤ seen_upper v s
  pub lower_until : i.lower ≤ seen_lower w s
  pub upper_until : seen_upper w s ≤ word_in i
  pub ordered : i.lower ≤ i.upper
  pub within_quit : i.upper ≤ g.penalty
  pub covers : Covers (ground_process g) i.lower i.upper s
  pub worth : IsWorth g s (word_in i)

abbrev pub IsTold : Ground → View → View → Reply → Type 0
IsTold g v w NoQuery = Unit {0}
IsTold g v w NoAtom = Unit {0}
IsTold g v w (Unvisited s) = IsUnvisited v s w
IsTold g v w (Found s id i) = IsFound g v s id i w

abbrev pub Follows : Reply → Reply → Type 0
Follows (Found s id i) (Found t k j) = s ≡ t → (i.lower ≤ j.lower) × (word_in j ≤ word_in i)
Follows (Found s id i) (Unvisited t) = s ≢ t
Follows r r' = Unit {0}

abbrev pub FollowEach : List Reply → Type 0
FollowEach [] = Unit {0}
FollowEach (r ∷ rs) = AllByRecursion (Follows r) rs × FollowEach rs

pub record Serves (b : Board) (old new : Knowledge) (rs : List Reply) : Type 0 where
  pub here : IsOf b new
  pub noted : HasMore old.view new.view
  pub rights : new.view.rights ≡ old.view.rights
  pub spare : new.view.spare ≡ old.view.spare
  pub loads : new.view.loads ≡ loads_of rs ++ old.view.loads
  pub looks : AddsLooks old.view new.view
  pub told : AllByRecursion (IsTold b.problem old.view new.view) rs
  pub in_turn : FollowEach rs
