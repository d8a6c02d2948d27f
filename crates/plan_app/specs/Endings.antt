-- How a run ends: with what status, what it puts, and what it leaves. It is said here once, over all commands: of a command `Lacks`
-- has a line, and so have `Answers`, `ServiceFor`, `Faults`, `Leaves` and `CallsFor`.
--     said_by converged text      what is said of a search: its report, and whether the interval is as narrow as was asked for
--     IsMeasured places seed g e  the report of the search that measures the program
--     Exchange                    what was taken from the input, and the text of the answers that a server put
--     IsSilent x                  no server was started: nothing was taken, and nothing answered
--     Answered g swept x served replies
--                                 a server put the lines of these replies, and no other, by what it took; each is sound, and a later one
--                                 of a state is no wider
--     AnswersJudged held name text r e
--                                 behind texts that give this, the certificate under a name is judged, and this text of it is said
--     Lacks held q                a name is missing where a request asks for it: a certificate behind texts with a ground problem alone,
--                                 the second of two behind a first one that is accepted
--     IsWritten .. name Is e      a certificate of which this holds is held under the name, and its report is said
--     IsUnwritten .. e            the count of failed writes rose
--     AnswersWritten .. name Is Above e
--                                 either of these, or that the certificate is above this limit
--     AnswersSearch .. s g Is e   the same of one that a search found
--     AnswersPair .. m g r e      the same of the one that two certificates are merged to, or what stops the run at them
--     AnswersGraph .. d g r e     the same of the text of the graph of a certificate's policy, or what stops the run at the certificate
--     Answers .. q e              the ending of a request, but for a server, by what the texts say and the certificate behind them
--     MayEndRequest .. q e        the same, or want of memory, or a failed read
--     EndsBehind .. s g replies stop e
--                                 the ending behind a server, by the fault that stopped it, if one did
--     HasService .. x s e         a server was started behind texts with a ground problem, and this is the ending behind it
--     ServiceFor .. x q e         the same of a request
--     MayEndWords .. x asked e    words with this request, if any, may end so
--     MayEndAs .. words .. status text
--                                 a run with these words may end with this status, and put this text: answers, and the ending's
--     Faults .. q                 a count of faults rose that such a request may raise
--     IsHeld, IsMergeHeld, IsDrawHeld .. x
--                                 the text of a certificate that was found, or merged, or that of a graph, is held under the name that the
--                                 request gives
--     OnlyWrites .. name Is       under the name all is as it was, or this is so of it, or a write failed; no other name changes
--     Leaves .. q, LeavesForWords .. asked
--                                 what is held afterwards, and which counts of faults rose
--     CallsFor .. q, CallsForWords .. asked
--                                 how often the shelf is asked
-- Sources: for certificates, sub- and super-solutions of the Bellman equation (decision_process); for ground problems, grounding; for
-- searches, BRTDP (McMahan, Likhachev and Gordon 2005).
use Rattle.std.specs.Prelude.{◌≡◌, ◌≢◌, ◌+◌, ◌≤◌, ◌⊎◌, ℕ, Bool, if◌then◌else◌, List, [], ◌++◌, Option, Some, None, Result, Ok, Err}
use Rattle.std.specs.Borrow.{Bor}
use Rattle.std.specs.List.{AllByRecursion}
use Rattle.shelf_io.specs.Causes.{Rose, RisesByOneAtMost}
use Rattle.shelf_io.specs.Shelf.{Told, Missing, written}
use Rattle.certificate.specs.Content.{Content}
use Rattle.ground_model.specs.Ground.{Ground}
use Rattle.policy_server.specs.declared.served.Served.{Served}
use Rattle.policy_server.specs.Replies.{Reply, FollowEach}
use Rattle.policy_server.specs.Serving.{Input, HasAnswered}
use Rattle.plan_search.specs.service.Served.{IsSound}
use Rattle.plan_request.specs.Asked.{Sources, Solving, Merging, Drawing, Asked, to_solve, to_check, to_serve, to_ground, to_bench, to_merge, to_walk, to_draw}
use Rattle.plan_report.specs.Reports.{accepted_text, ground_text}
use Rattle.plan_search.specs.declared.answer.Answer.{Answer}
use Rattle.plan_search.specs.declared.measured.Measured.{Measured}
use Rattle.plan_search.specs.Answers.{IsAnswerOf, IsMeasuredOf, IsTooLong}
use Rattle.plan_search.specs.Under.{IsAnswerWith}
use Rattle.plan_search.specs.Serving.{stop_of, IsServiceOf}
use Rattle.plan_request.specs.declared.stop.report.Report.{Report}
use Rattle.plan_request.specs.declared.stop.report.Report.TheVariants.{Done, GapLeft}
use Rattle.plan_request.specs.declared.stop.Stop.{Stop}
use Rattle.plan_request.specs.declared.stop.Stop.TheVariants.{BadWords, WriteFailed, NoMemory}
use Rattle.plan_request.specs.stop.Stop.{Ending, ending_status, ending_text}
use Rattle.plan_sources.specs.Endings.{MayEnd, IsFault, OnlyRead}
use Rattle.plan_sources.specs.Problems.{text_count}
use Rattle.plan_sources.specs.Sources.{LacksText, MayGiveProblem}
use Rattle.plan_app.specs.declared.pair.Pair.{Pair}
use Rattle.plan_app.specs.Asking.{asked_by}
use Rattle.plan_app.specs.Judging.{IsJudged, said_of}
use Rattle.plan_app.specs.Merging.{IsPair, LacksOne, IsAboveLimit, IsMergeAnswer}
use Rattle.plan_app.specs.Walking.{walked_text}
use Rattle.plan_app.specs.Drawing.{IsDrawAnswer}
use Rattle.plan_app.specs.Measuring.{line_problem, bench_effort, bench_sizes, bench_line}

-- ---- what is said of a search

abbrev pub said_by : Bool → List ℕ → Report
said_by converged text = if converged then Done text else GapLeft text

module _ (places seed : ℕ) where
  pub record IsMeasured (g : Ground) (e : Ending) : Type 0 where
    pub measured : Measured
    pub is_measured : IsMeasuredOf g (bench_effort seed) bench_sizes measured
    pub says : Ok (said_by measured.converged (bench_line places seed ++ measured.report)) ≡ e

  abbrev pub AnswersLine : Result Ground Stop → Ending → Type 0
  AnswersLine (Ok g) e = IsMeasured g e
  AnswersLine (Err stop) e = Err stop ≡ e

  abbrev pub AnswersBench : Ending → Type 0
  AnswersBench e = (r : Result Ground Stop) × (line_problem places seed ≡ r) × AnswersLine r e

-- ---- what a server took and put

pub record Exchange : Type 0 where
  pub from : Input
  pub to : Input
  pub answers : List ℕ

abbrev pub exchange : Input → Input → List ℕ → Exchange
exchange from to answers = record { from = from; to = to; answers = answers }

pub record IsSilent (x : Exchange) : Type 0 where
  pub nothing_taken : x.to ≡ x.from
  pub nothing_put : x.answers ≡ []

-- as on a sink that held nothing
pub record Answered (g : Ground) (swept : ℕ) (x : Exchange) (served : Served) (replies : List Reply) : Type 0 where
  pub answered : HasAnswered g x.from x.to (Some []) (Some x.answers) served replies
  pub sound : AllByRecursion (IsSound g swept) replies
  pub in_turn : FollowEach replies

-- ---- by what a shelf holds

module _ (held : List ℕ → Told) where
  abbrev pub AnswersJudged : List ℕ → (Ground → Content → List ℕ) → Result Ground Stop → Ending → Type 0
  AnswersJudged name text (Ok g) e = (r : Result Content Stop) × IsJudged g (held name) r × (said_of (text g) r ≡ e)
  AnswersJudged name text (Err stop) e = Err stop ≡ e

  abbrev pub reported : Result Ground Stop → Ending
  reported (Ok g) = Ok (Done (ground_text g))
  reported (Err stop) = Err stop

  abbrev pub HasProblem : Sources → Type 0
  HasProblem s = (g : Ground) × MayGiveProblem held s (Ok g)

  abbrev pub LacksBehind : Sources → List ℕ → Type 0
  LacksBehind s name = LacksText held s ⊎ ((held name ≡ Missing) × HasProblem s)

  abbrev pub LacksOneOf : Merging → Type 0
  LacksOneOf m = (g : Ground) × MayGiveProblem held m.sources (Ok g) × LacksOne g (held m.first) (held m.second)

  abbrev pub Lacks : Asked → Type 0
  Lacks (to_solve s) = LacksText held s.sources
  Lacks (to_check s name) = LacksBehind s name
  Lacks (to_serve s) = LacksText held s.sources
  Lacks (to_ground s) = LacksText held s
  Lacks (to_bench places seed) = ⊥
  Lacks (to_merge m) = LacksText held m.sources ⊎ LacksOneOf m
  Lacks (to_walk w) = LacksBehind w.sources w.certificate
  Lacks (to_draw d) = LacksBehind d.sources d.certificate

-- ---- by what a shelf held before and after, and by its count of failed writes

module _ {S : Type 0} (held : S → List ℕ → Told) (writes : S → ℕ) (old new : S) where
  pub record IsWritten (name : List ℕ) (Is : Answer → Type 0) (e : Ending) : Type 0 where
    pub answer : Answer
    pub is_answer : Is answer
    pub holds : held new name ≡ written (held old name) answer.certificate
    pub says : Ok (said_by answer.converged answer.report) ≡ e

  abbrev pub IsUnwritten : Ending → Type 0
  IsUnwritten e = (Err WriteFailed ≡ e) × Rose (writes old) (writes new)

  abbrev pub AnswersWritten : List ℕ → (Answer → Type 0) → (Stop → Type 0) → Ending → Type 0
  AnswersWritten name Is Above e = IsWritten name Is e ⊎ (((stop : Stop) × Above stop × (Err stop ≡ e)) ⊎ IsUnwritten e)

  abbrev pub AnswersSearch : Solving → Ground → (Answer → Type 0) → Ending → Type 0
  AnswersSearch s g Is e = AnswersWritten s.certificate Is (IsTooLong g s.effort s.sizes) e

  abbrev pub AnswersSolve : Solving → Result Ground Stop → Ending → Type 0
  AnswersSolve s (Ok g) e = AnswersSearch s g (IsAnswerWith g s.effort s.sizes s.lower) e
  AnswersSolve s (Err stop) e = Err stop ≡ e

  abbrev pub AnswersPair : Merging → Ground → Result Pair Stop → Ending → Type 0
  AnswersPair m g (Ok p) e = AnswersWritten m.into (IsMergeAnswer g p.first p.second) (IsAboveLimit g p.first p.second) e
  AnswersPair m g (Err stop) e = Err stop ≡ e

  abbrev pub AnswersMerge : Merging → Result Ground Stop → Ending → Type 0
  AnswersMerge m (Ok g) e = (r : Result Pair Stop) × IsPair g (held old m.first) (held old m.second) r × AnswersPair m g r e
  AnswersMerge m (Err stop) e = Err stop ≡ e

  abbrev pub AnswersGraph : Drawing → Ground → Result Content Stop → Ending → Type 0
  AnswersGraph d g (Ok c) e = AnswersWritten d.into (IsDrawAnswer g c d.states) (λ stop. ⊥) e
  AnswersGraph d g (Err stop) e = Err stop ≡ e

  abbrev pub AnswersDraw : Drawing → Result Ground Stop → Ending → Type 0
  AnswersDraw d (Ok g) e = (r : Result Content Stop) × IsJudged g (held old d.certificate) r × AnswersGraph d g r e
  AnswersDraw d (Err stop) e = Err stop ≡ e

  abbrev pub Answers : Asked → Ending → Type 0
  Answers (to_solve s) e = (r : Result Ground Stop) × MayGiveProblem (held old) s.sources r × AnswersSolve s r e
  Answers (to_check s name) e =
      (r : Result Ground Stop) × MayGiveProblem (held old) s r × AnswersJudged (held old) name (λ _. accepted_text) r e
  Answers (to_serve s) e = (stop : Stop) × MayGiveProblem (held old) s.sources (Err stop) × (Err stop ≡ e)
  Answers (to_ground s) e = (r : Result Ground Stop) × MayGiveProblem (held old) s r × (reported (held old) r ≡ e)
  Answers (to_bench places seed) e = AnswersBench places seed e
  Answers (to_merge m) e = (r : Result Ground Stop) × MayGiveProblem (held old) m.sources r × AnswersMerge m r e
  Answers (to_walk w) e =
      (r : Result Ground Stop) × MayGiveProblem (held old) w.sources r × AnswersJudged (held old) w.certificate (walked_text w) r e
  Answers (to_draw d) e = (r : Result Ground Stop) × MayGiveProblem (held old) d.sources r × AnswersDraw d r e

  -- behind a server
  abbrev pub EndsBehind : Solving → Ground → List Reply → Option Stop → Ending → Type 0
  EndsBehind s g replies None e = AnswersSearch s g (IsServiceOf g s.effort s.sizes replies) e
  EndsBehind s g replies (Some stop) e = Err stop ≡ e

-- ---- by its counts of failed reads and writes too

module _ {S : Type 0} (held : S → List ℕ → Told) (reads writes : S → ℕ) (old new : S) where
  abbrev pub MayEndRequest : Asked → Ending → Type 0
  MayEndRequest q e = MayEnd (IsFault reads old new (Lacks (held old) q)) (Answers held writes old new q) e

  -- the name holds the text of a certificate that was found
  pub record IsHeld (s : Solving) : Type 0 where
    pub g : Ground
    pub problem : MayGiveProblem (held old) s.sources (Ok g)
    pub answer : Answer
    pub is_answer : IsAnswerOf g s.effort s.sizes answer
    pub holds : held new s.certificate ≡ written (held old s.certificate) answer.certificate

  -- the name holds the text of the certificate that two are merged to
  pub record IsMergeHeld (m : Merging) : Type 0 where
    pub g : Ground
    pub problem : MayGiveProblem (held old) m.sources (Ok g)
    pub pair : Pair
    pub is_pair : IsPair g (held old m.first) (held old m.second) (Ok pair)
    pub answer : Answer
    pub is_answer : IsMergeAnswer g pair.first pair.second answer
    pub holds : held new m.into ≡ written (held old m.into) answer.certificate

  -- the name holds the text of the graph of a certificate's policy
  pub record IsDrawHeld (d : Drawing) : Type 0 where
    pub g : Ground
    pub problem : MayGiveProblem (held old) d.sources (Ok g)
    pub c : Content
    pub is_judged : IsJudged g (held old d.certificate) (Ok c)
    pub answer : Answer
    pub is_answer : IsDrawAnswer g c d.states answer
    pub holds : held new d.into ≡ written (held old d.into) answer.certificate

  -- under the name all is as it was, or such a text is held, or a write failed
  pub record OnlyWrites (name : List ℕ) (Is : Type 0) : Type 0 where
    pub certificate : (held new name ≡ held old name) ⊎ (Is ⊎ Rose (writes old) (writes new))
    pub others : (other : List ℕ) → other ≢ name → held new other ≡ held old other
    pub later : reads old ≤ reads new
    pub writes_once : RisesByOneAtMost (writes old) (writes new)

  abbrev pub Leaves : Asked → Type 0
  Leaves (to_solve s) = OnlyWrites s.certificate (IsHeld s)
  Leaves (to_check s name) = OnlyRead held reads writes old new
  Leaves (to_serve s) = OnlyWrites s.certificate (IsHeld s)
  Leaves (to_ground s) = OnlyRead held reads writes old new
  Leaves (to_bench places seed) = new ≡ old
  Leaves (to_merge m) = OnlyWrites m.into (IsMergeHeld m)
  Leaves (to_walk w) = OnlyRead held reads writes old new
  Leaves (to_draw d) = OnlyWrites d.into (IsDrawHeld d)

  abbrev pub LeavesForWords : Option Asked → Type 0
  LeavesForWords None = OnlyRead held reads writes old new
  LeavesForWords (Some q) = Leaves q

-- ---- by the input and the answers too

module _ {S : Type 0} (held : S → List ℕ → Told) (reads writes : S → ℕ) (old new : S) (x : Exchange) where
  pub record HasService (s : Solving) (e : Ending) : Type 0 where
    pub g : Ground
    pub problem : MayGiveProblem (held old) s.sources (Ok g)
    pub served : Served
    pub replies : List Reply
    pub answered : Answered g s.sizes.sweep_states x served replies
    pub ends : (e ≡ Err NoMemory) ⊎ EndsBehind held writes old new s g replies (stop_of served.end) e

  abbrev pub ServiceFor : Asked → Ending → Type 0
  ServiceFor (to_solve s) e = ⊥
  ServiceFor (to_check s name) e = ⊥
  ServiceFor (to_serve s) e = HasService s e
  ServiceFor (to_ground s) e = ⊥
  ServiceFor (to_bench places seed) e = ⊥
  ServiceFor (to_merge m) e = ⊥
  ServiceFor (to_walk w) e = ⊥
  ServiceFor (to_draw d) e = ⊥

  abbrev pub MayEndWords : Option Asked → Ending → Type 0
  MayEndWords None e = IsSilent x × ((e ≡ Err BadWords) ⊎ (e ≡ Err NoMemory))
  MayEndWords (Some q) e = (IsSilent x × MayEndRequest held reads writes old new q e) ⊎ ServiceFor q e

pub record MayEndAs {S : Type 0} (held : S → List ℕ → Told) (reads writes : S → ℕ) (words : List (Bor (List ℕ))) (old new : S)
    (from to : Input) (status : ℕ) (text : List ℕ) : Type 0 where
  pub answers : List ℕ
  pub ending : Ending
  pub may_end : MayEndWords held reads writes old new (exchange from to answers) (asked_by words) ending
  pub status_is : status ≡ ending_status ending
  pub text_is : text ≡ answers ++ ending_text ending

-- ---- by counts of faults, of the shelf and of the source

module _ {S I : Type 0} (reads writes : S → ℕ) (takes : I → ℕ) (old new : S) (from to : I) where
  abbrev pub Faults : Asked → Type 0
  Faults (to_solve s) = Rose (reads old) (reads new) ⊎ Rose (writes old) (writes new)
  Faults (to_check s name) = Rose (reads old) (reads new)
  Faults (to_serve s) = Rose (reads old) (reads new) ⊎ (Rose (writes old) (writes new) ⊎ Rose (takes from) (takes to))
  Faults (to_ground s) = Rose (reads old) (reads new)
  Faults (to_bench places seed) = Rose (reads old) (reads new)
  Faults (to_merge m) = Rose (reads old) (reads new) ⊎ Rose (writes old) (writes new)
  Faults (to_walk w) = Rose (reads old) (reads new)
  Faults (to_draw d) = Rose (reads old) (reads new) ⊎ Rose (writes old) (writes new)

-- ---- by the shelf's count of calls

module _ {S : Type 0} (held : S → List ℕ → Told) (calls : S → ℕ) (old new : S) where
  -- once for each text, and so often more behind texts that have a problem
  pub record CallsBehind (more : ℕ) (s : Sources) : Type 0 where
    pub most : calls new ≤ calls old + (text_count s + more)
    pub texts_alone : (HasProblem (held old) s → ⊥) → calls new ≤ calls old + text_count s

  abbrev pub CallsFor : Asked → Type 0
  CallsFor (to_solve s) = CallsBehind 1 s.sources
  CallsFor (to_check s name) = CallsBehind 1 s
  CallsFor (to_serve s) = CallsBehind 1 s.sources
  CallsFor (to_ground s) = calls new ≤ calls old + text_count s
  CallsFor (to_bench places seed) = calls new ≡ calls old
  CallsFor (to_merge m) = CallsBehind 3 m.sources
  CallsFor (to_walk w) = CallsBehind 1 w.sources
  CallsFor (to_draw d) = CallsBehind 2 d.sources

  abbrev pub CallsForWords : Option Asked → Type 0
  CallsForWords None = calls new ≡ calls old
  CallsForWords (Some q) = CallsFor q
