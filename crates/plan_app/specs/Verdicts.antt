-- What the status of a run says of the words and the bytes, where a shelf tells what it holds.
--     TellsTexts words held s t     the words ask for something over the texts t, which the shelf tells
--     TellsGround words held s t    they ask for their ground problem
--     TellsCheck words held s t f   they ask for the check of the bytes f, which it tells too
--     TellsWalk words held w t f    they ask for walks under the certificate of the bytes f, which it tells too
--     TellsDraw words held d t f    they ask for the graph of the policy of the certificate of the bytes f, which it tells too; and
--                                   something is told of the name under which its text goes
--     TellsJudged words held s t f  one of these three: a check, walks or a graph
--     TellsSearch words held command s t
--                                   they ask by this command to solve it, and something is told of the name of the certificate
--     HasVerdict status             the status speaks of the words or of bytes, and not of a fault or of memory
--     HasReport status              a search ended, and its report was put
--     answers_to q, IsAnswerTo q status
--                                   the statuses of a request that meets no fault; 5 is want of memory
--     IsRefused, IsLimited, IsGrounded s t
--                                   the texts are outside the language; a quantity is above its limit; they have a ground problem
--     IsTooLongFor q g              a certificate that such a request may find for the problem, or merge, is above a limit
--     MayBeTooLong words s t        they ask for something over these texts, and so may it be
--     IsDecoded f c                 f is the text of the certificate c, of at most its version's greatest length
--     IsAccepted, IsRejected s t f  f is, or is not, the text of a certificate that is balanced for the ground problem of the texts
--     PutsRefusal s t old new       the line of the refusal was put: the texts spell no task, and this is their first fault, or an action
--                                   of the task that they spell may cost nothing, or it has no penalty
--     PutsProblem s t old new       the report of the ground problem was put, which stands for the task of the texts
--     PolicyEnds task charges c     from each state, n times the least cost of a step times the chance that the acts of the certificate
--                                   go on after n steps is at most the upper value of the state
--     PutsReport s t f old new      such a certificate was accepted, and its report put: for the task of the texts it encloses the cost,
--                                   and its policy ends
--     EndsSoon s t f                the policy of the certificate of these bytes ends, at the task that the texts spell
use Rattle.std.specs.Prelude.{◌≡◌, ◌≢◌, ◌⊎◌, ℕ, ◌*◌, ◌^◌, ◌≤◌, List, [], ◌∷◌, length, Option, Some, None, Ok, Err, Contains}
use Rattle.std.specs.Borrow.{Bor}
use Rattle.std.specs.Io.KnownBytes.{Appends}
use Rattle.shelf_io.specs.Shelf.{Told, Untold, Holds}
use Rattle.certificate.specs.Content.{Content, IsTextOf, most_bytes}
use Rattle.certificate_check.specs.Claims.{IsBalancedFor}
use Rattle.decision_process.specs.Enclosing.{Encloses}
use Rattle.decision_process.specs.Policies.{still}
use Rattle.decision_process.specs.Readings.{high, act, IsBalancedCertificate}
use Rattle.ppddl_model.specs.declared.refusal.TextCode.{TextCode}
use Rattle.ppddl_model.specs.State.{State, same_state}
use Rattle.ppddl_model.specs.declared.tree.Task.{Task}
use Rattle.ppddl_model.specs.Steps.{Charges, process, starts, start_den, step_den, least_step_cost}
use Rattle.ground_model.specs.Ground.{Ground}
use Rattle.plan_app.specs.certificates.Named.{names_certificate}
use Rattle.plan_request.specs.Asked.{Sources, Solving, Walking, Drawing, Asked, to_solve, to_check, to_serve, to_ground, to_bench, to_merge, to_walk, to_draw}
use Rattle.plan_report.specs.Reports.{accepted_text, ground_text}
use Rattle.plan_search.specs.Answers.{IsTooLong}
use Rattle.plan_request.specs.declared.stop.status.TheConstants.{DONE, GAP_LEFT, READ_FAILED, WRITE_FAILED, NO_MEMORY, REFUSED, NOT_ACCEPTED, LIMIT}
use Rattle.plan_request.specs.declared.stop.Stop.{Stop}
use Rattle.plan_request.specs.declared.stop.Stop.TheVariants.{Refused, Limit}
use Rattle.plan_sources.specs.declared.texts.Texts.{Texts}
use Rattle.plan_sources.specs.Problems.{problem_of}
use Rattle.plan_request.specs.stop.Stop.{line_of}
use Rattle.plan_sources.specs.Laws.{HoldsTexts, SpellsNone, IsNotCharged, StandsForTexts}
use Rattle.plan_app.specs.Asking.{Asks}
use Rattle.plan_app.specs.Merging.{IsAboveLimit}

-- ---- what is asked and told

abbrev pub sources_of : Asked → Option Sources
sources_of (to_solve s) = Some s.sources
sources_of (to_check s name) = Some s
sources_of (to_serve s) = Some s.sources
sources_of (to_ground s) = Some s
sources_of (to_bench places seed) = None
sources_of (to_merge m) = Some m.sources
sources_of (to_walk w) = Some w.sources
sources_of (to_draw d) = Some d.sources

module _ (words : List (Bor (List ℕ))) (held : List ℕ → Told) (s : Sources) (t : Texts) where
  pub record TellsTexts : Type 0 where
    pub request : Asked
    pub asks : Asks words request
    pub sources : sources_of request ≡ Some s
    pub texts : HoldsTexts held s t

  pub record TellsGround : Type 0 where
    pub asks : Asks words (to_ground s)
    pub texts : HoldsTexts held s t

  pub record TellsCheck (f : List ℕ) : Type 0 where
    pub name : List ℕ
    pub asks : Asks words (to_check s name)
    pub texts : HoldsTexts held s t
    pub certificate : held name ≡ Holds f

module _ (words : List (Bor (List ℕ))) (held : List ℕ → Told) where
  pub record TellsWalk (w : Walking) (t : Texts) (f : List ℕ) : Type 0 where
    pub asks : Asks words (to_walk w)
    pub texts : HoldsTexts held w.sources t
    pub certificate : held w.certificate ≡ Holds f

  pub record TellsDraw (d : Drawing) (t : Texts) (f : List ℕ) : Type 0 where
    pub asks : Asks words (to_draw d)
    pub texts : HoldsTexts held d.sources t
    pub certificate : held d.certificate ≡ Holds f
    pub into : held d.into ≢ Untold

  abbrev pub TellsJudged : Sources → Texts → List ℕ → Type 0
  TellsJudged s t f = TellsCheck words held s t f
      ⊎ (((w : Walking) × (w.sources ≡ s) × TellsWalk w t f) ⊎ ((d : Drawing) × (d.sources ≡ s) × TellsDraw d t f))

module _ (words : List (Bor (List ℕ))) (held : List ℕ → Told) (command : Solving → Asked) (s : Solving) (t : Texts) where
  pub record TellsSearch : Type 0 where
    pub asks : Asks words (command s)
    pub texts : HoldsTexts held s.sources t
    pub certificate : held s.certificate ≢ Untold

-- ---- statuses

pub record HasVerdict (status : ℕ) : Type 0 where
  pub no_read_fault : status ≢ READ_FAILED
  pub no_write_fault : status ≢ WRITE_FAILED
  pub enough_memory : status ≢ NO_MEMORY

abbrev pub HasReport : ℕ → Type 0
HasReport status = (status ≡ DONE) ⊎ (status ≡ GAP_LEFT)

abbrev pub answers_to : Asked → List ℕ
answers_to (to_solve s) = DONE ∷ GAP_LEFT ∷ NO_MEMORY ∷ REFUSED ∷ LIMIT ∷ []
answers_to (to_check s name) = DONE ∷ NO_MEMORY ∷ REFUSED ∷ NOT_ACCEPTED ∷ LIMIT ∷ []
answers_to (to_serve s) = DONE ∷ GAP_LEFT ∷ NO_MEMORY ∷ REFUSED ∷ LIMIT ∷ []
answers_to (to_ground s) = DONE ∷ NO_MEMORY ∷ REFUSED ∷ LIMIT ∷ []
answers_to (to_bench places seed) = DONE ∷ GAP_LEFT ∷ NO_MEMORY ∷ []
answers_to (to_merge m) = DONE ∷ NO_MEMORY ∷ REFUSED ∷ NOT_ACCEPTED ∷ LIMIT ∷ []
answers_to (to_walk w) = DONE ∷ NO_MEMORY ∷ REFUSED ∷ NOT_ACCEPTED ∷ LIMIT ∷ []
answers_to (to_draw d) = DONE ∷ NO_MEMORY ∷ REFUSED ∷ NOT_ACCEPTED ∷ LIMIT ∷ []

abbrev pub IsAnswerTo : Asked → ℕ → Type 0
IsAnswerTo q status = Contains (answers_to q) status

-- ---- texts

module _ (s : Sources) (t : Texts) where
  abbrev pub IsRefused : Type 0
  IsRefused = (code : TextCode) × (file : ℕ) × (line : ℕ) × (problem_of s t ≡ Err (Refused code file line))

  abbrev pub IsLimited : Type 0
  IsLimited = (code : ℕ) × (most : ℕ) × (problem_of s t ≡ Err (Limit code most))

  abbrev pub IsGrounded : Type 0
  IsGrounded = (g : Ground) × (problem_of s t ≡ Ok g)

  pub record PutsRefusal (old new : Option (List ℕ)) : Type 0 where
    pub code : TextCode
    pub file : ℕ
    pub line : ℕ
    pub refused : problem_of s t ≡ Err (Refused code file line)
    pub why : SpellsNone t (Refused code file line) ⊎ IsNotCharged s t (Refused code file line)
    pub put : Appends old new (line_of (Refused code file line))

  pub record PutsProblem (old new : Option (List ℕ)) : Type 0 where
    pub g : Ground
    pub problem : problem_of s t ≡ Ok g
    pub of_task : StandsForTexts s t g
    pub put : Appends old new (ground_text g)

abbrev pub IsTooLongFor : Asked → Ground → Type 0
IsTooLongFor (to_solve s) g = (stop : Stop) × IsTooLong g s.effort s.sizes stop
IsTooLongFor (to_check s name) g = ⊥
IsTooLongFor (to_serve s) g = (stop : Stop) × IsTooLong g s.effort s.sizes stop
IsTooLongFor (to_ground s) g = ⊥
IsTooLongFor (to_bench places seed) g = ⊥
IsTooLongFor (to_merge m) g = (c : Content) × (d : Content) × IsBalancedFor g c × IsBalancedFor g d × ((stop : Stop) × IsAboveLimit g c d stop)
IsTooLongFor (to_walk w) g = ⊥
IsTooLongFor (to_draw d) g = ⊥

pub record MayBeTooLong (words : List (Bor (List ℕ))) (s : Sources) (t : Texts) : Type 0 where
  pub request : Asked
  pub asks : Asks words request
  pub sources : sources_of request ≡ Some s
  pub g : Ground
  pub problem : problem_of s t ≡ Ok g
  pub too_long : IsTooLongFor request g

-- ---- certificates

-- the end is a goal or giving up
abbrev pub PolicyEnds : Task → Charges → Content → Type 0
PolicyEnds task charges c = (n : ℕ) (x : State)
    → n * least_step_cost task charges * still (process task charges) (act same_state (names_certificate task c).rows) n x
    ≤ high (process task charges) same_state (names_certificate task c).rows x * step_den task ^ n

pub record IsDecoded (f : List ℕ) (c : Content) : Type 0 where
  pub text : IsTextOf f c
  pub within : length f ≤ most_bytes c.version

module _ (s : Sources) (t : Texts) (f : List ℕ) where
  abbrev pub IsAccepted : Type 0
  IsAccepted = (g : Ground) × (c : Content) × (problem_of s t ≡ Ok g) × IsDecoded f c × IsBalancedFor g c

  abbrev pub IsRejected : Type 0
  IsRejected = (g : Ground) × (problem_of s t ≡ Ok g) × ((c : Content) → IsDecoded f c → IsBalancedFor g c → ⊥)

  pub record PutsReport (old new : Option (List ℕ)) : Type 0 where
    pub g : Ground
    pub c : Content
    pub problem : problem_of s t ≡ Ok g
    pub decoded : IsDecoded f c
    pub balanced_for : IsBalancedFor g c
    pub put : Appends old new (accepted_text c)
    -- of the task
    pub of_task : StandsForTexts s t g
    pub balanced : IsBalancedCertificate (process of_task.task of_task.charges) same_state
        (starts of_task.task) (start_den of_task.task) (names_certificate of_task.task c)
    pub encloses : Encloses (process of_task.task of_task.charges) (starts of_task.task) (start_den of_task.task)
        c.lower c.upper (act same_state (names_certificate of_task.task c).rows)
    pub ends : PolicyEnds of_task.task of_task.charges c

  pub record EndsSoon : Type 0 where
    pub g : Ground
    pub c : Content
    pub decoded : IsDecoded f c
    pub of_task : StandsForTexts s t g
    pub ends : PolicyEnds of_task.task of_task.charges c
