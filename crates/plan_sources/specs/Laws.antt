-- What a ground problem of texts is, and what stops a run in its place, as statements.
--     HoldsSecond, HoldsTexts held s t
--                          a shelf tells that these are the texts of a request
--     OneProblemIsTold     then they give one answer
--     IsOfTexts stop       a refusal of texts, or a limit
--     TextsStopSo          texts stop a run so, and not otherwise
--     SpellsNone t stop    the texts spell no task, and the run stops at their first fault
--     IsNotCharged s t stop
--                          they spell a task, and the run stops since an action of it may cost nothing, or since it has no penalty
--     TextsAreRefusedSo    a refusal of texts is one of these
--     StandsForTexts s t g, ProblemStands
--                          a problem that texts give is the ground problem of the task that they spell, which is well-formed, and stands
--                          for it; its atoms and its actions are spelled as certificates spell them
use Rattle.std.specs.Prelude.{◌≡◌, ◌⊎◌, ℕ, List, Option, Some, None, Result, Ok, Err}
use Rattle.certificate.specs.Names.{is_lower_name}
use Rattle.shelf_io.specs.Shelf.{Told, Holds}
use Rattle.ppddl_model.specs.declared.tree.Task.{Task}
use Rattle.ppddl_model.specs.Steps.{Charges, charges_of}
use Rattle.ppddl_model.specs.WellFormed.{IsWellFormed}
use Rattle.ground_model.specs.Ground.{Ground}
use Rattle.ground_meaning.specs.stands.Stands.{IsGroundOf}
use Rattle.ground_meaning.specs.refusals.Problem.{ground_problem}
use Rattle.ground_meaning.specs.refusals.Laws.{AreListsOf}
use Rattle.ground_meaning.specs.refusals.Limits.{grounded}
use Rattle.ground_meaning.specs.declared.refusals.refusal.GroundRefusal.{GroundRefusal}
use Rattle.ppddl_model.specs.declared.refusal.TextCode.{TextCode}
use Rattle.ppddl_cursor.specs.Reading.{Fault}
use Rattle.ppddl_reader.specs.tasks.Texts.{task_of}
use Rattle.ppddl_grammar.specs.texts.Texts.{Reads}
use Rattle.plan_request.specs.Asked.{Sources}
use Rattle.plan_request.specs.Laws.{AreTerms}
use Rattle.plan_request.specs.declared.stop.Stop.{Stop}
use Rattle.plan_request.specs.declared.stop.Stop.TheVariants.{BadWords, ReadFailed, WriteFailed, NoMemory, Refused, NotAccepted, SecondNotAccepted, Limit}
use Rattle.plan_sources.specs.declared.texts.Texts.{Texts}
use Rattle.plan_sources.specs.Problems.{stop_of_fault, stop_of_grounding, terms_of, problem_of}
use Rattle.plan_sources.specs.Sources.{MayGiveProblem}

-- ---- what is told

abbrev pub HoldsSecond : (List ℕ → Told) → Option (List ℕ) → Option (List ℕ) → Type 0
HoldsSecond held None second = second ≡ None
HoldsSecond held (Some name) second = (text : List ℕ) × (held name ≡ Holds text) × (second ≡ Some text)

pub record HoldsTexts (held : List ℕ → Told) (s : Sources) (t : Texts) : Type 0 where
  pub first : held s.domain ≡ Holds t.first
  pub second : HoldsSecond held s.problem t.second

abbrev pub OneProblemIsTold : Type 0
OneProblemIsTold = (held : List ℕ → Told) (s : Sources) (t : Texts) → HoldsTexts held s t
    → (result : Result Ground Stop) → MayGiveProblem held s result → problem_of s t ≡ result

-- ---- what stops a run

abbrev pub IsOfTexts : Stop → Type 0
IsOfTexts (Refused code file line) = Unit {0}
IsOfTexts (Limit code most) = Unit {0}
IsOfTexts BadWords = ⊥
IsOfTexts ReadFailed = ⊥
IsOfTexts WriteFailed = ⊥
IsOfTexts NoMemory = ⊥
IsOfTexts (NotAccepted code row) = ⊥
IsOfTexts (SecondNotAccepted code row) = ⊥

abbrev pub TextsStopSo : Type 0
TextsStopSo = (s : Sources) (t : Texts) (stop : Stop) → problem_of s t ≡ Err stop → IsOfTexts stop

-- ---- why texts are refused

pub record SpellsNone (t : Texts) (stop : Stop) : Type 0 where
  pub none : (task : Task) → Reads t.first t.second task → ⊥
  pub fault : Fault
  pub first : task_of t.first t.second ≡ Err fault
  pub stops : stop ≡ stop_of_fault fault

pub record IsNotCharged (s : Sources) (t : Texts) (stop : Stop) : Type 0 where
  pub task : Task
  pub reads : Reads t.first t.second task
  pub refusal : GroundRefusal
  pub refused : grounded task (terms_of s) ≡ Err refusal
  pub stops : stop ≡ stop_of_grounding task refusal

abbrev pub TextsAreRefusedSo : Type 0
TextsAreRefusedSo = (s : Sources) (t : Texts) (code : TextCode) (file line : ℕ) → problem_of s t ≡ Err (Refused code file line)
    → SpellsNone t (Refused code file line) ⊎ IsNotCharged s t (Refused code file line)

-- ---- what a problem is

pub record StandsForTexts (s : Sources) (t : Texts) (g : Ground) : Type 0 where
  pub task : Task
  pub charges : Charges
  pub reads : Reads t.first t.second task
  pub task_is : task_of t.first t.second ≡ Ok task
  pub well_formed : IsWellFormed task
  pub charged : charges_of (terms_of s) task ≡ Some charges
  pub problem : g ≡ ground_problem task charges
  pub stands : IsGroundOf g task charges
  pub names : AreListsOf is_lower_name g

abbrev pub ProblemStands : Type 0
ProblemStands = (s : Sources) (t : Texts) (g : Ground) → AreTerms s → problem_of s t ≡ Ok g → StandsForTexts s t g
