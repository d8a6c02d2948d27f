-- The ground problem of texts, or their first refusal: a text that is too long; the first fault of the texts; an action that may cost
-- nothing; no penalty; the first limit.
--     AreShort t             each text has at most MOST_TEXT bytes
--     text_within text       the text, if it is so, or the limit
--     texts_within t         the same of all texts
--     stop_of_fault e        what stops a run at a fault of texts
--     stop_of_grounding task e
--                            what stops it where a task is not grounded; an action stands in the domain's text, a penalty is missed
--                            in the problem's
--     terms_of s             the terms of a request
--     task_in t              the task of short texts
--     ground_task s task     the ground problem of a task, on the terms of a request
--     problem_in s t         that of the task of short texts
--     problem_of s t         the same of any texts
--     one_text first         a text without a second one
--     text_count s           how many texts a request names
use Rattle.std.specs.Prelude.{ℕ, ◌+◌, ◌≤◌, nat_le, if◌then◌else◌, List, length, Option, Some, None, IfSome, Result, Ok, Err}
use Rattle.plain_list.specs.Results.{◌>>=◌}
use Rattle.ppddl_lex.specs.declared.lexer.TheConstants.{MOST_TEXT}
use Rattle.ppddl_model.specs.declared.refusal.TextCode.TheVariants.{CostNotPositive, NoPenalty}
use Rattle.ppddl_model.specs.declared.tree.Task.{Task}
use Rattle.ppddl_model.specs.Steps.{Terms}
use Rattle.ground_model.specs.Ground.{Ground}
use Rattle.ground_meaning.specs.declared.refusals.refusal.GroundRefusal.{GroundRefusal}
use Rattle.ground_meaning.specs.declared.refusals.refusal.GroundRefusal.TheVariants as grounding
use Rattle.ground_meaning.specs.refusals.Codes.{number_of, most_of}
use Rattle.ground_meaning.specs.refusals.Limits.{grounded}
use Rattle.ppddl_cursor.specs.Reading.{Fault}
use Rattle.ppddl_reader.specs.tasks.Texts.{task_of}
use Rattle.plan_request.specs.Asked.{Sources}
use Rattle.plan_request.specs.declared.stop.Stop.{Stop}
use Rattle.plan_request.specs.declared.stop.Stop.TheVariants.{NoMemory, Refused, Limit}
use Rattle.plan_sources.specs.declared.texts.Texts.{Texts}

-- ---- texts

pub record AreShort (t : Texts) : Type 0 where
  pub first : length t.first ≤ MOST_TEXT
  pub second : IfSome t.second (λ text. length text ≤ MOST_TEXT)

abbrev pub text_within : List ℕ → Result (List ℕ) Stop
text_within text = if nat_le (length text) MOST_TEXT then Ok text else Err (Limit 28 MOST_TEXT)

abbrev pub second_within : Option (List ℕ) → Result (Option (List ℕ)) Stop
second_within None = Ok None
second_within (Some text) = text_within text >>= λ short. Ok (Some short)

abbrev pub texts_within : Texts → Result Texts Stop
texts_within t = text_within t.first >>= λ _. second_within t.second >>= λ _. Ok t

-- ---- refusals, as they come

abbrev pub stop_of_fault : Fault → Stop
stop_of_fault e = Refused e.code e.place.file e.place.line

abbrev pub stop_of_grounding : Task → GroundRefusal → Stop
stop_of_grounding task (grounding.CostNotPositive line) = Refused CostNotPositive task.domain_file line
stop_of_grounding task (grounding.NoPenalty line) = Refused NoPenalty task.problem.file line
stop_of_grounding task (grounding.Limit code) = Limit (number_of code) (most_of code)
stop_of_grounding task grounding.Memory = NoMemory

abbrev pub stopped : {A E : Type 0} → (E → Stop) → Result A E → Result A Stop
stopped stop (Ok x) = Ok x
stopped stop (Err e) = Err (stop e)

-- ---- ground problems

abbrev pub terms_of : Sources → Terms
terms_of s = record { penalty = s.penalty; step_cost = s.step_cost }

unfoldable pub task_in : Texts → Result Task Stop
task_in t = stopped stop_of_fault (task_of t.first t.second)

unfoldable pub ground_task : Sources → Task → Result Ground Stop
ground_task s task = stopped (stop_of_grounding task) (grounded task (terms_of s))

unfoldable pub problem_in : Sources → Texts → Result Ground Stop
problem_in s t = task_in t >>= ground_task s

unfoldable pub problem_of : Sources → Texts → Result Ground Stop
problem_of s t = texts_within t >>= problem_in s

abbrev pub one_text : List ℕ → Texts
one_text first = record { first = first; second = None }

abbrev pub second_count : Option (List ℕ) → ℕ
second_count None = 0
second_count (Some name) = 1

abbrev pub text_count : Sources → ℕ
text_count s = 1 + second_count s.problem
