-- What is true of the line of places, as statements.
--     line_terms            the terms on which the program measures: no penalty besides the goal's reward, and a step costs nothing
--                           besides its effect
--     LineIsRead            the text of the line spells its task
--     LineTaskIsGrounded    its task has a ground problem
--     LineIsGrounded        so its text has one, for each request on these terms: it is not too long, it spells a task, and no action
--                           of the task, no penalty and no limit is in the way
use Rattle.std.specs.Prelude.{◌≡◌, ℕ, ◌≤◌, None, Ok}
use Rattle.ppddl_model.specs.Steps.{Terms}
use Rattle.ppddl_grammar.specs.texts.Texts.{Reads}
use Rattle.ground_model.specs.Ground.{Ground}
use Rattle.ground_meaning.specs.refusals.Limits.{grounded}
use Rattle.plan_report.specs.Line.{line_text}
use Rattle.plan_request.specs.Asked.{Sources}
use Rattle.plan_sources.specs.Problems.{terms_of, one_text, problem_of}
use Rattle.bench_line.specs.LineTask.{line_task}

abbrev pub line_terms : Terms
line_terms = record { penalty = None; step_cost = 0 }

abbrev pub LineIsRead : Type 0
LineIsRead = (n seed : ℕ) → 2 ≤ n → n ≤ 1000 → Reads (line_text n seed) None (line_task n seed)

abbrev pub LineTaskIsGrounded : Type 0
LineTaskIsGrounded = (n seed : ℕ) → 2 ≤ n → n ≤ 1000 → (g : Ground) × (grounded (line_task n seed) line_terms ≡ Ok g)

abbrev pub LineIsGrounded : Type 0
LineIsGrounded = (s : Sources) → terms_of s ≡ line_terms → (n seed : ℕ) → 2 ≤ n → n ≤ 1000
    → (g : Ground) × (problem_of s (one_text (line_text n seed)) ≡ Ok g)
