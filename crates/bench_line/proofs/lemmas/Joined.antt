-- The text of the line has a ground problem: it is short, it spells its task, and the task has one.
use Rattle.std.proofs.Common.{◌≡◌, ℕ, ◌≤◌, Bool, List, length, None, Result, Ok, Err, ap, ◌∙◌}
use Rattle.std.specs.Prelude.{if◌then◌else◌}
use Rattle.std.proofs.lemmas.Bool.{le-leb}
use Rattle.plain_list.specs.Results.{◌>>=◌}
use Rattle.ppddl_lex.specs.declared.lexer.TheConstants.{MOST_TEXT}
use Rattle.ppddl_model.specs.declared.tree.Task.{Task}
use Rattle.ppddl_reader.specs.tasks.Texts.{task_of}
use Rattle.ppddl_grammar.proofs.lemmas.texts.Texts.{accepted}
use Rattle.ground_model.specs.Ground.{Ground}
use Rattle.ground_meaning.specs.refusals.Limits.{grounded}
use Rattle.plan_report.specs.Line.{line_text}
use Rattle.plan_request.specs.Asked.{Sources}
use Rattle.plan_request.specs.declared.stop.Stop.{Stop}
use Rattle.plan_request.specs.declared.stop.Stop.TheVariants.{Limit}
use Rattle.plan_sources.specs.declared.texts.Texts.{Texts}
use Rattle.plan_sources.specs.Problems.{stop_of_fault, stop_of_grounding, stopped, terms_of, text_within, texts_within, task_in, ground_task, problem_in, problem_of, one_text}
use Rattle.bench_line.specs.LineTask.{line_task}
use Rattle.bench_line.specs.Laws.{LineIsGrounded}
use Rattle.bench_line.proofs.lemmas.grounding.Limits.{after}
use Rattle.bench_line.proofs.lemmas.grounding.Grounded.{line_is_grounded}
use Rattle.bench_line.proofs.lemmas.reading.Reading.{line_is_read}
use Rattle.bench_line.proofs.lemmas.reading.Short.{line_is_short}

short_is_within : (text : List ℕ) → length text ≤ MOST_TEXT → texts_within (one_text text) ≡ Ok (one_text text)
short_is_within text short =
    let first : text_within text ≡ Ok text
    = ap (λ (b : Bool). let r : Result (List ℕ) Stop = if b then Ok text else Err (Limit 28 MOST_TEXT) in r) (le-leb (length text) MOST_TEXT short) in
    ap (λ (r : Result (List ℕ) Stop). let s : Result Texts Stop = r >>= λ _. Ok (one_text text) in s) first

problem_from : (s : Sources) (text : List ℕ) (task : Task) (g : Ground) → length text ≤ MOST_TEXT → task_of text None ≡ Ok task
    → grounded task (terms_of s) ≡ Ok g → problem_of s (one_text text) ≡ Ok g
unfolding task_in ground_task problem_in problem_of
problem_from s text task g short reads grounds =
    after (texts_within (one_text text)) (problem_in s) (one_text text) (Ok g) (short_is_within text short)
    (after (task_in (one_text text)) (ground_task s) task (Ok g) (ap (stopped stop_of_fault) reads) (ap (stopped (stop_of_grounding task)) grounds))

pub line_has_problem : LineIsGrounded
line_has_problem s same n seed least most =
    let found = line_is_grounded n seed least most in
    let grounds : grounded (line_task n seed) (terms_of s) ≡ Ok found.0 = ap (grounded (line_task n seed)) same ∙ found.1 in
    let reads : task_of (line_text n seed) None ≡ Ok (line_task n seed) = accepted (line_text n seed) None (line_task n seed) (line_is_read n seed least most) in
    (found.0, problem_from s (line_text n seed) (line_task n seed) found.0 (line_is_short n seed most) reads grounds)
