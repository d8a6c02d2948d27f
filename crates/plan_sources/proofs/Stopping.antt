-- What stops a run at texts is a refusal or a limit.
use Rattle.std.proofs.Common.{ℕ, true, false, Bool, List, length, subst, Option, Some, None, Result, Ok, Err}
use Rattle.std.specs.Prelude.{nat_le, if◌then◌else◌}
use Rattle.plain_list.specs.Results.{◌>>=◌}
use Rattle.ppddl_lex.specs.declared.lexer.TheConstants.{MOST_TEXT}
use Rattle.ppddl_model.specs.declared.tree.Action.{Action}
use Rattle.ppddl_model.specs.declared.tree.Task.{Task}
use Rattle.ppddl_model.specs.Steps.{Charges, Terms, charges_of}
use Rattle.ground_model.specs.Ground.{Ground}
use Rattle.ground_meaning.specs.declared.refusals.limits.LimitCode.{LimitCode}
use Rattle.ground_meaning.specs.declared.refusals.refusal.GroundRefusal.{GroundRefusal}
use Rattle.ground_meaning.specs.declared.refusals.refusal.GroundRefusal.TheVariants as grounding
use Rattle.ground_meaning.specs.refusals.Limits.{free_action, refused_by, charged, limited, limits, grounded}
use Rattle.ppddl_cursor.specs.Reading.{Fault}
use Rattle.ppddl_reader.specs.tasks.Texts.{task_of}
use Rattle.plan_request.specs.Asked.{Sources}
use Rattle.plan_request.specs.declared.stop.Stop.TheVariants.{Limit}
use Rattle.plan_sources.specs.declared.texts.Texts.{Texts}
use Rattle.plan_sources.specs.Problems.{text_within, second_within, texts_within, stop_of_fault, stop_of_grounding, stopped, terms_of, task_in, ground_task, problem_in, problem_of}
use Rattle.plan_sources.specs.Laws.{IsOfTexts, TextsStopSo}

-- ---- results that are refused in a way that meets a test

abbrev EachError : {A E : Type 0} → (E → Type 0) → Result A E → Type 0
EachError P (Ok x) = Unit {0}
EachError P (Err e) = P e

bound : {A B E : Type 0} (P : E → Type 0) (r : Result A E) (f : A → Result B E) → EachError P r → ((x : A) → EachError P (f x)) → EachError P (r >>= f)
bound P (Ok x) f first behind = behind x
bound P (Err e) f first behind = first

-- ---- grounding is not refused for want of memory

abbrev IsReason : GroundRefusal → Type 0
IsReason (grounding.CostNotPositive line) = Unit {0}
IsReason (grounding.NoPenalty line) = Unit {0}
IsReason (grounding.Limit code) = Unit {0}
IsReason grounding.Memory = ⊥

module _ (task : Task) (terms : Terms) where
  by_cost : (f : Option Action) → EachError IsReason (refused_by task terms f)
  by_cost None = tt
  by_cost (Some a) = tt

  by_penalty : (c : Option Charges) → EachError IsReason (charged task terms c)
  by_penalty None = tt
  by_penalty (Some charges) = tt

  by_limits : (charges : Charges) (r : Result (Unit {0}) LimitCode) → EachError IsReason (limited task terms charges r)
  by_limits charges (Ok u) = tt
  by_limits charges (Err code) = tt

  charged_so : (c : Result Charges GroundRefusal) → EachError IsReason c → EachError IsReason (c >>= λ charges. limited task terms charges (limits task charges))
  charged_so c is = bound IsReason c (λ charges. limited task terms charges (limits task charges)) is (λ charges. by_limits charges (limits task charges))

  grounded_so : EachError IsReason (grounded task terms)
  grounded_so =
      bound IsReason (refused_by task terms (free_action task terms))
      (λ _. charged task terms (charges_of terms task) >>= λ charges. limited task terms charges (limits task charges))
      (by_cost (free_action task terms))
      (λ _. charged_so (charged task terms (charges_of terms task)) (by_penalty (charges_of terms task)))

-- ---- texts

within_so : (b : Bool) (text : List ℕ) → EachError IsOfTexts (if b then Ok text else Err (Limit 28 MOST_TEXT))
within_so true text = tt
within_so false text = tt

text_so : (text : List ℕ) → EachError IsOfTexts (text_within text)
text_so text = within_so (nat_le (length text) MOST_TEXT) text

second_so : (second : Option (List ℕ)) → EachError IsOfTexts (second_within second)
second_so None = tt
second_so (Some text) = bound IsOfTexts (text_within text) (λ short. Ok (Some short)) (text_so text) (λ short. tt)

texts_so : (t : Texts) → EachError IsOfTexts (texts_within t)
texts_so t =
    bound IsOfTexts (text_within t.first) (λ _. second_within t.second >>= λ _. Ok t) (text_so t.first)
    (λ _. bound IsOfTexts (second_within t.second) (λ _. Ok t) (second_so t.second) (λ _. tt))

fault_so : (r : Result Task Fault) → EachError IsOfTexts (stopped stop_of_fault r)
fault_so (Ok task) = tt
fault_so (Err e) = tt

reason_so : (task : Task) (e : GroundRefusal) → IsReason e → IsOfTexts (stop_of_grounding task e)
reason_so task (grounding.CostNotPositive line) is = tt
reason_so task (grounding.NoPenalty line) is = tt
reason_so task (grounding.Limit code) is = tt
reason_so task grounding.Memory is = is

refusal_so : (task : Task) (r : Result Ground GroundRefusal) → EachError IsReason r → EachError IsOfTexts (stopped (stop_of_grounding task) r)
refusal_so task (Ok g) is = tt
refusal_so task (Err e) is = reason_so task e is

task_so : (t : Texts) → EachError IsOfTexts (task_in t)
unfolding task_in
task_so t = fault_so (task_of t.first t.second)

ground_so : (s : Sources) (task : Task) → EachError IsOfTexts (ground_task s task)
unfolding ground_task
ground_so s task = refusal_so task (grounded task (terms_of s)) (grounded_so task (terms_of s))

in_so : (s : Sources) (t : Texts) → EachError IsOfTexts (problem_in s t)
unfolding problem_in
in_so s t = bound IsOfTexts (task_in t) (ground_task s) (task_so t) (ground_so s)

problem_so : (s : Sources) (t : Texts) → EachError IsOfTexts (problem_of s t)
unfolding problem_of
problem_so s t = bound IsOfTexts (texts_within t) (problem_in s) (texts_so t) (in_so s)

pub texts_stop_so : TextsStopSo
texts_stop_so s t stop is = subst (EachError IsOfTexts) is (problem_so s t)
