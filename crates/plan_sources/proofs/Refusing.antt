-- Texts are refused where they spell no task, or where their task cannot be charged.
use Rattle.std.proofs.Common.{◌≡◌, ◌⊎◌, inl, inr, ℕ, List, length, refl, sym, ap, ◌∙◌, Bool, true, false, Option, Some, None, Result, Ok, Err}
use Rattle.std.specs.Prelude.{nat_le, if◌then◌else◌}
use Rattle.plain_list.specs.Results.{◌>>=◌}
use Rattle.ppddl_lex.specs.declared.lexer.TheConstants.{MOST_TEXT}
use Rattle.ppddl_model.specs.declared.refusal.TextCode.{TextCode}
use Rattle.ppddl_model.specs.declared.tree.Task.{Task}
use Rattle.ground_meaning.specs.refusals.Limits.{grounded}
use Rattle.ppddl_reader.specs.tasks.Texts.{task_of}
use Rattle.ppddl_grammar.specs.texts.Laws.{TaskIsDerived, TaskIsAccepted}
use Rattle.plan_request.specs.Asked.{Sources}
use Rattle.plan_request.specs.declared.stop.Stop.{Stop}
use Rattle.plan_request.specs.declared.stop.Stop.TheVariants.{Refused, Limit}
use Rattle.plan_sources.specs.declared.texts.Texts.{Texts}
use Rattle.plan_sources.specs.Problems.{text_within, second_within, texts_within, stop_of_fault, stop_of_grounding, stopped, terms_of, task_in, ground_task, problem_in, problem_of}
use Rattle.plan_sources.specs.Laws.{SpellsNone, IsNotCharged, TextsAreRefusedSo}
use Rattle.plan_sources.proofs.Taking.{given_texts}
use Rattle.plan_sources.proofs.Grounding.{task_read}

-- what is bound to an answer is refused as that is, or behind it
bound_err : {A B E : Type 0} (r : Result A E) (f : A → Result B E) (e : E) → (r >>= f) ≡ Err e
    → (r ≡ Err e) ⊎ ((x : A) × (r ≡ Ok x) × (f x ≡ Err e))
bound_err (Ok x) f e is = inr (x, refl, is)
bound_err (Err y) f e is = let same : y ≡ e = cc is in inl (ap Err same)

stopped_err : {A E : Type 0} (stop : E → Stop) (r : Result A E) (s : Stop) → stopped stop r ≡ Err s → (e : E) × (r ≡ Err e) × (s ≡ stop e)
stopped_err stop (Ok x) s is = absurd (cc is)
stopped_err stop (Err e) s is = let same : stop e ≡ s = cc is in (e, refl, sym same)

-- ---- a text that is too long is no refusal

module _ (code : TextCode) (file line : ℕ) where
  within_is_none : (b : Bool) (text : List ℕ) → (if b then Ok text else Err (Limit 28 MOST_TEXT)) ≡ Err (Refused code file line) → ⊥
  within_is_none true text is = cc is
  within_is_none false text is = cc is

  text_is_none : (text : List ℕ) → text_within text ≡ Err (Refused code file line) → ⊥
  text_is_none text is = within_is_none (nat_le (length text) MOST_TEXT) text is

  second_is_none : (second : Option (List ℕ)) → second_within second ≡ Err (Refused code file line) → ⊥
  second_is_none None is = cc is
  second_is_none (Some text) is = elim (bound_err (text_within text) (λ short. Ok (Some short)) (Refused code file line) is) [
    | inl long ↦ text_is_none text long
    | inr (short, within, behind) ↦ cc behind
  ]

  texts_are_none : (t : Texts) → texts_within t ≡ Err (Refused code file line) → ⊥
  texts_are_none t is =
      elim (bound_err (text_within t.first) (λ _. second_within t.second >>= λ _. Ok t) (Refused code file line) is) [
        | inl long ↦ text_is_none t.first long
        | inr (first, within, behind) ↦ elim (bound_err (second_within t.second) (λ _. Ok t) (Refused code file line) behind) [
          | inl long ↦ second_is_none t.second long
          | inr (second, short, ends) ↦ cc ends
        ]
      ]

-- ---- a task

module _ (derived : TaskIsDerived) (accepted : TaskIsAccepted) (s : Sources) (t : Texts) where
  task_is_refused : (stop : Stop) → task_in t ≡ Err stop → SpellsNone t stop
  unfolding task_in
  task_is_refused stop is =
      let fault = stopped_err stop_of_fault (task_of t.first t.second) stop is in
      record {
        none = λ task reads. cc (sym (accepted t.first t.second task reads) ∙ fault.1);
        fault = fault.0;
        first = fault.1;
        stops = fault.2;
      }

  task_is_not_charged : (task : Task) → task_in t ≡ Ok task → (stop : Stop) → ground_task s task ≡ Err stop → IsNotCharged s t stop
  unfolding ground_task
  task_is_not_charged task read stop is =
      let refusal = stopped_err (stop_of_grounding task) (grounded task (terms_of s)) stop is in
      record {
        task = task;
        reads = derived t.first t.second task (task_read t task read);
        refusal = refusal.0;
        refused = refusal.1;
        stops = refusal.2;
      }

  problem_is_refused : (stop : Stop) → problem_in s t ≡ Err stop → SpellsNone t stop ⊎ IsNotCharged s t stop
  unfolding problem_in
  problem_is_refused stop is = elim (bound_err (task_in t) (ground_task s) stop is) [
    | inl none ↦ inl (task_is_refused stop none)
    | inr (task, read, refused) ↦ inr (task_is_not_charged task read stop refused)
  ]

pub texts_are_refused_so : TaskIsDerived → TaskIsAccepted → TextsAreRefusedSo
unfolding problem_of
texts_are_refused_so derived accepted s t code file line is =
    elim (bound_err (texts_within t) (problem_in s) (Refused code file line) is) [
      | inl long ↦ absurd (texts_are_none code file line t long)
      | inr (u, within, refused) ↦
          problem_is_refused derived accepted s t (Refused code file line) (ap (problem_in s) (sym (given_texts t u within)) ∙ refused)
    ]
