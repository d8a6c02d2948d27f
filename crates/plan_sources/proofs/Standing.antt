-- A ground problem of texts stands for their task, and is spelled in lower case.
use Rattle.std.proofs.Common.{◌≡◌, refl, sym, ap, subst, ◌∙◌, Result, Ok, Err}
use Rattle.plain_list.specs.Results.{◌>>=◌}
use Rattle.certificate.specs.Names.{is_lower_name}
use Rattle.ppddl_model.specs.declared.tree.Task.{Task}
use Rattle.ground_model.specs.Ground.{Ground}
use Rattle.ground_meaning.specs.refusals.Laws.{GroundedStands, AreListsOf, HaveForm, NamesKeepTheirForm}
use Rattle.ground_meaning.specs.refusals.Limits.{grounded}
use Rattle.ppddl_grammar.specs.texts.Laws.{TaskIsDerived}
use Rattle.ppddl_grammar.specs.well_formed.Laws.{TasksAreWellFormed, TasksHaveLowerNames}
use Rattle.ppddl_grammar.specs.well_formed.Names.{HasLowerNames}
use Rattle.plan_request.specs.Asked.{Sources}
use Rattle.plan_sources.specs.declared.texts.Texts.{Texts}
use Rattle.plan_sources.specs.Problems.{texts_within, stop_of_grounding, terms_of, task_in, ground_task, problem_in, problem_of}
use Rattle.plan_sources.specs.Laws.{ProblemStands}
use Rattle.plan_sources.proofs.Taking.{given_texts}
use Rattle.plan_sources.proofs.Grounding.{stopped_ok, terms_in_range, task_read}

-- what is bound to an answer has one
bound_ok : {A B E : Type 0} (r : Result A E) (f : A → Result B E) (y : B) → (r >>= f) ≡ Ok y → (x : A) × (r ≡ Ok x) × (f x ≡ Ok y)
bound_ok (Ok x) f y is = (x, refl, is)
bound_ok (Err e) f y is = absurd (cc is)

task_grounded : (s : Sources) (task : Task) (g : Ground) → ground_task s task ≡ Ok g → grounded task (terms_of s) ≡ Ok g
unfolding ground_task
task_grounded s task g is = stopped_ok (stop_of_grounding task) (grounded task (terms_of s)) g is

problem_read : (s : Sources) (t : Texts) (g : Ground) → problem_in s t ≡ Ok g
    → (task : Task) × (task_in t ≡ Ok task) × (ground_task s task ≡ Ok g)
unfolding problem_in
problem_read s t g is = bound_ok (task_in t) (ground_task s) g is

texts_read : (s : Sources) (t : Texts) (g : Ground) → problem_of s t ≡ Ok g → problem_in s t ≡ Ok g
unfolding problem_of
texts_read s t g is =
    let read : (u : Texts) × (texts_within t ≡ Ok u) × (problem_in s u ≡ Ok g) = bound_ok (texts_within t) (problem_in s) g is in
    ap (problem_in s) (sym (given_texts t read.0 read.1)) ∙ read.2

have_form : (task : Task) → HasLowerNames task → HaveForm is_lower_name task
have_form task lower = record { objects = lower.declared.objects; predicates = lower.declared.predicates; actions = lower.actions }

pub problem_stands : TaskIsDerived → TasksAreWellFormed → TasksHaveLowerNames → GroundedStands → NamesKeepTheirForm → ProblemStands
problem_stands derived well_formed lower law spelled s t g are is =
    let read = problem_read s t g (texts_read s t g is) in
    let task_is = task_read t read.0 read.1 in
    let fits = well_formed t.first t.second read.0 task_is in
    let made = law read.0 (terms_of s) g fits (terms_in_range s are) (task_grounded s read.0 g read.2) in
    record {
      task = read.0;
      charges = made.0;
      reads = derived t.first t.second read.0 task_is;
      task_is = task_is;
      well_formed = fits;
      charged = made.1;
      problem = made.2;
      stands = made.3;
      names = subst (AreListsOf is_lower_name) (sym made.2)
          (spelled is_lower_name read.0 made.0 fits (have_form read.0 (lower t.first t.second read.0 task_is)));
    }
