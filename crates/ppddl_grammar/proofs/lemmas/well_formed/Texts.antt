-- Tasks that whole texts spell are well-formed, and their names are in lower case.
--     IsGood task       well-formed, with names in lower case
--     IsSoFar s         what is known of a task while its definitions are read
use Rattle.std.proofs.Common.{◌≡◌, ℕ, List, [], ◌++◌, Option, Some, None, Ok, sym, ap, subst, ◌∙◌, append-nil}
use Rattle.plain_list.specs.Results.{◌>>=◌}
use Rattle.plain_list.proofs.Results.{bind_ok, ok_is}
use Rattle.ppddl_lex.specs.declared.keywords.TheConstants.{DEFINE}
use Rattle.ppddl_model.specs.declared.tree.Domain.{Domain}
use Rattle.ppddl_model.specs.declared.tree.Problem.{Problem}
use Rattle.ppddl_model.specs.declared.tree.Task.{Task}
use Rattle.ppddl_model.specs.Objects.{once}
use Rattle.ppddl_model.specs.Steps.{world}
use Rattle.ppddl_model.specs.WellFormed.{types_fit, objects_fit, declarations_fit, action_fits, domain_world, IsWellFormed}
use Rattle.ppddl_forms.specs.names.Declarations.{Declared, nothing, with_objects, world_of}
use Rattle.ppddl_cursor.specs.declared.place.Place.{Place}
use Rattle.ppddl_cursor.specs.Ahead.{Ahead}
use Rattle.ppddl_cursor.specs.Forms.{Form, Forms, lowered_forms}
use Rattle.ppddl_cursor.specs.Pieces.{end_of_text}
use Rattle.ppddl_cursor.specs.Reading.{Fault, all_at}
use Rattle.ppddl_cursor.specs.Sequences.{group_with, one_then, keyword}
use Rattle.ppddl_forms.specs.declared.name.Name.{Name}
use Rattle.ppddl_forms.specs.Sequences.{refused}
use Rattle.ppddl_reader.specs.domains.Domains.{domain}
use Rattle.ppddl_reader.specs.problems.Problems.{problem}
use Rattle.ppddl_reader.specs.declared.tasks.task_draft.TaskDraft.{TaskDraft}
use Rattle.ppddl_reader.specs.declared.tasks.task_draft.TaskDraft.TheVariants.{Empty, OfDomain, Whole}
use Rattle.ppddl_reader.specs.tasks.Texts.{heading, with_domain, with_problem, body, definition, definitions, lexed, finished, task_of}
use Rattle.ppddl_form_grammar.specs.fits.Growth.{AreDeclaredIn, domain_of}
use Rattle.ppddl_form_grammar.proofs.lemmas.fits.Tests.{all-weaker}
use Rattle.ppddl_grammar.specs.fits.Names.{IsLower, AreLower, HaveLowerNames}
use Rattle.ppddl_grammar.proofs.lemmas.fits.Actions.{action-grows}
use Rattle.ppddl_grammar.proofs.lemmas.fits.Lower.{forms-lowered, lower-each}
use Rattle.ppddl_grammar.proofs.lemmas.fits.Walks.{each-keeps}
use Rattle.ppddl_grammar.specs.well_formed.Laws.{TasksAreWellFormed, TasksHaveLowerNames}
use Rattle.ppddl_grammar.specs.well_formed.Names.{named_of, HasLowerNames}
use Rattle.ppddl_grammar.proofs.lemmas.well_formed.Domains as of_domain
use Rattle.ppddl_grammar.proofs.lemmas.well_formed.Domains.{domain-read}
use Rattle.ppddl_grammar.proofs.lemmas.well_formed.Problems as of_problem
use Rattle.ppddl_grammar.proofs.lemmas.well_formed.Problems.{problem-read}
use Rattle.ppddl_grammar.proofs.lemmas.well_formed.Parts.{then-split, group-split, giving-split, lower-inside, lower-rest, text-split}

-- ---- a domain and a problem of it

-- what was declared is declared in the domain, and in the whole task
module _ (m : Domain) (d : Declared) (known : of_domain.IsRead m d) where
  in_domain : AreDeclaredIn d (domain_world m) m
  in_domain = record {
    types = ([], known.types ∙ sym (append-nil d.types));
    objects = ([], ap once (known.constants ∙ sym (append-nil d.objects)));
    predicates = ([], known.predicates ∙ sym (append-nil d.predicates));
    functions = ([], known.functions ∙ sym (append-nil d.functions));
  }

  module _ (file : ℕ) (p : Problem) (read : of_problem.IsRead d p) where
    abbrev task : Task
    task = record { domain = m; domain_file = file; problem = p }

    abbrev all : Declared
    all = with_objects d p.objects

    in_task : AreDeclaredIn all (world task) m
    in_task = record {
      types = ([], known.types ∙ sym (append-nil d.types));
      objects = ([], ap once (ap (λ l. l ++ p.objects) known.constants ∙ sym (append-nil (d.objects ++ p.objects))));
      predicates = ([], known.predicates ∙ sym (append-nil d.predicates));
      functions = ([], known.functions ∙ sym (append-nil d.functions));
    }

    same : named_of task ≡ all
    same = cc (known.types, known.constants, known.predicates, known.functions)

    well_formed : IsWellFormed task
    well_formed = record {
      types = ap types_fit known.types ∙ read.fit.types;
      objects = ap (λ (x : Declared). objects_fit x.types x.objects) same ∙ read.fit.objects;
      predicates = ap (λ (x : Declared). declarations_fit x.types x.predicates) same ∙ read.fit.predicates;
      functions = ap (λ (x : Declared). declarations_fit x.types x.functions) same ∙ read.fit.functions;
      action_names = known.distinct;
      actions =
          all-weaker (action_fits (world_of d) (domain_of d)) (action_fits (domain_world m) m) (action-grows d (domain_world m) m in_domain) m.actions known.actions;
      init = (read.start (world task) m in_task).0;
      values = (read.start (world task) m in_task).1;
      goal = read.goal (world task) m in_task;
      reward = read.reward;
      chances = record { actions = known.draw; init = read.draw };
    }

    named : HasLowerNames task
    named = record { declared = subst HaveLowerNames (sym same) read.names; actions = known.action_names }

-- ---- definitions

pub record IsGood (task : Task) : Type 0 where
  pub well_formed : IsWellFormed task
  pub names : HasLowerNames task

abbrev IsSoFar : TaskDraft → Type 0
IsSoFar Empty = Unit {0}
IsSoFar (OfDomain m file d) = of_domain.IsRead m d
IsSoFar (Whole task) = IsGood task

body-read : (s : TaskDraft) (n : Name) (fs : Forms) (b : Place) (t : TaskDraft) → IsSoFar s → AreLower fs → body s n fs b ≡ Ok t → IsSoFar t
unfolding refused
body-read Empty n fs b t before lower is =
    let r = giving-split (with_domain n.place.file) (domain n.text nothing) fs b t is in subst IsSoFar r.2 (domain-read n.text fs b r.0 lower r.1)
body-read (OfDomain m file d) n fs b t before lower is =
    let r = giving-split (with_problem m file) (problem n m.name d) fs b t is in
    let read = problem-read n m.name d fs b r.0 before.fit before.names lower r.1 in
    subst IsSoFar r.2 (record { well_formed = well_formed m d before file r.0.0 read; names = named m d before file r.0.0 read })
body-read (Whole task) n fs b t before lower is = absurd cc

definition-read : (s : TaskDraft) (f : Form) (t : TaskDraft) → IsSoFar s → IsLower f → definition s f ≡ Ok t → IsSoFar t
unfolding definition group_with
definition-read s f t before lower is =
    let g = group-split (one_then (keyword DEFINE.now) (λ u. one_then (heading s) (body s))) f t is in
    let r = then-split (keyword DEFINE.now) (λ u. one_then (heading s) (body s)) g.forms g.end t g.gives in
    let q = then-split (heading s) (body s) r.rest g.end t r.behind in
    let behind = lower-rest g.forms r.rest r.form r.forms (lower-inside f g.start g.end g.forms g.whole lower) in
    body-read s q.value q.rest g.end t before (lower-rest r.rest q.rest q.form q.forms behind) q.behind

text-read : (s : TaskDraft) (h : Ahead) (t : TaskDraft) → IsSoFar s → all_at (definitions s) h ≡ Ok t → IsSoFar t
unfolding definitions
text-read s h t before is =
    let r = text-split (definitions s) h t is in
    each-keeps definition IsSoFar IsLower definition-read s (lowered_forms r.forms) r.end t before (lower-each (lowered_forms r.forms) (forms-lowered r.forms)) r.gives

finished-good : (s : TaskDraft) (e : Place) (task : Task) → IsSoFar s → finished s e ≡ Ok task → IsGood task
finished-good Empty e task known is = absurd cc
finished-good (OfDomain m file d) e task known is = absurd cc
finished-good (Whole t) e task known is = subst IsGood (ok_is {E = Fault} t task is) known

-- ---- texts

task-good : (first : List ℕ) (second : Option (List ℕ)) (task : Task) → task_of first second ≡ Ok task → IsGood task
unfolding task_of
task-good first None task is =
    let h = bind_ok (lexed 1 first) (λ h. all_at (definitions Empty) h >>= λ s. finished s (end_of_text first 1)) task is in
    let s = bind_ok (all_at (definitions Empty) h.0) (λ s. finished s (end_of_text first 1)) task h.2 in
    finished-good s.0 (end_of_text first 1) task (text-read Empty h.0 s.0 tt s.1) s.2
task-good first (Some second) task is =
    let h = bind_ok (lexed 1 first) (λ h. lexed 2 second >>= λ k. all_at (definitions Empty) h >>= λ s. all_at (definitions s) k >>= λ t. finished t (end_of_text second 2)) task is in
    let k = bind_ok (lexed 2 second) (λ k. all_at (definitions Empty) h.0 >>= λ s. all_at (definitions s) k >>= λ t. finished t (end_of_text second 2)) task h.2 in
    let s = bind_ok (all_at (definitions Empty) h.0) (λ s. all_at (definitions s) k.0 >>= λ t. finished t (end_of_text second 2)) task k.2 in
    let t = bind_ok (all_at (definitions s.0) k.0) (λ t. finished t (end_of_text second 2)) task s.2 in
    finished-good t.0 (end_of_text second 2) task (text-read s.0 k.0 t.0 (text-read Empty h.0 s.0 tt s.1) t.1) t.2

pub tasks-well_formed : TasksAreWellFormed
tasks-well_formed first second task is = (task-good first second task is).well_formed

pub tasks-named : TasksHaveLowerNames
tasks-named first second task is = (task-good first second task is).names
