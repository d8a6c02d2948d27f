-- Which forms spell which problems.
-- Sources: PDDL 1.2 (McDermott et al. 1998), PPDDL 1.0. Sections stand in any order, each at most once; `:domain` and `:goal` must stand.
--     IsMetric fs              `maximize REWARD`
--     IsSection known x f y    `( FLAG .. )` of a problem of the domain known
--     IsProblem n known d fs p e
--                              SECTION*: the problem of the name n, where d is declared before it, and what is declared behind it
use Rattle.std.specs.Prelude.{◌≡◌, ℕ, true, false, List, Some, None}
use Rattle.ppddl_lex.specs.declared.keywords.TheConstants.{DOMAIN_FLAG, GOAL_FLAG, GOAL_REWARD_FLAG, INIT_FLAG, METRIC_FLAG, REQUIREMENTS_FLAG, MAXIMIZE}
use Rattle.ppddl_lex.specs.Words.{is_name}
use Rattle.ppddl_model.specs.declared.tree.Condition.{Condition}
use Rattle.ppddl_model.specs.declared.tree.ObjectDecl.{ObjectDecl}
use Rattle.ppddl_model.specs.declared.tree.Problem.{Problem}
use Rattle.ppddl_forms.specs.names.Declarations.{Declared, with_objects}
use Rattle.ppddl_cursor.specs.declared.place.Place.{Place}
use Rattle.ppddl_cursor.specs.Forms.{Form, Forms, lone, none, more}
use Rattle.ppddl_forms.specs.declared.name.Name.{Name}
use Rattle.ppddl_reader.specs.declared.sections.start.Start.{Start}
use Rattle.ppddl_reader.specs.declared.sections.symbols.TheConstants.{OBJECTS_FLAG}
use Rattle.ppddl_reader.specs.sections.Starts.{no_items}
use Rattle.ppddl_reader.specs.declared.problems.problem_draft.ProblemDraft.{ProblemDraft}
use Rattle.ppddl_reader.specs.problems.Problems.{no_sections, problem_of}
use Rattle.ppddl_form_grammar.specs.forms.Words.{headed, IsReward}
use Rattle.ppddl_form_grammar.specs.lists.Objects.{IsObjectList}
use Rattle.ppddl_grammar.specs.sections.Problems.{Items, IsGoal, IsGoalReward}
use Rattle.ppddl_grammar.specs.definitions.Folds.{Fold, AreFlags}

pub data IsMetric : Forms → Type 0 where
  metric : {a : Place} {f : Form} → IsReward f → IsMetric (more (lone MAXIMIZE.now a) (more f none))

pub data IsSection (known : List ℕ) : ProblemDraft × Declared → Form → ProblemDraft × Declared → Type 0 where
  domain : {s : ProblemDraft} {d : Declared} {a c b e : Place}
      → s.domain ≡ false → is_name known ≡ true → IsSection known (s, d) (headed a c DOMAIN_FLAG.now (more (lone known e) none) b) (record s { domain = true }, d)
  requirements : {s : ProblemDraft} {d : Declared} {a c b : Place} {fs : Forms}
      → s.requirements ≡ false → AreFlags fs → IsSection known (s, d) (headed a c REQUIREMENTS_FLAG.now fs b) (record s { requirements = true }, d)
  objects : {s : ProblemDraft} {d : Declared} {a c b : Place} {fs : Forms} {os : List ObjectDecl}
      → s.objects ≡ None → IsObjectList d fs os → IsSection known (s, d) (headed a c OBJECTS_FLAG.now fs b) (record s { objects = Some os }, with_objects d os)
  start : {s : ProblemDraft} {d : Declared} {a c b : Place} {fs : Forms} {x : Start}
      → s.start ≡ None → Items d no_items fs x → IsSection known (s, d) (headed a c INIT_FLAG.now fs b) (record s { start = Some x }, d)
  goal : {s : ProblemDraft} {d : Declared} {a c b : Place} {fs : Forms} {x : Condition}
      → s.goal ≡ None → IsGoal d fs x → IsSection known (s, d) (headed a c GOAL_FLAG.now fs b) (record s { goal = Some x }, d)
  reward : {s : ProblemDraft} {d : Declared} {a c b : Place} {fs : Forms} {n : ℕ}
      → s.goal_reward ≡ None → IsGoalReward fs n → IsSection known (s, d) (headed a c GOAL_REWARD_FLAG.now fs b) (record s { goal_reward = Some n }, d)
  metric : {s : ProblemDraft} {d : Declared} {a c b : Place} {fs : Forms}
      → s.metric ≡ false → IsMetric fs → IsSection known (s, d) (headed a c METRIC_FLAG.now fs b) (record s { metric = true }, d)

pub data IsProblem (n : Name) (known : List ℕ) (d : Declared) : Forms → Problem → Declared → Type 0 where
  problem : {fs : Forms} {s : ProblemDraft} {e : Declared} {c : Condition}
      → Fold (IsSection known) (no_sections, d) fs (s, e) → s.domain ≡ true → s.goal ≡ Some c → IsProblem n known d fs (problem_of n s c) e
