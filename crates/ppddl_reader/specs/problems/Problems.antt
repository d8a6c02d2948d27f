-- Problems: what stands behind `( define ( problem NAME )`, up to its `)`.
-- Sources: PDDL 1.2 (McDermott et al. 1998), PPDDL 1.0 for `:goal-reward` and `:metric`. Sections stand in any order, each at most once.
-- `:domain` and `:goal` must stand; without one of the others there are no objects, no facts and no values, or no reward. A section reads
-- what was declared before it.
--     section_of w        the section of a flag, or the code by which the word is refused
--     has_section s k     the section stood already
--     section_flag s      the flag of a section that did not stand yet
--     section known s     `( FLAG .. )` of a problem of the domain known: what stood, and what is declared behind it
--     ended n s           the problem of the name n, of which these sections stood, at its `)`
--     problem n known d   SECTION*: the problem, and what is declared behind it, where d is declared before it
use Rattle.std.specs.Prelude.{ℕ, List, [], Bool, true, false, not, ◌&&◌, ◌||◌, is_some, if◌then◌else◌, Option, Some, None, Result, Ok, Err}
use Rattle.plain_list.specs.Results.{◌>>=◌}
use Rattle.ppddl_lex.specs.declared.keywords.TheConstants.{ACTION_FLAG, DOMAIN_FLAG, GOAL_FLAG, GOAL_REWARD_FLAG, INIT_FLAG, METRIC_FLAG, PREDICATES_FLAG, REQUIREMENTS_FLAG}
use Rattle.ppddl_lex.specs.Words.{is_flag}
use Rattle.ppddl_model.specs.declared.refusal.TextCode.{TextCode}
use Rattle.ppddl_model.specs.declared.refusal.TextCode.TheVariants.{Expected, Unsupported, Twice}
use Rattle.ppddl_model.specs.declared.tree.Condition.{Condition}
use Rattle.ppddl_model.specs.declared.tree.ObjectDecl.{ObjectDecl}
use Rattle.ppddl_model.specs.declared.tree.Problem.{Problem}
use Rattle.ppddl_forms.specs.names.Declarations.{Declared, with_objects}
use Rattle.ppddl_cursor.specs.declared.place.Place.{Place}
use Rattle.ppddl_cursor.specs.Ahead.{same}
use Rattle.ppddl_cursor.specs.Forms.{Form, Forms}
use Rattle.ppddl_cursor.specs.Reading.{Fault, fails}
use Rattle.ppddl_cursor.specs.Sequences.{of_word, in_group, one_then, giving}
use Rattle.ppddl_forms.specs.declared.name.Name.{Name}
use Rattle.ppddl_forms.specs.Sequences.{each_to}
use Rattle.ppddl_forms.specs.objects.Objects.{objects}
use Rattle.ppddl_reader.specs.declared.sections.start.Start.{Start}
use Rattle.ppddl_reader.specs.declared.sections.symbols.TheConstants.{TYPES_FLAG, CONSTANTS_FLAG, FUNCTIONS_FLAG, OBJECTS_FLAG}
use Rattle.ppddl_reader.specs.sections.Goals.{flags, domain_name, goal, goal_reward, metric}
use Rattle.ppddl_reader.specs.sections.Starts.{no_items, start}
use Rattle.ppddl_reader.specs.declared.problems.problem_draft.ProblemDraft.{ProblemDraft}
use Rattle.ppddl_reader.specs.declared.problems.section.Section.{Section}
use Rattle.ppddl_reader.specs.declared.problems.section.Section.TheVariants as section_named

-- ---- flags

-- the flag of a section that a domain has, and a problem has not
abbrev pub is_domain_flag : List ℕ → Bool
is_domain_flag w = same w TYPES_FLAG.now || same w CONSTANTS_FLAG.now || same w PREDICATES_FLAG.now || same w FUNCTIONS_FLAG.now || same w ACTION_FLAG.now

abbrev pub section_of : List ℕ → Result Section TextCode
section_of w =
    if same w DOMAIN_FLAG.now then Ok section_named.Domain
    else if same w REQUIREMENTS_FLAG.now then Ok section_named.Requirements
    else if same w OBJECTS_FLAG.now then Ok section_named.Objects
    else if same w INIT_FLAG.now then Ok section_named.Init
    else if same w GOAL_FLAG.now then Ok section_named.Goal
    else if same w GOAL_REWARD_FLAG.now then Ok section_named.GoalReward
    else if same w METRIC_FLAG.now then Ok section_named.Metric
    else if is_flag w && not (is_domain_flag w) then Err Unsupported
    else Err Expected

abbrev pub has_section : ProblemDraft → Section → Bool
has_section s section_named.Domain = s.domain
has_section s section_named.Requirements = s.requirements
has_section s section_named.Objects = is_some s.objects
has_section s section_named.Init = is_some s.start
has_section s section_named.Goal = is_some s.goal
has_section s section_named.GoalReward = is_some s.goal_reward
has_section s section_named.Metric = s.metric

abbrev pub new_section : ProblemDraft → Result Section TextCode → Place → Result Section Fault
new_section s (Err code) a = fails code a
new_section s (Ok k) a = if has_section s k then fails Twice a else Ok k

unfoldable pub section_flag : ProblemDraft → Form → Result Section Fault
section_flag s = of_word (λ w a. new_section s (section_of w) a)

-- ---- one section

-- no section stood
abbrev pub no_sections : ProblemDraft
no_sections = record { domain = false; requirements = false; objects = None; start = None; goal = None; goal_reward = None; metric = false }

-- what stands behind the flag; objects come behind the constants
abbrev pub section_rest : List ℕ → ProblemDraft → Declared → Section → Forms → Place → Result (ProblemDraft × Declared) Fault
section_rest known s d section_named.Domain = giving (λ u. (record s { domain = true }, d)) (domain_name known)
section_rest known s d section_named.Requirements = giving (λ u. (record s { requirements = true }, d)) flags
section_rest known s d section_named.Objects = giving (λ os. (record s { objects = Some os }, with_objects d os)) (objects d)
section_rest known s d section_named.Init = giving (λ x. (record s { start = Some x }, d)) (start d)
section_rest known s d section_named.Goal = giving (λ c. (record s { goal = Some c }, d)) (goal d)
section_rest known s d section_named.GoalReward = giving (λ n. (record s { goal_reward = Some n }, d)) goal_reward
section_rest known s d section_named.Metric = giving (λ u. (record s { metric = true }, d)) metric

unfoldable pub section : List ℕ → ProblemDraft × Declared → Form → Result (ProblemDraft × Declared) Fault
section known s = in_group (one_then (section_flag s.0) (section_rest known s.0 s.1))

-- ---- the problem

abbrev pub objects_given : Option (List ObjectDecl) → List ObjectDecl
objects_given None = []
objects_given (Some os) = os

abbrev pub start_given : Option Start → Start
start_given None = no_items
start_given (Some x) = x

abbrev pub problem_of : Name → ProblemDraft → Condition → Problem
problem_of n s c = record {
  name = n.text;
  file = n.place.file;
  line = n.place.line;
  objects = objects_given s.objects;
  init = (start_given s.start).items;
  values = (start_given s.start).values;
  goal = c;
  goal_reward = s.goal_reward;
}

abbrev pub with_goal : Name → ProblemDraft → Option Condition → Place → Result Problem Fault
with_goal n s None b = fails Expected b
with_goal n s (Some c) b = if s.domain then Ok (problem_of n s c) else fails Expected b

-- where `:domain` or `:goal` is missing, the end is at fault
abbrev pub ended : Name → ProblemDraft → Place → Result Problem Fault
ended n s b = with_goal n s s.goal b

abbrev pub ended_with : Name → ProblemDraft × Declared → Place → Result (Problem × Declared) Fault
ended_with n s b = ended n s.0 b >>= λ p. Ok (p, s.1)

unfoldable pub sections : Name → List ℕ → ProblemDraft × Declared → Forms → Place → Result (Problem × Declared) Fault
sections n known = each_to (section known) (ended_with n)

abbrev pub problem : Name → List ℕ → Declared → Forms → Place → Result (Problem × Declared) Fault
problem n known d = sections n known (no_sections, d)
