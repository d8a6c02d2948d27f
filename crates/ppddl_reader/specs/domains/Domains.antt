-- Domains: what stands behind `( define ( domain NAME )`, up to its `)`.
-- Sources: PDDL 1.2 (McDermott et al. 1998) for the sections, PDDL 2.1 (Fox and Long 2003) for `:functions`, PPDDL 1.0. Sections stand in
-- any order, each at most once but `:action`. A section reads what was declared before it.
--     section_of w            the section of a flag, or the code by which the word is refused
--     has_section s k         the section stood already, and may not stand again
--     section_flag s          the flag of a section that may stand now
--     section (s, d)          `( FLAG .. )`: what stood, and what is declared behind it, where s stood and d was declared before it
--     domain_of name s d      the domain of which these sections stood
--     domain name d           SECTION*: the domain, and what is declared behind it, where d is declared before it
use Rattle.std.specs.Prelude.{ℕ, List, [], ◌∷◌, ◌++◌, Bool, true, false, not, ◌&&◌, ◌||◌, is_some, if◌then◌else◌, Option, Some, None, Result, Ok, Err}
use Rattle.ppddl_lex.specs.declared.keywords.TheConstants.{ACTION_FLAG, DOMAIN_FLAG, GOAL_FLAG, GOAL_REWARD_FLAG}
use Rattle.ppddl_lex.specs.declared.keywords.TheConstants.{INIT_FLAG, METRIC_FLAG, PREDICATES_FLAG, REQUIREMENTS_FLAG}
use Rattle.ppddl_lex.specs.Words.{is_flag}
use Rattle.ppddl_model.specs.declared.refusal.TextCode.{TextCode}
use Rattle.ppddl_model.specs.declared.refusal.TextCode.TheVariants.{Expected, Unsupported, Twice}
use Rattle.ppddl_model.specs.declared.tree.Action.{Action}
use Rattle.ppddl_model.specs.declared.tree.Domain.{Domain}
use Rattle.ppddl_model.specs.declared.tree.ObjectDecl.{ObjectDecl}
use Rattle.ppddl_forms.specs.names.Declarations.{Declared, with_objects}
use Rattle.ppddl_cursor.specs.declared.place.Place.{Place}
use Rattle.ppddl_cursor.specs.Ahead.{same}
use Rattle.ppddl_cursor.specs.Forms.{Form, Forms}
use Rattle.ppddl_cursor.specs.Reading.{Fault, fails}
use Rattle.ppddl_cursor.specs.Sequences.{of_word, in_group, one_then, giving, each}
use Rattle.ppddl_forms.specs.objects.Objects.{objects}
use Rattle.ppddl_reader.specs.declared.sections.symbols.TheConstants.{TYPES_FLAG, CONSTANTS_FLAG, FUNCTIONS_FLAG, OBJECTS_FLAG}
use Rattle.ppddl_reader.specs.sections.Actions.{action}
use Rattle.ppddl_reader.specs.sections.Goals.{flags}
use Rattle.ppddl_reader.specs.sections.Predicates.{predicates, functions}
use Rattle.ppddl_reader.specs.sections.Types.{types}
use Rattle.ppddl_reader.specs.domains.Actions.{names_of}
use Rattle.ppddl_reader.specs.declared.domains.domain_draft.DomainDraft.{DomainDraft}
use Rattle.ppddl_reader.specs.declared.domains.section.Section.{Section}
use Rattle.ppddl_reader.specs.declared.domains.section.Section.TheVariants as section_named

-- ---- flags

-- the flag of a section that a problem has, and a domain has not
abbrev pub is_problem_flag : List ℕ → Bool
is_problem_flag w =
    same w DOMAIN_FLAG.now || same w OBJECTS_FLAG.now || same w INIT_FLAG.now || same w GOAL_FLAG.now
    || same w GOAL_REWARD_FLAG.now || same w METRIC_FLAG.now

abbrev pub section_of : List ℕ → Result Section TextCode
section_of w =
    if same w REQUIREMENTS_FLAG.now then Ok section_named.Requirements
    else if same w TYPES_FLAG.now then Ok section_named.Types
    else if same w CONSTANTS_FLAG.now then Ok section_named.Constants
    else if same w PREDICATES_FLAG.now then Ok section_named.Predicates
    else if same w FUNCTIONS_FLAG.now then Ok section_named.Functions
    else if same w ACTION_FLAG.now then Ok section_named.Action
    else if is_flag w && not (is_problem_flag w) then Err Unsupported
    else Err Expected

-- actions may stand again
abbrev pub has_section : DomainDraft → Section → Bool
has_section s section_named.Requirements = s.requirements
has_section s section_named.Types = s.types
has_section s section_named.Constants = is_some s.constants
has_section s section_named.Predicates = s.predicates
has_section s section_named.Functions = s.functions
has_section s section_named.Action = false

abbrev pub new_section : DomainDraft → Result Section TextCode → Place → Result Section Fault
new_section s (Err code) a = fails code a
new_section s (Ok k) a = if has_section s k then fails Twice a else Ok k

unfoldable pub section_flag : DomainDraft → Form → Result Section Fault
section_flag s = of_word (λ w a. new_section s (section_of w) a)

-- ---- one section

-- no section stood
abbrev pub no_sections : DomainDraft
no_sections = record { requirements = false; types = false; constants = None; predicates = false; functions = false; actions = [] }

-- one more, with another name than the others
unfoldable pub another_action : Declared → List Action → Forms → Place → Result (List Action) Fault
another_action d actions = giving (λ a. actions ++ a ∷ []) (action d (names_of actions))

-- what stands behind the flag
abbrev pub section_rest : DomainDraft → Declared → Section → Forms → Place → Result (DomainDraft × Declared) Fault
section_rest s d section_named.Requirements = giving (λ u. (record s { requirements = true }, d)) flags
section_rest s d section_named.Types = giving (λ more. (record s { types = true }, more)) (types d)
section_rest s d section_named.Constants = giving (λ os. (record s { constants = Some os }, with_objects d os)) (objects d)
section_rest s d section_named.Predicates = giving (λ more. (record s { predicates = true }, more)) (predicates d)
section_rest s d section_named.Functions = giving (λ more. (record s { functions = true }, more)) (functions d)
section_rest s d section_named.Action = giving (λ actions. (record s { actions = actions }, d)) (another_action d s.actions)

unfoldable pub section : DomainDraft × Declared → Form → Result (DomainDraft × Declared) Fault
section s = in_group (one_then (section_flag s.0) (section_rest s.0 s.1))

unfoldable pub sections : DomainDraft × Declared → Forms → Place → Result (DomainDraft × Declared) Fault
sections = each section

-- ---- the domain

abbrev pub constants_given : Option (List ObjectDecl) → List ObjectDecl
constants_given None = []
constants_given (Some os) = os

abbrev pub domain_of : List ℕ → DomainDraft → Declared → Domain
domain_of name s d = record {
  name = name;
  types = d.types;
  constants = constants_given s.constants;
  predicates = d.predicates;
  functions = d.functions;
  actions = s.actions;
}

unfoldable pub domain : List ℕ → Declared → Forms → Place → Result (Domain × Declared) Fault
domain name d = giving (λ s. (domain_of name s.0 s.1, s.1)) (sections (no_sections, d))
