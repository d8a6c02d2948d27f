-- The task of whole texts: one domain and, behind it, one problem of it, in one text or in two.
-- Sources: PDDL 1.2 (McDermott et al. 1998) for definitions, PPDDL 1.0.
--     definition_of w           what the word of a heading defines
--     allowed s k a             a definition of this kind may stand behind what was read
--     heading s                 `( domain NAME )`, or `( problem NAME )`, where it may stand
--     opening s h               `( define HEADING`, read at h
--     definition s              `( define HEADING SECTION* )`
--     definitions_at s h        the definitions of a text, behind those of the text before it
--     lexed n text              what lies ahead at the beginning of text number n
--     finished s e              the task, where the last text ends at e
--     task_of first second      the task of one text or of two, or its first fault: first all tokens of both texts are made, and then the
--                               definitions are read in order
use Rattle.std.specs.Prelude.{ℕ, List, if◌then◌else◌, Option, Some, None, Result, Ok, Err}
use Rattle.plain_list.specs.Results.{◌>>=◌}
use Rattle.ppddl_lex.specs.declared.keywords.TheConstants.{DEFINE, DOMAIN, PROBLEM}
use Rattle.ppddl_lex.specs.declared.refusal.LexRefusal.{LexRefusal}
use Rattle.ppddl_lex.specs.declared.refusal.LexRefusal.TheVariants as lex
use Rattle.ppddl_lex.specs.declared.token.Token.{Token}
use Rattle.ppddl_lex.specs.Lexemes.{tokens_of}
use Rattle.ppddl_model.specs.declared.refusal.TextCode.{TextCode}
use Rattle.ppddl_model.specs.declared.refusal.TextCode.TheVariants.{BadByte, Unbalanced, TooDeep, Expected, NoDomain, NoProblem, Twice}
use Rattle.ppddl_model.specs.declared.refusal.TextRefusal.{TextRefusal}
use Rattle.ppddl_model.specs.declared.refusal.TextRefusal.TheVariants.{Memory, At}
use Rattle.ppddl_model.specs.declared.tree.Domain.{Domain}
use Rattle.ppddl_model.specs.declared.tree.Problem.{Problem}
use Rattle.ppddl_model.specs.declared.tree.Task.{Task}
use Rattle.ppddl_forms.specs.names.Declarations.{Declared, nothing}
use Rattle.ppddl_cursor.specs.declared.place.Place.{Place}
use Rattle.ppddl_cursor.specs.Ahead.{Ahead, same}
use Rattle.ppddl_cursor.specs.Forms.{Form, Forms}
use Rattle.ppddl_cursor.specs.Pieces.{text_ahead, end_of_text}
use Rattle.ppddl_cursor.specs.Reading.{Fault, fails, one_at, all_at}
use Rattle.ppddl_cursor.specs.Sequences.{of_word, in_group, group_with, one_then, last, giving, each, begun}
use Rattle.ppddl_forms.specs.declared.name.Name.{Name}
use Rattle.ppddl_forms.specs.Sequences.{refused}
use Rattle.ppddl_forms.specs.Words.{name}
use Rattle.ppddl_reader.specs.domains.Domains.{domain}
use Rattle.ppddl_reader.specs.problems.Problems.{problem}
use Rattle.ppddl_reader.specs.declared.tasks.definition.Definition.{Definition}
use Rattle.ppddl_reader.specs.declared.tasks.definition.Definition.TheVariants as defined
use Rattle.ppddl_reader.specs.declared.tasks.task_draft.TaskDraft.{TaskDraft}
use Rattle.ppddl_reader.specs.declared.tasks.task_draft.TaskDraft.TheVariants.{Empty, OfDomain, Whole}

-- ---- headings

abbrev pub definition_of : List ℕ → Option Definition
definition_of w = if same w DOMAIN.now then Some defined.Domain else if same w PROBLEM.now then Some defined.Problem else None

abbrev pub allowed : TaskDraft → Definition → Place → Result (Unit {0}) Fault
allowed Empty defined.Domain a = Ok tt
allowed Empty defined.Problem a = fails NoDomain a
allowed (OfDomain d file names) defined.Domain a = fails Twice a
allowed (OfDomain d file names) defined.Problem a = Ok tt
allowed (Whole t) k a = fails Twice a

abbrev pub new_definition : TaskDraft → Option Definition → Place → Result (Unit {0}) Fault
new_definition s None a = fails Expected a
new_definition s (Some k) a = allowed s k a

unfoldable pub heading_word : TaskDraft → Form → Result (Unit {0}) Fault
heading_word s = of_word (λ w a. new_definition s (definition_of w) a)

unfoldable pub heading : TaskDraft → Form → Result Name Fault
heading s = in_group (one_then (heading_word s) (λ u. one_then name last))

abbrev pub opening : TaskDraft → Ahead → Result (Name × Ahead) Fault
opening s h = begun DEFINE.now h >>= one_at (heading s)

-- ---- definitions

abbrev pub with_domain : ℕ → Domain × Declared → TaskDraft
with_domain file x = OfDomain x.0 file x.1

abbrev pub with_problem : Domain → ℕ → Problem × Declared → TaskDraft
with_problem d file p = Whole (record { domain = d; domain_file = file; problem = p.0 })

-- behind its heading; no heading may stand behind both
abbrev pub body : TaskDraft → Name → Forms → Place → Result TaskDraft Fault
body Empty n = giving (with_domain n.place.file) (domain n.text nothing)
body (OfDomain d file names) n = giving (with_problem d file) (problem n d.name names)
body (Whole t) n = refused Twice n.place

unfoldable pub definition : TaskDraft → Form → Result TaskDraft Fault
definition s = group_with DEFINE.now (one_then (heading s) (body s))

unfoldable pub definitions : TaskDraft → Forms → Place → Result TaskDraft Fault
definitions = each definition

-- ---- texts

abbrev pub fault : TextCode → ℕ → ℕ → Fault
fault code file line = record { code = code; place = record { file = file; line = line } }

-- no text is at fault for want of memory
abbrev pub not_lexed : ℕ → LexRefusal → Fault
not_lexed n (lex.BadByte line) = fault BadByte n line
not_lexed n (lex.Unbalanced line) = fault Unbalanced n line
not_lexed n (lex.TooDeep line) = fault TooDeep n line
not_lexed n lex.Memory = fault Expected n 0

-- the same as a refusal
abbrev pub lex_refusal : ℕ → LexRefusal → TextRefusal
lex_refusal n (lex.BadByte line) = At BadByte n line
lex_refusal n (lex.Unbalanced line) = At Unbalanced n line
lex_refusal n (lex.TooDeep line) = At TooDeep n line
lex_refusal n lex.Memory = Memory

abbrev pub lexed_so : List ℕ → ℕ → Result (List Token) LexRefusal → Result Ahead Fault
lexed_so text n (Ok ts) = Ok (text_ahead text n ts)
lexed_so text n (Err e) = Err (not_lexed n e)

abbrev pub lexed : ℕ → List ℕ → Result Ahead Fault
lexed n text = lexed_so text n (tokens_of text)

abbrev pub finished : TaskDraft → Place → Result Task Fault
finished Empty e = fails NoDomain e
finished (OfDomain d file names) e = fails NoProblem e
finished (Whole t) e = Ok t

unfoldable pub task_of : List ℕ → Option (List ℕ) → Result Task Fault
task_of first None =
    lexed 1 first >>= λ h. all_at (definitions Empty) h >>= λ s. finished s (end_of_text first 1)
task_of first (Some second) =
    lexed 1 first >>= λ h. lexed 2 second >>= λ k.
    all_at (definitions Empty) h >>= λ s. all_at (definitions s) k >>= λ t. finished t (end_of_text second 2)
