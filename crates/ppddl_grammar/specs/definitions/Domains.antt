-- Which forms spell which domains.
-- Sources: PDDL 1.2 (McDermott et al. 1998), PDDL 2.1 (Fox and Long 2003), PPDDL 1.0. Sections stand in any order, each at most once but
-- `:action`, and what a section declares is in sight behind it.
--     IsSection x f y          `( FLAG .. )`, from what stood and is declared before it to what stood and is declared behind it
--     IsDomain name fs m d     SECTION*: the domain, and what it declares
use Rattle.std.specs.Prelude.{◌≡◌, ℕ, true, false, List, [], ◌∷◌, ◌++◌, Some, None}
use Rattle.std.specs.List.{list_any}
use Rattle.ppddl_lex.specs.declared.keywords.TheConstants.{ACTION_FLAG, PREDICATES_FLAG, REQUIREMENTS_FLAG}
use Rattle.ppddl_model.specs.declared.tree.Action.{Action}
use Rattle.ppddl_model.specs.declared.tree.Domain.{Domain}
use Rattle.ppddl_model.specs.declared.tree.ObjectDecl.{ObjectDecl}
use Rattle.ppddl_model.specs.declared.tree.PredicateDecl.{PredicateDecl}
use Rattle.ppddl_model.specs.declared.tree.TypeDecl.{TypeDecl}
use Rattle.ppddl_forms.specs.names.Declarations.{Declared, nothing, with_types, with_objects}
use Rattle.ppddl_cursor.specs.declared.place.Place.{Place}
use Rattle.ppddl_cursor.specs.Ahead.{same}
use Rattle.ppddl_cursor.specs.Forms.{Form, Forms}
use Rattle.ppddl_reader.specs.declared.sections.symbols.TheConstants.{TYPES_FLAG, CONSTANTS_FLAG, FUNCTIONS_FLAG}
use Rattle.ppddl_reader.specs.declared.domains.domain_draft.DomainDraft.{DomainDraft}
use Rattle.ppddl_reader.specs.domains.Actions.{names_of}
use Rattle.ppddl_reader.specs.domains.Domains.{no_sections, domain_of}
use Rattle.ppddl_form_grammar.specs.forms.Words.{headed}
use Rattle.ppddl_form_grammar.specs.lists.Objects.{IsObjectList}
use Rattle.ppddl_grammar.specs.fits.Fitting.{with_predicates, with_functions}
use Rattle.ppddl_grammar.specs.sections.Actions.{IsAction}
use Rattle.ppddl_grammar.specs.sections.Declarations.{IsPredicates, IsFunctions}
use Rattle.ppddl_grammar.specs.sections.Types.{IsTypes}
use Rattle.ppddl_grammar.specs.definitions.Folds.{Fold, AreFlags}

pub data IsSection : DomainDraft × Declared → Form → DomainDraft × Declared → Type 0 where
  requirements : {s : DomainDraft} {d : Declared} {a c b : Place} {fs : Forms}
      → s.requirements ≡ false → AreFlags fs → IsSection (s, d) (headed a c REQUIREMENTS_FLAG.now fs b) (record s { requirements = true }, d)
  types : {s : DomainDraft} {d : Declared} {a c b : Place} {fs : Forms} {ts : List TypeDecl}
      → s.types ≡ false → IsTypes d fs ts → IsSection (s, d) (headed a c TYPES_FLAG.now fs b) (record s { types = true }, with_types d ts)
  constants : {s : DomainDraft} {d : Declared} {a c b : Place} {fs : Forms} {os : List ObjectDecl}
      → s.constants ≡ None → IsObjectList d fs os → IsSection (s, d) (headed a c CONSTANTS_FLAG.now fs b) (record s { constants = Some os }, with_objects d os)
  predicates : {s : DomainDraft} {d : Declared} {a c b : Place} {fs : Forms} {ps : List PredicateDecl}
      → s.predicates ≡ false → IsPredicates d fs ps → IsSection (s, d) (headed a c PREDICATES_FLAG.now fs b) (record s { predicates = true }, with_predicates d ps)
  functions : {s : DomainDraft} {d : Declared} {a c b : Place} {fs : Forms} {ps : List PredicateDecl}
      → s.functions ≡ false → IsFunctions d fs ps → IsSection (s, d) (headed a c FUNCTIONS_FLAG.now fs b) (record s { functions = true }, with_functions d ps)
  action : {s : DomainDraft} {d : Declared} {a c b : Place} {fs : Forms} {x : Action}
      → IsAction d fs x → list_any (same x.name) (names_of s.actions) ≡ false
      → IsSection (s, d) (headed a c ACTION_FLAG.now fs b) (record s { actions = s.actions ++ x ∷ [] }, d)

pub data IsDomain (name : List ℕ) : Forms → Domain → Declared → Type 0 where
  domain : {fs : Forms} {s : DomainDraft} {d : Declared} → Fold IsSection (no_sections, nothing) fs (s, d) → IsDomain name fs (domain_of name s d) d
