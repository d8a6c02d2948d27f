-- Domains: what is read is what is spelled.
--     section-cases      what holds of a flag that may stand
use Rattle.std.proofs.Common.{◌≡◌, ℕ, Bool, true, false, not, ◌&&◌, cond, List, ◌∷◌, [], ◌++◌, Option, Some, None, is_some, Result, Ok, Err, refl, sym, ap, subst, ◌∙◌}
use Rattle.plain_list.specs.Results.{◌>>=◌}
use Rattle.plain_list.proofs.Results.{bind_ok, ok_is, test_fails}
use Rattle.ppddl_lex.specs.declared.keywords.TheConstants.{ACTION_FLAG, PREDICATES_FLAG, REQUIREMENTS_FLAG}
use Rattle.ppddl_lex.specs.Words.{is_flag}
use Rattle.ppddl_model.specs.declared.refusal.TextCode.{TextCode}
use Rattle.ppddl_model.specs.declared.refusal.TextCode.TheVariants.{Expected, Unsupported, Twice}
use Rattle.ppddl_forms.specs.names.Declarations.{Declared, nothing, with_objects}
use Rattle.ppddl_cursor.specs.declared.place.Place.{Place}
use Rattle.ppddl_cursor.specs.Ahead.{same}
use Rattle.ppddl_cursor.specs.Forms.{Form, Forms, lone, group, none, more}
use Rattle.ppddl_cursor.specs.Reading.{Fault, fails}
use Rattle.ppddl_cursor.specs.Sequences.{of_word, in_group, one_then, giving}
use Rattle.ppddl_forms.specs.objects.Objects.{objects}
use Rattle.ppddl_reader.specs.declared.sections.symbols.TheConstants.{TYPES_FLAG, CONSTANTS_FLAG, FUNCTIONS_FLAG}
use Rattle.ppddl_reader.specs.sections.Actions as action_by
use Rattle.ppddl_reader.specs.sections.Goals.{flags}
use Rattle.ppddl_reader.specs.sections.Predicates as predicate_by
use Rattle.ppddl_reader.specs.sections.Types as type_by
use Rattle.ppddl_reader.specs.declared.domains.domain_draft.DomainDraft.{DomainDraft}
use Rattle.ppddl_reader.specs.declared.domains.section.Section.{Section}
use Rattle.ppddl_reader.specs.declared.domains.section.Section.TheVariants as section_named
use Rattle.ppddl_reader.specs.domains.Actions.{names_of}
use Rattle.ppddl_reader.specs.domains.Domains.{is_problem_flag, section_of, has_section, new_section, section_flag, no_sections, another_action, section_rest, section, sections, domain_of, domain}
use Rattle.ppddl_form_grammar.specs.forms.Words.{headed}
use Rattle.ppddl_form_grammar.proofs.lemmas.forms.Parts.{same_word, branch, giving_ok}
use Rattle.ppddl_form_grammar.proofs.lemmas.lists.Objects.{objects_derived, objects_accepted}
use Rattle.ppddl_grammar.proofs.lemmas.sections.Actions.{action-derived, action-accepted}
use Rattle.ppddl_grammar.proofs.lemmas.sections.Declarations.{predicates-derived, predicates-accepted}
use Rattle.ppddl_grammar.proofs.lemmas.sections.Functions.{functions-derived, functions-accepted}
use Rattle.ppddl_grammar.proofs.lemmas.sections.Types.{types-derived, types-accepted}
use Rattle.ppddl_grammar.specs.definitions.Domains as by
use Rattle.ppddl_grammar.specs.definitions.Domains.{IsSection, IsDomain}
use Rattle.ppddl_grammar.specs.definitions.Laws.{DomainIsDerived, DomainIsAccepted}
use Rattle.ppddl_grammar.proofs.lemmas.definitions.Folds.{each-derived, each-accepted, flags-derived, flags-accepted}

none_is : {A : Type 0} (o : Option A) → is_some o ≡ false → o ≡ None
none_is None is = refl
none_is (Some x) is = absurd cc

-- ---- flags

module _ (s : DomainDraft) (P : Form → Section → Type 0) where
  abbrev Given : List ℕ → Section → Type 0
  Given flag k = (a : Place) → has_section s k ≡ false → P (lone flag a) k

  taken : (flag : List ℕ) (j : Section) → Given flag j → (w : List ℕ) (a : Place) (k : Section) → same w flag ≡ true → new_section s (Ok j) a ≡ Ok k → P (lone w a) k
  taken flag j given w a k alike is =
      let t = test_fails (has_section s j) _ (Ok j) k is in
      subst (P (lone w a)) (ok_is {E = Fault} j k t.1) (subst (λ v. P (lone v a) j) (sym (same_word w flag alike)) (given a t.0))

  refused : (b : Bool) (w : List ℕ) (a : Place) (k : Section) → new_section s (cond b (Err Unsupported) (Err Expected)) a ≡ Ok k → P (lone w a) k
  refused true w a k is = absurd cc
  refused false w a k is = absurd cc

  module _ (requirements : Given REQUIREMENTS_FLAG.now section_named.Requirements) (types : Given TYPES_FLAG.now section_named.Types)
      (constants : Given CONSTANTS_FLAG.now section_named.Constants) (predicates : Given PREDICATES_FLAG.now section_named.Predicates)
      (functions : Given FUNCTIONS_FLAG.now section_named.Functions) (action : Given ACTION_FLAG.now section_named.Action) where
    word-cases : (w : List ℕ) (a : Place) (k : Section) → new_section s (section_of w) a ≡ Ok k → P (lone w a) k
    word-cases w a k =
        let Q : Result Section TextCode → Type 0 = λ r. new_section s r a ≡ Ok k → P (lone w a) k in
        branch Q (same w REQUIREMENTS_FLAG.now) (Ok section_named.Requirements) _ (taken REQUIREMENTS_FLAG.now section_named.Requirements requirements w a k)
        (λ one. branch Q (same w TYPES_FLAG.now) (Ok section_named.Types) _ (taken TYPES_FLAG.now section_named.Types types w a k)
        (λ two. branch Q (same w CONSTANTS_FLAG.now) (Ok section_named.Constants) _ (taken CONSTANTS_FLAG.now section_named.Constants constants w a k)
        (λ three. branch Q (same w PREDICATES_FLAG.now) (Ok section_named.Predicates) _ (taken PREDICATES_FLAG.now section_named.Predicates predicates w a k)
        (λ four. branch Q (same w FUNCTIONS_FLAG.now) (Ok section_named.Functions) _ (taken FUNCTIONS_FLAG.now section_named.Functions functions w a k)
        (λ five. branch Q (same w ACTION_FLAG.now) (Ok section_named.Action) _ (taken ACTION_FLAG.now section_named.Action action w a k)
        (λ six. refused (is_flag w && not (is_problem_flag w)) w a k))))))

    section-cases : (f : Form) (k : Section) → section_flag s f ≡ Ok k → P f k
    unfolding section_flag of_word
    section-cases (lone w a) k is = word-cases w a k is
    section-cases (group a fs b) k is = absurd cc

-- ---- what is read

-- what is known of a flag, with what stands behind it
module _ (s : DomainDraft) (d : Declared) where
  abbrev Behind : Form → Section → Type 0
  Behind f k = (a : Place) (fs : Forms) (b : Place) (y : DomainDraft × Declared) → section_rest s d k fs b ≡ Ok y → IsSection (s, d) (group a (more f fs) b) y

  abbrev To : Place → Place → List ℕ → Forms → Place → DomainDraft × Declared → Type 0
  To a c flag fs b = IsSection (s, d) (headed a c flag fs b)

  requirements-derived : (c : Place) → s.requirements ≡ false → Behind (lone REQUIREMENTS_FLAG.now c) section_named.Requirements
  requirements-derived c new a fs b y is =
      let r = giving_ok (λ u. (record s { requirements = true }, d)) flags fs b y is in
      subst (To a c REQUIREMENTS_FLAG.now fs b) r.2 (by.requirements new (flags-derived fs b r.0 r.1))

  types-read : (c : Place) → s.types ≡ false → Behind (lone TYPES_FLAG.now c) section_named.Types
  types-read c new a fs b y is =
      let r = giving_ok (λ e. (record s { types = true }, e)) (type_by.types d) fs b y is in
      let q = types-derived d fs b r.0 r.1 in
      subst (To a c TYPES_FLAG.now fs b) (ap (λ e. (record s { types = true }, e)) (sym q.1) ∙ r.2) (by.types new q.2)

  constants-read : (c : Place) → is_some s.constants ≡ false → Behind (lone CONSTANTS_FLAG.now c) section_named.Constants
  constants-read c new a fs b y is =
      let r = giving_ok (λ os. (record s { constants = Some os }, with_objects d os)) (objects d) fs b y is in
      subst (To a c CONSTANTS_FLAG.now fs b) r.2 (by.constants (none_is s.constants new) (objects_derived d fs b r.0 r.1))

  predicates-read : (c : Place) → s.predicates ≡ false → Behind (lone PREDICATES_FLAG.now c) section_named.Predicates
  predicates-read c new a fs b y is =
      let r = giving_ok (λ e. (record s { predicates = true }, e)) (predicate_by.predicates d) fs b y is in
      let q = predicates-derived d fs b r.0 r.1 in
      subst (To a c PREDICATES_FLAG.now fs b) (ap (λ e. (record s { predicates = true }, e)) (sym q.1) ∙ r.2) (by.predicates new q.2)

  functions-read : (c : Place) → s.functions ≡ false → Behind (lone FUNCTIONS_FLAG.now c) section_named.Functions
  functions-read c new a fs b y is =
      let r = giving_ok (λ e. (record s { functions = true }, e)) (predicate_by.functions d) fs b y is in
      let q = functions-derived d fs b r.0 r.1 in
      subst (To a c FUNCTIONS_FLAG.now fs b) (ap (λ e. (record s { functions = true }, e)) (sym q.1) ∙ r.2) (by.functions new q.2)

  action-read : (c : Place) → false ≡ false → Behind (lone ACTION_FLAG.now c) section_named.Action
  unfolding another_action
  action-read c new a fs b y is =
      let r = giving_ok (λ actions. (record s { actions = actions }, d)) (another_action d s.actions) fs b y is in
      let q = giving_ok (λ x. s.actions ++ x ∷ []) (action_by.action d (names_of s.actions)) fs b r.0 r.1 in
      let x = action-derived d (names_of s.actions) fs b q.0 q.1 in
      subst (To a c ACTION_FLAG.now fs b) (ap (λ actions. (record s { actions = actions }, d)) q.2 ∙ r.2) (by.action x.0 x.1)

section-derived : (x : DomainDraft × Declared) (f : Form) (y : DomainDraft × Declared) → section x f ≡ Ok y → IsSection x f y
unfolding section in_group one_then
section-derived x (lone w a) y is = absurd cc
section-derived x (group a none b) y is = absurd cc
section-derived x (group a (more f fs) b) y is =
    let r = bind_ok (section_flag x.0 f) (λ k. section_rest x.0 x.1 k fs b) y is in
    section-cases x.0 (Behind x.0 x.1) (requirements-derived x.0 x.1) (types-read x.0 x.1) (constants-read x.0 x.1) (predicates-read x.0 x.1) (functions-read x.0 x.1)
    (action-read x.0 x.1) f r.0 r.1 a fs b y r.2

pub domain-derived : DomainIsDerived
unfolding domain sections
domain-derived name fs b m d is =
    let r = giving_ok (λ s. (domain_of name s.0 s.1, s.1)) (sections (no_sections, nothing)) fs b (m, d) is in
    let spelled = each-derived section IsSection section-derived (no_sections, nothing) fs b r.0 r.1 in
    subst (λ y. IsDomain name fs y.0 y.1) r.2 (by.domain spelled)

-- ---- what is spelled

-- a flag that may stand, and what stands behind it
accepted : (s : DomainDraft) (d : Declared) (k : Section) (c : Place) (fs : Forms) (b : Place) (y : DomainDraft × Declared) → has_section s k ≡ false → section_rest s d k fs b ≡ Ok y
    → (new_section s (Ok k) c >>= λ j. section_rest s d j fs b) ≡ Ok y
accepted s d k c fs b y new rest = ap (λ t. cond t (fails Twice c) (Ok k) >>= λ j. section_rest s d j fs b) new ∙ rest

section-accepted : (x : DomainDraft × Declared) (f : Form) (y : DomainDraft × Declared) → IsSection x f y → section x f ≡ Ok y
unfolding section in_group one_then section_flag of_word giving another_action
section-accepted x f y (by.requirements {s = s} {d = d} {c = c} {b = b} {fs = fs} new spelled) =
    accepted s d section_named.Requirements c fs b y new (ap (λ r. r >>= λ u. Ok (record s { requirements = true }, d)) (flags-accepted fs spelled b))
section-accepted x f y (by.types {s = s} {d = d} {c = c} {b = b} {fs = fs} {ts = ts} new spelled) =
    accepted s d section_named.Types c fs b y new (ap (λ r. r >>= λ e. Ok (record s { types = true }, e)) (types-accepted d fs b ts spelled))
section-accepted x f y (by.constants {s = s} {d = d} {c = c} {b = b} {fs = fs} {os = os} new spelled) =
    accepted s d section_named.Constants c fs b y (ap is_some new) (ap (λ r. r >>= λ l. Ok (record s { constants = Some l }, with_objects d l)) (objects_accepted d fs b os spelled))
section-accepted x f y (by.predicates {s = s} {d = d} {c = c} {b = b} {fs = fs} {ps = ps} new spelled) =
    accepted s d section_named.Predicates c fs b y new (ap (λ r. r >>= λ e. Ok (record s { predicates = true }, e)) (predicates-accepted d fs b ps spelled))
section-accepted x f y (by.functions {s = s} {d = d} {c = c} {b = b} {fs = fs} {ps = ps} new spelled) =
    accepted s d section_named.Functions c fs b y new (ap (λ r. r >>= λ e. Ok (record s { functions = true }, e)) (functions-accepted d fs b ps spelled))
section-accepted x f y (by.action {s = s} {d = d} {c = c} {b = b} {fs = fs} {x = one} spelled new) =
    accepted s d section_named.Action c fs b y refl
    (ap (λ r. (r >>= λ a. Ok (s.actions ++ a ∷ [])) >>= λ actions. Ok (record s { actions = actions }, d)) (action-accepted d (names_of s.actions) fs b one spelled new))

pub domain-accepted : DomainIsAccepted
unfolding domain sections giving
domain-accepted name fs b m d (by.domain {s = s} {d = e} spelled) =
    ap (λ r. r >>= λ x. Ok (domain_of name x.0 x.1, x.1)) (each-accepted section IsSection section-accepted (no_sections, nothing) fs (s, e) spelled b)
