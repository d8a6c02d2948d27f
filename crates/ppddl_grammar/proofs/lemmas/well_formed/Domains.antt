-- Domains that are read fit.
--     SoFar s d         what is known of a domain while its sections are read
--     IsRead m d        what is known of the whole domain, which has what was declared
use Rattle.std.proofs.Common.{◌≡◌, ℕ, true, false, All, List, [], ◌∷◌, ◌++◌, map, Option, Some, None, is_some, Result, Ok, Err, refl, sym, ap, subst, ◌∙◌, true≢false}
use Rattle.std.specs.List.{list_all}
use Rattle.std.proofs.lemmas.Bool.{and_from}
use Rattle.std.proofs.lemmas.List.{map-append}
use Rattle.std.proofs.lemmas.List.Elements.{All-nil, All-push}
use Rattle.plain_list.proofs.Results.{ok_is, test_fails}
use Rattle.ppddl_model.specs.declared.refusal.TextCode.{TextCode}
use Rattle.ppddl_model.specs.declared.tree.Action.{Action}
use Rattle.ppddl_model.specs.declared.tree.Domain.{Domain}
use Rattle.ppddl_model.specs.declared.tree.ObjectDecl.{ObjectDecl}
use Rattle.ppddl_model.specs.declared.tree.PredicateDecl.{PredicateDecl}
use Rattle.ppddl_model.specs.Draws.{EachDraw}
use Rattle.ppddl_model.specs.WellFormed.{are_distinct, action_fits, AreProbabilities}
use Rattle.ppddl_forms.specs.names.Declarations.{Declared, nothing, with_objects, world_of}
use Rattle.ppddl_cursor.specs.declared.place.Place.{Place}
use Rattle.ppddl_cursor.specs.Forms.{Form, Forms, lone, group}
use Rattle.ppddl_cursor.specs.Reading.{Fault}
use Rattle.ppddl_cursor.specs.Sequences.{of_word, one_then}
use Rattle.ppddl_forms.specs.objects.Objects.{objects}
use Rattle.ppddl_reader.specs.sections.Actions.{action}
use Rattle.ppddl_reader.specs.sections.Goals.{flags}
use Rattle.ppddl_reader.specs.sections.Predicates.{predicates, functions}
use Rattle.ppddl_reader.specs.sections.Types.{types}
use Rattle.ppddl_reader.specs.declared.domains.domain_draft.DomainDraft.{DomainDraft}
use Rattle.ppddl_reader.specs.declared.domains.section.Section.{Section}
use Rattle.ppddl_reader.specs.declared.domains.section.Section.TheVariants as section_named
use Rattle.ppddl_reader.specs.domains.Domains.{section_of, has_section, new_section, section_flag, no_sections, another_action, section_rest, section, sections, constants_given, domain}
use Rattle.ppddl_reader.specs.domains.Domains as by
use Rattle.ppddl_form_grammar.specs.fits.Growth.{AreKept, domain_of}
use Rattle.ppddl_form_grammar.proofs.lemmas.fits.Growth.{begins-same, begins-more, now, kept, kept-types, kept-objects}
use Rattle.ppddl_form_grammar.proofs.lemmas.fits.Tests.{all-weaker, all-both}
use Rattle.ppddl_grammar.specs.fits.Fitting.{IsFit, with_predicates, with_functions}
use Rattle.ppddl_grammar.specs.fits.Names.{IsLower, AreLower, HaveLowerNames}
use Rattle.ppddl_grammar.proofs.lemmas.fits.Lower.{lower-each}
use Rattle.ppddl_grammar.proofs.lemmas.fits.Types.{types-declared, types-keep_fit, types-have_names}
use Rattle.ppddl_grammar.proofs.lemmas.fits.Predicates.{predicates-declared, functions-declared, predicates-keep_fit, functions-keep_fit, predicates-have_names, functions-have_names}
use Rattle.ppddl_grammar.proofs.lemmas.fits.Objects.{objects-keep_fit, objects-have_names}
use Rattle.ppddl_grammar.proofs.lemmas.fits.Actions.{action-fits, action-draws, action-is_new, action-grows, action-has_name}
use Rattle.ppddl_grammar.proofs.lemmas.fits.Walks.{each-keeps}
use Rattle.ppddl_grammar.specs.well_formed.Names.{is_named_action}
use Rattle.ppddl_grammar.proofs.lemmas.well_formed.Parts.{then-split, group-split, giving-split, lower-inside, lower-rest}

abbrev pub names_of : List Action → List (List ℕ)
names_of = map (λ (a : Action). a.name)

-- by what was declared
abbrev pub Fit : Declared → List Action → Type 0
Fit d actions = list_all (action_fits (world_of d) (domain_of d)) actions ≡ true

abbrev pub Draw : List Action → Type 0
Draw = All (λ (a : Action). EachDraw AreProbabilities a.effect)

-- ---- flags

fresh_by : (s : DomainDraft) (r : Result Section TextCode) (a : Place) (k : Section) → new_section s r a ≡ Ok k → has_section s k ≡ false
fresh_by s (Err code) a k is = absurd cc
fresh_by s (Ok j) a k is = let t = test_fails (has_section s j) _ (Ok j) k is in subst (λ i. has_section s i ≡ false) (ok_is {E = Fault} j k t.1) t.0

-- a section that did not stand yet
fresh : (s : DomainDraft) (f : Form) (k : Section) → section_flag s f ≡ Ok k → has_section s k ≡ false
unfolding section_flag of_word
fresh s (lone w a) k is = fresh_by s (section_of w) a k is
fresh s (group a fs b) k is = absurd cc

none_given : (os : Option (List ObjectDecl)) → is_some os ≡ false → constants_given os ≡ []
none_given None is = refl
none_given (Some os) is = absurd cc

-- ---- what is declared later

kept-predicates : (d : Declared) (ps : List PredicateDecl) → AreKept d (with_predicates d ps)
kept-predicates d ps = record {
  types = begins-same d.types;
  objects = begins-same d.objects;
  predicates = begins-more d.predicates ps;
  functions = begins-same d.functions;
}

kept-functions : (d : Declared) (ps : List PredicateDecl) → AreKept d (with_functions d ps)
kept-functions d ps = record {
  types = begins-same d.types;
  objects = begins-same d.objects;
  predicates = begins-same d.predicates;
  functions = begins-more d.functions ps;
}

actions-grow : (d e : Declared) → AreKept d e → (actions : List Action) → Fit d actions → Fit e actions
actions-grow d e later =
    all-weaker (action_fits (world_of d) (domain_of d)) (action_fits (world_of e) (domain_of e))
    (action-grows d (world_of e) (domain_of e) (kept d e later (world_of e) (domain_of e) (now e)))

-- ---- sections

pub record SoFar (s : DomainDraft) (d : Declared) : Type 0 where
  pub fit : IsFit d
  pub types : s.types ≡ false → d.types ≡ []
  pub constants : d.objects ≡ constants_given s.constants
  pub distinct : are_distinct (names_of s.actions) ≡ true
  pub actions : Fit d s.actions
  pub draw : Draw s.actions
  pub names : HaveLowerNames d
  pub action_names : list_all is_named_action s.actions ≡ true

abbrev Holds : DomainDraft × Declared → Type 0
Holds x = SoFar x.0 x.1

nothing_read : SoFar no_sections nothing
nothing_read = record {
  fit = record { types = refl; objects = refl; predicates = refl; functions = refl };
  types = λ is. refl;
  constants = refl;
  distinct = refl;
  actions = refl;
  draw = All-nil (λ (a : Action). EachDraw AreProbabilities a.effect);
  names = record { types = refl; objects = refl; predicates = refl; functions = refl };
  action_names = refl;
}

module _ (s : DomainDraft) (d : Declared) (before : SoFar s d) (fs : Forms) (b : Place) (lower : AreLower fs) where
  types-read : (e : Declared) → types d fs b ≡ Ok e → s.types ≡ false → SoFar (record s { types = true }) e
  types-read e is new =
      let r = types-declared d fs b e is in
      record {
        fit = types-keep_fit d fs b e is (before.types new) before.fit;
        types = λ none. absurd (true≢false none);
        constants = ap (λ (x : Declared). x.objects) r.1 ∙ before.constants;
        distinct = before.distinct;
        actions = actions-grow d e (subst (AreKept d) (sym r.1) (kept-types d r.0)) s.actions before.actions;
        draw = before.draw;
        names = types-have_names d fs b e is lower before.names;
        action_names = before.action_names;
      }

  predicates-read : (e : Declared) → predicates d fs b ≡ Ok e → SoFar (record s { predicates = true }) e
  predicates-read e is =
      let r = predicates-declared d fs b e is in
      record {
        fit = predicates-keep_fit d fs b e is before.fit;
        types = λ none. ap (λ (x : Declared). x.types) r.1 ∙ before.types none;
        constants = ap (λ (x : Declared). x.objects) r.1 ∙ before.constants;
        distinct = before.distinct;
        actions = actions-grow d e (subst (AreKept d) (sym r.1) (kept-predicates d r.0)) s.actions before.actions;
        draw = before.draw;
        names = predicates-have_names d fs b e is lower before.names;
        action_names = before.action_names;
      }

  functions-read : (e : Declared) → functions d fs b ≡ Ok e → SoFar (record s { functions = true }) e
  functions-read e is =
      let r = functions-declared d fs b e is in
      record {
        fit = functions-keep_fit d fs b e is before.fit;
        types = λ none. ap (λ (x : Declared). x.types) r.1 ∙ before.types none;
        constants = ap (λ (x : Declared). x.objects) r.1 ∙ before.constants;
        distinct = before.distinct;
        actions = actions-grow d e (subst (AreKept d) (sym r.1) (kept-functions d r.0)) s.actions before.actions;
        draw = before.draw;
        names = functions-have_names d fs b e is lower before.names;
        action_names = before.action_names;
      }

  constants-read : (os : List ObjectDecl) → objects d fs b ≡ Ok os → is_some s.constants ≡ false → SoFar (record s { constants = Some os }) (with_objects d os)
  constants-read os is new = record {
    fit = objects-keep_fit d fs b os is before.fit;
    types = before.types;
    constants = ap (λ l. l ++ os) (before.constants ∙ none_given s.constants new);
    distinct = before.distinct;
    actions = actions-grow d (with_objects d os) (kept-objects d os) s.actions before.actions;
    draw = before.draw;
    names = objects-have_names d fs b os is lower before.names;
    action_names = before.action_names;
  }

  action-read : (a : Action) → action d (names_of s.actions) fs b ≡ Ok a → SoFar (record s { actions = s.actions ++ a ∷ [] }) d
  action-read a is = record {
    fit = before.fit;
    types = before.types;
    constants = before.constants;
    distinct = ap are_distinct (map-append (λ (x : Action). x.name) s.actions (a ∷ [])) ∙ action-is_new d (names_of s.actions) fs b a is before.distinct;
    actions =
        all-both (action_fits (world_of d) (domain_of d)) s.actions (a ∷ []) before.actions
        (and_from (action_fits (world_of d) (domain_of d) a) true (action-fits d (names_of s.actions) fs b a is (world_of d) (domain_of d) (now d)) refl);
    draw = All-push (λ (x : Action). EachDraw AreProbabilities x.effect) s.actions a before.draw (action-draws d (names_of s.actions) fs b a is);
    names = before.names;
    action_names =
        all-both is_named_action s.actions (a ∷ []) before.action_names
        (and_from (is_named_action a) true (action-has_name d (names_of s.actions) fs b a is lower) refl);
  }

  rest-read : (k : Section) (t : DomainDraft × Declared) → has_section s k ≡ false → section_rest s d k fs b ≡ Ok t → Holds t
  unfolding another_action
  rest-read section_named.Requirements t new is =
      let r = giving-split (λ u. (record s { requirements = true }, d)) flags fs b t is in
      subst Holds r.2 (record {
        fit = before.fit;
        types = before.types;
        constants = before.constants;
        distinct = before.distinct;
        actions = before.actions;
        draw = before.draw;
        names = before.names;
        action_names = before.action_names;
      })
  rest-read section_named.Types t new is =
      let r = giving-split (λ e. (record s { types = true }, e)) (types d) fs b t is in subst Holds r.2 (types-read r.0 r.1 new)
  rest-read section_named.Constants t new is =
      let r = giving-split (λ os. (record s { constants = Some os }, with_objects d os)) (objects d) fs b t is in subst Holds r.2 (constants-read r.0 r.1 new)
  rest-read section_named.Predicates t new is =
      let r = giving-split (λ e. (record s { predicates = true }, e)) (predicates d) fs b t is in subst Holds r.2 (predicates-read r.0 r.1)
  rest-read section_named.Functions t new is =
      let r = giving-split (λ e. (record s { functions = true }, e)) (functions d) fs b t is in subst Holds r.2 (functions-read r.0 r.1)
  rest-read section_named.Action t new is =
      let r = giving-split (λ actions. (record s { actions = actions }, d)) (another_action d s.actions) fs b t is in
      let q = giving-split (λ a. s.actions ++ a ∷ []) (action d (names_of s.actions)) fs b r.0 r.1 in
      subst Holds r.2 (subst (λ actions. Holds (record s { actions = actions }, d)) q.2 (action-read q.0 q.1))

section-read : (x : DomainDraft × Declared) (f : Form) (y : DomainDraft × Declared) → Holds x → IsLower f → section x f ≡ Ok y → Holds y
unfolding section
section-read x f y before lower is =
    let g = group-split (one_then (section_flag x.0) (section_rest x.0 x.1)) f y is in
    let r = then-split (section_flag x.0) (section_rest x.0 x.1) g.forms g.end y g.gives in
    let behind = lower-rest g.forms r.rest r.form r.forms (lower-inside f g.start g.end g.forms g.whole lower) in
    rest-read x.0 x.1 before r.rest g.end behind r.value y (fresh x.0 r.form r.value r.one) r.behind

-- ---- the domain

-- what is known of a domain that has what was declared
pub record IsRead (m : Domain) (d : Declared) : Type 0 where
  pub fit : IsFit d
  pub types : m.types ≡ d.types
  pub constants : m.constants ≡ d.objects
  pub predicates : m.predicates ≡ d.predicates
  pub functions : m.functions ≡ d.functions
  pub distinct : are_distinct (names_of m.actions) ≡ true
  pub actions : Fit d m.actions
  pub draw : Draw m.actions
  pub names : HaveLowerNames d
  pub action_names : list_all is_named_action m.actions ≡ true

pub domain-read : (name : List ℕ) (fs : Forms) (b : Place) (x : Domain × Declared) → AreLower fs → domain name nothing fs b ≡ Ok x → IsRead x.0 x.1
unfolding domain sections
domain-read name fs b x lower is =
    let r = giving-split (λ s. (by.domain_of name s.0 s.1, s.1)) (sections (no_sections, nothing)) fs b x is in
    let held : Holds r.0 = each-keeps section Holds IsLower section-read (no_sections, nothing) fs b r.0 nothing_read (lower-each fs lower) r.1 in
    subst (λ y. IsRead y.0 y.1) r.2 (record {
      fit = held.fit;
      types = refl;
      constants = sym held.constants;
      predicates = refl;
      functions = refl;
      distinct = held.distinct;
      actions = held.actions;
      draw = held.draw;
      names = held.names;
      action_names = held.action_names;
    })
