-- Which forms spell which declarations of predicates and functions.
-- Source: PDDL 2.1 (Fox and Long 2003); all functions are numbers, which may stand behind a `-` or not.
--     IsDeclaration d f p       `( NAME VARIABLES )`
--     AreNew before ps          each has another name than those before it
--     IsPredicates d fs ps      declarations of predicates that are new
--     Functions d wait fs ps    declarations, and `- number` behind one or more of them; whether one waits for that
--     IsFunctions d fs ps       such declarations of functions that are new
use Rattle.std.specs.Prelude.{◌≡◌, ℕ, List, [], ◌∷◌, ◌++◌, Bool, true, false, None}
use Rattle.ppddl_model.specs.declared.tree.Param.{Param}
use Rattle.ppddl_model.specs.declared.tree.PredicateDecl.{PredicateDecl}
use Rattle.ppddl_forms.specs.names.Declarations.{Declared, predicate_named}
use Rattle.ppddl_cursor.specs.declared.place.Place.{Place}
use Rattle.ppddl_cursor.specs.Forms.{Form, Forms, lone, group, none, more}
use Rattle.ppddl_forms.specs.declared.symbols.TheConstants.{DASH}
use Rattle.ppddl_reader.specs.declared.sections.symbols.TheConstants.{NUMBER}
use Rattle.ppddl_reader.specs.sections.Predicates.{declaration}
use Rattle.ppddl_form_grammar.specs.forms.Lists.{IsVariableList}
use Rattle.ppddl_form_grammar.specs.forms.Words.{Each, IsName}

abbrev pub AreNew : List PredicateDecl → List PredicateDecl → Type 0
AreNew before [] = Unit {0}
AreNew before (p ∷ ps) = (predicate_named before p.name ≡ None) × AreNew (before ++ p ∷ []) ps

module _ (d : Declared) where
  pub data IsDeclaration : Form → PredicateDecl → Type 0 where
    declared : {a b : Place} {f : Form} {fs : Forms} {w : List ℕ} {ps : List Param}
        → IsName f w → IsVariableList d (group a fs b) ps → IsDeclaration (group a (more f fs) b) (declaration w ps)

  pub record IsPredicates (fs : Forms) (ps : List PredicateDecl) : Type 0 where
    pub each : Each IsDeclaration fs ps
    pub new : AreNew d.predicates ps

  pub data Functions : Bool → Forms → List PredicateDecl → Type 0 where
    no_function : {wait : Bool} → Functions wait none []
    another : {wait : Bool} {f : Form} {fs : Forms} {p : PredicateDecl} {ps : List PredicateDecl} → IsDeclaration f p → Functions true fs ps → Functions wait (more f fs) (p ∷ ps)
    numbers : {a c : Place} {fs : Forms} {ps : List PredicateDecl} → Functions false fs ps → Functions true (more (lone DASH.now a) (more (lone NUMBER.now c) fs)) ps

  pub record IsFunctions (fs : Forms) (ps : List PredicateDecl) : Type 0 where
    pub listed : Functions false fs ps
    pub new : AreNew d.functions ps
