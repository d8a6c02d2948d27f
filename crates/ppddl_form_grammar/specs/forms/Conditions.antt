-- Which forms spell which conditions, over what is declared and the variables in sight.
-- Source: PDDL 2.1 (Fox and Long 2003).
--     IsCondition d s f c       f spells the condition c
--     Conditions d s fs cs      each form spells a condition
use Rattle.std.specs.Prelude.{ℕ, List, [], ◌∷◌}
use Rattle.ppddl_lex.specs.declared.keywords.TheConstants.{NOT, AND, OR, IMPLY, EXISTS, FORALL}
use Rattle.ppddl_model.specs.declared.tree.Atom.{Atom}
use Rattle.ppddl_model.specs.declared.tree.Condition.{Condition}
use Rattle.ppddl_model.specs.declared.tree.Condition.TheVariants as tree
use Rattle.ppddl_model.specs.declared.tree.Param.{Param}
use Rattle.ppddl_model.specs.declared.tree.Term.{Term}
use Rattle.ppddl_forms.specs.names.Declarations.{Declared}
use Rattle.ppddl_cursor.specs.declared.place.Place.{Place}
use Rattle.ppddl_cursor.specs.Forms.{Form, Forms, group, none, more}
use Rattle.ppddl_forms.specs.declared.symbols.TheConstants.{EQUAL}
use Rattle.ppddl_forms.specs.Terms.{Scope}
use Rattle.ppddl_form_grammar.specs.forms.Words.{forms, headed}
use Rattle.ppddl_form_grammar.specs.forms.Terms.{IsTerm, IsAtom}
use Rattle.ppddl_form_grammar.specs.forms.Lists.{IsVariableList}

module _ (d : Declared) where
  mutual
    pub data IsCondition : Scope → Form → Condition → Type 0 where
      truth : {s : Scope} {a b : Place} → IsCondition s (group a none b) (tree.All [])
      atomic : {s : Scope} {f : Form} {x : Atom} → IsAtom d s f x → IsCondition s f (tree.Atom x)
      equality : {s : Scope} {a c b : Place} {f g : Form} {x y : Term} {kinds others : List (List ℕ)}
          → IsTerm d s f x kinds → IsTerm d s g y others → IsCondition s (headed a c EQUAL.now (forms (f ∷ g ∷ [])) b) (tree.Equal x y)
      negation : {s : Scope} {a c b : Place} {f : Form} {x : Condition} → IsCondition s f x → IsCondition s (headed a c NOT.now (forms (f ∷ [])) b) (tree.Not x)
      conjunction : {s : Scope} {a c b : Place} {fs : Forms} {xs : List Condition} → Conditions s fs xs → IsCondition s (headed a c AND.now fs b) (tree.All xs)
      disjunction : {s : Scope} {a c b : Place} {fs : Forms} {xs : List Condition} → Conditions s fs xs → IsCondition s (headed a c OR.now fs b) (tree.Any xs)
      implication : {s : Scope} {a c b : Place} {f g : Form} {x y : Condition}
          → IsCondition s f x → IsCondition s g y → IsCondition s (headed a c IMPLY.now (forms (f ∷ g ∷ [])) b) (tree.Imply x y)
      existence : {s : Scope} {a c b : Place} {f g : Form} {ps : List Param} {x : Condition}
          → IsVariableList d f ps → IsCondition (ps ∷ s) g x → IsCondition s (headed a c EXISTS.now (forms (f ∷ g ∷ [])) b) (tree.Exists ps x)
      universality : {s : Scope} {a c b : Place} {f g : Form} {ps : List Param} {x : Condition}
          → IsVariableList d f ps → IsCondition (ps ∷ s) g x → IsCondition s (headed a c FORALL.now (forms (f ∷ g ∷ [])) b) (tree.Forall ps x)

    pub data Conditions : Scope → Forms → List Condition → Type 0 where
      no_condition : {s : Scope} → Conditions s none []
      one_more : {s : Scope} {f : Form} {fs : Forms} {x : Condition} {xs : List Condition} → IsCondition s f x → Conditions s fs xs → Conditions s (more f fs) (x ∷ xs)
