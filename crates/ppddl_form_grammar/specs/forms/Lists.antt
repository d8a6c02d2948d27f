-- Which forms spell which typed lists of variables.
-- Source: PDDL 1.2 (McDermott et al. 1998): the types of a variable stand behind it; where none do, it is of type `object`.
--     IsType d f kind           the name of a type
--     AreTypes d f kinds        `NAME` or `( either NAME+ )`
--     Typed d fs ps             typed variables
--     Behind d kinds fs ps      what stands behind a variable of these types, up to which it goes: more variables
--     IsVariableList d f ps     `( VARIABLES )`, of which none stands twice
use Rattle.std.specs.Prelude.{◌≡◌, ◌≢◌, ℕ, List, [], ◌∷◌, map, true, AllPairs}
use Rattle.ppddl_lex.specs.declared.keywords.TheConstants.{EITHER}
use Rattle.ppddl_model.specs.declared.tree.Param.{Param}
use Rattle.ppddl_model.specs.WellFormed.{is_type}
use Rattle.ppddl_forms.specs.names.Declarations.{Declared}
use Rattle.ppddl_cursor.specs.declared.place.Place.{Place}
use Rattle.ppddl_cursor.specs.Forms.{Form, Forms, lone, group, none, more}
use Rattle.ppddl_forms.specs.declared.symbols.TheConstants.{DASH, OBJECT}
use Rattle.ppddl_form_grammar.specs.forms.Words.{headed, Each, IsName, IsVariable}

abbrev pub param_of : List ℕ → List (List ℕ) → Param
param_of v kinds = record { name = v; kinds = kinds }

-- no two are equal
abbrev pub AreDistinct : List (List ℕ) → Type 0
AreDistinct = AllPairs (λ v w. v ≢ w)

abbrev pub names_of : List Param → List (List ℕ)
names_of = map (λ (p : Param). p.name)

module _ (d : Declared) where
  pub data IsType : Form → List ℕ → Type 0 where
    known : {f : Form} {w : List ℕ} → IsName f w → is_type d.types w ≡ true → IsType f w

  pub data AreTypes : Form → List (List ℕ) → Type 0 where
    one : {f : Form} {kind : List ℕ} → IsType f kind → AreTypes f (kind ∷ [])
    either : {a c b : Place} {fs : Forms} {kind : List ℕ} {kinds : List (List ℕ)} → Each IsType fs (kind ∷ kinds) → AreTypes (headed a c EITHER.now fs b) (kind ∷ kinds)

  mutual
    pub data Typed : Forms → List Param → Type 0 where
      no_variable : Typed none []
      first : {f : Form} {fs : Forms} {v : List ℕ} {kinds : List (List ℕ)} {ps : List Param}
          → IsVariable f v → Behind kinds fs ps → Typed (more f fs) (param_of v kinds ∷ ps)

    pub data Behind : List (List ℕ) → Forms → List Param → Type 0 where
      untyped : Behind (OBJECT.now ∷ []) none []
      another : {f : Form} {fs : Forms} {v : List ℕ} {kinds : List (List ℕ)} {ps : List Param}
          → IsVariable f v → Behind kinds fs ps → Behind kinds (more f fs) (param_of v kinds ∷ ps)
      typed : {a : Place} {f : Form} {fs : Forms} {kinds : List (List ℕ)} {ps : List Param}
          → AreTypes f kinds → Typed fs ps → Behind kinds (more (lone DASH.now a) (more f fs)) ps

  pub data IsVariableList : Form → List Param → Type 0 where
    variables : {a b : Place} {fs : Forms} {ps : List Param} → Typed fs ps → AreDistinct (names_of ps) → IsVariableList (group a fs b) ps
