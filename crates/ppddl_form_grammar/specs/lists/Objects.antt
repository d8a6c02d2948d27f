-- Which forms spell which typed lists of objects.
-- Source: PDDL 1.2 (McDermott et al. 1998): the type of an object stands behind it; where none does, it is of type `object`.
--     Typed d fs os             typed objects
--     Behind d kind fs os       what stands behind an object of this type, up to which it goes: more objects
--     HaveFirstTypes before os  each has the type of the first declaration of its name, among those before and these
--     IsObjectList d fs os      typed objects, of which none was declared with another type
use Rattle.std.specs.Prelude.{◌≡◌, ℕ, List, [], ◌∷◌, ◌++◌, All, Some}
use Rattle.ppddl_model.specs.declared.tree.ObjectDecl.{ObjectDecl}
use Rattle.ppddl_forms.specs.names.Declarations.{Declared, kind_named}
use Rattle.ppddl_cursor.specs.declared.place.Place.{Place}
use Rattle.ppddl_cursor.specs.Forms.{Form, Forms, lone, none, more}
use Rattle.ppddl_forms.specs.declared.symbols.TheConstants.{DASH, OBJECT}
use Rattle.ppddl_form_grammar.specs.forms.Words.{IsName}
use Rattle.ppddl_form_grammar.specs.forms.Lists.{IsType}

abbrev pub object_of : List ℕ → List ℕ → ObjectDecl
object_of name kind = record { name = name; kind = kind }

abbrev pub HaveFirstTypes : List ObjectDecl → List ObjectDecl → Type 0
HaveFirstTypes before os = All (λ (o : ObjectDecl). kind_named (before ++ os) o.name ≡ Some o.kind) os

module _ (d : Declared) where
  mutual
    pub data Typed : Forms → List ObjectDecl → Type 0 where
      no_object : Typed none []
      first : {f : Form} {fs : Forms} {o kind : List ℕ} {os : List ObjectDecl} → IsName f o → Behind kind fs os → Typed (more f fs) (object_of o kind ∷ os)

    pub data Behind : List ℕ → Forms → List ObjectDecl → Type 0 where
      untyped : Behind OBJECT.now none []
      another : {f : Form} {fs : Forms} {o kind : List ℕ} {os : List ObjectDecl} → IsName f o → Behind kind fs os → Behind kind (more f fs) (object_of o kind ∷ os)
      typed : {a : Place} {f : Form} {fs : Forms} {kind : List ℕ} {os : List ObjectDecl}
          → IsType d f kind → Typed fs os → Behind kind (more (lone DASH.now a) (more f fs)) os

  pub data IsObjectList : Forms → List ObjectDecl → Type 0 where
    objects : {fs : Forms} {os : List ObjectDecl} → Typed fs os → HaveFirstTypes d.objects os → IsObjectList fs os
