-- Objects that are read fit, and have names in lower case.
use Rattle.std.proofs.Common.{◌≡◌, true, List, refl}
use Rattle.std.specs.List.{list_all}
use Rattle.std.proofs.lemmas.Bool.{and_from}
use Rattle.ppddl_model.specs.declared.tree.ObjectDecl.{ObjectDecl}
use Rattle.ppddl_model.specs.State.{Name}
use Rattle.ppddl_forms.specs.names.Declarations.{Declared}
use Rattle.ppddl_cursor.specs.Forms.{Form, Forms}
use Rattle.ppddl_form_grammar.specs.forms.Words as word
use Rattle.ppddl_form_grammar.specs.forms.Words.{IsName}
use Rattle.ppddl_form_grammar.specs.lists.Objects as by
use Rattle.ppddl_form_grammar.specs.lists.Objects.{Typed, Behind, IsObjectList}
use Rattle.ppddl_form_grammar.proofs.lemmas.lists.Objects.{objects_derived}
use Rattle.ppddl_form_grammar.proofs.lemmas.fits.Objects.{objects-fit}
use Rattle.ppddl_form_grammar.proofs.lemmas.fits.Tests.{all-both}
use Rattle.ppddl_grammar.specs.fits.Laws.{ObjectsKeepFit, ObjectsHaveNames}
use Rattle.ppddl_grammar.specs.fits.Names.{is_lower_name, is_named_object, IsLower, AreLower}
use Rattle.ppddl_grammar.proofs.lemmas.fits.Lower.{lower_name}

pub objects-keep_fit : ObjectsKeepFit
objects-keep_fit d fs b os is fit =
    record { types = fit.types; objects = objects-fit d fs b os is fit.objects; predicates = fit.predicates; functions = fit.functions }

one_lower : (f : Form) (w : Name) → IsName f w → IsLower f → is_lower_name w ≡ true
one_lower f w (word.name named) lower = lower_name w named lower

module _ (d : Declared) where
  mutual
    typed_named : (fs : Forms) (os : List ObjectDecl) → Typed d fs os → AreLower fs → list_all is_named_object os ≡ true
    typed_named fs os by.no_object lower = refl
    typed_named fs os (by.first {f = f} {fs = gs} {o = o} {kind = kind} {os = others} named behind) lower =
        and_from (is_lower_name o) (list_all is_named_object others) (one_lower f o named lower.0) (behind_named kind gs others behind lower.1)

    behind_named : (kind : Name) (fs : Forms) (os : List ObjectDecl) → Behind d kind fs os → AreLower fs → list_all is_named_object os ≡ true
    behind_named kind fs os by.untyped lower = refl
    behind_named kind fs os (by.another {f = f} {fs = gs} {o = o} {os = others} named behind) lower =
        and_from (is_lower_name o) (list_all is_named_object others) (one_lower f o named lower.0) (behind_named kind gs others behind lower.1)
    behind_named kind fs os (by.typed {fs = gs} its_type typed) lower = typed_named gs os typed lower.1.1

  list_named : (fs : Forms) (os : List ObjectDecl) → IsObjectList d fs os → AreLower fs → list_all is_named_object os ≡ true
  list_named fs os (by.objects typed have) lower = typed_named fs os typed lower

pub objects-have_names : ObjectsHaveNames
objects-have_names d fs b os is lower have = record {
  types = have.types;
  objects = all-both is_named_object d.objects os have.objects (list_named d fs os (objects_derived d fs b os is) lower);
  predicates = have.predicates;
  functions = have.functions;
}
