-- Objects that are read fit behind those that were declared.
use Rattle.std.proofs.Common.{◌≡◌, Bool, true, ◌&&◌, List, ◌++◌, refl}
use Rattle.std.specs.List.{list_all}
use Rattle.std.proofs.lemmas.Bool.{and_from}
use Rattle.ppddl_model.specs.declared.tree.ObjectDecl.{ObjectDecl}
use Rattle.ppddl_model.specs.State.{Name, same_name}
use Rattle.ppddl_model.specs.WellFormed.{is_plain, is_type, has_one_type, objects_fit}
use Rattle.ppddl_model.proofs.States.{same_name-Decides}
use Rattle.ppddl_forms.specs.names.Declarations.{Declared}
use Rattle.ppddl_cursor.specs.Forms.{Forms}
use Rattle.ppddl_forms.specs.objects.Objects.{objects}
use Rattle.ppddl_form_grammar.specs.forms.Words as word
use Rattle.ppddl_form_grammar.specs.forms.Lists as kind_by
use Rattle.ppddl_form_grammar.specs.lists.Objects as by
use Rattle.ppddl_form_grammar.specs.lists.Objects.{Typed, Behind, IsObjectList}
use Rattle.ppddl_form_grammar.proofs.lemmas.lists.Objects.{objects_derived}
use Rattle.ppddl_form_grammar.specs.fits.Laws.{ObjectsFit}
use Rattle.ppddl_form_grammar.proofs.lemmas.fits.Tests.{all-parts, all-join, all-both}
use Rattle.ppddl_form_grammar.proofs.lemmas.fits.Agreeing.{both_agree}
use Rattle.ppddl_form_grammar.proofs.lemmas.fits.Declared.{name_is_plain}

abbrev name_of : ObjectDecl → Name
name_of o = o.name

abbrev kind_of : ObjectDecl → Name
kind_of o = o.kind

module _ (d : Declared) where
  -- a plain name and a type
  abbrev is_proper : ObjectDecl → Bool
  is_proper o = is_plain o.name && is_type d.types o.kind

  mutual
    typed_fit : (fs : Forms) (os : List ObjectDecl) → Typed d fs os → list_all is_proper os ≡ true
    typed_fit fs os by.no_object = refl
    typed_fit fs os (by.first {fs = gs} {kind = kind} {os = others} (word.name {w = w} named) behind) =
        let parts = behind_fit kind gs others behind in
        and_from (is_plain w && is_type d.types kind) (list_all is_proper others) (and_from (is_plain w) (is_type d.types kind) (name_is_plain w named) parts.0) parts.1

    behind_fit : (kind : Name) (fs : Forms) (os : List ObjectDecl) → Behind d kind fs os → (is_type d.types kind ≡ true) × (list_all is_proper os ≡ true)
    behind_fit kind fs os by.untyped = (refl, refl)
    behind_fit kind fs os (by.another {fs = gs} {os = others} (word.name {w = w} named) behind) =
        let parts = behind_fit kind gs others behind in
        (parts.0, and_from (is_plain w && is_type d.types kind) (list_all is_proper others) (and_from (is_plain w) (is_type d.types kind) (name_is_plain w named) parts.0) parts.1)
    behind_fit kind fs os (by.typed {fs = gs} (kind_by.known named known) typed) = (known, typed_fit gs os typed)

  list_fits : (fs : Forms) (os : List ObjectDecl) → IsObjectList d fs os → objects_fit d.types d.objects ≡ true → objects_fit d.types (d.objects ++ os) ≡ true
  list_fits fs os (by.objects typed have) fit =
      let before = all-parts is_proper (has_one_type d.objects) d.objects fit in
      all-join is_proper (has_one_type (d.objects ++ os)) (d.objects ++ os)
      (all-both is_proper d.objects os before.0 (typed_fit fs os typed))
      (both_agree name_of kind_of same_name same_name same_name-Decides same_name-Decides d.objects os before.1 have)

pub objects-fit : ObjectsFit
objects-fit d fs b os is = list_fits d fs os (objects_derived d fs b os is)
