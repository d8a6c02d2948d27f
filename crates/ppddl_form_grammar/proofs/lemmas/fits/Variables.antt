-- Lists of variables that are read fit.
use Rattle.std.proofs.Common.{◌≡◌, zero, suc, Bool, true, false, not, ◌==◌, ◌&&◌, List, [], ◌∷◌, length, All, Ok, refl, ap, arith, get_or}
use Rattle.std.specs.List.{list_any, list_all}
use Rattle.std.proofs.lemmas.Bool.{and_from, ne_eqb, false_from_ne_true}
use Rattle.std.proofs.lemmas.List.Folds.{list_any_none}
use Rattle.ppddl_model.specs.declared.tree.Param.{Param}
use Rattle.ppddl_model.specs.State.{Name, same_name}
use Rattle.ppddl_model.specs.WellFormed.{are_distinct, is_type, has_types, params_fit}
use Rattle.ppddl_model.proofs.States.{same_name-Decides}
use Rattle.ppddl_forms.specs.names.Declarations.{Declared}
use Rattle.ppddl_cursor.specs.declared.place.Place.{Place}
use Rattle.ppddl_cursor.specs.Forms.{Form, Forms, group}
use Rattle.ppddl_cursor.specs.Sequences.{in_group}
use Rattle.ppddl_forms.specs.declared.symbols.TheConstants.{OBJECT}
use Rattle.ppddl_forms.specs.Variables.{variables, variable_list}
use Rattle.ppddl_form_grammar.specs.forms.Words as word
use Rattle.ppddl_form_grammar.specs.forms.Words.{Each}
use Rattle.ppddl_form_grammar.specs.forms.Lists as by
use Rattle.ppddl_form_grammar.specs.forms.Lists.{AreDistinct, names_of, IsType, AreTypes, Typed, Behind, IsVariableList}
use Rattle.ppddl_form_grammar.proofs.lemmas.forms.Lists.{list_derived}

-- ---- names of which no two are equal

pub distinct : (names : List Name) → AreDistinct names → are_distinct names ≡ true
distinct [] apart = refl
distinct (n ∷ ns) apart =
    let others : All (λ m. same_name n m ≡ false) ns =
    λ k m within. false_from_ne_true (same_name n (get_or ns k m))
    (λ same. apart zero (suc k) m (omega arith) (omega (arith, within)) ((same_name-Decides n (get_or ns k m)).0 same)) in
    let rest : AreDistinct ns = λ i j m before within. apart (suc i) (suc j) m (omega (arith, before)) (omega (arith, within)) in
    and_from (not (list_any (same_name n) ns)) (are_distinct ns) (ap not (list_any_none (same_name n) ns others)) (distinct ns rest)

some_kind : (kind : Name) (kinds : List Name) → not (length (kind ∷ kinds) == 0) ≡ true
some_kind kind kinds = ap not (ne_eqb (length (kind ∷ kinds)) 0 (λ none. omega (arith, none)))

module _ (d : Declared) where
  -- ---- types

  abbrev are_kinds : List Name → Bool
  are_kinds kinds = not (length kinds == 0) && list_all (is_type d.types) kinds

  each_type : (fs : Forms) (kinds : List Name) → Each (IsType d) fs kinds → list_all (is_type d.types) kinds ≡ true
  each_type fs kinds word.no_form = refl
  each_type fs kinds (word.one_more {fs = gs} {x = kind} {xs = others} (by.known named known) rest) =
      and_from (is_type d.types kind) (list_all (is_type d.types) others) known (each_type gs others rest)

  kinds_fit : (f : Form) (kinds : List Name) → AreTypes d f kinds → are_kinds kinds ≡ true
  kinds_fit f kinds (by.one {kind = kind} (by.known named known)) =
      and_from (not (length (kind ∷ []) == 0)) (list_all (is_type d.types) (kind ∷ [])) (some_kind kind []) (and_from (is_type d.types kind) true known refl)
  kinds_fit f kinds (by.either {fs = fs} {kind = kind} {kinds = others} each) =
      and_from (not (length (kind ∷ others) == 0)) (list_all (is_type d.types) (kind ∷ others)) (some_kind kind others) (each_type fs (kind ∷ others) each)

  object_kinds : are_kinds (OBJECT.now ∷ []) ≡ true
  object_kinds = refl

  -- ---- variables

  mutual
    typed_fit : (fs : Forms) (ps : List Param) → Typed d fs ps → list_all (has_types d.types) ps ≡ true
    typed_fit fs ps by.no_variable = refl
    typed_fit fs ps (by.first {fs = gs} {v = v} {kinds = kinds} {ps = qs} is behind) =
        let parts = behind_fit kinds gs qs behind in and_from (are_kinds kinds) (list_all (has_types d.types) qs) parts.0 parts.1

    behind_fit : (kinds : List Name) (fs : Forms) (ps : List Param) → Behind d kinds fs ps → (are_kinds kinds ≡ true) × (list_all (has_types d.types) ps ≡ true)
    behind_fit kinds fs ps by.untyped = (object_kinds, refl)
    behind_fit kinds fs ps (by.another {fs = gs} {ps = qs} is behind) =
        let parts = behind_fit kinds gs qs behind in (parts.0, and_from (are_kinds kinds) (list_all (has_types d.types) qs) parts.0 parts.1)
    behind_fit kinds fs ps (by.typed {f = f} {fs = gs} types typed) = (kinds_fit f kinds types, typed_fit gs ps typed)

  pub list_fits : (f : Form) (ps : List Param) → IsVariableList d f ps → params_fit d.types ps ≡ true
  list_fits f ps (by.variables {fs = fs} typed apart) =
      and_from (are_distinct (names_of ps)) (list_all (has_types d.types) ps) (distinct (names_of ps) apart) (typed_fit fs ps typed)

  pub variables_fit : (fs : Forms) (b : Place) (ps : List Param) → variables d fs b ≡ Ok ps → params_fit d.types ps ≡ true
  unfolding variable_list in_group
  variables_fit fs b ps is = list_fits (group b fs b) ps (list_derived d (group b fs b) ps is)
