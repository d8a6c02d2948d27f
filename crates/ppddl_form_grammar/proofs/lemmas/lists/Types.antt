-- Objects have the types of the first declarations of their names: judged one behind the others, and all of them together.
--     InTurn before os          each agrees with those before it
--     together, in_turn         the one from the other
use Rattle.std.proofs.Common.{◌≡◌, Bool, true, false, not, cond, List, [], ◌∷◌, ◌++◌, Option, Some, None, All, refl, sym, ap, subst, ◌∙◌, append_assoc}
use Rattle.std.specs.List.{find}
use Rattle.std.specs.Option.{option_map, option_or}
use Rattle.std.proofs.lemmas.List.Elements.{All-nil, All-cons, All-head, All-tail}
use Rattle.std.proofs.lemmas.List.Folds.{find-append}
use Rattle.ppddl_model.specs.declared.tree.ObjectDecl.{ObjectDecl}
use Rattle.ppddl_model.specs.State.{Name, same_name}
use Rattle.ppddl_model.proofs.States.{same_name-Decides}
use Rattle.ppddl_forms.specs.names.Declarations.{kind_named}
use Rattle.ppddl_cursor.specs.Ahead.{same}
use Rattle.ppddl_form_grammar.proofs.lemmas.forms.Parts.{by_test, same_word, is_same}
use Rattle.ppddl_forms.specs.objects.Objects.{has_other}
use Rattle.ppddl_form_grammar.specs.lists.Objects.{HaveFirstTypes}

pub data InTurn : List ObjectDecl → List ObjectDecl → Type 0 where
  none_left : {before : List ObjectDecl} → InTurn before []
  next : {before os : List ObjectDecl} {o : ObjectDecl} → has_other (kind_named before o.name) o.kind ≡ false → InTurn (before ++ o ∷ []) os → InTurn before (o ∷ os)

abbrev kind_of : ObjectDecl → Name
kind_of o = o.kind

abbrev is_named : Name → ObjectDecl → Bool
is_named name o = same_name o.name name

-- the first declaration of a name, where more stands behind some
pub kind_both : (before os : List ObjectDecl) (name : Name) → kind_named (before ++ os) name ≡ option_or (kind_named before name) (kind_named os name)
kind_both before os name = ap (option_map kind_of) (find-append (is_named name) before os) ∙ mapped (find (is_named name) before) (find (is_named name) os)
  where
    mapped : (r s : Option ObjectDecl) → option_map kind_of (option_or r s) ≡ option_or (option_map kind_of r) (option_map kind_of s)
    mapped None s = refl
    mapped (Some o) s = refl

kind_first : (o : ObjectDecl) (os : List ObjectDecl) → kind_named (o ∷ os) o.name ≡ Some o.kind
kind_first o os = ap (λ b. option_map kind_of (cond b (Some o) (find (is_named o.name) os))) ((same_name-Decides o.name o.name).1 refl)

agrees : (r : Option Name) (kind : Name) → has_other r kind ≡ false → option_or r (Some kind) ≡ Some kind
agrees None kind alike = refl
agrees (Some known) kind alike = by_test (same known kind)
    (λ yes. ap (λ (k : Name). Some k) (same_word known kind yes))
    (λ other. absurd (let bad : true ≡ false = sym (ap not other) ∙ alike in cc))

no_other : (r : Option Name) (kind : Name) → option_or r (Some kind) ≡ Some kind → has_other r kind ≡ false
no_other None kind is = refl
no_other (Some known) kind is = let e : known ≡ kind = cc in ap not (subst (λ k. same known k ≡ true) e (is_same known))

-- the type of one behind those before it
here : (before os : List ObjectDecl) (o : ObjectDecl) → kind_named (before ++ o ∷ os) o.name ≡ option_or (kind_named before o.name) (Some o.kind)
here before os o = kind_both before (o ∷ os) o.name ∙ ap (option_or (kind_named before o.name)) (kind_first o os)

abbrev HasFirst : List ObjectDecl → ObjectDecl → Type 0
HasFirst all o = kind_named all o.name ≡ Some o.kind

pub together : (before os : List ObjectDecl) → InTurn before os → HaveFirstTypes before os
together before os none_left = All-nil (HasFirst (before ++ []))
together before os (next {os = rest} {o = o} agree others) =
    let front : (before ++ o ∷ []) ++ rest ≡ before ++ o ∷ rest = append_assoc before (o ∷ []) rest in
    let own : HasFirst (before ++ o ∷ rest) o = here before rest o ∙ agrees (kind_named before o.name) o.kind agree in
    All-cons (HasFirst (before ++ o ∷ rest)) o rest own (subst (λ all. All (HasFirst all) rest) front (together (before ++ o ∷ []) rest others))

pub in_turn : (before os : List ObjectDecl) → HaveFirstTypes before os → InTurn before os
in_turn before [] have = none_left
in_turn before (o ∷ rest) have =
    let front : (before ++ o ∷ []) ++ rest ≡ before ++ o ∷ rest = append_assoc before (o ∷ []) rest in
    let own : HasFirst (before ++ o ∷ rest) o = All-head (HasFirst (before ++ o ∷ rest)) o rest have in
    let agree : has_other (kind_named before o.name) o.kind ≡ false = no_other (kind_named before o.name) o.kind (sym (here before rest o) ∙ own) in
    next agree (in_turn (before ++ o ∷ []) rest (subst (λ all. All (HasFirst all) rest) (sym front) (All-tail (HasFirst (before ++ o ∷ rest)) o rest have)))
