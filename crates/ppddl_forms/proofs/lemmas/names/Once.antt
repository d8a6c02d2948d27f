-- Objects that are declared more than once are found as in the list of each once.
use Rattle.std.proofs.Common.{◌≡◌, Bool, true, not, cond, List, [], ◌∷◌, filter, Option, Some, None, refl, sym, ap, ◌∙◌, true≢false}
use Rattle.std.specs.List.{find}
use Rattle.std.specs.Option.{option_map}
use Rattle.ppddl_model.specs.declared.tree.ObjectDecl.{ObjectDecl}
use Rattle.ppddl_model.specs.Objects.{once}
use Rattle.ppddl_model.specs.State.{Name, same_name}
use Rattle.ppddl_model.proofs.States.{same_name-Decides}
use Rattle.ppddl_forms.specs.names.Declarations.{kind_named}
use Rattle.ppddl_forms.proofs.lemmas.names.Finding.{by_test}

-- what is left out and does not pass need not be there
find-filter : {X : Type 0} (p q : X → Bool) → ((x : X) → p x ≡ true → q x ≡ true) → (xs : List X) → find p (filter q xs) ≡ find p xs
find-filter p q keeps [] = refl
find-filter p q keeps (x ∷ xs) = by_test (q x)
    (λ e.
    ap (λ b. find p (cond b (x ∷ filter q xs) (filter q xs))) e
    ∙ ap (cond (p x) (Some x)) (find-filter p q keeps xs))
    (λ e.
    ap (λ b. find p (cond b (x ∷ filter q xs) (filter q xs))) e
    ∙ find-filter p q keeps xs
    ∙ by_test (p x)
    (λ passes. absurd (true≢false (sym (keeps x passes) ∙ e)))
    (λ fails. sym (ap (λ b. cond b (Some x) (find p xs)) fails)))

abbrev named : Name → ObjectDecl → Bool
named o x = same_name x.name o

find-once : (o : Name) (objects : List ObjectDecl) → find (named o) (once objects) ≡ find (named o) objects
find-once o [] = refl
find-once o (x ∷ objects) = by_test (named o x)
    (λ e. ap (λ b. cond b (Some x) (find (named o) (filter (λ (y : ObjectDecl). not (same_name y.name x.name)) (once objects)))) e ∙ sym (ap (λ b. cond b (Some x) (find (named o) objects)) e))
    (λ e. ap (cond (named o x) (Some x))
    (find-filter (named o) (λ (y : ObjectDecl). not (same_name y.name x.name))
    (λ y passes. by_test (same_name y.name x.name)
    (λ same. absurd (true≢false (sym passes ∙ ap (λ n. same_name n o) ((same_name-Decides y.name x.name).0 same) ∙ e)))
    (λ differs. ap not differs))
    (once objects) ∙ find-once o objects))

-- the type of an object, as a list of one
kind_alone : (found : Option ObjectDecl)
    → option_map (λ (x : ObjectDecl). x.kind ∷ []) found ≡ option_map (λ kind. kind ∷ []) (option_map (λ (x : ObjectDecl). x.kind) found)
kind_alone None = refl
kind_alone (Some x) = refl

pub kinds-once : (o : Name) (objects : List ObjectDecl)
    → option_map (λ (x : ObjectDecl). x.kind ∷ []) (find (named o) (once objects)) ≡ option_map (λ kind. kind ∷ []) (kind_named objects o)
kinds-once o objects = ap (option_map (λ (x : ObjectDecl). x.kind ∷ [])) (find-once o objects) ∙ kind_alone (find (named o) objects)
