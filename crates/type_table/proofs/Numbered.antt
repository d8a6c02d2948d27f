-- Names and their numbers.
use Rattle.std.proofs.Common.{◌≡◌, ℕ, ◌+◌, ◌<◌, Bool, true, false, List, [], ◌∷◌, ◌++◌, length, map, Some, refl, sym, ap, subst, ◌∙◌, arith, nat_eq, if◌then◌else◌, eq-eqb, ne_eqb, length-append, Vec}
use Rattle.std.specs.Prelude.{Contains, cond, position}
use Rattle.std.specs.List.{list_any, position_or_len}
use Rattle.std.specs.Cmp.Lexicographic.{pointwise, texts_ties}
use Rattle.std.proofs.lemmas.List.Folds.{position_or_len_push}
use Rattle.std.proofs.lemmas.List.Elements.{Contains-get_or}
use Rattle.std.proofs.lemmas.Map.Views.{list_any-from_Contains}
use Rattle.std.proofs.lemmas.Cmp.{eq_by_cmp_equiv}
use Rattle.std.specs.Cmp.{nat_cmp_total}
use Rattle.std.specs.Cmp.Lexicographic.{lists_total}
use Rattle.std.proofs.lemmas.List.Quantifiers.{position-Some}
use Rattle.indexmap.specs.IndexSet.{insert_key}
use Rattle.ppddl_model.specs.State.{Name, same_name}
use Rattle.ppddl_model.proofs.States.{same_name-Decides}
use Rattle.type_table.specs.Numbered.{number_of, name_at, with_name}
use Rattle.type_table.specs.Reading.{items_of}
use Rattle.type_table.proofs.Lists.{by_test, place-map, position-map, any-map, placed, unplaced, position_at}

pub same_name_itself : (name : Name) → same_name name name ≡ true
same_name_itself name = (same_name-Decides name name).1 refl

-- ---- names as a set of vectors

abbrev is_vector_of : {A : Type 0} → Name → Vec ℕ A → Bool
is_vector_of name v = pointwise nat_eq name v.items

is_name_of : {A : Type 0} (name : Name) → is_vector_of {A = A} name ≡ (λ v. same_name name v.items)
is_name_of name = λ j v. texts_ties name v.items j

pub number-vectors : {A : Type 0} (vs : List (Vec ℕ A)) (name : Name) → position (is_vector_of name) vs ≡ number_of (map items_of vs) name
number-vectors vs name = ap (λ p. position p vs) (is_name_of name) ∙ position-map (same_name name) items_of vs

pub place-vectors : {A : Type 0} (vs : List (Vec ℕ A)) (name : Name) → position_or_len (is_vector_of name) vs ≡ position_or_len (same_name name) (map items_of vs)
place-vectors vs name = ap (λ p. position_or_len p vs) (is_name_of name) ∙ place-map (same_name name) items_of vs

any-vectors : {A : Type 0} (vs : List (Vec ℕ A)) (name : Name) → list_any (is_vector_of name) vs ≡ list_any (same_name name) (map items_of vs)
any-vectors vs name = ap (λ p. list_any p vs) (is_name_of name) ∙ any-map (same_name name) items_of vs

pub items-push : {A : Type 0} (vs : List (Vec ℕ A)) (v : Vec ℕ A) → map items_of (vs ++ v ∷ []) ≡ map items_of vs ++ v.items ∷ []
items-push [] v = refl
items-push (x ∷ vs) v = ap (λ names. x.items ∷ names) (items-push vs v)

pub with_vector : {A : Type 0} (vs : List (Vec ℕ A)) (v : Vec ℕ A)
    → map items_of (insert_key (λ a b. pointwise nat_eq a.items b.items) vs v) ≡ with_name (map items_of vs) v.items
with_vector vs v = by_test (list_any (same_name v.items) (map items_of vs))
    (λ e.
    ap (λ b. map items_of (if b then vs else vs ++ v ∷ [])) (any-vectors vs v.items ∙ e)
    ∙ sym (ap (λ b. if b then map items_of vs else map items_of vs ++ v.items ∷ []) e))
    (λ e.
    ap (λ b. map items_of (if b then vs else vs ++ v ∷ [])) (any-vectors vs v.items ∙ e)
    ∙ items-push vs v
    ∙ sym (ap (λ b. if b then map items_of vs else map items_of vs ++ v.items ∷ []) e))

module _ {A : Type 0} (vs : List (Vec ℕ A)) (v : Vec ℕ A) (names : List Name) (name : Name) (are : map items_of vs ≡ names) (is : v.items ≡ name) where
  pub vector_added : map items_of (insert_key (λ a b. pointwise nat_eq a.items b.items) vs v) ≡ with_name names name
  vector_added = with_vector vs v ∙ (λ i. with_name (are i) (is i))

  pub vector_placed : position_or_len (is_vector_of v.items) vs ≡ position_or_len (same_name name) names
  vector_placed = place-vectors vs v.items ∙ (λ i. position_or_len (same_name (is i)) (are i))

-- ---- the number of a name that is put in

with_name-there : (names : List Name) (name : Name) → list_any (same_name name) names ≡ true → with_name names name ≡ names
with_name-there names name e = ap (λ b. if b then names else names ++ name ∷ []) e

with_name-new : (names : List Name) (name : Name) → list_any (same_name name) names ≡ false → with_name names name ≡ names ++ name ∷ []
with_name-new names name e = ap (λ b. if b then names else names ++ name ∷ []) e

pub number-with_name : (names : List Name) (name : Name) → number_of (with_name names name) name ≡ Some (position_or_len (same_name name) names)
number-with_name names name =
    let p : Name → Bool = same_name name in
    by_test (list_any p names)
    (λ e. ap (λ all. number_of all name) (with_name-there names name e) ∙ position_at p names (placed p names e))
    (λ e.
    let last : position_or_len p names ≡ length names = unplaced p names e in
    let place : position_or_len p (names ++ name ∷ []) ≡ position_or_len p names =
    position_or_len_push p names name
    ∙ ap (λ b. cond b (length names + cond (p name) 0 1) (position_or_len p names)) (eq-eqb _ _ last)
    ∙ ap (λ b. length names + cond b 0 1) (same_name_itself name)
    ∙ (let sum : length names + 0 ≡ length names = omega arith in sum ∙ sym last) in
    let within : position_or_len p (names ++ name ∷ []) < length (names ++ name ∷ []) = omega (arith, place, last, length-append names (name ∷ [])) in
    ap (λ all. number_of all name) (with_name-new names name e) ∙ position_at p (names ++ name ∷ []) within ∙ ap Some place)

-- ---- what a number says

pub record IsNumber (names : List Name) (name : Name) (k : ℕ) : Type 0 where
  pub within : k < length names
  pub named : name_at names k ≡ name

pub number_is : (names : List Name) (name : Name) (k : ℕ) → number_of names name ≡ Some k → IsNumber names name k
number_is names name k is =
    let at = position-Some (same_name name) names k [] is in
    record { within = at.0; named = sym ((same_name-Decides name (name_at names k)).0 at.1) }

pub has_number : (names : List Name) (name : Name) (k : ℕ) → number_of names name ≡ Some k → list_any (same_name name) names ≡ true
has_number names name k is =
    let at = number_is names name k is in
    list_any-from_Contains (eq_by_cmp_equiv (lists_total nat_cmp_total)) name names (subst (Contains names) at.named (Contains-get_or names k [] at.within))

-- a name keeps its number where names are put behind
pub number-kept : (names : List Name) (other name : Name) (k : ℕ) → number_of names name ≡ Some k → number_of (with_name names other) name ≡ Some k
number-kept names other name k is =
    let p : Name → Bool = same_name name in
    by_test (list_any (same_name other) names)
    (λ e. ap (λ all. number_of all name) (with_name-there names other e) ∙ is)
    (λ e.
    let within : position_or_len p names < length names = placed p names (has_number names name k is) in
    let there : position p names ≡ Some (position_or_len p names) = position_at p names within in
    let kept : position_or_len p (names ++ other ∷ []) ≡ position_or_len p names =
    position_or_len_push p names other
    ∙ ap (λ b. cond b (length names + cond (p other) 0 1) (position_or_len p names)) (ne_eqb _ _ (omega (arith, within))) in
    ap (λ all. number_of all name) (with_name-new names other e)
    ∙ position_at p (names ++ other ∷ []) (omega (arith, kept, within, length-append names (other ∷ [])))
    ∙ ap Some kept ∙ sym there ∙ is)
