-- Names that are put into a set one after another.
use Rattle.std.proofs.Common.{◌≡◌, ℕ, zero, suc, ◌+◌, ◌<◌, ◌≤◌, Bool, true, false, ◌||◌, List, [], ◌∷◌, ◌++◌, map, length, drop, drop-cons, get_or, add-one, if◌then◌else◌, refl, sym, ap, ◌∙◌, arith}
use Rattle.std.specs.Prelude.{flat_map}
use Rattle.std.specs.List.{list_any}
use Rattle.std.proofs.lemmas.List.Folds.{list_any-append}
use Rattle.ppddl_model.specs.State.{Name, same_name}
use Rattle.ppddl_model.proofs.States.{or_assoc, same_name-Decides}
use Rattle.type_table.specs.Numbered.{with_name}
use Rattle.type_table.proofs.Lists.{by_test}
use Rattle.task_instances.specs.fact_rows.Adding.{with_names}

pub names-append : (names xs ys : List Name) → with_names names (xs ++ ys) ≡ with_names (with_names names xs) ys
names-append names [] ys = refl
names-append names (x ∷ xs) ys = names-append (with_name names x) xs ys

drop_all : {X : Type 0} (i : ℕ) (xs : List X) → length xs ≤ i → drop i xs ≡ []
drop_all zero [] short = refl
drop_all (suc i) [] short = refl
drop_all zero (x ∷ xs) short = absurd (omega arith)
drop_all (suc i) (x ∷ xs) short = drop_all i xs (omega arith)

-- one item more, with all names that it gives
pub names_more : {X : Type 0} (f : X → List Name) (xs : List X) (i : ℕ) (x : X) (so_far next whole : List Name)
    → i < length xs → x ≡ get_or xs i x → next ≡ with_names so_far (f x)
    → with_names so_far (flat_map f (drop i xs)) ≡ whole → with_names next (flat_map f (drop (i + 1) xs)) ≡ whole
names_more f xs i x so_far next whole within is step before =
    ap (λ names. with_names names (flat_map f (drop (i + 1) xs))) step
    ∙ sym (names-append so_far (f x) (flat_map f (drop (i + 1) xs)))
    ∙ ap (with_names so_far)
    (sym (ap (flat_map f) (drop-cons xs i x within)
    ∙ ap (λ y. f y ++ flat_map f (drop (suc i) xs)) (sym is)
    ∙ ap (λ k. f x ++ flat_map f (drop k xs)) (sym (add-one i))))
    ∙ before

-- so where each item gives one name
pub name_more : {X : Type 0} (f : X → Name) (xs : List X) (i : ℕ) (x : X) (so_far next whole : List Name)
    → i < length xs → x ≡ get_or xs i x → next ≡ with_name so_far (f x)
    → with_names so_far (map f (drop i xs)) ≡ whole → with_names next (map f (drop (i + 1) xs)) ≡ whole
name_more f xs i x so_far next whole within is step before =
    ap (λ names. with_names names (map f (drop (i + 1) xs))) step
    ∙ sym (ap (λ l. with_names so_far (map f l)) (drop-cons xs i x within)
    ∙ ap (λ y. with_names so_far (f y ∷ map f (drop (suc i) xs))) (sym is)
    ∙ ap (λ k. with_names so_far (f x ∷ map f (drop k xs))) (sym (add-one i)))
    ∙ before

pub name_end : {X : Type 0} (f : X → Name) (xs : List X) (i : ℕ) (so_far whole : List Name) → length xs ≤ i
    → with_names so_far (map f (drop i xs)) ≡ whole → so_far ≡ whole
name_end f xs i so_far whole past before =
    sym (ap (λ l. with_names so_far (map f l)) (drop_all i xs past)) ∙ before

-- ---- members

or-false : (a : Bool) → (a || false) ≡ a
or-false true = refl
or-false false = refl

or-same : (a b : Bool) → (b ≡ true → a ≡ true) → a ≡ (a || b)
or-same true b all = refl
or-same false true all = all refl
or-same false false all = refl

-- a name that is there is the same as one that is asked for
there : (names : List Name) (q name : Name) → list_any (same_name name) names ≡ true → same_name q name ≡ true → list_any (same_name q) names ≡ true
there names q name found same =
    ap (λ n. list_any (same_name n) names) ((same_name-Decides q name).0 same) ∙ found

any-with_name : (names : List Name) (name q : Name) → list_any (same_name q) (with_name names name) ≡ (list_any (same_name q) names || same_name q name)
any-with_name names name q = by_test (list_any (same_name name) names)
    (λ e. ap (λ b. list_any (same_name q) (if b then names else names ++ name ∷ [])) e ∙ or-same (list_any (same_name q) names) (same_name q name) (there names q name e))
    (λ e. ap (λ b. list_any (same_name q) (if b then names else names ++ name ∷ [])) e ∙ list_any-append (same_name q) names (name ∷ [])
    ∙ ap (λ b. list_any (same_name q) names || b) (or-false (same_name q name)))

pub any-with_names : (names more : List Name) (q : Name) → list_any (same_name q) (with_names names more) ≡ (list_any (same_name q) names || list_any (same_name q) more)
any-with_names names [] q = sym (or-false (list_any (same_name q) names))
any-with_names names (name ∷ more) q =
    any-with_names (with_name names name) more q
    ∙ ap (λ b. b || list_any (same_name q) more) (any-with_name names name q)
    ∙ sym (or_assoc (list_any (same_name q) names) (same_name q name) (list_any (same_name q) more))
