-- The values of functions, item by item.
use Rattle.std.proofs.Common.{◌≡◌, ℕ, ◌+◌, ◌<◌, length, take, get_or, add-one, Bool, true, false, cond, if◌then◌else◌, List, [], ◌∷◌, ◌++◌, map, filter, Option, Some, None, refl, sym, ap, ◌∙◌, true≢false}
use Rattle.std.specs.Prelude.{min, fold, is_some}
use Rattle.std.specs.Option.{option_map, option_or}
use Rattle.std.specs.List.{find, reduce}
use Rattle.std.proofs.Math.Seq.{take-suc}
use Rattle.std.proofs.lemmas.List.Folds.{find-append}
use Rattle.std.proofs.lemmas.List.Elements.{filter-append}
use Rattle.ppddl_model.specs.declared.tree.ValueItem.{ValueItem}
use Rattle.ppddl_model.specs.State.{Name, same_name, GroundAtom}
use Rattle.ppddl_model.specs.Objects.{ground_atom}
use Rattle.ppddl_model.specs.Functions.{is_value_of, is_value_for}
use Rattle.ppddl_model.proofs.States.{same_name-Decides, same_atom-Decides}
use Rattle.ground_terms.specs.terms.Keys.{key_of}
use Rattle.ground_terms.specs.terms.Maps.{number_in, with_number, with_first, with_least, lower}
use Rattle.ground_terms.specs.terms.Values.{value_in_item, given, values_for, least_given, AreValues, AreLeast}
use Rattle.ground_terms.proofs.lemmas.terms.Keying.{keys_tell}
use Rattle.ground_terms.proofs.lemmas.terms.Mapping.{by_test, number-with_number}

-- ---- terms

map-or : (o p : Option ValueItem) → option_map value_in_item (option_or o p) ≡ option_or (option_map value_in_item o) (option_map value_in_item p)
map-or None p = refl
map-or (Some x) p = refl

map-cond : (b : Bool) (x : ValueItem) → option_map value_in_item (cond b (Some x) None) ≡ cond b (Some x.value) None
map-cond true x = refl
map-cond false x = refl

or_none : (o : Option ℕ) → option_or o None ≡ o
or_none None = refl
or_none (Some n) = refl

or_some : (o other : Option ℕ) → is_some o ≡ true → option_or o other ≡ o
or_some None other there = absurd (true≢false (sym there))
or_some (Some n) other there = refl

none_from : (o : Option ℕ) → is_some o ≡ false → o ≡ None
none_from None absent = refl
none_from (Some n) absent = absurd (true≢false absent)

given-push : (values : List ValueItem) (x : ValueItem) (t : GroundAtom)
    → given (values ++ x ∷ []) t ≡ option_or (given values t) (cond (is_value_of t x) (Some x.value) None)
given-push values x t =
    ap (option_map value_in_item) (find-append (is_value_of t) values (x ∷ []))
    ∙ map-or (find (is_value_of t) values) (find (is_value_of t) (x ∷ []))
    ∙ ap (option_or (given values t)) (map-cond (is_value_of t x) x)

-- one item more
pub values_push : (values : List ValueItem) (entries : List (Name × ℕ)) → AreValues values entries → (x : ValueItem)
    → AreValues (values ++ x ∷ []) (with_first entries (key_of (ground_atom [] x.function)) x.value)
values_push values entries are x t = here (is_some (number_in entries key)) refl ∙ sym (given-push values x t)
  where
    key : Name
    key = key_of (ground_atom [] x.function)

    here : (b : Bool) → is_some (number_in entries key) ≡ b
        → number_in (if b then entries else with_number entries key x.value) (key_of t) ≡ option_or (given values t) (cond (is_value_of t x) (Some x.value) None)
    here true there = are t ∙ by_test (is_value_of t x)
        (λ same.
        let found : is_some (given values t) ≡ true =
        ap is_some (sym (are t)) ∙ ap (λ q. is_some (number_in entries (key_of q))) ((same_atom-Decides t (ground_atom [] x.function)).0 same) ∙ there in
        sym (or_some (given values t) (cond (is_value_of t x) (Some x.value) None) found))
        (λ other. sym (ap (λ b. option_or (given values t) (cond b (Some x.value) None)) other ∙ or_none (given values t)))
    here false new =
        number-with_number entries key x.value (key_of t)
        ∙ ap (λ b. cond b (Some x.value) (number_in entries (key_of t))) (keys_tell (ground_atom [] x.function) t)
        ∙ by_test (is_value_of t x)
        (λ same.
        let absent : given values t ≡ None =
        sym (are t) ∙ ap (λ q. number_in entries (key_of q)) ((same_atom-Decides t (ground_atom [] x.function)).0 same) ∙ none_from (number_in entries key) new in
        ap (λ b. cond b (Some x.value) (number_in entries (key_of t))) same
        ∙ sym (ap (λ b. option_or (given values t) (cond b (Some x.value) None)) same ∙ ap (λ o. option_or o (Some x.value)) absent))
        (λ other.
        ap (λ b. cond b (Some x.value) (number_in entries (key_of t))) other ∙ are t
        ∙ sym (ap (λ b. option_or (given values t) (cond b (Some x.value) None)) other ∙ or_none (given values t)))

-- ---- functions

fold-push : (k : ℕ) (xs : List ℕ) (n : ℕ) → fold min k (xs ++ n ∷ []) ≡ min (fold min k xs) n
fold-push k [] n = refl
fold-push k (x ∷ xs) n = fold-push (min k x) xs n

reduce-push : (xs : List ℕ) (n : ℕ) → reduce min (xs ++ n ∷ []) ≡ Some (lower (reduce min xs) n)
reduce-push [] n = refl
reduce-push (x ∷ xs) n = ap Some (fold-push x xs n)

map-append : (xs ys : List ValueItem) → map value_in_item (xs ++ ys) ≡ map value_in_item xs ++ map value_in_item ys
map-append [] ys = refl
map-append (x ∷ xs) ys = ap (λ l. x.value ∷ l) (map-append xs ys)

nothing_more : (xs : List ℕ) → xs ++ [] ≡ xs
nothing_more [] = refl
nothing_more (x ∷ xs) = ap (λ l. x ∷ l) (nothing_more xs)

least-push : (values : List ValueItem) (x : ValueItem) (f : Name)
    → least_given (values ++ x ∷ []) f ≡ cond (is_value_for f x) (Some (lower (least_given values f) x.value)) (least_given values f)
least-push values x f =
    ap (λ l. reduce min (map value_in_item l)) (filter-append (is_value_for f) values (x ∷ []))
    ∙ ap (reduce min) (map-append (filter (is_value_for f) values) (filter (is_value_for f) (x ∷ [])))
    ∙ here (is_value_for f x)
  where
    here : (b : Bool) → reduce min (values_for values f ++ map value_in_item (cond b (x ∷ []) [])) ≡ cond b (Some (lower (least_given values f) x.value)) (least_given values f)
    here true = reduce-push (values_for values f) x.value
    here false = ap (reduce min) (nothing_more (values_for values f))

-- one item more
pub least_push : (values : List ValueItem) (entries : List (Name × ℕ)) → AreLeast values entries → (x : ValueItem)
    → AreLeast (values ++ x ∷ []) (with_least entries x.function.predicate x.value)
least_push values entries are x f =
    number-with_number entries x.function.predicate (lower (number_in entries x.function.predicate) x.value) f
    ∙ by_test (is_value_for f x)
    (λ same.
    let one : f ≡ x.function.predicate = (same_name-Decides f x.function.predicate).0 same in
    let back : same_name x.function.predicate f ≡ true = (same_name-Decides x.function.predicate f).1 (sym one) in
    ap (λ b. cond b (Some (lower (number_in entries x.function.predicate) x.value)) (number_in entries f)) back
    ∙ ap (λ o. Some (lower o x.value)) (ap (number_in entries) (sym one) ∙ are f)
    ∙ sym (ap (λ b. cond b (Some (lower (least_given values f) x.value)) (least_given values f)) same))
    (λ other.
    let back : same_name x.function.predicate f ≡ false =
    by_test (same_name x.function.predicate f)
    (λ t. absurd (true≢false (sym ((same_name-Decides f x.function.predicate).1 (sym ((same_name-Decides x.function.predicate f).0 t))) ∙ other)))
    (λ e. e) in
    ap (λ b. cond b (Some (lower (number_in entries x.function.predicate) x.value)) (number_in entries f)) back
    ∙ are f
    ∙ sym (ap (λ b. cond b (Some (lower (least_given values f) x.value)) (least_given values f)) other))
    ∙ sym (least-push values x f)

-- ---- a list, item by item

pub one_more : {X : Type 0} (xs : List X) (i : ℕ) (x : X) → i < length xs → x ≡ get_or xs i x → take (i + 1) xs ≡ take i xs ++ x ∷ []
one_more xs i x within is = ap (λ k. take k xs) (add-one i) ∙ take-suc xs i x within ∙ ap (λ y. take i xs ++ y ∷ []) (sym is)
