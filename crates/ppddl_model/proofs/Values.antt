-- A function term that has a value costs at least the least value of its function.
use Rattle.std.proofs.Common.{◌≡◌, ℕ, ◌≤◌, min, Bool, true, false, cond, List, [], ◌∷◌, map, Option, Some, None, refl, subst, arith}
use Rattle.std.specs.Prelude.{All, filter, is_some, unwrap_or, IfSome}
use Rattle.std.specs.List.{find, fold}
use Rattle.std.specs.Option.{option_map}
use Rattle.std.proofs.lemmas.List.Elements.{All-nil, All-cons, All-head, All-tail}
use Rattle.ppddl_model.specs.declared.tree.ValueItem.{ValueItem}
use Rattle.ppddl_model.specs.State.{Name}
use Rattle.ppddl_model.specs.Objects.{World, ground_atom}
use Rattle.ppddl_model.specs.Functions.{is_value_of, has_value, cost_of, least_or, is_value_for, least_value}
use Rattle.ppddl_model.proofs.Lists.{All-from_map}
use Rattle.ppddl_model.proofs.States.{same_name-Decides, same_atom-Decides}

-- ---- the least of some numbers

least-le_first : (first : ℕ) (numbers : List ℕ) → fold min first numbers ≤ first
least-le_first first [] = omega arith
least-le_first first (n ∷ numbers) = let later : fold min (min first n) numbers ≤ min first n = least-le_first (min first n) numbers in omega arith

least-le_later : (first : ℕ) (numbers : List ℕ) → All (λ n. fold min first numbers ≤ n) numbers
least-le_later first [] = All-nil (λ n. first ≤ n)
least-le_later first (n ∷ numbers) =
    let least : ℕ = fold min (min first n) numbers in
    let here : least ≤ min first n = least-le_first (min first n) numbers in
    All-cons (λ m. least ≤ m) n numbers (omega arith) (least-le_later (min first n) numbers)

pub least_or-le_each : (d : ℕ) (numbers : List ℕ) → All (λ n. least_or d numbers ≤ n) numbers
least_or-le_each d [] = All-nil (λ n. d ≤ n)
least_or-le_each d (n ∷ numbers) = All-cons (λ m. fold min n numbers ≤ m) n numbers (least-le_first n numbers) (least-le_later n numbers)

-- ---- the value of a term

All-behind : {X : Type 0} (P : X → Type 0) (b : Bool) (x : X) (xs : List X) → All P (cond b (x ∷ xs) xs) → All P xs
All-behind P true x xs each = All-tail P x xs each
All-behind P false x xs each = each

-- what holds of each that passes a weaker test holds of the first that passes
IfSome-find : {X : Type 0} (P : X → Type 0) (p q : X → Bool) → ((x : X) → p x ≡ true → q x ≡ true)
    → (xs : List X) → All P (filter q xs) → IfSome (find p xs) P
IfSome-find P p q weaker [] each = tt
IfSome-find P p q weaker (x ∷ xs) each =
    elim (p x) as (λ b. p x ≡ b → IfSome (cond b (Some x) (find p xs)) P) [
      | true ↦ λ passes. All-head P x (filter q xs) (subst (λ b. All P (cond b (x ∷ filter q xs) (filter q xs))) (weaker x passes) each)
      | false ↦ λ _. IfSome-find P p q weaker xs (All-behind P (q x) x (filter q xs) each)
    ] refl

value-le : (n : ℕ) (found : Option ValueItem) → is_some (option_map (λ (item : ValueItem). item.value) found) ≡ true
    → IfSome found (λ item. n ≤ item.value) → n ≤ unwrap_or (option_map (λ (item : ValueItem). item.value) found) 0
value-le n None valued above = absurd cc
value-le n (Some item) valued above = above

is_value_for-is_value_of : (f : Name) (args : List Name) (item : ValueItem) → is_value_of (f ∷ args) item ≡ true → is_value_for f item ≡ true
is_value_for-is_value_of f args item same =
    let whole : f ∷ args ≡ ground_atom [] item.function = (same_atom-Decides (f ∷ args) (ground_atom [] item.function)).0 same in
    let name : f ≡ item.function.predicate = cc in
    (same_name-Decides f item.function.predicate).1 name

pub least_value-le : (w : World) (f : Name) (args : List Name) → has_value w (f ∷ args) ≡ true → least_value w f ≤ cost_of w (f ∷ args)
least_value-le w f args valued =
    let items : List ValueItem = filter (is_value_for f) w.values in
    let value : ValueItem → ℕ = λ item. item.value in
    value-le (least_value w f) (find (is_value_of (f ∷ args)) w.values) valued
    (IfSome-find (λ (item : ValueItem). least_value w f ≤ item.value) (is_value_of (f ∷ args)) (is_value_for f) (is_value_for-is_value_of f args)
    w.values (All-from_map (λ n. least_value w f ≤ n) value items (least_or-le_each 0 (map value items))))
