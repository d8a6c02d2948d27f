-- Values that a map finds, when one more is put behind them.
use Rattle.std.proofs.Common.{◌≡◌, ℕ, Bool, true, false, List, [], ◌∷◌, ◌++◌, Option, Some, None, refl, sym, ap, ◌∙◌, cond, is_some, true≢false}
use Rattle.std.specs.Option.{option_or}
use Rattle.std.specs.Map.{lookup}
use Rattle.std.specs.Bool.{Decides}
use Rattle.std.proofs.lemmas.Slice.Eq.{slice_eq-Decides, bytes_eq-Decides}
use Rattle.ppddl_model.specs.declared.tree.ValueItem.{ValueItem}
use Rattle.ppddl_model.specs.State.{GroundAtom}
use Rattle.ppddl_forms.specs.items.Values.{same_term, term_of, value_in, IsIndexed}

value_in-push : (values : List ValueItem) (v : ValueItem) (t : GroundAtom)
    → value_in (values ++ v ∷ []) t ≡ option_or (value_in values t) (cond (same_term t (term_of v)) (Some v.value) None)
value_in-push [] v t = refl
value_in-push (x ∷ values) v t = by_test (same_term t (term_of x)) (value_in-push values v t)
  where
    by_test : (b : Bool) → value_in (values ++ v ∷ []) t ≡ option_or (value_in values t) (cond (same_term t (term_of v)) (Some v.value) None)
        → cond b (Some x.value) (value_in (values ++ v ∷ []) t) ≡ option_or (cond b (Some x.value) (value_in values t)) (cond (same_term t (term_of v)) (Some v.value) None)
    by_test true rest = refl
    by_test false rest = rest

lookup-push : (entries : List (GroundAtom × ℕ)) (key : GroundAtom) (n : ℕ) (t : GroundAtom)
    → lookup (same_term t) (entries ++ (key, n) ∷ []) ≡ option_or (lookup (same_term t) entries) (cond (same_term t key) (Some n) None)
lookup-push [] key n t = refl
lookup-push (e ∷ entries) key n t = by_test (same_term t e.0) (lookup-push entries key n t)
  where
    by_test : (b : Bool) → lookup (same_term t) (entries ++ (key, n) ∷ []) ≡ option_or (lookup (same_term t) entries) (cond (same_term t key) (Some n) None)
        → cond b (Some e.1) (lookup (same_term t) (entries ++ (key, n) ∷ [])) ≡ option_or (cond b (Some e.1) (lookup (same_term t) entries)) (cond (same_term t key) (Some n) None)
    by_test true rest = refl
    by_test false rest = rest

-- a new term
pub indexed-new : (values : List ValueItem) (entries : List (GroundAtom × ℕ)) (v : ValueItem) → IsIndexed values entries
    → IsIndexed (values ++ v ∷ []) (entries ++ (term_of v, v.value) ∷ [])
indexed-new values entries v indexed t =
    lookup-push entries (term_of v) v.value t
    ∙ ap (λ o. option_or o (cond (same_term t (term_of v)) (Some v.value) None)) (indexed t)
    ∙ sym (value_in-push values v t)

pub term_decides : (a b : GroundAtom) → Decides (same_term a b) (a ≡ b)
term_decides a b = slice_eq-Decides bytes_eq-Decides a b (same_term a b) refl

or_some : (o other : Option ℕ) → is_some o ≡ true → option_or o other ≡ o
or_some None other there = absurd (true≢false (sym there))
or_some (Some x) other there = refl

or_none : (o : Option ℕ) → option_or o None ≡ o
or_none None = refl
or_none (Some x) = refl

-- a term that has a value keeps it
pub indexed-again : (values : List ValueItem) (entries : List (GroundAtom × ℕ)) (v : ValueItem) → IsIndexed values entries
    → is_some (lookup (same_term (term_of v)) entries) ≡ true → IsIndexed (values ++ v ∷ []) entries
indexed-again values entries v indexed there t = indexed t ∙ sym (value_in-push values v t ∙ by_test (same_term t (term_of v)) refl)
  where
    by_test : (b : Bool) → same_term t (term_of v) ≡ b → option_or (value_in values t) (cond b (Some v.value) None) ≡ value_in values t
    by_test true is =
        or_some (value_in values t) (Some v.value)
        (ap is_some (sym (indexed t)) ∙ ap (λ a. is_some (lookup (same_term a) entries)) ((term_decides t (term_of v)).0 is) ∙ there)
    by_test false is = or_none (value_in values t)

pub none_from : (o : Option ℕ) → is_some o ≡ false → o ≡ None
none_from None absent = refl
none_from (Some x) absent = absurd (true≢false absent)
