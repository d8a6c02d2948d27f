-- Items with a key and a value: items of one key have one value exactly where each has the value of the first of its key.
--     first_value xs k          the value of the first item of a key
--     agrees xs o               no item of the key of o has another value
--     HasFirst xs o             o has the value of the first item of its key
use Rattle.std.proofs.Common.{◌≡◌, Bool, true, not, ◌||◌, cond, List, [], ◌∷◌, ◌++◌, Option, Some, None, is_some, Decides, All, refl, sym, ap, subst, ◌∙◌, append_assoc}
use Rattle.std.specs.List.{find, list_all}
use Rattle.std.specs.Option.{option_map, option_or}
use Rattle.std.proofs.lemmas.Bool.{and_parts, or_left, or_right, true≢false}
use Rattle.std.proofs.lemmas.List.Elements.{All-nil, All-cons, All-append, All-weaker}
use Rattle.std.proofs.lemmas.List.Folds.{find-append}
use Rattle.ppddl_form_grammar.proofs.lemmas.fits.Tests.{by_test, all-true}

module _ {X K V : Type 0} (key : X → K) (value : X → V) (same_key : K → K → Bool) (same_value : V → V → Bool)
    (keys : (a b : K) → Decides (same_key a b) (a ≡ b)) (values : (a b : V) → Decides (same_value a b) (a ≡ b)) where
  abbrev has_key : K → X → Bool
  has_key k x = same_key (key x) k

  abbrev pub first_value : List X → K → Option V
  first_value xs k = option_map value (find (has_key k) xs)

  abbrev agree : X → X → Bool
  agree o x = not (same_key (key x) (key o)) || same_value (value x) (value o)

  abbrev pub agrees : List X → X → Bool
  agrees xs o = list_all (agree o) xs

  abbrev pub HasFirst : List X → X → Type 0
  HasFirst xs o = first_value xs (key o) ≡ Some (value o)

  agreed : (o x : X) → agree o x ≡ true → same_key (key x) (key o) ≡ true → value x ≡ value o
  agreed o x is same = (values (value x) (value o)).0 (sym (ap (λ b. not b || same_value (value x) (value o)) same) ∙ is)

  -- among items that agree with it, and of which one has its key
  first_agrees : (o : X) (xs : List X) → list_all (agree o) xs ≡ true → is_some (find (has_key (key o)) xs) ≡ true → HasFirst xs o
  first_agrees o [] each some = absurd (true≢false (sym some))
  first_agrees o (x ∷ xs) each some =
      let parts = and_parts (agree o x) (list_all (agree o) xs) each in
      by_test (same_key (key x) (key o))
      (λ yes. ap (λ b. option_map value (cond b (Some x) (find (has_key (key o)) xs))) yes ∙ ap (λ (v : V). Some v) (agreed o x parts.0 yes))
      (λ no.
      ap (λ b. option_map value (cond b (Some x) (find (has_key (key o)) xs))) no
      ∙ first_agrees o xs parts.1 (sym (ap (λ b. is_some (cond b (Some x) (find (has_key (key o)) xs))) no) ∙ some))

  or_some : (r s : Option X) → is_some s ≡ true → is_some (option_or r s) ≡ true
  or_some None s some = some
  or_some (Some x) s some = refl

  -- an item is found among those that it stands in
  found : (before : List X) (o : X) (xs : List X) → is_some (find (has_key (key o)) (before ++ o ∷ xs)) ≡ true
  found before o xs =
      let own : find (has_key (key o)) (o ∷ xs) ≡ Some o = ap (λ b. cond b (Some o) (find (has_key (key o)) xs)) ((keys (key o) (key o)).1 refl) in
      ap is_some (find-append (has_key (key o)) before (o ∷ xs)) ∙ or_some (find (has_key (key o)) before) (find (has_key (key o)) (o ∷ xs)) (ap is_some own)

  rest_first : (before xs whole : List X) → before ++ xs ≡ whole → list_all (agrees whole) xs ≡ true → All (HasFirst whole) xs
  rest_first before [] whole is each = All-nil (HasFirst whole)
  rest_first before (x ∷ xs) whole is each =
      let parts = and_parts (agrees whole x) (list_all (agrees whole) xs) each in
      let own : HasFirst whole x = first_agrees x whole parts.0 (subst (λ l. is_some (find (has_key (key x)) l) ≡ true) is (found before x xs)) in
      All-cons (HasFirst whole) x xs own (rest_first (before ++ x ∷ []) xs whole (append_assoc before (x ∷ []) xs ∙ is) parts.1)

  pub each_first : (xs : List X) → list_all (agrees xs) xs ≡ true → All (HasFirst xs) xs
  each_first xs each = rest_first [] xs xs refl each

  same_first : (xs : List X) (o x : X) → HasFirst xs o → HasFirst xs x → agree o x ≡ true
  same_first xs o x first second = by_test (same_key (key x) (key o))
      (λ yes.
      let e : Some (value x) ≡ Some (value o) = sym second ∙ ap (first_value xs) ((keys (key x) (key o)).0 yes) ∙ first in
      or_right (not (same_key (key x) (key o))) (same_value (value x) (value o)) ((values (value x) (value o)).1 (let same : value x ≡ value o = cc in same)))
      (λ no. or_left (not (same_key (key x) (key o))) (same_value (value x) (value o)) (ap not no))

  pub each_agrees : (xs : List X) → All (HasFirst xs) xs → list_all (agrees xs) xs ≡ true
  each_agrees xs firsts =
      all-true (agrees xs) xs (All-weaker (HasFirst xs) (λ o. agrees xs o ≡ true)
      (λ o first. all-true (agree o) xs (All-weaker (HasFirst xs) (λ x. agree o x ≡ true) (λ x second. same_first xs o x first second) xs firsts)) xs firsts)

  -- behind items that agree, others that have the first values of all
  pub both_agree : (xs ys : List X) → list_all (agrees xs) xs ≡ true → All (HasFirst (xs ++ ys)) ys → list_all (agrees (xs ++ ys)) (xs ++ ys) ≡ true
  both_agree xs ys each others =
      let kept : (o : X) → HasFirst xs o → HasFirst (xs ++ ys) o
      = λ o first. still (find (has_key (key o)) xs) (find (has_key (key o)) ys) (value o) (find (has_key (key o)) (xs ++ ys)) (find-append (has_key (key o)) xs ys) first in
      each_agrees (xs ++ ys) (All-append (HasFirst (xs ++ ys)) xs ys (All-weaker (HasFirst xs) (HasFirst (xs ++ ys)) kept xs (each_first xs each)) others)
    where
      still : (r s : Option X) (v : V) (whole : Option X) → whole ≡ option_or r s → option_map value r ≡ Some v → option_map value whole ≡ Some v
      still None s v whole is first = absurd cc
      still (Some x) s v whole is first = ap (option_map value) is ∙ first
