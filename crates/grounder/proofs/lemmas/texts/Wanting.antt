-- Texts of which no more than so many are wanted: they never become fewer.
use Rattle.std.proofs.Common.{◌≡◌, ℕ, suc, ◌+◌, ◌<◌, ◌≤◌, Bool, true, false, true≢false, not, inl, inr, List, [], ◌∷◌, ◌++◌, map, length, drop, drop-cons, get_or, add-one, refl, sym, ap, subst, ◌∙◌, arith}
use Rattle.std.specs.Prelude.{flat_map, nat_eq, nat_le}
use Rattle.std.specs.List.{AllByRecursion, list_all, IsDistinct}
use Rattle.std.specs.Cmp.Lexicographic.{pointwise, texts_ties}
use Rattle.std.proofs.lemmas.Bool.{and_parts, cases_lt, le-leb}
use Rattle.std.proofs.lemmas.List.{drop_all}
use Rattle.indexmap.specs.IndexSet.{insert_key as insert_last}
use Rattle.plain_list.specs.Texts.{compare_texts}
use Rattle.ppddl_model.specs.State.{same_name}
use Rattle.ppddl_model.proofs.States.{same_name-Decides}
use Rattle.type_table.proofs.Lists.{by_test}
use Rattle.type_table.proofs.Numbered.{same_name_itself}
use Rattle.grounder.specs.texts.Texts.{with_texts}
use Rattle.grounder.specs.texts.Wanted.{Wanted, with_more, IsFull, IsPut}
use Rattle.grounder.proofs.lemmas.texts.Adding.{texts-append}
use Rattle.grounder.proofs.lemmas.texts.Hashed.{put_last}
use Rattle.grounder.proofs.lemmas.texts.Sorting.{by_order, equal_is, put, other}

-- ---- a set never becomes smaller

put_longer : (texts : List (List ℕ)) (text : List ℕ) → length texts ≤ length (put texts text)
put_longer [] text = omega arith
put_longer (x ∷ texts) text =
    let later = put_longer texts text in
    by_order (compare_texts text x)
    (λ e. rw e (omega arith))
    (λ e. rw e (omega arith))
    (λ e. rw e (omega (arith, later)))

pub with_longer : (texts more : List (List ℕ)) → length texts ≤ length (with_texts texts more)
with_longer texts [] = omega arith
with_longer texts (text ∷ more) =
    let first = put_longer texts text in
    let later = with_longer (put texts text) more in
    omega (arith, first, later)

-- ---- distinct texts that are put in are as many as they were

all_put : (g : List ℕ → Bool) (texts : List (List ℕ)) (text : List ℕ) → g text ≡ true → list_all g texts ≡ true → list_all g (put texts text) ≡ true
all_put g [] text here all = rw here refl
all_put g (x ∷ texts) text here all =
    let parts = and_parts (g x) (list_all g texts) all in
    let later : list_all g (put texts text) ≡ true = all_put g texts text here parts.1 in
    by_order (compare_texts text x)
    (λ e. rw (e, here) all)
    (λ e. rw e all)
    (λ e. rw (e, parts.0) later)

all_with : (g : List ℕ → Bool) (texts more : List (List ℕ)) → list_all g texts ≡ true → list_all g more ≡ true → list_all g (with_texts texts more) ≡ true
all_with g texts [] there all = there
all_with g texts (text ∷ more) there all =
    let parts = and_parts (g text) (list_all g more) all in
    all_with g (put texts text) more (all_put g texts text parts.0 there) parts.1

put_fresh : (texts : List (List ℕ)) (text : List ℕ) → list_all (other text) texts ≡ true → length (put texts text) ≡ suc (length texts)
put_fresh [] text new = refl
put_fresh (x ∷ texts) text new =
    let parts = and_parts (other text x) (list_all (other text) texts) new in
    let later : length (put texts text) ≡ suc (length texts) = put_fresh texts text parts.1 in
    by_order (compare_texts text x)
    (λ e. rw e refl)
    (λ e. absurd (true≢false (sym parts.0 ∙ ap not (ap (same_name text) (sym (equal_is text x e)) ∙ same_name_itself text))))
    (λ e. rw e (ap suc later))

distinct_parts : (k : List ℕ) (keys : List (List ℕ)) → IsDistinct (pointwise nat_eq) (k ∷ keys)
    → AllByRecursion (λ y. pointwise nat_eq k y ≡ false) keys × IsDistinct (pointwise nat_eq) keys
unfolding IsDistinct
distinct_parts k keys distinct = distinct

other_way : (k q : List ℕ) → pointwise nat_eq k q ≡ false → other q k ≡ true
other_way k q apart = by_test (same_name q k)
    (λ e. absurd (true≢false (sym (ap (same_name k) ((same_name-Decides q k).0 e) ∙ same_name_itself k) ∙ sym (texts_ties k q) ∙ apart)))
    (λ e. ap not e)

still_apart : (texts : List (List ℕ)) (k : List ℕ) (keys : List (List ℕ)) → AllByRecursion (λ y. pointwise nat_eq k y ≡ false) keys
    → list_all (λ q. list_all (other q) texts) keys ≡ true → list_all (λ q. list_all (other q) (put texts k)) keys ≡ true
still_apart texts k [] apart all = refl
still_apart texts k (q ∷ keys) apart all =
    let parts = and_parts (list_all (other q) texts) (list_all (λ r. list_all (other r) texts) keys) all in
    let here : list_all (other q) (put texts k) ≡ true = all_put (other q) texts k (other_way k q apart.0) parts.0 in
    rw here (still_apart texts k keys apart.1 parts.1)

as_many : (texts keys : List (List ℕ)) → IsDistinct (pointwise nat_eq) keys → list_all (λ q. list_all (other q) texts) keys ≡ true
    → length (with_texts texts keys) ≡ length texts + length keys
as_many texts [] distinct apart = omega arith
as_many texts (k ∷ keys) distinct apart =
    let parts = distinct_parts k keys distinct in
    let new = and_parts (list_all (other k) texts) (list_all (λ q. list_all (other q) texts) keys) apart in
    let later = as_many (put texts k) keys parts.1 (still_apart texts k keys parts.0 new.1) in
    let one = put_fresh texts k new.0 in
    omega (arith, later, one)

apart_of_none : (keys : List (List ℕ)) → list_all (λ q. list_all (other q) []) keys ≡ true
apart_of_none [] = refl
apart_of_none (k ∷ keys) = apart_of_none keys

pub keys_long : (keys : List (List ℕ)) → IsDistinct (pointwise nat_eq) keys → length (with_texts [] keys) ≡ length keys
keys_long keys distinct = let many = as_many [] keys distinct (apart_of_none keys) in omega (arith, many)

-- ---- texts that are put in one item after another

pub more-append : (s : Wanted) (xs ys : List (List ℕ)) → with_more s (xs ++ ys) ≡ with_more (with_more s xs) ys
more-append s xs ys = ap (λ l. record { texts = l; most = s.most }) (texts-append s.texts xs ys)

pub still_full : (s : Wanted) (more : List (List ℕ)) → IsFull s → IsFull (with_more s more)
still_full s more full = let longer = with_longer s.texts more in omega (arith, full, longer)

pub all_put_in : (old : Wanted) (more : List (List ℕ)) (all : Bool) (new : Wanted) → all ≡ true → IsPut old more all new → new ≡ with_more old more
all_put_in old more true new is put_in = put_in
all_put_in old more false new is put_in = absurd (true≢false (sym is))

pub full_of : (old : Wanted) (more : List (List ℕ)) (all : Bool) (new : Wanted) → all ≡ false → IsPut old more all new → IsFull (with_more old more)
full_of old more true new is put_in = absurd (true≢false is)
full_of old more false new is put_in = put_in

-- a text is put in, and it is seen whether there are more than are wanted
pub one_put : (keys next : List (List ℕ)) (text : List ℕ) (most : ℕ) (few : Bool) → next ≡ insert_last (pointwise nat_eq) keys text
    → IsDistinct (pointwise nat_eq) next → few ≡ nat_le (length next) most
    → IsPut (record { texts = with_texts [] keys; most = most }) (text ∷ []) few (record { texts = with_texts [] next; most = most })
one_put keys next text most true is distinct few = ap (λ l. record { texts = l; most = most }) (ap (with_texts []) is ∙ put_last keys text)
one_put keys next text most false is distinct few = elim (cases_lt most (length next)) [
  | inl above ↦
      let long = keys_long next distinct in
      let same : length (with_texts [] next) ≡ length (put (with_texts [] keys) text) = ap length (ap (with_texts []) is ∙ put_last keys text) in
      omega (arith, above, long, same)
  | inr below ↦ absurd (true≢false (sym (few ∙ le-leb (length next) most below)))
]

-- all that one item puts in, and then another
pub both_put : (old mid new : Wanted) (once each whole : List (List ℕ)) (all : Bool) → mid ≡ with_more old once
    → with_texts (with_texts old.texts once) each ≡ with_texts old.texts whole → IsPut mid each all new → IsPut old whole all new
both_put old mid new once each whole true first same put_in =
    put_in ∙ ap (λ s. with_more s each) first ∙ ap (λ l. record { texts = l; most = old.most }) same
both_put old mid new once each whole false first same put_in =
    subst IsFull (ap (λ s. with_more s each) first ∙ ap (λ l. record { texts = l; most = old.most }) same) put_in

pub as_items : {X : Type 0} (f : X → List ℕ) (xs : List X) → flat_map (λ x. f x ∷ []) xs ≡ map f xs
as_items f [] = refl
as_items f (x ∷ xs) = ap (λ l. f x ∷ l) (as_items f xs)

pub none_left : {X : Type 0} (f : X → List (List ℕ)) (xs : List X) (i : ℕ) (s whole : Wanted) → length xs ≤ i
    → with_more s (flat_map f (drop i xs)) ≡ whole → s ≡ whole
none_left f xs i s whole all is = ap (λ l. with_more s (flat_map f l)) (sym (drop_all i xs all)) ∙ is

module _ {X : Type 0} (f : X → List (List ℕ)) (xs : List X) (i : ℕ) (x d : X) (so_far next whole : Wanted) (all : Bool)
    (within : i < length xs) (is : x ≡ get_or xs i d) (step : IsPut so_far (f x) all next) (before : with_more so_far (flat_map f (drop i xs)) ≡ whole) where
  opened : with_more (with_more so_far (f x)) (flat_map f (drop (i + 1) xs)) ≡ whole
  opened =
      sym (more-append so_far (f x) (flat_map f (drop (i + 1) xs)))
      ∙ ap (with_more so_far)
      (sym (ap (flat_map f) (drop-cons xs i d within)
      ∙ ap (λ y. f y ++ flat_map f (drop (suc i) xs)) (sym is)
      ∙ ap (λ k. f x ++ flat_map f (drop k xs)) (sym (add-one i))))
      ∙ before

  -- one item more, with all texts that it gives
  pub item_more : all ≡ true → with_more next (flat_map f (drop (i + 1) xs)) ≡ whole
  item_more all_in = ap (λ s. with_more s (flat_map f (drop (i + 1) xs))) (all_put_in so_far (f x) all next all_in step) ∙ opened

  -- or more texts than are wanted
  pub item_over : all ≡ false → IsFull whole
  item_over over = subst IsFull opened (still_full (with_more so_far (f x)) (flat_map f (drop (i + 1) xs)) (full_of so_far (f x) all next over step))
