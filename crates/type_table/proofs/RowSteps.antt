-- Rows of numbers, one more at a time.
use Rattle.std.proofs.Common.{◌≡◌, ◌≢◌, ◌⊎◌, inl, inr, ℕ, zero, suc, ◌+◌, ◌<◌, ◌≤◌, ◌==◌, Bool, true, List, [], ◌∷◌, ◌++◌, length, map, filter, take, get_or, nat_eq, refl, sym, ap, subst, ◌∙◌, arith, if◌then◌else◌, append_assoc, append-nil, length-append, eq-eqb, eqb-true, ne_eqb, true≢false, get_or-set_same, get_or-set_other, Vec}
use Rattle.std.specs.Prelude.{Contains, cond, slice_set}
use Rattle.std.specs.List.{list_any, IsDistinct}
use Rattle.std.proofs.lemmas.List.{map-append, map-set, length-set, take_all, take_more, take-append-le}
use Rattle.std.proofs.lemmas.List.Elements.{filter-append, Contains-get_or, Contains-append_left, Contains-append_cases, Contains-push, Contains-push_cases}
use Rattle.std.proofs.lemmas.Map.Steps.{length-le_from_distinct_below}
use Rattle.std.proofs.lemmas.Map.Views.{Contains-from_any}
use Rattle.indexmap.specs.IndexSet.{insert_key}
use Rattle.plain_list.proofs.Members.{Contains-cons_cases, Contains-nil}
use Rattle.type_table.specs.declared.link.Link.{Link}
use Rattle.type_table.specs.Rows.{row_at, pushed, EachRow, parents_of, AreWithin, Adds, IsClosed, IsReached}
use Rattle.type_table.specs.Reading.{items_of}
use Rattle.type_table.proofs.Lists.{by_test}

-- ---- rows

pub get_before : {X : Type 0} (xs : List X) (y d : X) (k : ℕ) → k < length xs → get_or (xs ++ y ∷ []) k d ≡ get_or xs k d
get_before [] y d k within = absurd (omega arith)
get_before (x ∷ xs) y d zero within = refl
get_before (x ∷ xs) y d (suc k) within = get_before xs y d k (omega arith)

pub get_last : {X : Type 0} (xs : List X) (y d : X) → get_or (xs ++ y ∷ []) (length xs) d ≡ y
get_last [] y d = refl
get_last (x ∷ xs) y d = get_last xs y d

pub rows_more : (n : ℕ) (P : ℕ → List ℕ → Type 0) (rows : List (List ℕ)) (row : List ℕ) → EachRow n P rows → P n row → EachRow (n + 1) P (rows ++ row ∷ [])
rows_more n P rows row are one = record {
  many = omega (arith, length-append rows (row ∷ []), are.many);
  each = λ k below. by_test (k == n)
      (λ e.
      let here : k ≡ n = eqb-true k n e in
      let last : row_at (rows ++ row ∷ []) k ≡ row = ap (row_at (rows ++ row ∷ [])) (here ∙ sym are.many) ∙ get_last rows row [] in
      subst (λ m. P m (row_at (rows ++ row ∷ []) k)) (sym here) (subst (P n) (sym last) one))
      (λ e.
      let lower : k < n = (let other : k ≢ n = λ h. true≢false (sym (eq-eqb k n h) ∙ e) in omega arith) in
      subst (P k) (sym (get_before rows row [] k (omega (arith, are.many, lower)))) (are.each k lower));
}

pub rows_pushed : (n : ℕ) (f g : ℕ → List ℕ) (rows : List (List ℕ)) (c x : ℕ) → EachRow n (λ k row. row ≡ f k) rows → c < n
    → g c ≡ f c ++ x ∷ [] → ((k : ℕ) → k ≢ c → g k ≡ f k) → EachRow n (λ k row. row ≡ g k) (pushed rows c x)
rows_pushed n f g rows c x are within here elsewhere = record {
  many = length-set rows c (row_at rows c ++ x ∷ []) ∙ are.many;
  each = λ k below. by_test (k == c)
      (λ e.
      let is : k ≡ c = eqb-true k c e in
      subst (λ m. row_at (pushed rows c x) m ≡ g m) (sym is)
      (get_or-set_same rows c (row_at rows c ++ x ∷ []) [] (omega (arith, are.many, within)) ∙ ap (λ row. row ++ x ∷ []) (are.each c within) ∙ sym here))
      (λ e.
      let other : k ≢ c = λ h. true≢false (sym (eq-eqb k c h) ∙ e) in
      get_or-set_other rows c k (row_at rows c ++ x ∷ []) [] other ∙ are.each k below ∙ sym (elsewhere k other));
}

-- ---- rows in vectors

pub row_of_vector : {A : Type 0} (rows : List (Vec ℕ A)) (k : ℕ) (v : Vec ℕ A) → k < length rows → v ≡ get_or rows k v → row_at (map items_of rows) k ≡ v.items
row_of_vector [] k v within is = absurd (omega arith)
row_of_vector (u ∷ rows) zero v within is = ap items_of (sym is)
row_of_vector (u ∷ rows) (suc k) v within is = row_of_vector rows k v (omega arith) is

pub vectors_more : {A : Type 0} (rows : List (Vec ℕ A)) (v : Vec ℕ A) → map items_of (rows ++ v ∷ []) ≡ map items_of rows ++ v.items ∷ []
vectors_more rows v = map-append items_of rows (v ∷ [])

pub vector_pushed : {A : Type 0} (rows : List (Vec ℕ A)) (k x : ℕ) (v new : Vec ℕ A) → k < length rows → v ≡ get_or rows k v → new.items ≡ v.items ++ x ∷ []
    → map items_of (slice_set rows k new) ≡ pushed (map items_of rows) k x
vector_pushed rows k x v new within is more =
    map-set items_of rows k new ∙ ap (slice_set (map items_of rows) k) (more ∙ ap (λ row. row ++ x ∷ []) (sym (row_of_vector rows k v within is)))

-- ---- parents

parents_more : (links : List Link) (l : Link) (k : ℕ) → parents_of (links ++ l ∷ []) k ≡ parents_of links k ++ cond (l.child == k) (l.parent ∷ []) []
parents_more links l k =
    let p : Link → Bool = λ m. m.child == k in
    ap (map (λ (m : Link). m.parent)) (filter-append p links (l ∷ []))
    ∙ map-append (λ (m : Link). m.parent) (filter p links) (filter p (l ∷ []))
    ∙ by_test (p l)
    (λ e. ap (λ b. parents_of links k ++ map (λ (m : Link). m.parent) (cond b (l ∷ []) [])) e ∙ ap (λ b. parents_of links k ++ cond b (l.parent ∷ []) []) (sym e))
    (λ e. ap (λ b. parents_of links k ++ map (λ (m : Link). m.parent) (cond b (l ∷ []) [])) e ∙ ap (λ b. parents_of links k ++ cond b (l.parent ∷ []) []) (sym e))

pub parent_more : (n : ℕ) (links : List Link) (i : ℕ) (d : Link) (rows : List (List ℕ)) → i < length links → (get_or links i d).child < n
    → EachRow n (λ k row. row ≡ parents_of (take i links) k) rows
    → EachRow n (λ k row. row ≡ parents_of (take (i + 1) links) k) (pushed rows (get_or links i d).child (get_or links i d).parent)
parent_more n links i d rows within child are =
    let l : Link = get_or links i d in
    let more : take (i + 1) links ≡ take i links ++ l ∷ [] = take_more links i d within in
    rows_pushed n (parents_of (take i links)) (parents_of (take (i + 1) links)) rows l.child l.parent are child
    (ap (λ m. parents_of m l.child) more ∙ parents_more (take i links) l l.child
    ∙ ap (λ b. parents_of (take i links) l.child ++ cond b (l.parent ∷ []) []) (eq-eqb l.child l.child refl))
    (λ k other.
    ap (λ m. parents_of m k) more ∙ parents_more (take i links) l k
    ∙ ap (λ b. parents_of (take i links) k ++ cond b (l.parent ∷ []) []) (ne_eqb l.child k (λ h. other (sym h)))
    ∙ append-nil (parents_of (take i links) k))

-- ---- numbers that are added once

pub adds_nothing : (old : List ℕ) → Adds old [] old
adds_nothing old = record { more = []; is = sym (append-nil old); from = λ x h. h; all = λ x h. absurd (Contains-nil x h) }

pub adds_more : (old xs new : List ℕ) (y : ℕ) → Adds old xs new → Adds old (xs ++ y ∷ []) (insert_key nat_eq new y)
adds_more old xs new y adds = by_test (list_any (nat_eq y) new)
    (λ e. subst (Adds old (xs ++ y ∷ [])) (sym (ap (λ b. if b then new else new ++ y ∷ []) e)) (record {
      more = adds.more;
      is = adds.is;
      from = λ x h. Contains-append_left xs (y ∷ []) x (adds.from x h);
      all = λ x h. elim (Contains-push_cases xs y x h) [
        | inl before ↦ adds.all x before
        | inr here ↦ subst (Contains new) here (Contains-from_any eqb-true y new e)
      ];
    }))
    (λ e. subst (Adds old (xs ++ y ∷ [])) (sym (ap (λ b. if b then new else new ++ y ∷ []) e)) (record {
      more = adds.more ++ y ∷ [];
      is = ap (λ l. l ++ y ∷ []) adds.is ∙ append_assoc old adds.more (y ∷ []);
      from = λ x h. elim (Contains-push_cases adds.more y x h) [
        | inl before ↦ Contains-append_left xs (y ∷ []) x (adds.from x before)
        | inr here ↦ subst (Contains (xs ++ y ∷ [])) here (Contains-push xs y)
      ];
      all = λ x h. elim (Contains-push_cases xs y x h) [
        | inl before ↦ Contains-append_left new (y ∷ []) x (adds.all x before)
        | inr here ↦ subst (Contains (new ++ y ∷ [])) here (Contains-push new y)
      ];
    }))

pub adds_one_more : (old numbers new : List ℕ) (i : ℕ) → i < length numbers → Adds old (take i numbers) new
    → Adds old (take (i + 1) numbers) (insert_key nat_eq new (get_or numbers i 0))
adds_one_more old numbers new i within adds =
    let x : ℕ = get_or numbers i 0 in
    subst (λ xs. Adds old xs (insert_key nat_eq new x)) (sym (take_more numbers i 0 within)) (adds_more old (take i numbers) new x adds)

-- ---- the search along rows

pub record Searched (rows : List (List ℕ)) (kind next : ℕ) (seen : List ℕ) : Type 0 where
  pub distinct : IsDistinct nat_eq seen
  pub within : (x : ℕ) → Contains seen x → x < length rows
  pub itself : Contains seen kind
  pub done : next ≤ length seen
  pub closed : (a x : ℕ) → Contains (take next seen) a → Contains (row_at rows a) x → Contains seen x
  pub least : (inside : ℕ → Bool) → IsClosed rows inside → inside kind ≡ true → (a : ℕ) → Contains seen a → inside a ≡ true

only : (x y : ℕ) → Contains (x ∷ []) y → x ≡ y
only x y inside = elim (Contains-cons_cases x [] y inside) [ inl same ↦ same | inr none ↦ absurd (Contains-nil y none) ]

module _ (rows : List (List ℕ)) (kind next : ℕ) (seen : List ℕ) (searched : Searched rows kind next seen) where
  pub seen_few : length seen ≤ length rows
  seen_few = length-le_from_distinct_below seen (length rows) searched.distinct (λ q there. searched.within q (Contains-from_any eqb-true q seen there))

  pub search_ends : length seen ≤ next → IsReached rows kind seen
  search_ends past = record {
    distinct = searched.distinct;
    within = searched.within;
    itself = searched.itself;
    closed = λ a x inside. searched.closed a x (subst (λ l. Contains l a) (sym (take_all next seen past)) inside);
    least = searched.least;
  }

  pub next_within : next < length seen → get_or seen next 0 < length rows
  next_within left = searched.within (get_or seen next 0) (Contains-get_or seen next 0 left)

  module _ (current : ℕ) (new : List ℕ) (all : AreWithin rows) (left : next < length seen) (is : current ≡ get_or seen next 0)
      (adds : Adds seen (row_at rows current) new) (distinct : IsDistinct nat_eq new) where
    new_cases : (x : ℕ) → Contains new x → Contains seen x ⊎ Contains (row_at rows current) x
    new_cases x inside = elim (Contains-append_cases seen adds.more x (subst (λ l. Contains l x) adds.is inside)) [
      | inl before ↦ inl before
      | inr more ↦ inr (adds.from x more)
    ]

    kept : (x : ℕ) → Contains seen x → Contains new x
    kept x inside = subst (λ l. Contains l x) (sym adds.is) (Contains-append_left seen adds.more x inside)

    current_seen : Contains seen current
    current_seen = subst (Contains seen) (sym is) (Contains-get_or seen next 0 left)

    now_done : take (next + 1) new ≡ take next seen ++ current ∷ []
    now_done = ap (take (next + 1)) adds.is ∙ take-append-le (next + 1) seen adds.more (omega arith) ∙ take_more seen next 0 left ∙ ap (λ y. take next seen ++ y ∷ []) (sym is)

    pub search_goes_on : Searched rows kind (next + 1) new
    search_goes_on = record {
      distinct = distinct;
      within = λ x inside. elim (new_cases x inside) [ inl before ↦ searched.within x before | inr more ↦ all current x more ];
      itself = kept kind searched.itself;
      done = omega (arith, left, length-append seen adds.more, ap length adds.is);
      closed = λ a x inside there. elim (Contains-push_cases (take next seen) current a (subst (λ l. Contains l a) now_done inside)) [
        | inl before ↦ kept x (searched.closed a x before there)
        | inr here ↦ adds.all x (subst (λ b. Contains (row_at rows b) x) (sym here) there)
      ];
      least = λ inside closed begins a there. elim (new_cases a there) [
        | inl before ↦ searched.least inside closed begins a before
        | inr more ↦ closed current a (searched.least inside closed begins current current_seen) more
      ];
    }
