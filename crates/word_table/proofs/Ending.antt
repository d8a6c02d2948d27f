-- What a table holds when it is closed.
use Rattle.std.proofs.Common.{◌≡◌, ◌≢◌, ℕ, zero, suc, ◌+◌, ◌-◌, ◌<◌, ◌≤◌, Bool, true, false, cond, ◌||◌, nat_eq, List, [], ◌∷◌, ◌++◌, length, map, Some, None, refl, sym, ap, ◌∙◌, subst, inl, inr, arith}
use Rattle.std.specs.Prelude.{Option, filter, All, AllPairs, Contains}
use Rattle.std.specs.List.{range_with_len}
use Rattle.std.specs.Option.{option_map}
use Rattle.std.proofs.lemmas.Bool.{cases_Bool, false≢true, eq-eqb, ne_eqb, eqb-true, or_left, or_right}
use Rattle.std.proofs.lemmas.List.{length-append, length-map, map-append}
use Rattle.std.proofs.lemmas.List.Elements.{All-nil, All-append, All-cons, All-contains, filter-append, Contains-push, Contains-append_left}
use Rattle.std.proofs.lemmas.List.Kept.{AllPairs-filter}
use Rattle.std.proofs.lemmas.List.FromFn.{length-range_with_len, get_or-range_with_len}
use Rattle.std.proofs.lemmas.Option.{slice_get-map}
use mathlib.Core.Option.{some, some-injective, some-ne-none}
use mathlib.Core.Logic.{dite}
use native.Mathlib.Decide.{ℕ_discrete}
use lib.ListN.{get_elem?}
use Rattle.atomic_table.specs.Table.{Final, Seen}
use Rattle.atomic_table.specs.Seated.{TableId}
use Rattle.ground_model.specs.Ground.{Ground}
use Rattle.ground_model.proofs.Steps.{slice_get-contains}
use Rattle.bound_core.specs.declared.image.ImageRow.{ImageRow}
use Rattle.bound_core.specs.Core.{Core, sight_at}
use Rattle.word_table.specs.declared.layout.Layout.{Layout}
use Rattle.word_table.specs.declared.view.View.{View}
use Rattle.word_table.specs.rule.Words.{Table, word, held_in, IsPublished}
use Rattle.word_table.specs.rule.Rule.{Holds, IsShownBy, total, holders, one_if_some, taken_below}
use Rattle.word_table.specs.rule.Laws.{IsViewOf, Sits}
use Rattle.word_table.proofs.lemmas.rule.Lists.{taken, taken_one}
use Rattle.word_table.proofs.lemmas.rule.Facts.{state_is, known_is_published, seen_lower_within, seen_upper_within, published_there}
use Rattle.word_table.proofs.lemmas.rule.Told.{held_is_told}
use Rattle.word_table.specs.Seen.{board}
use Rattle.word_table.specs.Closed.{is_held, row_in, ids_in, rows_in, image_in, AreClosed, IsRow, AreRows, IsImage}

-- ---- words and rows

pub word_at : (ws : List ℕ) (i x : ℕ) → get_elem? ws i ≡ some x → x ≡ word ws i
word_at [] i x there = absurd (some-ne-none x (sym there))
word_at (y ∷ ys) zero x there = sym (some-injective y x there)
word_at (y ∷ ys) (suc i) x there = word_at ys i x there

-- ---- ids that stand in buckets

held_there : (ws : List ℕ) (n id : ℕ) → is_held ws n id ≡ true → (b : ℕ) × (b < n) × (held_in ws b ≡ id + 1)
held_there ws zero id on = absurd (false≢true on)
held_there ws (suc n) id on = elim (cases_Bool (nat_eq (held_in ws n) (id + 1))) [
  | inl hit ↦ (n, omega arith, eqb-true (held_in ws n) (id + 1) hit)
  | inr miss ↦
      let rest = held_there ws n id (sym (ap (λ b. b || is_held ws n id) miss) ∙ on) in
      let below = rest.1 in (rest.0, omega arith, rest.2)
]

there_held : (ws : List ℕ) (n id b : ℕ) → b < n → held_in ws b ≡ id + 1 → is_held ws n id ≡ true
there_held ws zero id b below here = absurd (omega arith)
there_held ws (suc n) id b below here = dite (ℕ_discrete b n)
    (λ same. or_left (nat_eq (held_in ws n) (id + 1)) (is_held ws n id) (eq-eqb (held_in ws n) (id + 1) (ap (held_in ws) (sym same) ∙ here)))
    (λ other. or_right (nat_eq (held_in ws n) (id + 1)) (is_held ws n id) (there_held ws n id b (omega arith) here))

snoc_range : (a n : ℕ) → range_with_len a (suc n) ≡ range_with_len a n ++ (a + n) ∷ []
snoc_range a zero = ap (λ i. i ∷ []) (let same : a ≡ a + 0 = omega arith in same)
snoc_range a (suc n) =
    let rest = snoc_range (a + 1) n in
    let same : a + 1 + n ≡ a + suc n = omega arith in
    ap (λ xs. a ∷ xs) rest ∙ ap (λ i. a ∷ (range_with_len (a + 1) n ++ i ∷ [])) same

right_nil : {X : Type 0} (xs : List X) → xs ++ [] ≡ xs
right_nil [] = refl
right_nil (x ∷ xs) = ap (λ ys. x ∷ ys) (right_nil xs)

module _ (l : Layout) (ws : List ℕ) where
  abbrev test : ℕ → Bool
  test id = is_held ws l.buckets id

  ids_more : (n : ℕ) → ids_in l ws (suc n) ≡ ids_in l ws n ++ filter test (n ∷ [])
  ids_more n =
      let same : 0 + n ≡ n = omega arith in
      ap (λ xs. filter test xs) (snoc_range 0 n ∙ ap (λ i. range_with_len 0 n ++ i ∷ []) same) ∙ filter-append test (range_with_len 0 n) (n ∷ [])

  ids_add : (n : ℕ) → test n ≡ true → ids_in l ws (suc n) ≡ ids_in l ws n ++ n ∷ []
  ids_add n on = ids_more n ∙ ap (λ b. ids_in l ws n ++ cond b (n ∷ []) []) on

  ids_keep : (n : ℕ) → test n ≡ false → ids_in l ws (suc n) ≡ ids_in l ws n
  ids_keep n off = ids_more n ∙ (ap (λ b. ids_in l ws n ++ cond b (n ∷ []) []) off ∙ right_nil (ids_in l ws n))

  ids_contain : (n id : ℕ) → id < n → test id ≡ true → Contains (ids_in l ws n) id
  ids_contain zero id below on = absurd (omega arith)
  ids_contain (suc n) id below on = dite (ℕ_discrete id n)
      (λ same. subst (λ i. Contains (ids_in l ws (suc n)) i) (sym same)
      (subst (λ xs. Contains xs n) (sym (ids_add n (ap test (sym same) ∙ on))) (Contains-push (ids_in l ws n) n)))
      (λ other. subst (λ xs. Contains xs id) (sym (ids_more n)) (Contains-append_left (ids_in l ws n) (filter test (n ∷ [])) id (ids_contain n id (omega arith) on)))

  ids_pass : (n : ℕ) → All (λ id. test id ≡ true) (ids_in l ws n)
  ids_pass zero = All-nil (λ id. test id ≡ true)
  ids_pass (suc n) = elim (cases_Bool (test n)) [
    | inl on ↦ subst (All (λ id. test id ≡ true)) (sym (ids_add n on))
        (All-append (λ id. test id ≡ true) (ids_in l ws n) (n ∷ []) (ids_pass n) (All-cons (λ id. test id ≡ true) n [] on (All-nil (λ id. test id ≡ true))))
    | inr off ↦ subst (All (λ id. test id ≡ true)) (sym (ids_keep n off)) (ids_pass n)
  ]

pub row_more : (g : Ground) (l : Layout) (ws : List ℕ) (n : ℕ) (rows rows' : List ImageRow) (row : ImageRow) → rows ≡ rows_in g l ws n
    → is_held ws l.buckets n ≡ true → row ≡ row_in g l ws n → rows' ≡ rows ++ row ∷ [] → rows' ≡ rows_in g l ws (n + 1)
row_more g l ws n rows rows' row before on is after =
    subst (λ m. rows' ≡ rows_in g l ws m) (let next : suc n ≡ n + 1 = omega arith in next)
    (after ∙ (ap (λ xs. xs ++ row ∷ []) before ∙ (ap (λ r. rows_in g l ws n ++ r ∷ []) is
    ∙ (sym (map-append (row_in g l ws) (ids_in l ws n) (n ∷ [])) ∙ ap (map (row_in g l ws)) (sym (ids_add l ws n on))))))

pub no_row : (g : Ground) (l : Layout) (ws : List ℕ) (n : ℕ) (rows : List ImageRow) → rows ≡ rows_in g l ws n → is_held ws l.buckets n ≡ false
    → rows ≡ rows_in g l ws (n + 1)
no_row g l ws n rows before off = subst (λ m. rows ≡ rows_in g l ws m) (let next : suc n ≡ n + 1 = omega arith in next)
    (before ∙ ap (map (row_in g l ws)) (sym (ids_keep l ws n off)))

-- ---- how many there are

abbrev one_if : Bool → ℕ
one_if b = cond b 1 0

abbrev count : (ℕ → Bool) → ℕ → ℕ
count p zero = 0
count p (suc n) = count p n + one_if (p n)

single : (p : ℕ → Bool) (n : ℕ) → length (filter p (n ∷ [])) ≡ one_if (p n)
single p n = elim (cases_Bool (p n)) [
  | inl on ↦ ap (λ b. length (cond b (n ∷ []) [])) on ∙ sym (ap one_if on)
  | inr off ↦ ap (λ b. length (cond b (n ∷ []) [])) off ∙ sym (ap one_if off)
]

counted : (l : Layout) (ws : List ℕ) (n : ℕ) → length (ids_in l ws n) ≡ count (test l ws) n
counted l ws zero = refl
counted l ws (suc n) =
    let rest : length (ids_in l ws n) ≡ count (test l ws) n = counted l ws n in
    let more : length (ids_in l ws (suc n)) ≡ length (ids_in l ws n) + length (filter (test l ws) (n ∷ []))
    = ap length (ids_more l ws n) ∙ length-append (ids_in l ws n) (filter (test l ws) (n ∷ [])) in
    more ∙ (ap (λ (x : ℕ). x + length (filter (test l ws) (n ∷ []))) rest ∙ ap (λ (x : ℕ). count (test l ws) n + x) (single (test l ws) n))

count_none : (p : ℕ → Bool) (n : ℕ) → ((i : ℕ) → p i ≡ false) → count p n ≡ 0
count_none p zero none = refl
count_none p (suc n) none =
    let rest : count p n ≡ 0 = count_none p n none in
    let here : one_if (p n) ≡ 0 = ap one_if (none n) in
    omega arith

count_same : (p q : ℕ → Bool) (n : ℕ) → ((i : ℕ) → i < n → q i ≡ p i) → count q n ≡ count p n
count_same p q zero same = refl
count_same p q (suc n) same =
    let rest : count q n ≡ count p n = count_same p q n (λ i below. same i (omega arith)) in
    let here : one_if (q n) ≡ one_if (p n) = ap one_if (same n (omega arith)) in
    omega arith

count_more : (p q : ℕ → Bool) (n i : ℕ) → i < n → p i ≡ false → q i ≡ true → ((j : ℕ) → j ≢ i → q j ≡ p j) → count q n ≡ count p n + 1
count_more p q zero i below off on others = absurd (omega arith)
count_more p q (suc n) i below off on others = dite (ℕ_discrete n i)
    (λ here.
    let rest : count q n ≡ count p n = count_same p q n (λ j less. others j (λ z. omega arith)) in
    let now : one_if (q n) ≡ 1 = ap one_if (ap q here ∙ on) in
    let before : one_if (p n) ≡ 0 = ap one_if (ap p here ∙ off) in
    omega arith)
    (λ other.
    let rest : count q n ≡ count p n + 1 = count_more p q n i (omega arith) off on others in
    let same : one_if (q n) ≡ one_if (p n) = ap one_if (others n other) in
    omega arith)

-- as many ids as buckets that are taken
taken_is_counted : (ws : List ℕ) (ids n : ℕ) → ((b : ℕ) → b < n → held_in ws b ≤ ids)
    → ((b c : ℕ) → b < n → c < n → held_in ws b ≢ 0 → held_in ws b ≡ held_in ws c → b ≡ c) → taken_below ws n ≡ count (is_held ws n) ids
taken_is_counted ws ids zero within once = sym (count_none (is_held ws zero) ids (λ i. refl))
taken_is_counted ws ids (suc n) within once =
    let rest = taken_is_counted ws ids n (λ b below. within b (omega arith)) (λ b c below below'. once b c (omega arith) (omega arith)) in
    dite (ℕ_discrete (held_in ws n) 0)
    (λ empty.
    let same = count_same (is_held ws n) (is_held ws (suc n)) ids
    (λ i below. ap (λ b. b || is_held ws n i) (ne_eqb (held_in ws n) (i + 1) (λ z. omega arith))) in
    let here : taken (held_in ws n) ≡ 0 = ap taken empty in
    omega arith)
    (λ full.
    let id : ℕ = held_in ws n - 1 in
    let small = within n (omega arith) in
    let fresh : is_held ws n id ≡ false = elim (cases_Bool (is_held ws n id)) [
      | inl on ↦
          let there = held_there ws n id on in
          let below = there.1 in let here = there.2 in
          let last : n ≡ there.0 = once n there.0 (omega arith) (omega arith) full (omega arith) in absurd (omega arith)
      | inr off ↦ off
    ] in
    let more = count_more (is_held ws n) (is_held ws (suc n)) ids id (omega arith) fresh
    (or_left (nat_eq (held_in ws n) (id + 1)) (is_held ws n id) (eq-eqb (held_in ws n) (id + 1) (omega arith)))
    (λ j other. ap (λ b. b || is_held ws n j) (ne_eqb (held_in ws n) (j + 1) (λ z. other (omega arith)))) in
    let here : taken (held_in ws n) ≡ 1 = taken_one (held_in ws n) full in
    omega arith)

one_within : (o : Option ℕ) (rights : ℕ) → ((id : ℕ) → o ≡ Some id → 0 < rights) → one_if_some o ≤ rights
one_within None rights each = omega arith
one_within (Some id) rights each = let some = each id refl in omega arith

spares_within : (vs : List View) → ((k : ℕ) (v : View) → get_elem? vs k ≡ some v → (id : ℕ) → v.spare ≡ Some id → 0 < v.rights) → holders vs ≤ total vs
spares_within [] each = omega arith
spares_within (v ∷ vs) each =
    let rest = spares_within vs (λ k w there. each (suc k) w there) in
    let here = one_within v.spare v.rights (each 0 v refl) in
    omega arith

range_rises : (a n : ℕ) → AllPairs (λ i j. i < j) (range_with_len a n)
range_rises a n i j d less below =
    let long = length-range_with_len a n in
    let first = get_or-range_with_len a n i d (omega arith) in
    let second = get_or-range_with_len a n j d (omega arith) in
    omega arith

same_some : {X : Type 0} (x y : X) → Some x ≡ Some y → x ≡ y
same_some x y same = cc

-- ---- the core

module _ (g : Ground) (l : Layout) (most : ℕ) (s : Table) (k : ℕ) (v : View) (holds : Holds g l most s) (here : get_elem? s.views k ≡ some v)
    (of : IsViewOf g l v) where
  abbrev core : Core
  core = holds.core.0

  sits : Sits g l most s k v
  sits = record { holds = holds; here = here; view = of }

  own : IsShownBy g l s.words (sight_at g core k) v
  own = holds.core.2.views k v here

  pub closed : AreClosed l s.words
  closed = record { given = holds.words.given; held = (held_is_told g l most s k v sits).0 }

  row_shown : (id : ℕ) → is_held s.words l.buckets id ≡ true → IsRow core id (row_in g l s.words id)
  row_shown id on =
      let there : IsPublished l s.words id = held_there s.words l.buckets id on in
      let shown = holds.core.2.words.numbers id there in
      record { state = holds.core.2.words.published id there; lower = sym shown.lower; upper = sym shown.upper }

  rows_shown : AreRows core (ids_in l s.words l.ids) (rows_in g l s.words l.ids)
  rows_shown = record {
    count = sym (length-map (ids_in l s.words l.ids) (row_in g l s.words));
    rise = AllPairs-filter (λ i j. i < j) (λ id. is_held s.words l.buckets id) (range_with_len 0 l.ids) (range_rises 0 l.ids);
    all = λ id published.
        let there = published_there g l s.words core holds.core.1 holds.core.2.words id published in
        let below = holds.core.1.ids.published id published in
        let same = holds.core.2.words.given in
        let few = holds.words.given in
        ids_contain l s.words l.ids id (omega arith) (there_held s.words l.buckets id there.0 there.1 there.2);
    each = λ place id row at row_at.
        let same : row_in g l s.words id ≡ row = same_some (row_in g l s.words id) row
        (sym (slice_get-map (row_in g l s.words) (ids_in l s.words l.ids) place ∙ ap (option_map (row_in g l s.words)) at) ∙ row_at) in
        subst (IsRow core id) same (row_shown id (All-contains (λ i. is_held s.words l.buckets i ≡ true) (ids_in l s.words l.ids) id
        (ids_pass l s.words l.ids) (slice_get-contains (ids_in l s.words l.ids) place id at)));
  }

  -- each id given out is published, or a view holds it with one of its rights
  all_rows : (length (rows_in g l s.words l.ids) ≤ core.given) × (core.given ≤ length (rows_in g l s.words l.ids) + most)
  all_rows =
      let same = holds.core.2.words.given in
      let balance = holds.rights.balance in
      let all = holds.rights.total in
      let spares = spares_within s.views (λ j w at. (holds.core.2.views j w at).right) in
      let buckets = taken_is_counted s.words l.ids l.buckets closed.held holds.words.once in
      let ids = counted l s.words l.ids in
      let rows = length-map (ids_in l s.words l.ids) (row_in g l s.words) in (
        omega arith,
        omega arith,
      )

  pub image : (z : TableId) → IsImage (board g l most z) v (image_in g l s.words)
  image z = record {
    problem = holds.table.problem;
    core = core;
    ids = ids_in l s.words l.ids;
    sound = holds.core.1;
    rows = rows_shown;
    others = λ t none. holds.core.2.words.others t
        (λ id there same. none id (holds.core.2.words.published id there ∙ ap Some same));
    given = sym holds.core.2.words.given;
    within = (
      (let same = holds.core.2.words.given in let few = holds.words.given in omega arith),
      (let same = holds.core.2.words.given in let noted = own.count in omega arith),
    );
    few = all_rows.0;
    published = all_rows.1;
    known = λ id t there has.
        let published = known_is_published g l most s k v sits core holds.core.1 holds.core.2 id there in
        holds.core.2.words.published id published ∙ ap Some (sym (state_is g l s.words (sight_at g core k) v id t of.layout own has));
    lower = λ t.
        let noted = seen_lower_within g l s.words (sight_at g core k) v t of.layout own in
        let sound = (holds.core.1.seen k).lower t in omega arith;
    upper = λ t.
        let noted = seen_upper_within g l s.words (sight_at g core k) v t of.problem of.layout own in
        let sound = (holds.core.1.seen k).upper t in omega arith;
  }

pub final_closed : (g : Ground) (l : Layout) (most k : ℕ) (v : View) (ws : List ℕ) (xs : List (Unit {0})) → IsViewOf g l v
    → Final (Seen (Holds g l most) k v) ws xs → AreClosed l ws
final_closed g l most k v ws xs of (s, seen, same, long, there) = subst (AreClosed l) same (closed g l most s k v seen.0 seen.1 of)

pub final_image : (g : Ground) (l : Layout) (most k : ℕ) (v : View) (ws : List ℕ) (xs : List (Unit {0})) (z : TableId) → IsViewOf g l v
    → Final (Seen (Holds g l most) k v) ws xs → IsImage (board g l most z) v (image_in g l ws)
final_image g l most k v ws xs z of (s, seen, same, long, there) =
    subst (λ (w : List ℕ). IsImage (board g l most z) v (image_in g l w)) same (image g l most s k v seen.0 seen.1 of z)
