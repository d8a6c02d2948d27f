-- Words with one state more, while a table is made.
use Rattle.std.proofs.Common.{◌≡◌, ◌≢◌, ◌⊎◌, ℕ, zero, suc, ◌+◌, ◌<◌, List, [], ◌∷◌, ◌++◌, length, Some, None, refl, sym, ap, ◌∙◌, subst, inl, inr, ⊎_elim, arith}
use Rattle.std.specs.List.{slice_get}
use Rattle.std.proofs.lemmas.List.{length-append}
use mathlib.Core.Logic.{dite}
use native.Mathlib.Decide.{ℕ_discrete}
use Rattle.ground_model.specs.Ground.{Ground}
use Rattle.ground_model.specs.Packed.{State}
use Rattle.ground_step.specs.Hash.{hash_of}
use Rattle.bound_core.specs.Numbers.{first_word}
use Rattle.word_table.specs.declared.layout.Layout.{Layout}
use Rattle.word_table.specs.layout.Places.{IsLayout, turn}
use Rattle.word_table.proofs.lemmas.layout.Places.{turns_are_buckets}
use Rattle.word_table.specs.rule.Words.{held_in, state_in, lower_in, upper_in, IsPublished, IsRun}
use Rattle.word_table.specs.rule.Rule.{taken_below}
use Rattle.word_table.specs.rule.Made.{AreMade, IsPut}
use Rattle.word_table.specs.rule.Laws as laws
use Rattle.word_table.proofs.lemmas.rule.Lists.{taken, taken_one, taken_same}

none_is_not_some : {X : Type 0} (x : X) → None ≡ Some x → ⊥
none_is_not_some x same = cc

same_some : {X : Type 0} (x y : X) → Some x ≡ Some y → x ≡ y
same_some x y same = cc

last_or_before : (xs : List State) (x y : State) (i : ℕ) → slice_get (xs ++ x ∷ []) i ≡ Some y
    → ((i < length xs) × (slice_get xs i ≡ Some y)) ⊎ ((i ≡ length xs) × (x ≡ y))
last_or_before [] x y zero there = inr (refl, same_some x y there)
last_or_before [] x y (suc i) there = absurd (none_is_not_some y there)
last_or_before (z ∷ xs) x y zero there = inl (omega arith, there)
last_or_before (z ∷ xs) x y (suc i) there = ⊎_elim
    (λ t. let below = t.0 in inl (omega arith, t.1))
    (λ t. let last = t.0 in inr (omega arith, t.1)) (last_or_before xs x y i there)

-- one bucket more is taken
taken_more : (ws ws' : List ℕ) (n b : ℕ) → b < n → held_in ws b ≡ 0 → held_in ws' b ≢ 0
    → ((c : ℕ) → c < n → c ≢ b → held_in ws' c ≡ held_in ws c) → taken_below ws' n ≡ taken_below ws n + 1
taken_more ws ws' zero b below empty filled others = absurd (omega arith)
taken_more ws ws' (suc n) b below empty filled others = dite (ℕ_discrete n b)
    (λ here.
    let rest = taken_same ws ws' n (λ c less. others c (omega arith) (λ z. omega arith)) in
    let now : taken (held_in ws' n) ≡ 1 = ap (λ i. taken (held_in ws' i)) here ∙ taken_one (held_in ws' b) filled in
    let before : taken (held_in ws n) ≡ 0 = ap (λ i. taken (held_in ws i)) here ∙ ap taken empty in
    omega arith)
    (λ else.
    let rest = taken_more ws ws' n b (omega arith) empty filled (λ c less. others c (omega arith)) in
    let same : taken (held_in ws' n) ≡ taken (held_in ws n) = ap taken (others n (omega arith) else) in
    omega arith)

module _ (g : Ground) (l : Layout) (states : List State) (s : State) (bucket : ℕ) (ws ws' : List ℕ) (layout : IsLayout l)
    (made : AreMade g l states ws) (room : length states < l.ids) (wide : length s ≡ l.width) (put : IsPut g l s (length states) bucket ws ws') where
  abbrev n : ℕ
  n = length states

  unpublished : IsPublished l ws n → ⊥
  unpublished there = let below = made.only n there in absurd (omega arith)

  taken_still : (b : ℕ) → b < l.buckets → held_in ws b ≢ 0 → held_in ws' b ≡ held_in ws b
  taken_still b small full = put.other_buckets b small (λ same. full (ap (held_in ws) same ∙ put.empty))

  published_still : (i : ℕ) → IsPublished l ws i → IsPublished l ws' i
  published_still i (b, small, here) = (b, small, taken_still b small (λ z. absurd (omega arith)) ∙ here)

  published_now : IsPublished l ws' n
  published_now = (bucket, put.bucket, put.here)

  last : (i : ℕ) → held_in ws' bucket ≡ i + 1 → i ≡ n
  last i here = let own = put.here in omega arith

  published_before : (i : ℕ) → i ≢ n → IsPublished l ws' i → IsPublished l ws i
  published_before i other (b, small, here) =
      (b, small, sym (put.other_buckets b small (λ same. other (last i (ap (held_in ws') (sym same) ∙ here)))) ∙ here)

  longer : length (states ++ s ∷ []) ≡ n + 1
  longer = length-append states (s ∷ [])

  run_on : (t : State) (b : ℕ) → IsRun l ws t b → IsRun l ws' t b
  run_on t b r = record {
    turns = r.turns;
    here = r.here;
    taken = λ m before z. r.taken m before (sym (taken_still (turn l (hash_of t) m) (turns_are_buckets l layout (hash_of t) m) (r.taken m before)) ∙ z);
  }

  put_made : AreMade g l (states ++ s ∷ []) ws'
  put_made = record {
    wide = put.long ∙ made.wide;
    given = put.given ∙ sym longer;
    few = (let more = longer in omega arith);
    in_bucket = λ i below. dite (ℕ_discrete i n)
        (λ same. subst (IsPublished l ws') (sym same) published_now)
        (λ other. published_still i (made.in_bucket i (let more = longer in omega arith)));
    only = λ i there. dite (ℕ_discrete i n)
        (λ same. let more = longer in omega arith)
        (λ other. let below = made.only i (published_before i other there) in let more = longer in omega arith);
    once = λ b d below below' full same. dite (ℕ_discrete b bucket)
        (λ here. dite (ℕ_discrete d bucket) (λ there. here ∙ sym there)
        (λ else. absurd (unpublished (d, below', sym (put.other_buckets d below' else) ∙ (sym same ∙ (ap (held_in ws') here ∙ put.here))))))
        (λ other. dite (ℕ_discrete d bucket)
        (λ there. absurd (unpublished (b, below, sym (put.other_buckets b below other) ∙ (same ∙ (ap (held_in ws') there ∙ put.here)))))
        (λ else. made.once b d below below' (λ z. full (put.other_buckets b below other ∙ z)) (sym (put.other_buckets b below other) ∙ (same ∙ put.other_buckets d below' else))));
    run = λ b i below here. dite (ℕ_discrete b bucket)
        (λ at.
        let is : i ≡ n = last i (ap (held_in ws') (sym at) ∙ here) in
        subst (λ t. IsRun l ws' t b) (sym (ap (state_in l ws') is ∙ put.state)) (subst (IsRun l ws' s) (sym at) (run_on s bucket put.run)))
        (λ other.
        let before : held_in ws b ≡ i + 1 = sym (put.other_buckets b below other) ∙ here in
        subst (λ t. IsRun l ws' t b) (sym (put.other_states i (made.only i (b, below, before)))) (run_on (state_in l ws i) b (made.run b i below before)));
    taken = (
        let more = taken_more ws ws' l.buckets bucket put.bucket put.empty (λ z. let own = put.here in omega arith) put.other_buckets in
        let before = made.taken in let long = longer in omega arith);
    state = λ i t there. ⊎_elim
        (λ u. let old = made.state i t u.1 in (old.0, put.other_states i u.0 ∙ old.1))
        (λ u. (ap length (sym u.1) ∙ wide, ap (state_in l ws') u.0 ∙ (put.state ∙ u.1))) (last_or_before states s t i there);
    published = λ i there. dite (ℕ_discrete i n)
        (λ same. subst (λ j. (lower_in l ws' j ≡ 0) × (upper_in l ws' j ≡ first_word g (state_in l ws' j))) (sym same)
        (put.lower n room ∙ (made.others n room unpublished).0, put.upper ∙ ap (first_word g) (sym put.state)))
        (λ other.
        let before = published_before i other there in
        let below = made.only i before in
        let old = made.published i before in
        let inside : i < l.ids = omega arith in
        (put.lower i inside ∙ old.0, put.other_upper i inside other ∙ (old.1 ∙ ap (first_word g) (sym (put.other_states i below)))));
    others = λ i below not.
        let other : i ≢ n = λ same. not (subst (IsPublished l ws') (sym same) published_now) in
        let old = made.others i below (λ there. not (published_still i there)) in
        (put.lower i below ∙ old.0, put.other_upper i below other ∙ old.1);
  }

pub put_is_made : (g : Ground) (l : Layout) (most : ℕ) → laws.PutIsMade g l most
put_is_made g l most states s bucket ws ws' layout made room wide put = put_made g l states s bucket ws ws' layout made room wide put
