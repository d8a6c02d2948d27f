-- Publications: a spare is put into an empty bucket, behind all that its state's run holds.
use Rattle.std.proofs.Common.{◌≡◌, ◌≢◌, ◌⊎◌, ℕ, suc, ◌+◌, ◌<◌, ◌≤◌, min, cond, Bool, nat_eq, true, List, [], ◌∷◌, length, map, None, Some, refl, sym, ap, ◌∙◌, subst, inl, inr, arith}
use Rattle.std.specs.Prelude.{All, Contains, IsTrue, is_some, Option, get_or, slice_set, flat_map}
use Rattle.std.specs.Option.{unwrap_or}
use Rattle.std.specs.List.{range_with_len}
use Rattle.std.proofs.lemmas.Bool.{cases_Bool, eq-eqb, ne_eqb}
use Rattle.std.proofs.lemmas.List.{length-set, get_or-set_same, get_or-set_other}
use Rattle.std.proofs.lemmas.List.Elements.{All-nil, All-cons, All-append, All-contains, All-weaker}
use mathlib.Core.Logic.{dite}
use native.Mathlib.Decide.{ℕ_discrete}
use Rattle.plain_list.proofs.Members.{Contains-nil, Contains-map_cases, Contains-flat_map_cases}
use Rattle.decision_process.specs.Process.{Outcome}
use Rattle.decision_process.specs.Levels.{nexts, successors}
use Rattle.ground_model.specs.Ground.{Ground}
use Rattle.ground_model.specs.Packed.{State, is_inside}
use Rattle.ground_model.specs.Invariant.{IsGroundProblem}
use Rattle.ground_model.specs.Steps.{ground_process}
use Rattle.ground_model.proofs.Steps.{outcomes_stay_inside}
use Rattle.ground_step.specs.Hash.{hash_of}
use Rattle.bound_core.specs.declared.event.Event.TheVariants.{Publish}
use Rattle.bound_core.specs.Numbers.{first_word, goal_word, quit_word}
use Rattle.bound_core.specs.Core.{Sight, Core, sight_at, written}
use Rattle.bound_core.specs.Events.{Allowed, publishes, learns, without_spare}
use Rattle.bound_core.specs.Sound.{Sound}
use Rattle.bound_core.proofs.Worth.{published_are_inside}
use Rattle.word_table.specs.declared.layout.Layout.{Layout}
use Rattle.word_table.specs.layout.Places.{bucket_at, state_at, lower_at, upper_at, turn}
use Rattle.word_table.specs.declared.view.notes.StateWord.{StateWord}
use Rattle.word_table.specs.declared.view.View.{View}
use Rattle.word_table.specs.view.Views.{held, state_word, written_at, drafted, CanPublish, IsOther}
use Rattle.word_table.specs.view.Steps.{words_of, with_published}
use Rattle.word_table.proofs.lemmas.view.Lists.{either_first, either_second}
use Rattle.word_table.proofs.lemmas.view.Noting.{drafted_is}
use Rattle.word_table.specs.rule.Words.{Table, word, held_in, given_in, state_in, lower_in, upper_in, IsPublished, IsRun, AreWords}
use Rattle.word_table.specs.rule.Rule.{Shows, ShowsWords, ShowsNumbers, AreRights, IsShownBy, IsHeld, IsStateWord, one_if_some}
use Rattle.word_table.specs.rule.Laws as laws
use Rattle.word_table.specs.rule.Laws.{with_word, IsStep, Sits}
use Rattle.word_table.proofs.lemmas.rule.Lists.{map_range_same, total_set, holders_set, taken_more}
use Rattle.word_table.proofs.lemmas.rule.Words.{Later, published_later, shown_later, held_later, state_words_later, below_later, above_later}
use Rattle.word_table.proofs.lemmas.rule.Facts.{own, lives, knows_in_core, known_is_published, spare_is_given, spare_is_unpublished, state_is, none_published, views_after}

-- ---- states

-- the notes of a state's words
pub all_words_of : (P : StateWord → Type 0) (id place : ℕ) (s : State)
    → ((i : ℕ) → i < length s → P (state_word id (place + i) (get_or s i 0))) → All P (words_of id place s)
all_words_of P id place [] each = All-nil P
all_words_of P id place (x ∷ xs) each = All-cons P (state_word id place x) (words_of id (place + 1) xs)
    (subst (λ p. P (state_word id p x)) (omega arith) (each 0 (omega arith)))
    (all_words_of P id (place + 1) xs (λ i below. subst (λ p. P (state_word id p (get_or xs i 0))) (omega arith) (each (suc i) (omega arith))))

-- a next state of a state inside is inside
next_is_inside : (g : Ground) → IsGroundProblem g → (s t : State) → IsTrue (is_inside (length g.atoms) s)
    → Contains (successors (ground_process g) s) t → IsTrue (is_inside (length g.atoms) t)
next_is_inside g is s t inside next = elim (cases_Bool ((ground_process g).goal s)) [
  | inl on ↦ absurd (Contains-nil t (subst (λ b. Contains (cond b [] (flat_map (λ a. nexts (ground_process g) a s) ((ground_process g).choices s))) t) on next))
  | inr off ↦
      let found = Contains-flat_map_cases (λ a. nexts (ground_process g) a s) ((ground_process g).choices s) t
      (subst (λ b. Contains (cond b [] (flat_map (λ a. nexts (ground_process g) a s) ((ground_process g).choices s))) t) off next) in
      let outcome = Contains-map_cases (λ (o : Outcome State). o.next) ((ground_process g).step found.0 s) t found.2 in
      subst (λ u. IsTrue (is_inside (length g.atoms) u)) outcome.2 (outcomes_stay_inside g is found.0 s inside outcome.0 outcome.1)
]

pub first_within : (g : Ground) (s : State) → first_word g s ≤ quit_word g.penalty
first_within g s = elim (cases_Bool ((ground_process g).goal s)) [
  | inl on ↦ subst (λ b. cond b goal_word (quit_word g.penalty) ≤ quit_word g.penalty) (sym on) (omega arith)
  | inr off ↦ subst (λ b. cond b goal_word (quit_word g.penalty) ≤ quit_word g.penalty) (sym off) (omega arith)
]

none_is_not_some : {X : Type 0} (x : X) → None ≡ Some x → ⊥
none_is_not_some x same = cc

same_some : (x y : ℕ) → Some x ≡ Some y → x ≡ y
same_some x y same = ap (λ o. unwrap_or o 0) same

same_state_some : (s t : State) → Some s ≡ Some t → s ≡ t
same_state_some s t same = ap (λ o. unwrap_or o []) same

-- ---- the step, the spare being id

module _ (g : Ground) (l : Layout) (most : ℕ) (s : Table) (k : ℕ) (v : View) (t : State) (id bucket : ℕ) (sits : Sits g l most s k v)
    (spare : v.spare ≡ Some id) (small : bucket < l.buckets) (can : CanPublish v t bucket) (empty : held_in s.words bucket ≡ 0) where
  abbrev ws : List ℕ
  ws = s.words

  abbrev ws' : List ℕ
  ws' = slice_set s.words (bucket_at bucket) (id + 1)

  in_bucket : held_in ws' bucket ≡ id + 1
  in_bucket = let wide = sits.holds.words.wide in get_or-set_same ws (bucket_at bucket) (id + 1) 0 (omega arith)

  elsewhere : (i : ℕ) → i ≢ bucket_at bucket → word ws' i ≡ word ws i
  elsewhere i other = get_or-set_other ws (bucket_at bucket) i (id + 1) 0 other

  other_bucket : (b : ℕ) → b ≢ bucket → held_in ws' b ≡ held_in ws b
  other_bucket b other = elsewhere (bucket_at b) (λ z. other (omega arith))

  taken_still : (b : ℕ) → held_in ws b ≢ 0 → held_in ws' b ≡ held_in ws b
  taken_still b full = other_bucket b (λ same. full (ap (held_in ws) same ∙ empty))

  given_still : given_in ws' ≡ given_in ws
  given_still = elsewhere 0 (λ z. omega arith)

  state_still : (i p : ℕ) → word ws' (state_at l i p) ≡ word ws (state_at l i p)
  state_still i p = elsewhere (state_at l i p) (λ z. omega arith)

  lower_still : (i : ℕ) → lower_in l ws' i ≡ lower_in l ws i
  lower_still i = elsewhere (lower_at l i) (λ z. omega arith)

  upper_still : (i : ℕ) → upper_in l ws' i ≡ upper_in l ws i
  upper_still i = elsewhere (upper_at l i) (λ z. omega arith)

  later : Later l ws ws'
  later = record {
    given = (let same = given_still in omega arith);
    held = λ b i below here. taken_still b (λ z. absurd (omega arith)) ∙ here;
    state = λ i p there below. state_still i p;
    lower = λ i there. let same = lower_still i in omega arith;
    upper = λ i there. let same = upper_still i in omega arith;
  }

  states_still : (i : ℕ) → state_in l ws' i ≡ state_in l ws i
  states_still i = map_range_same (λ p. word ws' (state_at l i p)) (λ p. word ws (state_at l i p)) 0 l.width (λ p low high. state_still i p)

  published_now : IsPublished l ws' id
  published_now = (bucket, small, in_bucket)

  published_before : (i : ℕ) → i ≢ id → IsPublished l ws' i → IsPublished l ws i
  published_before i other (b, below, here) = (b, below, sym (other_bucket b (λ same. other (let full = in_bucket in let at : held_in ws' bucket ≡ i + 1 = ap (held_in ws') (sym same) ∙ here in omega arith))) ∙ here)

  abbrev wide : length t ≡ l.width
  wide = can.written.whole ∙ ap (λ (m : Layout). m.width) sits.view.layout

  -- the buckets of the run before this one hold other states
  clear_here : turn l (hash_of t) can.clear.turns ≡ bucket
  clear_here = subst (λ m. turn m (hash_of t) can.clear.turns ≡ bucket) sits.view.layout can.clear.here

  clear_other : (m : ℕ) → m < can.clear.turns → IsOther v (turn l (hash_of t) m) t
  clear_other m before = subst (λ a. IsOther v (turn a (hash_of t) m) t) sits.view.layout (can.clear.others m before)

  module _ (c : Core) (sound : Sound g c) (shows : Shows g l s c) where
    abbrev w : Sight
    w = sight_at g c k

    abbrev mine : IsShownBy g l ws w v
    mine = own g l most s k v sits c sound shows

    unpublished : IsPublished l ws id → ⊥
    unpublished = spare_is_unpublished g l most s k v sits c sound shows id spare

    is_below : id < l.ids
    is_below = let few = sits.holds.words.given in let given = spare_is_given g l most s k v sits c sound shows id spare in omega arith

    word_is : (p : ℕ) → p < l.width → (w.draft p ≡ Some (get_or t p 0)) × (word ws (state_at l id p) ≡ get_or t p 0)
    word_is p below =
        let at = can.written.words p (let same = wide in omega arith) in
        let d = mine.draft p (get_or t p 0) at in (d.0, d.1.here id spare)

    written_is : written g w ≡ t
    written_is =
        let as_drafted : map (λ p. unwrap_or (w.draft p) 0) (range_with_len 0 l.width) ≡ drafted v
        = map_range_same (λ p. unwrap_or (w.draft p) 0) (λ p. unwrap_or (written_at v.draft p) 0) 0 l.width
        (λ p low high. ap (λ o. unwrap_or o 0) ((word_is p (omega arith)).0 ∙ sym (can.written.words p (let same = wide in omega arith))))
        ∙ ap (λ (m : Layout). map (λ p. unwrap_or (written_at v.draft p) 0) (range_with_len 0 m.width)) (sym sits.view.layout) in
        ap (λ n. map (λ p. unwrap_or (w.draft p) 0) (range_with_len 0 n)) (sym sits.holds.table.width) ∙ as_drafted ∙ drafted_is v t can.written

    spare_state : state_in l ws id ≡ t
    spare_state =
        map_range_same (λ p. word ws (state_at l id p)) (λ p. unwrap_or (written_at v.draft p) 0) 0 l.width
        (λ p low high. (word_is p (omega arith)).1 ∙ sym (ap (λ o. unwrap_or o 0) (can.written.words p (let same = wide in omega arith))))
        ∙ ap (λ (m : Layout). map (λ p. unwrap_or (written_at v.draft p) 0) (range_with_len 0 m.width)) (sym sits.view.layout)
        ∙ drafted_is v t can.written

    other_is : (m : ℕ) → m < can.clear.turns → held_in ws (turn l (hash_of t) m) ≢ 0
    other_is m before z =
        let o = clear_other m before in
        let here = (All-contains (IsHeld g l ws) v.held (held (turn l (hash_of t) m) o.id) mine.held o.found).here in omega arith

    -- no published state is the new one
    fresh : (i : ℕ) → IsPublished l ws i → state_in l ws i ≢ t
    fresh i there same = none_published g l ws w v t bucket sits.view.layout sits.holds.words mine can.clear empty i there same

    words_now : AreWords g l ws'
    words_now = let old = sits.holds.words in record {
      wide = length-set ws (bucket_at bucket) (id + 1) ∙ old.wide;
      given = (let same = given_still in let few = old.given in omega arith);
      once = λ b d below below' full same. dite (ℕ_discrete b bucket)
          (λ here. dite (ℕ_discrete d bucket) (λ there. here ∙ sym there)
          (λ else. absurd (unpublished (d, below', sym (other_bucket d else) ∙ (sym same ∙ (ap (held_in ws') here ∙ in_bucket))))))
          (λ other. dite (ℕ_discrete d bucket)
          (λ there. absurd (unpublished (b, below, sym (other_bucket b other) ∙ (same ∙ (ap (held_in ws') there ∙ in_bucket)))))
          (λ else. old.once b d below below' (λ z. full (other_bucket b other ∙ z)) (sym (other_bucket b other) ∙ (same ∙ other_bucket d else))));
      run = λ b i below here. dite (ℕ_discrete b bucket)
          (λ at.
          let ids : i ≡ id = (let full = in_bucket in let moved : held_in ws' bucket ≡ i + 1 = ap (held_in ws') (sym at) ∙ here in omega arith) in
          let state : state_in l ws' i ≡ t = states_still i ∙ (ap (state_in l ws) ids ∙ spare_state) in
          subst (λ u. IsRun l ws' u b) (sym state) record {
            turns = can.clear.turns;
            here = clear_here ∙ sym at;
            taken = λ m before z. other_is m before (sym (taken_still (turn l (hash_of t) m) (other_is m before)) ∙ z);
          })
          (λ other.
          let r = old.run b i below (sym (other_bucket b other) ∙ here) in
          subst (λ u. IsRun l ws' u b) (sym (states_still i)) record {
            turns = r.turns;
            here = r.here;
            taken = λ m before z. r.taken m before (sym (taken_still (turn l (hash_of (state_in l ws i)) m) (r.taken m before)) ∙ z);
          });
      as_made = λ i below not.
          let made = old.as_made i below (λ there. not (published_later l ws ws' later i there)) in
          (lower_still i ∙ made.0, upper_still i ∙ made.1);
    }

    rights_now : AreRights l most (record { words = ws'; homes = s.homes; views = slice_set s.views k (with_published v bucket) })
    rights_now = let v' : View = with_published v bucket in record {
      total = (let sum = total_set s.views k v v' sits.here in let all = sits.holds.rights.total in omega arith);
      balance = (
          let sum = holders_set s.views k v v' sits.here in
          let one : one_if_some v.spare ≡ 1 = ap one_if_some spare in
          let all = sits.holds.rights.balance in
          let same = given_still in
          let more = taken_more ws ws' l.buckets bucket small empty (λ z. let full = in_bucket in omega arith) other_bucket in
          omega arith);
    }

    allowed : Allowed g c (Publish k)
    allowed =
        let problem = sits.holds.table.problem in
        let r = can.reached in
        let there = known_is_published g l most s k v sits c sound shows r.id r.known in
        let from = state_is g l ws w v r.id r.from sits.view.layout mine r.has in
        let next : Contains (successors (ground_process g) r.from) t = subst (λ (p : Ground). Contains (successors (ground_process p) r.from) t) sits.view.problem r.next in
        let at : c.state_of r.id ≡ Some r.from = shows.words.published r.id there ∙ ap Some (sym from) in
        let inside = next_is_inside g problem r.from t (published_are_inside g problem c sound.states r.id r.from at) next in (
          lives g l most s k v sits c sound shows,
          record {
            has_spare = ap is_some (mine.spare ∙ spare);
            is_whole = λ p below. ap is_some ((word_is p (let same = sits.holds.table.width in omega arith)).0);
            is_state = subst (λ u. IsTrue (is_inside (length g.atoms) u)) (sym written_is) inside;
            is_new = λ i same.
                let p = shows.words.in_bucket i (written g w) same in
                fresh i p (same_state_some (state_in l ws i) (written g w) (sym (shows.words.published i p) ∙ same) ∙ written_is);
            is_reached = (r.id, r.from, (knows_in_core g l most s k v sits c sound shows r.id r.known).1, at, subst (λ u. Contains (successors (ground_process g) r.from) u) (sym written_is) next);
          },
        )

    abbrev new_state : ℕ → Option State
    new_state = λ i. cond (nat_eq i id) (Some (written g w)) (c.state_of i)

    state_of_id : new_state id ≡ Some (written g w)
    state_of_id = ap (λ b. cond b (Some (written g w)) (c.state_of id)) (eq-eqb id id refl)

    state_of_other : (i : ℕ) → i ≢ id → new_state i ≡ c.state_of i
    state_of_other i other = ap (λ b. cond b (Some (written g w)) (c.state_of i)) (ne_eqb i id other)

    shown_now : (workers : List Sight) → ShowsWords g l ws' (record c { state_of = new_state; workers = workers })
    shown_now workers = let c' : Core = record c { state_of = new_state; workers = workers } in record {
      given = shows.words.given ∙ sym given_still;
      published = λ i there. dite (ℕ_discrete i id)
          (λ same. subst (λ j. new_state j ≡ Some (state_in l ws' j)) (sym same)
          (state_of_id ∙ ap Some (written_is ∙ (sym spare_state ∙ sym (states_still id)))))
          (λ other. state_of_other i other ∙ (shows.words.published i (published_before i other there) ∙ ap Some (sym (states_still i))));
      in_bucket = λ i u at. dite (ℕ_discrete i id)
          (λ same. subst (IsPublished l ws') (sym same) published_now)
          (λ other. published_later l ws ws' later i (shows.words.in_bucket i u (sym (state_of_other i other) ∙ at)));
      numbers = λ i there. dite (ℕ_discrete i id)
          (λ same. subst (ShowsNumbers g l ws' c') (sym same)
          (let state : state_in l ws' id ≡ t = states_still id ∙ spare_state in
          let made = sits.holds.words.as_made id is_below unpublished in
          let old = shows.words.others t fresh in
          let quits : upper_in l ws' id ≡ quit_word g.penalty = upper_still id ∙ made.1 in
          let within = first_within g t in record {
            lower = ap c.lower state ∙ (old.0 ∙ sym (lower_still id ∙ made.0));
            upper = ap c.upper state ∙ (old.1 ∙ ((let least : first_word g t ≡ min (first_word g t) (upper_in l ws' id) = omega arith in least) ∙ ap (λ u. min (first_word g u) (upper_in l ws' id)) (sym state)));
            within_quit = omega arith;
            at_goal = λ is. inl quits;
          }))
          (λ other.
          let old = shows.words.numbers i (published_before i other there) in
          let state = states_still i in
          let upper = upper_still i in record {
            lower = ap c.lower state ∙ (old.lower ∙ sym (lower_still i));
            upper = ap c.upper state ∙ (old.upper ∙ (ap (min (first_word g (state_in l ws i))) (sym upper) ∙ ap (λ u. min (first_word g u) (upper_in l ws' i)) (sym state)));
            within_quit = (let within = old.within_quit in omega arith);
            at_goal = λ is. subst (λ y. (y ≡ quit_word g.penalty) ⊎ (y ≡ goal_word)) (sym upper) (old.at_goal (ap (ground_process g).goal (sym state) ∙ is));
          });
      others = λ u none. shows.words.others u (λ i there same. none i (published_later l ws ws' later i there) (states_still i ∙ same));
    }

    -- what the view notes, the id of its spare being n
    view_now : (n : ℕ) → n ≡ id → unwrap_or v.spare 0 ≡ id → IsShownBy g l ws' (learns n (without_spare w)) (with_published v bucket)
    view_now n same own_id =
        let m : ℕ = unwrap_or v.spare 0 in
        let knows : ℕ → Bool = (learns n (without_spare w)).knows in record {
          live = mine.live;
          first = mine.first;
          count = (let old = mine.count in let given = given_still in omega arith);
          spare = refl;
          right = λ i its. absurd (none_is_not_some i its);
          draft = λ p x e. absurd (none_is_not_some x e);
          known = All-cons (λ i. knows i ≡ true) m v.known (either_first (nat_eq m n) (w.knows m) (eq-eqb m n (own_id ∙ sym same)))
              (All-weaker (λ i. w.knows i ≡ true) (λ i. knows i ≡ true) (λ i on. either_second (nat_eq i n) (w.knows i) on) v.known mine.known);
          held = All-cons (IsHeld g l ws') (held bucket m) v.held
              record { bucket = small; here = in_bucket ∙ ap (λ i. i + 1) (sym own_id) } (held_later g l ws ws' later w v mine.held);
          words = All-append (IsStateWord g l ws') (words_of m 0 (drafted v)) v.words
              (all_words_of (IsStateWord g l ws') m 0 (drafted v)
              (λ i below.
              let is = drafted_is v t can.written in
              let long : length (drafted v) ≡ l.width = ap length is ∙ wide in
              subst (λ p. IsStateWord g l ws' (state_word m p (get_or (drafted v) i 0))) (let z : i ≡ 0 + i = omega arith in z)
              (subst (λ j. IsStateWord g l ws' (state_word j i (get_or (drafted v) i 0))) (sym own_id) record {
                published = published_now;
                place = omega arith;
                here = state_still id i ∙ ((word_is i (omega arith)).1 ∙ ap (λ u. get_or u i 0) (sym is));
              })))
              (state_words_later g l ws ws' later w v mine.words);
          lower = below_later g l ws ws' later w v mine.lower;
          upper = above_later g l ws ws' later w v mine.upper;
        }

    shows_now : (n : ℕ) → n ≡ id → unwrap_or v.spare 0 ≡ id
        → Shows g l (with_word s (bucket_at bucket) (id + 1) k (with_published v bucket)) (publishes g c k n)
    shows_now n same own_id =
        let v' : View = with_published v bucket in
        let x : Sight = learns n (without_spare w) in
        let workers : List Sight = slice_set c.workers k x in
        let known : (i : ℕ) → cond (nat_eq i n) (Some (written g w)) (c.state_of i) ≡ new_state i
        = λ i. ap (λ j. cond (nat_eq i j) (Some (written g w)) (c.state_of i)) same in
        subst (λ (f : ℕ → Option State). Shows g l (with_word s (bucket_at bucket) (id + 1) k v') (record c { state_of = f; workers = workers }))
        (λ z i. sym (known i) z) record {
          words = shown_now workers;
          count = length-set c.workers k x ∙ (shows.count ∙ sym (length-set s.views k v'));
          views = views_after g l most s k v sits c sound shows ws' x v' (view_now n same own_id)
              (λ j u else at. shown_later g l ws ws' later (sight_at g c j) u (λ i p its below. state_still i p) (shows.views j u at));
        }

  publishes_spare : unwrap_or v.spare 0 ≡ id → IsStep g l most s (with_word s (bucket_at bucket) (id + 1) k (with_published v bucket)) (Publish k)
  publishes_spare own_id =
      let core = sits.holds.core in record {
        words = words_now core.0 core.1 core.2;
        rights = rights_now core.0 core.1 core.2;
        event = λ c sound shows. (
          allowed c sound shows,
          shows_now c sound shows (unwrap_or (sight_at g c k).spare 0)
              (ap (λ o. unwrap_or o 0) ((own g l most s k v sits c sound shows).spare ∙ spare)) own_id,
        );
      }

pub publish_is_a_step : (g : Ground) (l : Layout) (most : ℕ) → laws.PublishIsAStep g l most
publish_is_a_step g l most s k v t id bucket sits spare small can empty =
    publishes_spare g l most s k v t id bucket sits spare small can empty (ap (λ o. unwrap_or o 0) spare)
