-- Each step of a call is allowed: it is a step of the rule.
use Rattle.std.proofs.Common.{◌≡◌, ◌≢◌, ℕ, ◌+◌, ◌-◌, ◌<◌, min, max, nat_eq, Some, None, refl, sym, ap, ◌∙◌, subst, arith}
use Rattle.std.specs.Prelude.{slice_set}
use Rattle.std.proofs.lemmas.Bool.{eq-eqb, ne_eqb}
use Rattle.std.proofs.lemmas.List.{set-get_or}
use mathlib.Core.Option.{none}
use mathlib.Core.Logic.{dite}
use native.Mathlib.Decide.{ℕ_discrete}
use prog.Atomic.{either}
use Rattle.atomic_table.specs.Table.{step, keeps, Allows, Splits, Joins}
use Rattle.atomic_table.proofs.Lists.{set_here, set_else}
use Rattle.ground_model.specs.Ground.{Ground}
use Rattle.ground_model.specs.Packed.{State}
use Rattle.bound_core.specs.declared.event.Event.{Event}
use Rattle.bound_core.specs.declared.event.Event.TheVariants.{SeeLower, SeeUpper, Raise, Sink, Claim, Write, Publish, Look, Split, Join}
use Rattle.word_table.specs.declared.layout.Layout.{Layout}
use Rattle.word_table.specs.layout.Places.{bucket_at, state_at, lower_at, upper_at}
use Rattle.word_table.proofs.lemmas.layout.Places.{state_words_differ}
use Rattle.word_table.specs.declared.view.View.{View}
use Rattle.word_table.specs.view.Views.{knows, CanRaise, CanSink, CanPublish}
use Rattle.word_table.specs.view.Steps.{with_lower_load, with_upper_load, with_lower, with_upper, with_count, with_spare, with_written, with_held, with_empty, with_state_word, with_published, without_rights, with_one_right, less_one_right, united, richer, spent}
use Rattle.word_table.specs.rule.Words.{Table, word, given_in, held_in, lower_in, upper_in}
use Rattle.word_table.specs.rule.Rule.{Holds}
use Rattle.word_table.specs.rule.Told.{TellsLower, TellsUpper, TellsNone, HasRoom}
use Rattle.word_table.specs.rule.Laws.{IsViewOf, IsStep, Sits, with_view, with_word}
use Rattle.word_table.proofs.lemmas.rule.Lists.{inside}
use Rattle.word_table.proofs.lemmas.rule.Looks.{lower_load_is_a_step, upper_load_is_a_step, count_load_is_a_step, held_load_is_a_step, empty_load_is_a_step, state_load_is_a_step}
use Rattle.word_table.proofs.lemmas.rule.Numbers.{raise_is_a_step, sink_is_a_step}
use Rattle.word_table.proofs.lemmas.rule.Ids.{step_keeps_the_rule, claim_is_a_step, write_is_a_step}
use Rattle.word_table.proofs.lemmas.rule.Publishing.{publish_is_a_step}
use Rattle.word_table.proofs.lemmas.rule.Seats.{split_is_a_step, one_right_is_a_step, join_is_a_step, rights_join_is_a_step}
use Rattle.word_table.proofs.lemmas.rule.Told.{lower_is_told, upper_is_told, count_is_told, held_is_told, empty_is_told, states_are_told, one_state_is_told}
use Rattle.word_table.specs.Plays.{Mine, Finds, lower_loaded, upper_loaded, lower_raised, upper_sunk, counted, claimed, wrote, looked, put, read}

abbrev Same : Mine → Mine → Type 0
Same m n = m ≡ n

module _ (g : Ground) (l : Layout) (most : ℕ) (slots k : ℕ) (me : Mine) (view : IsViewOf g l me.0) where
  -- the rule holds of a table, of which this seat has a view
  abbrev At : Table → View → Type 0
  At s v = Sits g l most s k v

  -- what a load may tell, by a table of which the rule holds
  abbrev Loads : ℕ → (ℕ → Mine → Type 0) → Type 0
  Loads i then = (s : Table) → At s me.0
      → (w : View) × (e : Event) × IsStep g l most s (with_view s k w) e × IsViewOf g l w
      × (At (with_view s k w) w → then (word s.words i) (w, me.1))

  after_view : (s : Table) (w : View) → At s me.0 → IsViewOf g l w → Holds g l most (with_view s k w) → At (with_view s k w) w
  after_view s w sits is holds = record { holds = holds; here = set_here s.views k w (inside s.views k me.0 sits.here); view = is }

  load_allowed : (i : ℕ) (then : ℕ → Mine → Type 0) → Loads i then → Allows (Holds g l most) slots k me i (λ n. n) then
  load_allowed i then each s holds long here small =
      let sits : At s me.0 = record { holds = holds; here = here; view = view } in
      let t = each s sits in
      let kept = step_keeps_the_rule g l most s (with_view s k t.0) t.1 holds t.2 in (
        t.0,
        keeps,
        tt,
        subst (λ ws. Holds g l most record { words = ws; homes = s.homes; views = slice_set s.views k t.0 }) (sym (set-get_or s.words i 0)) kept,
        t.4 (after_view s t.0 sits t.3 kept),
      )

  -- what a step that writes may tell
  abbrev Changes : ℕ → (ℕ → ℕ) → (ℕ → Mine → Type 0) → Type 0
  Changes i f then = (s : Table) → At s me.0
      → (w : View) × (e : Event) × IsStep g l most s (with_word s i (f (word s.words i)) k w) e × then (word s.words i) (w, me.1)

  change_allowed : (i : ℕ) (f : ℕ → ℕ) (then : ℕ → Mine → Type 0) → Changes i f then → Allows (Holds g l most) slots k me i f then
  change_allowed i f then each s holds long here small =
      let sits : At s me.0 = record { holds = holds; here = here; view = view } in
      let t = each s sits in
      (t.0, keeps, tt, step_keeps_the_rule g l most s (with_word s i (f (word s.words i)) k t.0) t.1 holds t.2, t.3)

  -- an exchange is a look where it is refused
  exchange_allowed : (i old new : ℕ) (then : ℕ → Mine → Type 0)
      → ((s : Table) → At s me.0 → word s.words i ≡ old
      → (w : View) × (e : Event) × IsStep g l most s (with_word s i new k w) e × IsViewOf g l w
      × (At (with_word s i new k w) w → then (word s.words i) (w, me.1)))
      → ((s : Table) → At s me.0 → word s.words i ≢ old
      → (w : View) × (e : Event) × IsStep g l most s (with_view s k w) e × IsViewOf g l w
      × (At (with_view s k w) w → then (word s.words i) (w, me.1)))
      → Allows (Holds g l most) slots k me i (λ n. either (nat_eq n old) new n) then
  exchange_allowed i old new then hits misses s holds long here small =
      let sits : At s me.0 = record { holds = holds; here = here; view = view } in
      let n : ℕ = word s.words i in
      dite (ℕ_discrete n old)
      (λ hit.
      let t = hits s sits hit in
      let kept = step_keeps_the_rule g l most s (with_word s i new k t.0) t.1 holds t.2 in (
        t.0,
        keeps,
        tt,
        subst (λ b. Holds g l most (with_word s i (either b new n) k t.0)) (sym (eq-eqb n old hit)) kept,
        t.4 record { holds = kept; here = set_here s.views k t.0 (inside s.views k me.0 here); view = t.3 },
      ))
      (λ miss.
      let t = misses s sits miss in
      let kept = step_keeps_the_rule g l most s (with_view s k t.0) t.1 holds t.2 in (
        t.0,
        keeps,
        tt,
        subst (λ b. Holds g l most (with_word s i (either b new n) k t.0)) (sym (ne_eqb n old miss))
            (subst (λ ws. Holds g l most record { words = ws; homes = s.homes; views = slice_set s.views k t.0 }) (sym (set-get_or s.words i 0)) kept),
        t.4 (after_view s t.0 sits t.3 kept),
      ))

  -- ---- numbers

  pub lower_load_allowed : (i id : ℕ) → i ≡ lower_at l id → knows me.0 id
      → Allows (Holds g l most) slots k me i (λ n. n) (lower_loaded (step slots i 0 0 none) me)
  lower_load_allowed i id is known = load_allowed i (lower_loaded (step slots i 0 0 none) me)
      (λ s sits.
      let at : word s.words i ≡ lower_in l s.words id = ap (word s.words) is in (
        with_lower_load me.0 id (lower_in l s.words id),
        SeeLower k id,
        lower_load_is_a_step g l most s k me.0 id sits known,
        record { live = view.live; problem = view.problem; layout = view.layout },
        (λ _ j there.
            let same : j ≡ id = (let e : lower_at l id ≡ lower_at l j = sym is ∙ (there ∙ ap (λ m. lower_at m j) view.layout) in omega arith) in
            subst (λ n. let w : View = with_lower_load me.0 id (lower_in l s.words id) in
            Same (w, me.1) (with_lower_load me.0 n (word s.words i), me.1) × TellsLower me.0.problem me.0 n (word s.words i)) (sym same)
            (subst (λ x. let w : View = with_lower_load me.0 id (lower_in l s.words id) in
            Same (w, me.1) (with_lower_load me.0 id x, me.1) × TellsLower me.0.problem me.0 id x) (sym at)
            (refl, subst (λ p. TellsLower p me.0 id (lower_in l s.words id)) (sym view.problem) (lower_is_told g l most s k me.0 id sits known)))),
      ))

  pub upper_load_allowed : (i id : ℕ) → i ≡ upper_at l id → knows me.0 id
      → Allows (Holds g l most) slots k me i (λ n. n) (upper_loaded (step slots i 0 0 none) me)
  upper_load_allowed i id is known = load_allowed i (upper_loaded (step slots i 0 0 none) me)
      (λ s sits.
      let at : word s.words i ≡ upper_in l s.words id = ap (word s.words) is in (
        with_upper_load me.0 id (upper_in l s.words id),
        SeeUpper k id,
        upper_load_is_a_step g l most s k me.0 id sits known,
        record { live = view.live; problem = view.problem; layout = view.layout },
        (λ _ j there.
            let same : j ≡ id = (let e : upper_at l id ≡ upper_at l j = sym is ∙ (there ∙ ap (λ m. upper_at m j) view.layout) in omega arith) in
            subst (λ n. let w : View = with_upper_load me.0 id (upper_in l s.words id) in
            Same (w, me.1) (with_upper_load me.0 n (word s.words i), me.1) × TellsUpper me.0.problem me.0 n (word s.words i)) (sym same)
            (subst (λ x. let w : View = with_upper_load me.0 id (upper_in l s.words id) in
            Same (w, me.1) (with_upper_load me.0 id x, me.1) × TellsUpper me.0.problem me.0 id x) (sym at)
            (refl, subst (λ p. TellsUpper p me.0 id (upper_in l s.words id)) (sym view.problem) (upper_is_told g l most s k me.0 id sits known)))),
      ))

  pub raise_allowed : (i id n : ℕ) → i ≡ lower_at l id → CanRaise me.0 id n
      → Allows (Holds g l most) slots k me i (λ x. max x n) (lower_raised (step slots i n 0 none) me)
  raise_allowed i id n is can = change_allowed i (λ x. max x n) (lower_raised (step slots i n 0 none) me)
      (λ s sits. (
        with_lower me.0 id n,
        Raise k id n,
        subst (λ j. IsStep g l most s (with_word s j (max (word s.words j) n) k (with_lower me.0 id n)) (Raise k id n)) (sym is) (raise_is_a_step g l most s k me.0 id n sits can),
        (λ j there.
            let same : id ≡ j = (let e : lower_at l id ≡ lower_at l j = sym is ∙ (there ∙ ap (λ m. lower_at m j) view.layout) in omega arith) in
            ap (λ m. (with_lower me.0 m n, me.1)) same),
      ))

  pub sink_allowed : (i id x : ℕ) → i ≡ upper_at l id → CanSink me.0 id x
      → Allows (Holds g l most) slots k me i (λ n. min n x) (upper_sunk (step slots i x 0 none) me)
  sink_allowed i id x is can = change_allowed i (λ n. min n x) (upper_sunk (step slots i x 0 none) me)
      (λ s sits. (
        with_upper me.0 id x,
        Sink k id x,
        subst (λ j. IsStep g l most s (with_word s j (min (word s.words j) x) k (with_upper me.0 id x)) (Sink k id x)) (sym is) (sink_is_a_step g l most s k me.0 id x sits can),
        (λ j there.
            let same : id ≡ j = (let e : upper_at l id ≡ upper_at l j = sym is ∙ (there ∙ ap (λ m. upper_at m j) view.layout) in omega arith) in
            ap (λ m. (with_upper me.0 m x, me.1)) same),
      ))

  -- ---- ids

  pub count_allowed : Allows (Holds g l most) slots k me 0 (λ n. n) (counted (step slots 0 0 0 none) me)
  count_allowed = load_allowed 0 (counted (step slots 0 0 0 none) me)
      (λ s sits. (
        with_count me.0 (given_in s.words),
        Look k None,
        count_load_is_a_step g l most s k me.0 sits,
        record { live = view.live; problem = view.problem; layout = view.layout },
        (λ _. (refl, count_is_told g l most s k me.0 sits, states_are_told g l most s k me.0 sits, one_state_is_told g l most s k me.0 sits)),
      ))

  pub claim_allowed : (from : ℕ) → me.0.spare ≡ None → 0 < me.0.rights → from < l.ids
      → Allows (Holds g l most) slots k me 0 (λ n. either (nat_eq n from) (from + 1) n) (claimed (step slots 0 from (from + 1) none) me)
  claim_allowed from none_yet right room = exchange_allowed 0 from (from + 1) (claimed (step slots 0 from (from + 1) none) me)
      (λ s sits hit. (
        with_spare me.0 from,
        Claim k,
        claim_is_a_step g l most s k me.0 from sits none_yet right room hit,
        record { live = view.live; problem = view.problem; layout = view.layout },
        (λ _. ((λ e. ap (λ n. (with_spare me.0 n, me.1)) (sym e)), λ miss. absurd (miss hit))),
      ))
      (λ s sits miss. (
        with_count me.0 (given_in s.words),
        Look k None,
        count_load_is_a_step g l most s k me.0 sits,
        record { live = view.live; problem = view.problem; layout = view.layout },
        (λ _. ((λ hit. absurd (miss hit)), λ other. (refl, count_is_told g l most s k me.0 sits))),
      ))

  pub write_allowed : (i id place x : ℕ) → i ≡ state_at l id place → me.0.spare ≡ Some id → place < l.width
      → Allows (Holds g l most) slots k me i (λ _. x) (λ _. wrote (step slots i x 0 none) me x)
  write_allowed i id place x is spare small = change_allowed i (λ _. x) (λ _. wrote (step slots i x 0 none) me x)
      (λ s sits. (
        with_written me.0 place x,
        Write k place x,
        subst (λ j. IsStep g l most s (with_word s j x k (with_written me.0 place x)) (Write k place x)) (sym is) (write_is_a_step g l most s k me.0 id place x sits spare small),
        (λ j p mine less there.
            let less' : p < l.width = subst (λ (m : Layout). p < m.width) view.layout less in
            let e : state_at l id place ≡ state_at l j p = sym is ∙ (there ∙ ap (λ m. state_at m j p) view.layout) in
            ap (λ q. (with_written me.0 q x, me.1)) (state_words_differ l id j place p small less' e).1),
      ))

  found_at : (s : Table) → At s me.0 → (bucket : ℕ) → bucket < l.buckets → (id : ℕ) → held_in s.words bucket ≡ id + 1 → id < me.0.layout.ids
  found_at s sits bucket small id here =
      let within = (held_is_told g l most s k me.0 sits).0 bucket small in
      subst (λ (m : Layout). id < m.ids) (sym view.layout) (omega arith)

  -- what a look at a bucket finds there
  finds : (s : Table) → At s me.0 → (bucket : ℕ) → bucket < l.buckets → (n : ℕ) → n ≡ held_in s.words bucket → n ≢ 0
      → (then : ℕ → Mine → Type 0) → ((m' : Mine) → Finds me bucket n m' → HasRoom m'.0 → then n m')
      → (w : View) × (e : Event) × IsStep g l most s (with_view s k w) e × IsViewOf g l w × (At (with_view s k w) w → then n (w, me.1))
  finds s sits bucket small n is full then tells =
      let id : ℕ = n - 1 in
      let here : held_in s.words bucket ≡ id + 1 = omega arith in (
        with_held me.0 bucket id,
        Look k (Some id),
        held_load_is_a_step g l most s k me.0 bucket id sits small here,
        record { live = view.live; problem = view.problem; layout = view.layout },
        (λ sits'. tells (with_held me.0 bucket id, me.1)
            (λ j e. (
              ap (λ i. (with_held me.0 bucket i, me.1)) (let same : id ≡ j = omega arith in same),
              subst (λ i. i < me.0.layout.ids) (let same : id ≡ j = omega arith in same) (found_at s sits bucket small id here),
            ))
            ((held_is_told g l most (with_view s k (with_held me.0 bucket id)) k (with_held me.0 bucket id) sits').1)),
      )

  pub look_allowed : (i bucket : ℕ) → i ≡ bucket_at bucket → bucket < l.buckets
      → Allows (Holds g l most) slots k me i (λ n. n) (looked (step slots i 0 0 none) me)
  look_allowed i bucket is small = load_allowed i (looked (step slots i 0 0 none) me)
      (λ s sits.
      let n : ℕ = word s.words i in
      let at : n ≡ held_in s.words bucket = ap (word s.words) is in
      dite (ℕ_discrete n 0)
      (λ empty. (
        with_empty me.0 bucket,
        Look k None,
        empty_load_is_a_step g l most s k me.0 bucket sits,
        record { live = view.live; problem = view.problem; layout = view.layout },
        (λ sits' b there. (
          (λ _.
              let same : bucket ≡ b = omega arith in (
                ap (λ c. (with_empty me.0 c, me.1)) same,
                subst (TellsNone me.0) same (empty_is_told g l most s k me.0 bucket sits (sym at ∙ empty)),
              )),
          (λ id e. absurd (omega arith)),
          (held_is_told g l most (with_view s k (with_empty me.0 bucket)) k (with_empty me.0 bucket) sits').1,
        )),
      ))
      (λ full. finds s sits bucket small n at full (looked (step slots i 0 0 none) me)
      (λ m' found room b there. (
        (λ z. absurd (full z)),
        subst (λ c. Finds me c n m') (let same : bucket ≡ b = omega arith in same) found,
        room,
      ))))

  pub publish_allowed : (i bucket id : ℕ) (t : State) → i ≡ bucket_at bucket → bucket < l.buckets → me.0.spare ≡ Some id → CanPublish me.0 t bucket
      → Allows (Holds g l most) slots k me i (λ n. either (nat_eq n 0) (id + 1) n) (put (step slots i 0 (id + 1) none) me)
  publish_allowed i bucket id t is small spare can = exchange_allowed i 0 (id + 1) (put (step slots i 0 (id + 1) none) me)
      (λ s sits empty.
      let at : word s.words i ≡ held_in s.words bucket = ap (word s.words) is in (
        with_published me.0 bucket,
        Publish k,
        subst (λ j. IsStep g l most s (with_word s j (id + 1) k (with_published me.0 bucket)) (Publish k)) (sym is)
            (publish_is_a_step g l most s k me.0 t id bucket sits spare small can (sym at ∙ empty)),
        record { live = view.live; problem = view.problem; layout = view.layout },
        (λ sits' b there. (
          (λ _. ap (λ c. (with_published me.0 c, me.1)) (let same : bucket ≡ b = omega arith in same)),
          (λ j e. absurd (omega arith)),
          (held_is_told g l most (with_word s i (id + 1) k (with_published me.0 bucket)) k (with_published me.0 bucket) sits').1,
        )),
      ))
      (λ s sits full. finds s sits bucket small (word s.words i) (ap (word s.words) is) full (put (step slots i 0 (id + 1) none) me)
      (λ m' found room b there. (
        (λ z. absurd (full z)),
        subst (λ c. Finds me c (word s.words i) m') (let same : bucket ≡ b = omega arith in same) found,
        room,
      )))

  pub read_allowed : (i id place : ℕ) → i ≡ state_at l id place → knows me.0 id → place < l.width
      → Allows (Holds g l most) slots k me i (λ n. n) (read (step slots i 0 0 none) me)
  read_allowed i id place is known small = load_allowed i (read (step slots i 0 0 none) me)
      (λ s sits.
      let w : View = with_state_word me.0 id place (word s.words (state_at l id place)) in (
        w,
        Look k None,
        state_load_is_a_step g l most s k me.0 id place sits known small,
        record { live = view.live; problem = view.problem; layout = view.layout },
        (λ sits' j p less there.
            let less' : p < l.width = subst (λ (m : Layout). p < m.width) view.layout less in
            let e : state_at l id place ≡ state_at l j p = sym is ∙ (there ∙ ap (λ m. state_at m j p) view.layout) in
            let same = state_words_differ l id j place p small less' e in (
              ap (λ x. (with_state_word me.0 id place x, me.1)) (ap (word s.words) (sym is)) ∙ ap (λ x. (with_state_word me.0 x place (word s.words i), me.1)) same.0 ∙ ap (λ x. (with_state_word me.0 j x (word s.words i), me.1)) same.1,
              states_are_told g l most (with_view s k w) k w sits',
              one_state_is_told g l most (with_view s k w) k w sits',
            )),
      ))

-- ---- seats

module _ (g : Ground) (l : Layout) (most : ℕ) (k : ℕ) (v : View) (view : IsViewOf g l v) where
  pub split_allowed : Splits (Holds g l most) k v v (without_rights v)
  split_allowed s holds here =
      let sits : Sits g l most s k v = record { holds = holds; here = here; view = view } in
      step_keeps_the_rule g l most s _ (Split k) holds (split_is_a_step g l most s k v sits)

  pub one_right_allowed : 0 < v.rights → ((id : ℕ) → v.spare ≡ Some id → 1 < v.rights)
      → Splits (Holds g l most) k v (less_one_right v) (with_one_right v)
  one_right_allowed right keeps_one s holds here =
      let sits : Sits g l most s k v = record { holds = holds; here = here; view = view } in
      step_keeps_the_rule g l most s _ (Split k) holds (one_right_is_a_step g l most s k v sits right keeps_one)

  module _ (other : ℕ) (w : View) (view' : IsViewOf g l w) (no_spare : w.spare ≡ None) where
    pub join_allowed : Joins (Holds g l most) k v other w (united v w) spent
    join_allowed s holds here apart there =
        let sits : Sits g l most s k v = record { holds = holds; here = here; view = view } in
        step_keeps_the_rule g l most s _ (Join k other) holds
        (join_is_a_step g l most s k v other w sits view' no_spare apart (sym (set_else s.views k other (united v w) apart) ∙ there))

    pub rights_join_allowed : Joins (Holds g l most) k v other w (richer v w) spent
    rights_join_allowed s holds here apart there =
        let sits : Sits g l most s k v = record { holds = holds; here = here; view = view } in
        step_keeps_the_rule g l most s _ (Join k other) holds
        (rights_join_is_a_step g l most s k v other w sits view' no_spare apart (sym (set_else s.views k other (richer v w) apart) ∙ there))
