-- Raises and sinks.
use Rattle.std.proofs.Common.{◌≡◌, ◌≢◌, ◌⊎◌, ℕ, ◌<◌, ◌≤◌, min, max, true, List, Some, refl, sym, ap, ◌∙◌, subst, inr, ⊎_elim, arith}
use Rattle.std.specs.Prelude.{slice_set}
use Rattle.std.proofs.lemmas.List.{length-set, get_or-set_same, get_or-set_other}
use mathlib.Core.Logic.{dite}
use native.Mathlib.Decide.{ℕ_discrete}
use Rattle.fixed_round.specs.Words.{value_of}
use Rattle.decision_process.specs.Following.{IsLowerFrom}
use Rattle.decision_process.proofs.Backups.{lower_still_follows, upper_still_follows}
use Rattle.ground_model.specs.Ground.{Ground}
use Rattle.ground_model.specs.Packed.{State}
use Rattle.ground_model.specs.Steps.{ground_process}
use Rattle.bound_core.specs.Numbers.{act_of, first_word, goal_word, quit_word, raised_at, sunk_at, IsSupported}
use Rattle.bound_core.specs.Core.{Sight, Core, sight_at, state_at}
use Rattle.bound_core.specs.Events.{sees_lower, sees_upper}
use Rattle.bound_core.specs.Sound.{Sound}
use Rattle.word_table.specs.declared.layout.Layout.{Layout}
use Rattle.word_table.specs.layout.Places.{lower_at, upper_at}
use Rattle.word_table.specs.layout.Places as places
use Rattle.word_table.proofs.lemmas.layout.Places.{state_words_are_within}
use Rattle.word_table.specs.declared.view.View.{View}
use Rattle.word_table.specs.view.Views.{seen_lower, seen_upper}
use Rattle.word_table.specs.view.Steps.{with_lower, with_upper}
use Rattle.word_table.specs.rule.Words.{word, state_in, lower_in, upper_in, IsPublished, AreWords}
use Rattle.word_table.specs.rule.Rule.{ShowsWords, ShowsNumbers}
use Rattle.word_table.specs.rule.Laws as laws
use Rattle.word_table.proofs.lemmas.rule.States.{raised_here, raised_other, sunk_here, sunk_other}
use Rattle.word_table.proofs.lemmas.rule.Words.{Kept, kept_is_later, published_before, published_later, state_later, words_kept, shown_later}
use Rattle.word_table.proofs.lemmas.rule.Facts.{own, spare_is_given, knows_in_core, known_is_published, state_at_is, one_id, is_given, state_is, seen_lower_within, seen_upper_within, views_after}
use Rattle.word_table.proofs.lemmas.rule.Looks.{noted_lower, noted_upper, rights_same}

-- the numbers of an id whose state stays
pub numbers_with : (g : Ground) (l : Layout) (ws ws' : List ℕ) (c : Core) (id : ℕ) → state_in l ws' id ≡ state_in l ws id
    → c.lower (state_in l ws id) ≡ lower_in l ws' id
    → c.upper (state_in l ws id) ≡ min (first_word g (state_in l ws id)) (upper_in l ws' id)
    → upper_in l ws' id ≤ quit_word g.penalty
    → ((ground_process g).goal (state_in l ws id) ≡ true → (upper_in l ws' id ≡ quit_word g.penalty) ⊎ (upper_in l ws' id ≡ goal_word))
    → ShowsNumbers g l ws' c id
numbers_with g l ws ws' c id same lower upper within goal = record {
  lower = ap c.lower same ∙ lower;
  upper = ap c.upper same ∙ (upper ∙ ap (λ t. min (first_word g t) (upper_in l ws' id)) (sym same));
  within_quit = within;
  at_goal = λ is. goal (ap (ground_process g).goal (sym same) ∙ is);
}

module _ (g : Ground) (l : Layout) (ws : List ℕ) (w : AreWords g l ws) (id : ℕ) (inside : id < l.ids) where
  abbrev raised_words : ℕ → List ℕ
  raised_words n = slice_set ws (lower_at l id) (max (lower_in l ws id) n)

  abbrev sunk_words : ℕ → List ℕ
  sunk_words x = slice_set ws (upper_at l id) (min (upper_in l ws id) x)

  raised_at_id : (n : ℕ) → lower_in l (raised_words n) id ≡ max (lower_in l ws id) n
  raised_at_id n = let wide = w.wide in get_or-set_same ws (lower_at l id) (max (lower_in l ws id) n) 0 (omega arith)

  sunk_at_id : (x : ℕ) → upper_in l (sunk_words x) id ≡ min (upper_in l ws id) x
  sunk_at_id x = let wide = w.wide in get_or-set_same ws (upper_at l id) (min (upper_in l ws id) x) 0 (omega arith)

  raised_elsewhere : (n i : ℕ) → i ≢ lower_at l id → word (raised_words n) i ≡ word ws i
  raised_elsewhere n i other = get_or-set_other ws (lower_at l id) i (max (lower_in l ws id) n) 0 other

  sunk_elsewhere : (x i : ℕ) → i ≢ upper_at l id → word (sunk_words x) i ≡ word ws i
  sunk_elsewhere x i other = get_or-set_other ws (upper_at l id) i (min (upper_in l ws id) x) 0 other

  module _ (here : IsPublished l ws id) (below : (i : ℕ) → IsPublished l ws i → i < l.ids) where
    raised_kept : (n : ℕ) → Kept l ws (raised_words n)
    raised_kept n = record {
      long = length-set ws (lower_at l id) (max (lower_in l ws id) n);
      given = (let same = raised_elsewhere n 0 (λ z. omega arith) in omega arith);
      within = (let same = raised_elsewhere n 0 (λ z. omega arith) in let few = w.given in omega arith);
      held = λ b small. raised_elsewhere n (places.bucket_at b) (λ z. omega arith);
      state = λ i place there small. raised_elsewhere n (places.state_at l i place)
          (λ z. let before = state_words_are_within l i place (below i there) small in omega arith);
      lower = λ i there. dite (ℕ_discrete i id)
          (λ same. subst (λ j. lower_in l ws j ≤ lower_in l (raised_words n) j) (sym same) (let now = raised_at_id n in omega arith))
          (λ other. let same = raised_elsewhere n (lower_at l i) (λ z. other (omega arith)) in omega arith);
      upper = λ i there. let same = raised_elsewhere n (upper_at l i) (λ z. omega arith) in omega arith;
      unpublished = λ i small not. (
        raised_elsewhere n (lower_at l i) (λ z. not (subst (IsPublished l ws) (omega arith) here)),
        raised_elsewhere n (upper_at l i) (λ z. omega arith),
      );
    }

    sunk_kept : (x : ℕ) → Kept l ws (sunk_words x)
    sunk_kept x = record {
      long = length-set ws (upper_at l id) (min (upper_in l ws id) x);
      given = (let same = sunk_elsewhere x 0 (λ z. omega arith) in omega arith);
      within = (let same = sunk_elsewhere x 0 (λ z. omega arith) in let few = w.given in omega arith);
      held = λ b small. sunk_elsewhere x (places.bucket_at b) (λ z. omega arith);
      state = λ i place there small. sunk_elsewhere x (places.state_at l i place)
          (λ z. let before = state_words_are_within l i place (below i there) small in omega arith);
      lower = λ i there. let small = below i there in let same = sunk_elsewhere x (lower_at l i) (λ z. omega arith) in omega arith;
      upper = λ i there. dite (ℕ_discrete i id)
          (λ same. subst (λ j. upper_in l (sunk_words x) j ≤ upper_in l ws j) (sym same) (let now = sunk_at_id x in omega arith))
          (λ other. let same = sunk_elsewhere x (upper_at l i) (λ z. other (omega arith)) in omega arith);
      unpublished = λ i small not. (
        sunk_elsewhere x (lower_at l i) (λ z. omega arith),
        sunk_elsewhere x (upper_at l i) (λ z. not (subst (IsPublished l ws) (omega arith) here)),
      );
    }

    -- the core after a raise and after a sink
    module _ (c : Core) (sound : Sound g c) (shown : ShowsWords g l ws c) where
      abbrev at : State
      at = state_at c id

      at_is : at ≡ state_in l ws id
      at_is = state_at_is g l ws c sound shown id here

      differs : (i : ℕ) → IsPublished l ws i → i ≢ id → state_in l ws i ≢ at
      differs i there other same = other (one_id g l ws c sound shown i id there here (same ∙ at_is))

      raised_shown : (n : ℕ) (workers : List Sight) → ShowsWords g l (raised_words n) (record c { lower = raised_at at n c.lower; workers = workers })
      raised_shown n workers =
          let ws' : List ℕ = raised_words n in
          let kept = raised_kept n in
          let later = kept_is_later l ws ws' kept in
          let c' : Core = record c { lower = raised_at at n c.lower; workers = workers } in record {
            given = shown.given ∙ sym (raised_elsewhere n 0 (λ z. omega arith));
            published = λ i there. let before = published_before l ws ws' kept i there in
                shown.published i before ∙ ap Some (sym (state_later l ws ws' later i before));
            in_bucket = λ i t is. published_later l ws ws' later i (shown.in_bucket i t is);
            numbers = λ i there.
                let before = published_before l ws ws' kept i there in
                let old = shown.numbers i before in
                let upper : upper_in l ws' i ≡ upper_in l ws i = raised_elsewhere n (upper_at l i) (λ z. omega arith) in
                numbers_with g l ws ws' c' i (state_later l ws ws' later i before)
                (dite (ℕ_discrete i id)
                (λ same. subst (λ j. raised_at at n c.lower (state_in l ws j) ≡ lower_in l ws' j) (sym same)
                (raised_here at (state_in l ws id) n c.lower (sym at_is) ∙ (ap (λ x. max x n) (shown.numbers id here).lower ∙ sym (raised_at_id n))))
                (λ other. raised_other at (state_in l ws i) n c.lower (differs i before other) ∙ (old.lower ∙ sym (raised_elsewhere n (lower_at l i) (λ z. other (omega arith))))))
                (old.upper ∙ ap (min (first_word g (state_in l ws i))) (sym upper))
                (let most = old.within_quit in omega arith)
                (λ is. subst (λ x. (x ≡ quit_word g.penalty) ⊎ (x ≡ goal_word)) (sym upper) (old.at_goal is));
            others = λ t none.
                let none' : (i : ℕ) → IsPublished l ws i → state_in l ws i ≢ t = λ i there same. none i (published_later l ws ws' later i there) (state_later l ws ws' later i there ∙ same) in
                let old = shown.others t none' in
                (raised_other at t n c.lower (λ same. none' id here (sym at_is ∙ sym same)) ∙ old.0, old.1);
          }

      sunk_shown : (x : ℕ) (workers : List Sight) → ((ground_process g).goal at ≡ true → x ≡ goal_word)
          → ShowsWords g l (sunk_words x) (record c { upper = sunk_at at x c.upper; workers = workers })
      sunk_shown x workers goal =
          let ws' : List ℕ = sunk_words x in
          let kept = sunk_kept x in
          let later = kept_is_later l ws ws' kept in
          let c' : Core = record c { upper = sunk_at at x c.upper; workers = workers } in record {
            given = shown.given ∙ sym (sunk_elsewhere x 0 (λ z. omega arith));
            published = λ i there. let before = published_before l ws ws' kept i there in
                shown.published i before ∙ ap Some (sym (state_later l ws ws' later i before));
            in_bucket = λ i t is. published_later l ws ws' later i (shown.in_bucket i t is);
            numbers = λ i there.
                let before = published_before l ws ws' kept i there in
                let old = shown.numbers i before in
                let small = below i before in
                let lower : lower_in l ws' i ≡ lower_in l ws i = sunk_elsewhere x (lower_at l i) (λ z. omega arith) in
                dite (ℕ_discrete i id)
                (λ same. subst (ShowsNumbers g l ws' c') (sym same)
                (let first : ℕ = first_word g (state_in l ws id) in
                let mine = shown.numbers id here in
                let now = sunk_at_id x in
                let most = mine.within_quit in
                numbers_with g l ws ws' c' id (state_later l ws ws' later id here)
                (mine.lower ∙ sym (sunk_elsewhere x (lower_at l id) (λ z. omega arith)))
                (sunk_here at (state_in l ws id) x c.upper (sym at_is) ∙ (ap (λ y. min y x) mine.upper
                ∙ (let nested : min (min first (upper_in l ws id)) x ≡ min first (min (upper_in l ws id) x) = omega arith in nested) ∙ ap (min first) (sym now)))
                (omega arith)
                (λ is. let closes : x ≡ goal_word = goal (ap (ground_process g).goal at_is ∙ is) in ⊎_elim
                (λ wide. inr (now ∙ (ap (λ y. min y x) wide ∙ (let less : min (quit_word g.penalty) x ≡ goal_word = omega arith in less))))
                (λ closed. inr (now ∙ (ap (λ y. min y x) closed ∙ (let less : min goal_word x ≡ goal_word = omega arith in less))))
                (mine.at_goal is))))
                (λ other.
                let upper : upper_in l ws' i ≡ upper_in l ws i = sunk_elsewhere x (upper_at l i) (λ z. other (omega arith)) in
                numbers_with g l ws ws' c' i (state_later l ws ws' later i before)
                (old.lower ∙ sym lower)
                (sunk_other at (state_in l ws i) x c.upper (differs i before other) ∙ (old.upper ∙ ap (min (first_word g (state_in l ws i))) (sym upper)))
                (let most = old.within_quit in omega arith)
                (λ is. subst (λ y. (y ≡ quit_word g.penalty) ⊎ (y ≡ goal_word)) (sym upper) (old.at_goal is)));
            others = λ t none.
                let none' : (i : ℕ) → IsPublished l ws i → state_in l ws i ≢ t = λ i there same. none i (published_later l ws ws' later i there) (state_later l ws ws' later i there ∙ same) in
                let old = shown.others t none' in
                (old.0, sunk_other at t x c.upper (λ same. none' id here (sym at_is ∙ sym same)) ∙ old.1);
          }

value_rises : (a b : ℕ) → a ≤ b → value_of a ≤ value_of b
value_rises a b below = omega arith

module _ (g : Ground) (l : Layout) (most : ℕ) where
  pub raise_is_a_step : laws.RaiseIsAStep g l most
  raise_is_a_step s k v id n sits can =
      let t : State = can.1.0 in
      let core = sits.holds.core in
      let there : IsPublished l s.words id = known_is_published g l most s k v sits core.0 core.1 core.2 id can.0 in
      let few = sits.holds.words.given in
      let below : (i : ℕ) → IsPublished l s.words i → i < l.ids
      = λ i p. let small = is_given g l s.words core.0 core.1 core.2.words i p in omega arith in
      let ws' : List ℕ = raised_words g l s.words sits.holds.words id (below id there) n in
      let kept = raised_kept g l s.words sits.holds.words id (below id there) there below n in
      let later = kept_is_later l s.words ws' kept in
      let v' : View = with_lower v id n in record {
        words = words_kept l s.words ws' kept g sits.holds.table.layout sits.holds.words;
        rights = rights_same g l most s k v sits ws' v' refl refl (raised_elsewhere g l s.words sits.holds.words id (below id there) n 0 (λ z. omega arith)) kept.held;
        event = λ c sound shows.
            let w : Sight = sight_at g c k in
            let mine = own g l most s k v sits c sound shows in
            let same : state_at c id ≡ state_in l s.words id = state_at_is g l s.words c sound shows.words id there in
            let is : t ≡ state_in l s.words id = state_is g l s.words w v id t sits.view.layout mine can.1.1 in
            let from : IsLowerFrom (ground_process g) (seen_lower v) t n = subst (λ p. IsLowerFrom (ground_process p) (seen_lower v) t n) sits.view.problem can.1.2 in
            let follows : IsLowerFrom (ground_process g) w.lower (state_at c id) n
            = subst (λ u. IsLowerFrom (ground_process g) w.lower u n) (is ∙ sym same)
            (lower_still_follows (ground_process g) (seen_lower v) w.lower t n from (λ off a is_open o inside. seen_lower_within g l s.words w v o.next sits.view.layout mine)) in
            let x : Sight = sees_lower (state_at c id) (max (c.lower (state_at c id)) n) w in (
              (knows_in_core g l most s k v sits c sound shows id can.0, follows),
              record {
                words = raised_shown g l s.words sits.holds.words id (below id there) there below c sound shows.words n (slice_set c.workers k x);
                count = length-set c.workers k x ∙ (shows.count ∙ sym (length-set s.views k v'));
                views = views_after g l most s k v sits c sound shows ws' x v'
                    (noted_lower g l ws' w v (shown_later g l s.words ws' later w v (λ i place spare small. raised_elsewhere g l s.words sits.holds.words id (below id there) n (places.state_at l i place) (λ z. let given = spare_is_given g l most s k v sits c sound shows i spare in let before = state_words_are_within l i place (omega arith) small in omega arith)) mine)
                    (state_at c id) (max (c.lower (state_at c id)) n) id n _ (published_later l s.words ws' later id there) (state_later l s.words ws' later id there ∙ sym same)
                    (let now = raised_at_id g l s.words sits.holds.words id (below id there) n in omega arith) (omega arith))
                    (λ j u else at. shown_later g l s.words ws' later (sight_at g c j) u
                    (λ i place spare small. raised_elsewhere g l s.words sits.holds.words id (below id there) n (places.state_at l i place)
                    (λ z. let given = sound.ids.spare_given j i ((shows.views j u at).spare ∙ spare) in let same_count = shows.words.given in let before = state_words_are_within l i place (omega arith) small in omega arith))
                    (shows.views j u at));
              },
            );
      }

  supported : (upper upper' : State → ℕ) (s : State) (x : ℕ) → ((t : State) → upper' t ≤ upper t) → IsSupported g upper s x → IsSupported g upper' s x
  supported upper upper' s x less from = record {
    at_goal = from.at_goal;
    follows = upper_still_follows (ground_process g) (λ t. value_of (upper t)) (λ t. value_of (upper' t)) s (act_of x) (value_of x)
        from.follows (λ off a is o inside. value_rises (upper' o.next) (upper o.next) (less o.next));
  }

  pub sink_is_a_step : laws.SinkIsAStep g l most
  sink_is_a_step s k v id n sits can =
      let t : State = can.1.0 in
      let core = sits.holds.core in
      let there : IsPublished l s.words id = known_is_published g l most s k v sits core.0 core.1 core.2 id can.0 in
      let few = sits.holds.words.given in
      let below : (i : ℕ) → IsPublished l s.words i → i < l.ids
      = λ i p. let small = is_given g l s.words core.0 core.1 core.2.words i p in omega arith in
      let ws' : List ℕ = sunk_words g l s.words sits.holds.words id (below id there) n in
      let kept = sunk_kept g l s.words sits.holds.words id (below id there) there below n in
      let later = kept_is_later l s.words ws' kept in
      let v' : View = with_upper v id n in record {
        words = words_kept l s.words ws' kept g sits.holds.table.layout sits.holds.words;
        rights = rights_same g l most s k v sits ws' v' refl refl (sunk_elsewhere g l s.words sits.holds.words id (below id there) n 0 (λ z. omega arith)) kept.held;
        event = λ c sound shows.
            let w : Sight = sight_at g c k in
            let mine = own g l most s k v sits c sound shows in
            let same : state_at c id ≡ state_in l s.words id = state_at_is g l s.words c sound shows.words id there in
            let is : t ≡ state_in l s.words id = state_is g l s.words w v id t sits.view.layout mine can.1.1 in
            let from : IsSupported g (seen_upper v) t n = subst (λ p. IsSupported p (seen_upper v) t n) sits.view.problem can.1.2 in
            let follows : IsSupported g w.upper (state_at c id) n
            = subst (λ u. IsSupported g w.upper u n) (is ∙ sym same)
            (supported (seen_upper v) w.upper t n (λ u. seen_upper_within g l s.words w v u sits.view.problem sits.view.layout mine) from) in
            let x : Sight = sees_upper (state_at c id) (min (c.upper (state_at c id)) n) w in (
              (knows_in_core g l most s k v sits c sound shows id can.0, follows),
              record {
                words = sunk_shown g l s.words sits.holds.words id (below id there) there below c sound shows.words n (slice_set c.workers k x) follows.at_goal;
                count = length-set c.workers k x ∙ (shows.count ∙ sym (length-set s.views k v'));
                views = views_after g l most s k v sits c sound shows ws' x v'
                    (noted_upper g l ws' w v (shown_later g l s.words ws' later w v (λ i place spare small. sunk_elsewhere g l s.words sits.holds.words id (below id there) n (places.state_at l i place) (λ z. let given = spare_is_given g l most s k v sits c sound shows i spare in let before = state_words_are_within l i place (omega arith) small in omega arith)) mine)
                    (state_at c id) (min (c.upper (state_at c id)) n) id n _ (published_later l s.words ws' later id there) (state_later l s.words ws' later id there ∙ sym same)
                    (let now = sunk_at_id g l s.words sits.holds.words id (below id there) n in omega arith) (omega arith))
                    (λ j u else at. shown_later g l s.words ws' later (sight_at g c j) u
                    (λ i place spare small. sunk_elsewhere g l s.words sits.holds.words id (below id there) n (places.state_at l i place)
                    (λ z. let given = sound.ids.spare_given j i ((shows.views j u at).spare ∙ spare) in let same_count = shows.words.given in let before = state_words_are_within l i place (omega arith) small in omega arith))
                    (shows.views j u at));
              },
            );
      }
