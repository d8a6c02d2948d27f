-- Claims, and words of states that are written.
use Rattle.std.proofs.Common.{◌≡◌, ◌≢◌, ◌⊎◌, ℕ, ◌+◌, ◌<◌, min, cond, Bool, false, nat_eq, true, List, None, Some, refl, sym, ap, ◌∙◌, subst, inl, inr, arith}
use Rattle.std.specs.Prelude.{slice_set, is_some}
use Rattle.std.specs.Option.{unwrap_or}
use Rattle.std.proofs.lemmas.Bool.{cases_Bool, eqb-true, eq-eqb}
use Rattle.std.proofs.lemmas.List.{length-set, get_or-set_same, get_or-set_other}
use Rattle.ground_model.specs.Ground.{Ground}
use Rattle.bound_core.specs.Numbers.{first_word, quit_word, goal_word}
use Rattle.bound_core.specs.Core.{Sight, Core, sight_at}
use Rattle.bound_core.specs.Events.{after, takes_spare, writes_word}
use Rattle.bound_core.proofs.Keeping.{keeps_sound}
use Rattle.word_table.specs.declared.layout.Layout.{Layout}
use Rattle.word_table.specs.layout.Places.{count_at, bucket_at, state_at, lower_at, upper_at}
use Rattle.word_table.proofs.lemmas.layout.Places.{state_words_are_within, state_words_differ}
use Rattle.word_table.specs.declared.view.View.{View}
use Rattle.word_table.specs.view.Views.{written_at}
use Rattle.word_table.specs.view.Steps.{with_spare, with_written}
use Rattle.word_table.specs.rule.Words.{word, given_in, state_in, lower_in, upper_in, IsPublished}
use Rattle.word_table.specs.rule.Rule.{ShowsWords, one_if_some}
use Rattle.word_table.specs.rule.Laws as laws
use Rattle.word_table.proofs.lemmas.rule.Lists.{total_set, holders_set, taken_same}
use Rattle.word_table.proofs.lemmas.rule.Words.{Kept, kept_is_later, published_before, published_later, state_later, words_kept, shown_later, held_later, state_words_later, below_later, above_later}
use Rattle.word_table.proofs.lemmas.rule.Facts.{own, lives, spare_is_given, spare_is_unpublished, spares_differ, views_after}
use Rattle.word_table.proofs.lemmas.rule.Looks.{rights_same}
use Rattle.word_table.proofs.lemmas.rule.Numbers.{numbers_with}

pub step_keeps_the_rule : (g : Ground) (l : Layout) (most : ℕ) → laws.StepKeepsTheRule g l most
step_keeps_the_rule g l most s s' e holds is_step =
    let core = holds.core in
    let t = is_step.event core.0 core.1 core.2 in record {
      table = holds.table;
      words = is_step.words;
      rights = is_step.rights;
      core = (after g core.0 e, keeps_sound g core.0 e core.1 t.0, t.1);
    }

-- words of which no bucket, no number and no state of a published id changes
module _ (g : Ground) (l : Layout) (ws ws' : List ℕ) (kept : Kept l ws ws')
    (lower : (id : ℕ) → lower_in l ws' id ≡ lower_in l ws id) (upper : (id : ℕ) → upper_in l ws' id ≡ upper_in l ws id) where
  shown_kept : (c : Core) (given : ℕ) (workers : List Sight) → given ≡ given_in ws' → ShowsWords g l ws c
      → ShowsWords g l ws' (record c { given = given; workers = workers })
  shown_kept c given workers is h =
      let later = kept_is_later l ws ws' kept in
      let c' : Core = record c { given = given; workers = workers } in record {
        given = is;
        published = λ i there. let before = published_before l ws ws' kept i there in
            h.published i before ∙ ap Some (sym (state_later l ws ws' later i before));
        in_bucket = λ i t at. published_later l ws ws' later i (h.in_bucket i t at);
        numbers = λ i there.
            let before = published_before l ws ws' kept i there in
            let old = h.numbers i before in
            numbers_with g l ws ws' c' i (state_later l ws ws' later i before) (old.lower ∙ sym (lower i))
            (subst (λ y. c.upper (state_in l ws i) ≡ min (first_word g (state_in l ws i)) y) (sym (upper i)) old.upper)
            (let within = old.within_quit in let same = upper i in omega arith)
            (λ at. let old_goal = old.at_goal at in
            subst (λ y. (y ≡ quit_word g.penalty) ⊎ (y ≡ goal_word)) (sym (upper i)) old_goal);
        others = λ t none. h.others t (λ i there same. none i (published_later l ws ws' later i there) (state_later l ws ws' later i there ∙ same));
      }

true_or_false : (b : Bool) → b ≡ true → b ≡ false → ⊥
true_or_false b on off = cc

none_is_not_some : {X : Type 0} (x : X) → None ≡ Some x → ⊥
none_is_not_some x same = cc

module _ (g : Ground) (l : Layout) (most : ℕ) where
  pub claim_is_a_step : laws.ClaimIsAStep g l most
  claim_is_a_step s k v from sits none_yet right room is =
      let ws : List ℕ = s.words in
      let ws' : List ℕ = slice_set ws count_at (from + 1) in
      let w = sits.holds.words in
      let long = w.wide in
      let now : given_in ws' ≡ from + 1 = get_or-set_same ws count_at (from + 1) 0 (omega arith) in
      let elsewhere : (i : ℕ) → i ≢ 0 → word ws' i ≡ word ws i = λ i other. get_or-set_other ws count_at i (from + 1) 0 other in
      let lower : (i : ℕ) → lower_in l ws' i ≡ lower_in l ws i = λ i. elsewhere (lower_at l i) (λ z. omega arith) in
      let upper : (i : ℕ) → upper_in l ws' i ≡ upper_in l ws i = λ i. elsewhere (upper_at l i) (λ z. omega arith) in
      let kept : Kept l ws ws' = record {
        long = length-set ws count_at (from + 1);
        given = omega arith;
        within = omega arith;
        held = λ b small. elsewhere (bucket_at b) (λ z. omega arith);
        state = λ i place there small. elsewhere (state_at l i place) (λ z. omega arith);
        lower = λ i there. let same = lower i in omega arith;
        upper = λ i there. let same = upper i in omega arith;
        unpublished = λ i small not. (lower i, upper i);
      } in
      let later = kept_is_later l ws ws' kept in
      let v' : View = with_spare v from in record {
        words = words_kept l ws ws' kept g sits.holds.table.layout w;
        rights = record {
          total = (let sum = total_set s.views k v v' sits.here in let all = sits.holds.rights.total in omega arith);
          balance = (
              let sum = holders_set s.views k v v' sits.here in
              let none : one_if_some v.spare ≡ 0 = ap one_if_some none_yet in
              let all = sits.holds.rights.balance in
              let buckets = taken_same ws ws' l.buckets kept.held in
              omega arith);
        };
        event = λ c sound shows.
            let y : Sight = sight_at g c k in
            let mine = own g l most s k v sits c sound shows in
            let x : Sight = takes_spare c.given y in
            let given = shows.words.given in
            let few = sits.holds.table.layout.ids_within in (
              (lives g l most s k v sits c sound shows, mine.spare ∙ none_yet, omega arith),
              record {
                words = shown_kept g l ws ws' kept lower upper c (c.given + 1) (slice_set c.workers k x) (omega arith) shows.words;
                count = length-set c.workers k x ∙ (shows.count ∙ sym (length-set s.views k v'));
                views = views_after g l most s k v sits c sound shows ws' x v'
                    record {
                      live = mine.live;
                      first = mine.first;
                      count = omega arith;
                      spare = ap Some (given ∙ is);
                      right = λ id its. right;
                      draft = λ place z e. absurd (none_is_not_some z e);
                      known = mine.known;
                      held = held_later g l ws ws' later y v mine.held;
                      words = state_words_later g l ws ws' later y v mine.words;
                      lower = below_later g l ws ws' later y v mine.lower;
                      upper = above_later g l ws ws' later y v mine.upper;
                    }
                    (λ j u else at. shown_later g l ws ws' later (sight_at g c j) u
                    (λ i place spare small. elsewhere (state_at l i place) (λ z. omega arith)) (shows.views j u at));
              },
            );
      }

  pub write_is_a_step : laws.WriteIsAStep g l most
  write_is_a_step s k v id place x sits spare small =
      let ws : List ℕ = s.words in
      let here : ℕ = state_at l id place in
      let ws' : List ℕ = slice_set ws here x in
      let w = sits.holds.words in
      let long = w.wide in
      let few = w.given in
      let core = sits.holds.core in
      let inside : id < l.ids = (let below = spare_is_given g l most s k v sits core.0 core.1 core.2 id spare in omega arith) in
      let unpublished : IsPublished l ws id → ⊥ = spare_is_unpublished g l most s k v sits core.0 core.1 core.2 id spare in
      let within = state_words_are_within l id place inside small in
      let now : word ws' here ≡ x = get_or-set_same ws here x 0 (omega arith) in
      let elsewhere : (i : ℕ) → i ≢ here → word ws' i ≡ word ws i = λ i other. get_or-set_other ws here i x 0 other in
      let other_id : (i p : ℕ) → i ≢ id → p < l.width → word ws' (state_at l i p) ≡ word ws (state_at l i p)
      = λ i p other less. elsewhere (state_at l i p) (λ z. other (state_words_differ l i id p place less small z).0) in
      let lower : (i : ℕ) → lower_in l ws' i ≡ lower_in l ws i = λ i. elsewhere (lower_at l i) (λ z. omega arith) in
      let upper : (i : ℕ) → upper_in l ws' i ≡ upper_in l ws i = λ i. elsewhere (upper_at l i) (λ z. omega arith) in
      let given : given_in ws' ≡ given_in ws = elsewhere 0 (λ z. omega arith) in
      let kept : Kept l ws ws' = record {
        long = length-set ws here x;
        given = omega arith;
        within = omega arith;
        held = λ b less. elsewhere (bucket_at b) (λ z. omega arith);
        state = λ i p there less. other_id i p (λ same. unpublished (subst (IsPublished l ws) same there)) less;
        lower = λ i there. let same = lower i in omega arith;
        upper = λ i there. let same = upper i in omega arith;
        unpublished = λ i less not. (lower i, upper i);
      } in
      let later = kept_is_later l ws ws' kept in
      let v' : View = with_written v place x in record {
        words = words_kept l ws ws' kept g sits.holds.table.layout w;
        rights = rights_same g l most s k v sits ws' v' refl refl given kept.held;
        event = λ c sound shows.
            let y : Sight = sight_at g c k in
            let mine = own g l most s k v sits c sound shows in
            let y' : Sight = writes_word place x y in
            let wide = sits.holds.table.width in (
              (lives g l most s k v sits c sound shows, ap is_some (mine.spare ∙ spare), omega arith),
              record {
                words = shown_kept g l ws ws' kept lower upper c c.given (slice_set c.workers k y') (shows.words.given ∙ sym given) shows.words;
                count = length-set c.workers k y' ∙ (shows.count ∙ sym (length-set s.views k v'));
                views = views_after g l most s k v sits c sound shows ws' y' v'
                    record {
                      live = mine.live;
                      first = mine.first;
                      count = (let old = mine.count in omega arith);
                      spare = mine.spare;
                      right = mine.right;
                      draft = λ p z e. elim (cases_Bool (nat_eq p place)) [
                        | inl on ↦
                            let same : p ≡ place = eqb-true p place on in
                            let is : Some x ≡ Some z = sym (ap (λ b. cond b (Some x) (written_at v.draft p)) on) ∙ e in
                            let word_is : x ≡ z = ap (λ o. unwrap_or o 0) is in (
                              ap (λ b. cond b (Some x) (y.draft p)) on ∙ is,
                              record {
                                place = subst (λ q. q < l.width) (sym same) small;
                                here = λ i its.
                                    let ids : i ≡ id = ap (λ o. unwrap_or o 0) (sym its ∙ spare) in
                                    subst (λ q. word ws' (state_at l i q) ≡ z) (sym same) (subst (λ j. word ws' (state_at l j place) ≡ z) (sym ids) (now ∙ word_is));
                              },
                            )
                        | inr off ↦
                            let old = mine.draft p z (sym (ap (λ b. cond b (Some x) (written_at v.draft p)) off) ∙ e) in (
                              ap (λ b. cond b (Some x) (y.draft p)) off ∙ old.0,
                              record {
                                place = old.1.place;
                                here = λ i its. elsewhere (state_at l i p) (λ at.
                                    let both = state_words_differ l i id p place old.1.place small at in
                                    true_or_false (nat_eq p place) (eq-eqb p place both.1) off) ∙ old.1.here i its;
                              },
                            )
                      ];
                      known = mine.known;
                      held = held_later g l ws ws' later y v mine.held;
                      words = state_words_later g l ws ws' later y v mine.words;
                      lower = below_later g l ws ws' later y v mine.lower;
                      upper = above_later g l ws ws' later y v mine.upper;
                    }
                    (λ j u else at. shown_later g l ws ws' later (sight_at g c j) u
                    (λ i p its less. other_id i p (spares_differ g l most s k v sits c sound shows j u id i else at spare its) less) (shows.views j u at));
              },
            );
      }
