-- Words that a step leaves as they were, or narrower.
use Rattle.std.proofs.Common.{◌≡◌, ℕ, ◌+◌, ◌<◌, ◌≤◌, List, length, Some, sym, ◌∙◌, subst, arith}
use Rattle.std.specs.Prelude.{All}
use Rattle.std.proofs.lemmas.List.Elements.{All-weaker}
use Rattle.ground_model.specs.Ground.{Ground}
use Rattle.ground_model.specs.Packed.{State}
use Rattle.ground_step.specs.Hash.{hash_of}
use Rattle.bound_core.specs.Core.{Sight}
use Rattle.word_table.specs.declared.layout.Layout.{Layout}
use Rattle.word_table.specs.layout.Places.{IsLayout, state_at, turn}
use Rattle.word_table.proofs.lemmas.layout.Places.{turns_are_buckets}
use Rattle.word_table.specs.declared.view.View.{View}
use Rattle.word_table.specs.rule.Words.{word, given_in, held_in, state_in, lower_in, upper_in, IsPublished, IsRun, AreWords}
use Rattle.word_table.specs.rule.Rule.{IsHeld, IsStateWord, IsBelow, IsAbove, IsShownBy}
use Rattle.word_table.proofs.lemmas.rule.Lists.{map_range_same}

module _ (l : Layout) where
  -- what is published stays, and numbers become no wider
  pub record Later (ws ws' : List ℕ) : Type 0 where
    pub given : given_in ws ≤ given_in ws'
    pub held : (b id : ℕ) → b < l.buckets → held_in ws b ≡ id + 1 → held_in ws' b ≡ id + 1
    pub state : (id place : ℕ) → IsPublished l ws id → place < l.width → word ws' (state_at l id place) ≡ word ws (state_at l id place)
    pub lower : (id : ℕ) → IsPublished l ws id → lower_in l ws id ≤ lower_in l ws' id
    pub upper : (id : ℕ) → IsPublished l ws id → upper_in l ws' id ≤ upper_in l ws id

  pub published_later : (ws ws' : List ℕ) → Later ws ws' → (id : ℕ) → IsPublished l ws id → IsPublished l ws' id
  published_later ws ws' more id (b, small, here) = (b, small, more.held b id small here)

  pub state_later : (ws ws' : List ℕ) → Later ws ws' → (id : ℕ) → IsPublished l ws id → state_in l ws' id ≡ state_in l ws id
  state_later ws ws' more id there = map_range_same (λ p. word ws' (state_at l id p)) (λ p. word ws (state_at l id p)) 0 l.width
      (λ p low high. more.state id p there (omega arith))

  -- and no bucket changes
  pub record Kept (ws ws' : List ℕ) : Type 0 where
    pub long : length ws' ≡ length ws
    pub given : given_in ws ≤ given_in ws'
    pub within : given_in ws' ≤ l.ids
    pub held : (b : ℕ) → b < l.buckets → held_in ws' b ≡ held_in ws b
    pub state : (id place : ℕ) → IsPublished l ws id → place < l.width → word ws' (state_at l id place) ≡ word ws (state_at l id place)
    pub lower : (id : ℕ) → IsPublished l ws id → lower_in l ws id ≤ lower_in l ws' id
    pub upper : (id : ℕ) → IsPublished l ws id → upper_in l ws' id ≤ upper_in l ws id
    pub unpublished : (id : ℕ) → id < l.ids → (IsPublished l ws id → ⊥)
        → (lower_in l ws' id ≡ lower_in l ws id) × (upper_in l ws' id ≡ upper_in l ws id)

  module _ (ws ws' : List ℕ) (kept : Kept ws ws') where
    pub kept_is_later : Later ws ws'
    kept_is_later = record {
      given = kept.given;
      held = λ b id small here. kept.held b small ∙ here;
      state = kept.state;
      lower = kept.lower;
      upper = kept.upper;
    }

    pub published_before : (id : ℕ) → IsPublished l ws' id → IsPublished l ws id
    published_before id (b, small, here) = (b, small, sym (kept.held b small) ∙ here)

    run_kept : IsLayout l → (s : State) (b : ℕ) → IsRun l ws s b → IsRun l ws' s b
    run_kept layout s b r = record {
      turns = r.turns;
      here = r.here;
      taken = λ m before z. r.taken m before (sym (kept.held (turn l (hash_of s) m) (turns_are_buckets l layout (hash_of s) m)) ∙ z);
    }

    pub words_kept : (g : Ground) → IsLayout l → AreWords g l ws → AreWords g l ws'
    words_kept g layout w = record {
      wide = kept.long ∙ w.wide;
      given = kept.within;
      once = λ b c small small' some same. w.once b c small small' (λ z. some (kept.held b small ∙ z))
          (sym (kept.held b small) ∙ (same ∙ kept.held c small'));
      run = λ b id small here.
          let old : held_in ws b ≡ id + 1 = sym (kept.held b small) ∙ here in
          subst (λ s. IsRun l ws' s b) (sym (state_later ws ws' kept_is_later id (b, small, old)))
          (run_kept layout (state_in l ws id) b (w.run b id small old));
      as_made = λ id small not.
          let not' : IsPublished l ws id → ⊥ = λ there. not (published_later ws ws' kept_is_later id there) in
          let same = kept.unpublished id small not' in
          let made = w.as_made id small not' in (same.0 ∙ made.0, same.1 ∙ made.1);
    }

-- a view that noted, and the words became later
module _ (g : Ground) (l : Layout) (ws ws' : List ℕ) (more : Later l ws ws') (w : Sight) where
  pub below_later : (v : View) → All (IsBelow g l ws w.lower) v.lower → All (IsBelow g l ws' w.lower) v.lower
  below_later v all = All-weaker (IsBelow g l ws w.lower) (IsBelow g l ws' w.lower)
      (λ n b. record {
        published = published_later l ws ws' more n.id b.published;
        within = (let rises = more.lower n.id b.published in let here = b.within in omega arith);
        seen = subst (λ t. n.number ≤ w.lower t) (sym (state_later l ws ws' more n.id b.published)) b.seen;
      })
      v.lower all

  pub above_later : (v : View) → All (IsAbove g l ws w.upper) v.upper → All (IsAbove g l ws' w.upper) v.upper
  above_later v all = All-weaker (IsAbove g l ws w.upper) (IsAbove g l ws' w.upper)
      (λ n b. record {
        published = published_later l ws ws' more n.id b.published;
        within = (let falls = more.upper n.id b.published in let here = b.within in omega arith);
        seen = subst (λ t. w.upper t ≤ n.number) (sym (state_later l ws ws' more n.id b.published)) b.seen;
      })
      v.upper all

  pub held_later : (v : View) → All (IsHeld g l ws) v.held → All (IsHeld g l ws') v.held
  held_later v all = All-weaker (IsHeld g l ws) (IsHeld g l ws')
      (λ n b. record { bucket = b.bucket; here = more.held n.bucket n.id b.bucket b.here }) v.held all

  pub state_words_later : (v : View) → All (IsStateWord g l ws) v.words → All (IsStateWord g l ws') v.words
  state_words_later v all = All-weaker (IsStateWord g l ws) (IsStateWord g l ws')
      (λ n b. record {
        published = published_later l ws ws' more n.id b.published;
        place = b.place;
        here = more.state n.id n.place b.published b.place ∙ b.here;
      })
      v.words all

  pub shown_later : (v : View) → ((id place : ℕ) → v.spare ≡ Some id → place < l.width → word ws' (state_at l id place) ≡ word ws (state_at l id place))
      → IsShownBy g l ws w v → IsShownBy g l ws' w v
  shown_later v own h = record {
    live = h.live;
    first = h.first;
    count = (let rises = more.given in let here = h.count in omega arith);
    spare = h.spare;
    right = h.right;
    draft = λ place x e. let d = h.draft place x e in (
      d.0,
      record { place = d.1.place; here = λ id mine. own id place mine d.1.place ∙ d.1.here id mine },
    );
    known = h.known;
    held = held_later v h.held;
    words = state_words_later v h.words;
    lower = below_later v h.lower;
    upper = above_later v h.upper;
  }
