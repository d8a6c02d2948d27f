-- Steps that leave the words as they are: loads.
use Rattle.std.proofs.Common.{◌≡◌, ℕ, ◌+◌, ◌<◌, ◌≤◌, true, nat_eq, List, ◌∷◌, None, Some, refl, sym, ap, ◌∙◌, subst, arith}
use Rattle.std.specs.Prelude.{slice_set}
use Rattle.std.proofs.lemmas.Bool.{eq-eqb}
use Rattle.std.proofs.lemmas.List.{set-get_or, length-set}
use Rattle.std.proofs.lemmas.List.Elements.{All-cons, All-weaker}
use Rattle.ground_model.specs.Ground.{Ground}
use Rattle.ground_model.specs.Packed.{State}
use Rattle.bound_core.specs.declared.event.Event.{Event}
use Rattle.bound_core.specs.declared.event.Event.TheVariants.{SeeLower, SeeUpper, Look}
use Rattle.bound_core.specs.Numbers.{raised_at, sunk_at}
use Rattle.bound_core.specs.Core.{Sight, Core, ended, sight_at, state_at}
use Rattle.bound_core.specs.Events.{Allowed, after, sees_lower, sees_upper, learns}
use Rattle.bound_core.specs.Sound.{Sound}
use Rattle.word_table.specs.declared.layout.Layout.{Layout}
use Rattle.word_table.specs.layout.Places as places
use Rattle.word_table.specs.declared.view.notes.Load.{Load}
use Rattle.word_table.specs.declared.view.View.{View}
use Rattle.word_table.specs.view.Views.{number, held, state_word, knows}
use Rattle.word_table.specs.view.Steps.{with_lower_load, with_upper_load, with_count, with_held, with_empty, with_state_word}
use Rattle.word_table.proofs.lemmas.view.Lists.{either_first, either_second}
use Rattle.word_table.specs.rule.Words.{Table, word, given_in, held_in, state_in, lower_in, upper_in, IsPublished}
use Rattle.word_table.specs.rule.Rule.{IsHeld, IsStateWord, IsBelow, IsAbove, IsShownBy, Shows, ShowsWords, one_if_some, AreRights}
use Rattle.word_table.specs.rule.Laws as laws
use Rattle.word_table.specs.rule.Laws.{with_view, IsStep, Sits}
use Rattle.word_table.proofs.lemmas.rule.Lists.{total_set, holders_set, taken_same}
use Rattle.word_table.proofs.lemmas.rule.States.{raised_more, raised_over, sunk_less, sunk_under}
use Rattle.word_table.proofs.lemmas.rule.Facts.{own, lives, knows_in_core, known_is_published, published_in_core, state_at_is, views_after}

-- ---- what a view notes is what its worker has seen

module _ (g : Ground) (l : Layout) (ws : List ℕ) (w : Sight) (v : View) (h : IsShownBy g l ws w v) where
  pub noted_lower : (s : State) (x id n : ℕ) (loads : List Load) → IsPublished l ws id → state_in l ws id ≡ s → n ≤ lower_in l ws id → n ≤ x
      → IsShownBy g l ws (sees_lower s x w) (record v { lower = number id n ∷ v.lower; loads = loads })
  noted_lower s x id n loads there same below seen = record {
    live = h.live;
    first = h.first;
    count = h.count;
    spare = h.spare;
    right = h.right;
    draft = h.draft;
    known = h.known;
    held = h.held;
    words = h.words;
    lower = All-cons (IsBelow g l ws (raised_at s x w.lower)) (number id n) v.lower
        record { published = there; within = below; seen = raised_over s (state_in l ws id) x n w.lower same seen }
        (All-weaker (IsBelow g l ws w.lower) (IsBelow g l ws (raised_at s x w.lower))
        (λ m b. record {
          published = b.published;
          within = b.within;
          seen = (let more = raised_more s (state_in l ws m.id) x w.lower in let old = b.seen in omega arith);
        }) v.lower h.lower);
    upper = h.upper;
  }

  pub noted_upper : (s : State) (x id n : ℕ) (loads : List Load) → IsPublished l ws id → state_in l ws id ≡ s → upper_in l ws id ≤ n → x ≤ n
      → IsShownBy g l ws (sees_upper s x w) (record v { upper = number id n ∷ v.upper; loads = loads })
  noted_upper s x id n loads there same above seen = record {
    live = h.live;
    first = λ t. (let less = sunk_less s t x w.upper in let old = h.first t in omega arith);
    count = h.count;
    spare = h.spare;
    right = h.right;
    draft = h.draft;
    known = h.known;
    held = h.held;
    words = h.words;
    lower = h.lower;
    upper = All-cons (IsAbove g l ws (sunk_at s x w.upper)) (number id n) v.upper
        record { published = there; within = above; seen = sunk_under s (state_in l ws id) x n w.upper same seen }
        (All-weaker (IsAbove g l ws w.upper) (IsAbove g l ws (sunk_at s x w.upper))
        (λ m b. record {
          published = b.published;
          within = b.within;
          seen = (let less = sunk_less s (state_in l ws m.id) x w.upper in let old = b.seen in omega arith);
        }) v.upper h.upper);
  }

  noted_count : IsShownBy g l ws w (with_count v (given_in ws))
  noted_count = record {
    live = h.live;
    first = h.first;
    count = omega arith;
    spare = h.spare;
    right = h.right;
    draft = h.draft;
    known = h.known;
    held = h.held;
    words = h.words;
    lower = h.lower;
    upper = h.upper;
  }

  noted_empty : (bucket : ℕ) → IsShownBy g l ws w (with_empty v bucket)
  noted_empty bucket = record {
    live = h.live;
    first = h.first;
    count = h.count;
    spare = h.spare;
    right = h.right;
    draft = h.draft;
    known = h.known;
    held = h.held;
    words = h.words;
    lower = h.lower;
    upper = h.upper;
  }

  pub noted_held : (bucket id : ℕ) → bucket < l.buckets → held_in ws bucket ≡ id + 1 → IsShownBy g l ws (learns id w) (with_held v bucket id)
  noted_held bucket id small here = record {
    live = h.live;
    first = h.first;
    count = h.count;
    spare = h.spare;
    right = h.right;
    draft = h.draft;
    known = All-cons (λ i. (learns id w).knows i ≡ true) id v.known (either_first (nat_eq id id) (w.knows id) (eq-eqb id id refl))
        (All-weaker (λ i. w.knows i ≡ true) (λ i. (learns id w).knows i ≡ true) (λ i on. either_second (nat_eq i id) (w.knows i) on) v.known h.known);
    held = All-cons (IsHeld g l ws) (held bucket id) v.held record { bucket = small; here = here } h.held;
    words = h.words;
    lower = h.lower;
    upper = h.upper;
  }

  noted_state_word : (id place : ℕ) → IsPublished l ws id → place < l.width
      → IsShownBy g l ws w (with_state_word v id place (word ws (places.state_at l id place)))
  noted_state_word id place there small = record {
    live = h.live;
    first = h.first;
    count = h.count;
    spare = h.spare;
    right = h.right;
    draft = h.draft;
    known = h.known;
    held = h.held;
    words = All-cons (IsStateWord g l ws) (state_word id place (word ws (places.state_at l id place))) v.words
        record { published = there; place = small; here = refl } h.words;
    lower = h.lower;
    upper = h.upper;
  }

-- ---- steps

module _ (g : Ground) (l : Layout) (ws : List ℕ) where
  pub words_with : (c : Core) (workers : List Sight) → ShowsWords g l ws c → ShowsWords g l ws (record c { workers = workers })
  words_with c workers h = record {
    given = h.given;
    published = h.published;
    in_bucket = h.in_bucket;
    numbers = λ id there. let n = h.numbers id there in record { lower = n.lower; upper = n.upper; within_quit = n.within_quit; at_goal = n.at_goal };
    others = h.others;
  }

module _ (g : Ground) (l : Layout) (most : ℕ) (s : Table) (k : ℕ) (v : View) (sits : Sits g l most s k v) where
  pub rights_same : (ws' : List ℕ) (v' : View) → v'.rights ≡ v.rights → v'.spare ≡ v.spare → given_in ws' ≡ given_in s.words
      → ((b : ℕ) → b < l.buckets → held_in ws' b ≡ held_in s.words b)
      → AreRights l most (record { words = ws'; homes = s.homes; views = slice_set s.views k v' })
  rights_same ws' v' rights spare given held = record {
    total = (let sum = total_set s.views k v v' sits.here in let all = sits.holds.rights.total in omega arith);
    balance = (
        let sum = holders_set s.views k v v' sits.here in
        let same : one_if_some v'.spare ≡ one_if_some v.spare = ap one_if_some spare in
        let all = sits.holds.rights.balance in
        let buckets = taken_same s.words ws' l.buckets held in
        omega arith);
  }

  -- the sight that follows from a core is one that has seen what the new view notes
  abbrev Follows : Event → View → Type 0
  Follows e v' = (c : Core) → Sound g c → Shows g l s c
      → (x : Sight) × Allowed g c e × (after g c e ≡ record c { workers = slice_set c.workers k x }) × IsShownBy g l s.words x v'

  look : (e : Event) (v' : View) → v'.rights ≡ v.rights → v'.spare ≡ v.spare → Follows e v' → IsStep g l most s (with_view s k v') e
  look e v' rights spare follows = record {
    words = sits.holds.words;
    rights = rights_same s.words v' rights spare refl (λ b small. refl);
    event = λ c sound shows.
        let t = follows c sound shows in
        let x = t.0 in (
          t.1,
          subst (Shows g l (with_view s k v')) (sym t.2) record {
            words = words_with g l s.words c (slice_set c.workers k x) shows.words;
            count = length-set c.workers k x ∙ (shows.count ∙ sym (length-set s.views k v'));
            views = views_after g l most s k v sits c sound shows s.words x v' t.3 (λ j u else there. shows.views j u there);
          },
        );
  }

  nothing_changes : (c : Core) → c ≡ record c { workers = slice_set c.workers k (sight_at g c k) }
  nothing_changes c = λ t. record c { workers = sym (set-get_or c.workers k (ended g)) t }

module _ (g : Ground) (l : Layout) (most : ℕ) where
  pub lower_load_is_a_step : laws.LowerLoadIsAStep g l most
  lower_load_is_a_step s k v id sits knows = look g l most s k v sits (SeeLower k id) (with_lower_load v id (lower_in l s.words id)) refl refl
      (λ c sound shows.
      let there = known_is_published g l most s k v sits c sound shows id knows in
      let same : state_at c id ≡ state_in l s.words id = state_at_is g l s.words c sound shows.words id there in
      let is : c.lower (state_at c id) ≡ lower_in l s.words id = ap c.lower same ∙ (shows.words.numbers id there).lower in (
        sees_lower (state_at c id) (c.lower (state_at c id)) (sight_at g c k),
        knows_in_core g l most s k v sits c sound shows id knows,
        refl,
        noted_lower g l s.words (sight_at g c k) v (own g l most s k v sits c sound shows) (state_at c id) (c.lower (state_at c id)) id (lower_in l s.words id) _
            there (sym same) (omega arith) (omega arith),
      ))

  pub upper_load_is_a_step : laws.UpperLoadIsAStep g l most
  upper_load_is_a_step s k v id sits knows = look g l most s k v sits (SeeUpper k id) (with_upper_load v id (upper_in l s.words id)) refl refl
      (λ c sound shows.
      let there = known_is_published g l most s k v sits c sound shows id knows in
      let same : state_at c id ≡ state_in l s.words id = state_at_is g l s.words c sound shows.words id there in
      let is = ap c.upper same ∙ (shows.words.numbers id there).upper in (
        sees_upper (state_at c id) (c.upper (state_at c id)) (sight_at g c k),
        knows_in_core g l most s k v sits c sound shows id knows,
        refl,
        noted_upper g l s.words (sight_at g c k) v (own g l most s k v sits c sound shows) (state_at c id) (c.upper (state_at c id)) id (upper_in l s.words id) _
            there (sym same) (omega arith) (omega arith),
      ))

  pub count_load_is_a_step : laws.CountLoadIsAStep g l most
  count_load_is_a_step s k v sits = look g l most s k v sits (Look k None) (with_count v (given_in s.words)) refl refl
      (λ c sound shows. (
        sight_at g c k,
        lives g l most s k v sits c sound shows,
        nothing_changes g l most s k v sits c,
        noted_count g l s.words (sight_at g c k) v (own g l most s k v sits c sound shows),
      ))

  pub empty_load_is_a_step : laws.EmptyLoadIsAStep g l most
  empty_load_is_a_step s k v bucket sits = look g l most s k v sits (Look k None) (with_empty v bucket) refl refl
      (λ c sound shows. (
        sight_at g c k,
        lives g l most s k v sits c sound shows,
        nothing_changes g l most s k v sits c,
        noted_empty g l s.words (sight_at g c k) v (own g l most s k v sits c sound shows) bucket,
      ))

  pub held_load_is_a_step : laws.HeldLoadIsAStep g l most
  held_load_is_a_step s k v bucket id sits small here = look g l most s k v sits (Look k (Some id)) (with_held v bucket id) refl refl
      (λ c sound shows. (
        learns id (sight_at g c k),
        (lives g l most s k v sits c sound shows, published_in_core g l s.words c sound shows.words id (bucket, small, here)),
        refl,
        noted_held g l s.words (sight_at g c k) v (own g l most s k v sits c sound shows) bucket id small here,
      ))

  pub state_load_is_a_step : laws.StateLoadIsAStep g l most
  state_load_is_a_step s k v id place sits knows small = look g l most s k v sits (Look k None) (with_state_word v id place (word s.words (places.state_at l id place))) refl refl
      (λ c sound shows. (
        sight_at g c k,
        lives g l most s k v sits c sound shows,
        nothing_changes g l most s k v sits c,
        noted_state_word g l s.words (sight_at g c k) v (own g l most s k v sits c sound shows) id place
            (known_is_published g l most s k v sits c sound shows id knows) small,
      ))
