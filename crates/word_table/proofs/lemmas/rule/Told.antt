-- What a step tells its own pass.
use Rattle.std.proofs.Common.{◌≡◌, ◌≢◌, ℕ, ◌+◌, ◌-◌, ◌*◌, ◌^◌, ◌<◌, ◌≤◌, false, cond, nat_eq, [], ◌∷◌, length, sym, ap, ◌∙◌, subst, arith}
use Rattle.std.specs.Prelude.{IsTrue}
use Rattle.std.proofs.Math.Nat.{mul-le-mul_right}
use Rattle.std.proofs.lemmas.Bool.{eqb-true, and_parts}
use Rattle.std.proofs.lemmas.List.Elements.{All-contains}
use mathlib.Core.Logic.{dite}
use native.Mathlib.Decide.{ℕ_discrete, dec_le}
use Rattle.atomic_table.proofs.Lists.{one_turn}
use Rattle.fixed_round.specs.Words.{value_of}
use Rattle.decision_process.specs.Least.{CoversFromBelow, CoversFromAbove}
use Rattle.ground_model.specs.Ground.{Ground}
use Rattle.ground_model.specs.Packed.{State}
use Rattle.ground_model.specs.Steps.{ground_process}
use Rattle.bound_core.specs.Numbers.{first_word, goal_word, quit_word}
use Rattle.bound_core.specs.Core.{Core, sight_at}
use Rattle.bound_core.specs.Laws.{IsActOfWord}
use Rattle.bound_core.proofs.Worth.{sound_covers, word_names_its_act}
use Rattle.word_table.specs.declared.layout.Layout.{Layout}
use Rattle.word_table.specs.layout.Places.{turn}
use Rattle.word_table.proofs.lemmas.layout.Places.{turns_are_buckets}
use Rattle.word_table.specs.declared.view.View.{View}
use Rattle.word_table.specs.view.Views.{held, has_word, has_words, has_state, noted_lower, noted_upper}
use Rattle.word_table.proofs.lemmas.view.Seen.{greatest_within, least_within}
use Rattle.word_table.specs.rule.Words.{Table, held_in, given_in, state_in, lower_in, upper_in, IsPublished}
use Rattle.word_table.specs.rule.Rule.{IsHeld, IsStateWord, IsBelow, IsAbove, IsShownBy}
use Rattle.word_table.specs.rule.Told.{IsWorth, HasRoom}
use Rattle.word_table.specs.rule.Laws as laws
use Rattle.word_table.specs.rule.Laws.{Sits}
use Rattle.word_table.proofs.lemmas.rule.Lists.{pigeons}
use Rattle.word_table.proofs.lemmas.rule.Facts.{own, known_is_published, is_given, state_is, none_published, one_id, noted_word}

value_rises : (a b : ℕ) → a ≤ b → value_of a ≤ value_of b
value_rises a b below = omega arith

covers_more : (g : Ground) (low high : ℕ) (s : State) → low ≤ high → CoversFromAbove (ground_process g) low s → CoversFromAbove (ground_process g) high s
covers_more g low high s below covers n =
    let scaled : low * (ground_process g).den ^ n ≤ high * (ground_process g).den ^ n = mul-le-mul_right ((ground_process g).den ^ n) below in
    let old = covers n in omega arith

first_off_goals : (g : Ground) (s : State) → (ground_process g).goal s ≡ false → first_word g s ≡ quit_word g.penalty
first_off_goals g s off = ap (λ b. cond b goal_word (quit_word g.penalty)) off

module _ (g : Ground) (l : Layout) (most : ℕ) (s : Table) (k : ℕ) (v : View) (sits : Sits g l most s k v) where
  abbrev core : Core
  core = sits.holds.core.0

  abbrev mine : IsShownBy g l s.words (sight_at g core k) v
  mine = own g l most s k v sits core sits.holds.core.1 sits.holds.core.2

  lower_noted : (id : ℕ) → noted_lower v id ≤ lower_in l s.words id
  lower_noted id = greatest_within (λ i. nat_eq i id) v.lower (lower_in l s.words id)
      (λ n there same. subst (λ i. n.number ≤ lower_in l s.words i) (eqb-true n.id id same)
      (All-contains (IsBelow g l s.words (sight_at g core k).lower) v.lower n mine.lower there).within)

  module _ (id : ℕ) (there : IsPublished l s.words id) where
    abbrev here : State
    here = state_in l s.words id

    upper_noted : upper_in l s.words id ≤ noted_upper v id
    upper_noted = least_within (λ i. nat_eq i id) (quit_word v.problem.penalty) v.upper (upper_in l s.words id)
        (subst (λ (p : Ground). upper_in l s.words id ≤ quit_word p.penalty) (sym sits.view.problem) (sits.holds.core.2.words.numbers id there).within_quit)
        (λ n at same. subst (λ i. upper_in l s.words i ≤ n.number) (eqb-true n.id id same)
        (All-contains (IsAbove g l s.words (sight_at g core k).upper) v.upper n mine.upper at).within)

    ordered : (lower_in l s.words id ≤ value_of (upper_in l s.words id)) × (lower_in l s.words id ≤ g.penalty)
    ordered =
        let covers = sound_covers g sits.holds.table.problem core sits.holds.core.1 here in
        let shown = sits.holds.core.2.words.numbers id there in
        let is = shown.lower in let word = shown.upper in
        let less : core.upper here ≤ upper_in l s.words id = omega arith in
        let value = value_rises (core.upper here) (upper_in l s.words id) less in
        let first = covers.1 in let second = covers.2 in (omega arith, omega arith)

    worth : IsWorth g here (upper_in l s.words id)
    worth =
        let covers = sound_covers g sits.holds.table.problem core sits.holds.core.1 here in
        let shown = sits.holds.core.2.words.numbers id there in
        let word = shown.upper in
        let less : core.upper here ≤ upper_in l s.words id = omega arith in record {
          covers = covers_more g (value_of (core.upper here)) (value_of (upper_in l s.words id)) here (value_rises (core.upper here) (upper_in l s.words id) less) covers.0.1;
          at_goal = shown.at_goal;
          act = λ off.
              let first = first_off_goals g here off in
              let within = shown.within_quit in
              let same : core.upper here ≡ upper_in l s.words id = omega arith in
              subst (IsActOfWord g here) same (word_names_its_act g sits.holds.table.problem core sits.holds.core.1 here off);
        }

  -- an id with a state that the view has is published: some word of it was noted
  pub had_is_published : (id : ℕ) (t : State) → IsTrue (has_state v id t) → IsPublished l s.words id
  had_is_published id [] has =
      let parts = and_parts (nat_eq 0 v.layout.width) (has_words v.words id 0 []) has in
      let none : 0 ≡ v.layout.width = eqb-true 0 v.layout.width parts.0 in
      let wide = sits.holds.table.layout.some_words in
      let same : v.layout.width ≡ l.width = ap (λ (m : Layout). m.width) sits.view.layout in absurd (omega arith)
  had_is_published id (x ∷ xs) has =
      let parts = and_parts (nat_eq (length (x ∷ xs)) v.layout.width) (has_words v.words id 0 (x ∷ xs)) has in
      let first = and_parts (has_word v.words id 0 x) (has_words v.words id (0 + 1) xs) parts.1 in
      (noted_word (IsStateWord g l s.words) v.words id 0 x mine.words first.0).published

  published_within : (bucket : ℕ) → bucket < l.buckets → held_in s.words bucket ≤ l.ids
  published_within bucket small = dite (ℕ_discrete (held_in s.words bucket) 0)
      (λ empty. omega arith)
      (λ full.
      let id : ℕ = held_in s.words bucket - 1 in
      let is : held_in s.words bucket ≡ id + 1 = omega arith in
      let below = is_given g l s.words core sits.holds.core.1 sits.holds.core.2.words id (bucket, small, is) in
      let few = sits.holds.words.given in omega arith)

  room : HasRoom v
  room hash all =
      let at : (j : ℕ) → ℕ = λ j. turn l hash j in
      let small : (j : ℕ) → at j < l.buckets = turns_are_buckets l sits.holds.table.layout hash in
      let found : (j : ℕ) → j < l.buckets → held_in s.words (at j) ≢ 0
      = λ j below z.
      let t = all j (subst (λ (m : Layout). j < m.buckets) (sym sits.view.layout) below) in
      let is = (All-contains (IsHeld g l s.words) v.held (held (turn v.layout hash j) t.0) mine.held t.1).here in
      let moved : held_in s.words (at j) ≡ t.0 + 1 = subst (λ (m : Layout). held_in s.words (turn m hash j) ≡ t.0 + 1) sits.view.layout is in
      omega arith in
      let few = pigeons l.ids l.buckets (λ j. held_in s.words (at j) - 1)
      (λ j below. let full = found j below in let within = published_within (at j) (small j) in omega arith)
      (λ i j below below' same.
      let full = found i below in let full' = found j below' in
      let words : held_in s.words (at i) ≡ held_in s.words (at j) = omega arith in
      let bucket : at i ≡ at j = sits.holds.words.once (at i) (at j) (small i) (small j) full words in
      dite (dec_le i j)
      (λ le. let turn_is = one_turn (hash + i) (hash + j) l.buckets (omega arith) (omega arith) bucket in omega arith)
      (λ gt. let turn_is = one_turn (hash + j) (hash + i) l.buckets (omega arith) (omega arith) (sym bucket) in omega arith)) in
      let free = sits.holds.table.layout.buckets.1 in
      let some_ids = sits.holds.table.layout.some_ids in omega arith

module _ (g : Ground) (l : Layout) (most : ℕ) where
  pub lower_is_told : laws.LowerIsTold g l most
  lower_is_told s k v id sits knows =
      let c = sits.holds.core in
      let there = known_is_published g l most s k v sits c.0 c.1 c.2 id knows in
      let values = ordered g l most s k v sits id there in
      let upper = upper_noted g l most s k v sits id there in
      let value = value_rises (upper_in l s.words id) (noted_upper v id) upper in record {
        narrower = lower_noted g l most s k v sits id;
        ordered = (let first = values.0 in omega arith);
        within_quit = values.1;
        covers = λ t has. subst (λ u. CoversFromBelow (ground_process g) (lower_in l s.words id) u)
            (sym (state_is g l s.words (sight_at g c.0 k) v id t sits.view.layout (own g l most s k v sits c.0 c.1 c.2) has))
            (subst (λ n. CoversFromBelow (ground_process g) n (state_in l s.words id)) (c.2.words.numbers id there).lower (c.1.lower.covers (state_in l s.words id)));
      }

  pub upper_is_told : laws.UpperIsTold g l most
  upper_is_told s k v id sits knows =
      let c = sits.holds.core in
      let there = known_is_published g l most s k v sits c.0 c.1 c.2 id knows in
      let values = ordered g l most s k v sits id there in
      let lower = lower_noted g l most s k v sits id in record {
        narrower = upper_noted g l most s k v sits id there;
        ordered = (let first = values.0 in omega arith);
        within_quit = (c.2.words.numbers id there).within_quit;
        worth = λ t has. subst (λ u. IsWorth g u (upper_in l s.words id))
            (sym (state_is g l s.words (sight_at g c.0 k) v id t sits.view.layout (own g l most s k v sits c.0 c.1 c.2) has))
            (worth g l most s k v sits id there);
      }

  pub count_is_told : laws.CountIsTold g l most
  count_is_told s k v sits = let c = sits.holds.core in record {
    greater = (own g l most s k v sits c.0 c.1 c.2).count;
    within = subst (λ (m : Layout). given_in s.words ≤ m.ids) (sym sits.view.layout) sits.holds.words.given;
  }

  pub held_is_told : laws.HeldIsTold g l most
  held_is_told s k v sits = (published_within g l most s k v sits, room g l most s k v sits)

  pub empty_is_told : laws.EmptyIsTold g l most
  empty_is_told s k v bucket sits empty id t has clear =
      let c = sits.holds.core in
      let w = sight_at g c.0 k in
      let mine = own g l most s k v sits c.0 c.1 c.2 in
      let is = state_is g l s.words w v id t sits.view.layout mine has in
      none_published g l s.words w v t bucket sits.view.layout sits.holds.words mine clear empty id (had_is_published g l most s k v sits id t has) (sym is)

  pub states_are_told : laws.StatesAreTold g l most
  states_are_told s k v sits i j t first second =
      let c = sits.holds.core in
      let w = sight_at g c.0 k in
      let mine = own g l most s k v sits c.0 c.1 c.2 in
      let is = state_is g l s.words w v i t sits.view.layout mine first in
      let is' = state_is g l s.words w v j t sits.view.layout mine second in
      one_id g l s.words c.0 c.1 c.2.words i j
      (had_is_published g l most s k v sits i t first) (had_is_published g l most s k v sits j t second) (sym is ∙ is')

  pub one_state_is_told : laws.OneStateIsTold g l most
  one_state_is_told s k v sits id t u first second =
      let c = sits.holds.core in
      let w = sight_at g c.0 k in
      let mine = own g l most s k v sits c.0 c.1 c.2 in
      state_is g l s.words w v id t sits.view.layout mine first ∙ sym (state_is g l s.words w v id u sits.view.layout mine second)
