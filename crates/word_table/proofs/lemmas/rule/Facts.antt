-- What the rule says of a seat's own view.
use Rattle.std.proofs.Common.{◌≡◌, ◌≢◌, ℕ, ◌+◌, ◌<◌, ◌≤◌, true, ◌&&◌, nat_eq, List, [], ◌∷◌, length, map, Some, None, refl, sym, ap, ◌∙◌, subst, ⊎_elim, arith}
use Rattle.std.specs.Prelude.{All, IsTrue, IsSome, is_some, slice_set, get_or, Option}
use Rattle.std.specs.List.{range_with_len}
use Rattle.std.specs.Option.{unwrap_or}
use Rattle.std.proofs.lemmas.Bool.{and_parts, eqb-true}
use Rattle.std.proofs.lemmas.List.{get_or-set_same, get_or-set_other}
use Rattle.std.proofs.lemmas.List.Elements.{All-contains, All-head, All-tail}
use Rattle.std.proofs.lemmas.List.FromFn.{get_or-map-range_with_len}
use mathlib.Core.Logic.{dite}
use native.Mathlib.Decide.{ℕ_discrete, dec_le}
use mathlib.Core.Option.{some}
use lib.ListN.{get_elem?}
use Rattle.atomic_table.proofs.Lists.{at_set}
use Rattle.ground_model.specs.Ground.{Ground}
use Rattle.ground_model.specs.Packed.{State}
use Rattle.ground_step.specs.Hash.{hash_of}
use Rattle.bound_core.specs.Numbers.{first_word}
use Rattle.bound_core.specs.Core.{Sight, Core, ended, sight_at, IsLive, Knows}
use Rattle.bound_core.specs.Core as core
use Rattle.bound_core.specs.Sound.{Sound}
use Rattle.word_table.specs.declared.layout.Layout.{Layout}
use Rattle.word_table.specs.layout.Places.{state_at, turn}
use Rattle.word_table.specs.declared.view.notes.StateWord.{StateWord}
use Rattle.word_table.specs.declared.view.View.{View}
use Rattle.word_table.specs.view.Views.{knows, held, state_word, is_word, has_word, has_words, has_state, seen_lower, seen_upper, IsOther, IsClear}
use Rattle.word_table.proofs.lemmas.view.Lists.{one_of}
use Rattle.word_table.proofs.lemmas.view.Seen.{seen_lower_is_greatest, seen_upper_is_least}
use Rattle.word_table.specs.rule.Words.{Table, word, given_in, held_in, state_in, IsPublished, AreWords}
use Rattle.word_table.specs.rule.Rule.{IsHeld, IsStateWord, IsBelow, IsAbove, IsShownBy, Shows, ShowsWords}
use Rattle.word_table.specs.rule.Laws.{Sits}
use Rattle.word_table.proofs.lemmas.rule.Lists.{inside}

-- ---- noted words

same_word : (id place x : ℕ) (n : StateWord) → is_word id place x n ≡ true → n ≡ state_word id place x
same_word id place x n on =
    let outer = and_parts (nat_eq n.id id && nat_eq n.place place) (nat_eq n.word x) on in
    let inner = and_parts (nat_eq n.id id) (nat_eq n.place place) outer.0 in
    let ids = eqb-true n.id id inner.0 in let places = eqb-true n.place place inner.1 in let words = eqb-true n.word x outer.1 in
    λ t. record { id = ids t; place = places t; word = words t }

pub noted_word : (P : StateWord → Type 0) (ns : List StateWord) (id place x : ℕ) → All P ns → IsTrue (has_word ns id place x) → P (state_word id place x)
noted_word P [] id place x all has = absurd cc
noted_word P (n ∷ ns) id place x all has = ⊎_elim
    (λ here. subst P (same_word id place x n here) (All-head P n ns all))
    (λ later. noted_word P ns id place x (All-tail P n ns all) later)
    (one_of (is_word id place x n) (has_word ns id place x) has)

module _ (g : Ground) (l : Layout) (ws : List ℕ) where
  noted_words : (ns : List StateWord) (id place : ℕ) (t : State) → All (IsStateWord g l ws) ns → IsTrue (has_words ns id place t)
      → t ≡ map (λ p. word ws (state_at l id p)) (range_with_len place (length t))
  noted_words ns id place [] all has = refl
  noted_words ns id place (x ∷ xs) all has =
      let parts = and_parts (has_word ns id place x) (has_words ns id (place + 1) xs) has in
      let first = noted_word (IsStateWord g l ws) ns id place x all parts.0 in
      let rest = noted_words ns id (place + 1) xs all parts.1 in
      λ i. sym first.here i ∷ rest i

  -- the state that a view has an id with is the one that stands there
  pub state_is : (w : Sight) (v : View) (id : ℕ) (t : State) → v.layout ≡ l → IsShownBy g l ws w v → IsTrue (has_state v id t) → t ≡ state_in l ws id
  state_is w v id t layout h has =
      let parts = and_parts (nat_eq (length t) v.layout.width) (has_words v.words id 0 t) has in
      let wide : length t ≡ l.width = eqb-true (length t) v.layout.width parts.0 ∙ ap (λ (m : Layout). m.width) layout in
      noted_words v.words id 0 t h.words parts.1 ∙ ap (λ n. map (λ p. word ws (state_at l id p)) (range_with_len 0 n)) wide

  pub seen_lower_within : (w : Sight) (v : View) (t : State) → v.layout ≡ l → IsShownBy g l ws w v → seen_lower v t ≤ w.lower t
  seen_lower_within w v t layout h = seen_lower_is_greatest v t (w.lower t)
      (λ n there has. subst (λ u. n.number ≤ w.lower u) (sym (state_is w v n.id t layout h has)) (All-contains (IsBelow g l ws w.lower) v.lower n h.lower there).seen)

  pub seen_upper_within : (w : Sight) (v : View) (t : State) → v.problem ≡ g → v.layout ≡ l → IsShownBy g l ws w v → w.upper t ≤ seen_upper v t
  seen_upper_within w v t problem layout h = seen_upper_is_least v t (w.upper t)
      (subst (λ (p : Ground). w.upper t ≤ first_word p t) (sym problem) (h.first t))
      (λ n there has. subst (λ u. w.upper u ≤ n.number) (sym (state_is w v n.id t layout h has)) (All-contains (IsAbove g l ws w.upper) v.upper n h.upper there).seen)

  -- no published id has a state in whose run an empty bucket comes behind buckets of other states
  pub none_published : (w : Sight) (v : View) (t : State) (bucket : ℕ) → v.layout ≡ l → AreWords g l ws → IsShownBy g l ws w v
      → IsClear v t bucket → held_in ws bucket ≡ 0 → (id : ℕ) → IsPublished l ws id → state_in l ws id ≢ t
  none_published w v t bucket layout words h clear empty id (b, below, here) same =
      let run = words.run b id below here in
      let m : ℕ = clear.turns in
      let free : held_in ws (turn l (hash_of t) m) ≡ 0 = ap (held_in ws) (subst (λ (a : Layout). turn a (hash_of t) m ≡ bucket) layout clear.here) ∙ empty in
      let at : turn l (hash_of t) run.turns ≡ b = subst (λ u. turn l (hash_of u) run.turns ≡ b) same run.here in
      dite (dec_le m run.turns)
      (λ le. dite (ℕ_discrete m run.turns)
      (λ equal. let full : held_in ws (turn l (hash_of t) m) ≡ id + 1 = ap (held_in ws) (ap (turn l (hash_of t)) equal ∙ at) ∙ here in omega arith)
      (λ less. run.taken m (omega arith) (ap (λ u. held_in ws (turn l (hash_of u) m)) same ∙ free)))
      (λ gt.
      let o : IsOther v (turn l (hash_of t) run.turns) t
      = subst (λ (a : Layout). IsOther v (turn a (hash_of t) run.turns) t) layout (clear.others run.turns (omega arith)) in
      let found = (All-contains (IsHeld g l ws) v.held (held (turn l (hash_of t) run.turns) o.id) h.held o.found).here in
      let moved : held_in ws b ≡ o.id + 1 = ap (held_in ws) (sym at) ∙ found in
      let ids : o.id ≡ id = omega arith in
      let noted = noted_word (IsStateWord g l ws) v.words o.id o.place o.word h.words o.noted in
      let there : get_or (state_in l ws id) o.place 0 ≡ word ws (state_at l id o.place)
      = get_or-map-range_with_len (λ p. word ws (state_at l id p)) 0 l.width o.place o.place 0 noted.place (omega arith) in
      o.differs (sym noted.here ∙ (ap (λ j. word ws (state_at l j o.place)) ids ∙ (sym there ∙ ap (λ u. get_or u o.place 0) same))))

-- ---- the core

none_is_not_some : {X : Type 0} (o : Option X) (x : X) → o ≡ None → o ≡ Some x → ⊥
none_is_not_some o x empty full = cc

some_is_there : {X : Type 0} (o : Option X) → IsSome o → (x : X) × (o ≡ Some x)
some_is_there None full = absurd cc
some_is_there (Some x) full = (x, refl)

module _ (g : Ground) (l : Layout) (ws : List ℕ) (c : Core) (sound : Sound g c) (shown : ShowsWords g l ws c) where
  pub published_in_core : (id : ℕ) → IsPublished l ws id → core.IsPublished c id
  published_in_core id there = ap is_some (shown.published id there)

  pub published_there : (id : ℕ) → core.IsPublished c id → IsPublished l ws id
  published_there id there = let found = some_is_there (c.state_of id) there in shown.in_bucket id found.0 found.1

  pub state_at_is : (id : ℕ) → IsPublished l ws id → core.state_at c id ≡ state_in l ws id
  state_at_is id there = ap (λ o. unwrap_or o []) (shown.published id there)

  pub one_id : (i j : ℕ) → IsPublished l ws i → IsPublished l ws j → state_in l ws i ≡ state_in l ws j → i ≡ j
  one_id i j first second same = sound.states.distinct i j (state_in l ws i) (shown.published i first) (shown.published j second ∙ ap Some (sym same))

  pub is_given : (id : ℕ) → IsPublished l ws id → id < given_in ws
  is_given id there = let below = sound.ids.published id (published_in_core id there) in let same = shown.given in omega arith

module _ (g : Ground) (l : Layout) (most : ℕ) (s : Table) (k : ℕ) (v : View) (sits : Sits g l most s k v)
    (c : Core) (sound : Sound g c) (shows : Shows g l s c) where
  pub own : IsShownBy g l s.words (sight_at g c k) v
  own = shows.views k v sits.here

  pub seat_is_there : k < length c.workers
  seat_is_there = let below = inside s.views k v sits.here in let same = shows.count in omega arith

  pub lives : IsLive g c k
  lives = own.live sits.view.live

  pub knows_in_core : (id : ℕ) → knows v id → Knows g c k id
  knows_in_core id there = (lives, All-contains (λ i. (sight_at g c k).knows i ≡ true) v.known id own.known there)

  pub known_is_published : (id : ℕ) → knows v id → IsPublished l s.words id
  known_is_published id there = published_there g l s.words c sound shows.words id (sound.states.known k id (knows_in_core id there).1)

  pub spare_is_given : (id : ℕ) → v.spare ≡ Some id → id < given_in s.words
  spare_is_given id mine = let below = sound.ids.spare_given k id (own.spare ∙ mine) in let same = shows.words.given in omega arith

  pub spare_is_unpublished : (id : ℕ) → v.spare ≡ Some id → IsPublished l s.words id → ⊥
  spare_is_unpublished id mine there =
      none_is_not_some (c.state_of id) (state_in l s.words id) (sound.ids.spare_unpublished k id (own.spare ∙ mine)) (shows.words.published id there)

  -- no other seat holds the same spare
  pub spares_differ : (j : ℕ) (u : View) (id i : ℕ) → j ≢ k → get_elem? s.views j ≡ some u → v.spare ≡ Some id → u.spare ≡ Some i → i ≢ id
  spares_differ j u id i else there mine its same =
      else (sound.ids.spares_differ j k id ((shows.views j u there).spare ∙ (its ∙ ap Some same)) (own.spare ∙ mine))

  -- all views after a step of this seat
  pub views_after : (ws' : List ℕ) (x : Sight) (v' : View) → IsShownBy g l ws' x v'
      → ((j : ℕ) (u : View) → j ≢ k → get_elem? s.views j ≡ some u → IsShownBy g l ws' (sight_at g c j) u)
      → (j : ℕ) (u : View) → get_elem? (slice_set s.views k v') j ≡ some u
      → IsShownBy g l ws' (get_or (slice_set c.workers k x) j (ended g)) u
  views_after ws' x v' mine others j u there = ⊎_elim
      (λ t. subst (λ y. IsShownBy g l ws' y u) (sym (ap (λ i. get_or (slice_set c.workers k x) i (ended g)) t.0 ∙ get_or-set_same c.workers k x (ended g) seat_is_there))
      (subst (IsShownBy g l ws' x) t.1 mine))
      (λ t. subst (λ y. IsShownBy g l ws' y u) (sym (get_or-set_other c.workers k j x (ended g) t.0)) (others j u t.0 t.1))
      (at_set s.views k j v' u there)
