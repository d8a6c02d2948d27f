-- The tests decide where events are allowed.
use Rattle.std.proofs.Common.{◌≡◌, ◌⊎◌, ℕ, suc, zero, ◌<◌, cond, Bool, true, false, not, ◌&&◌, List, [], ◌∷◌, length, None, Some, refl, sym, ap, subst, inl, inr, ◌∙◌, arith}
use Rattle.std.specs.Prelude.{Contains, Option, is_some, is_none, nat_eq, nat_lt, get_or}
use Rattle.std.specs.Option.{unwrap_or}
use Rattle.std.specs.List.{slice_get}
use Rattle.std.specs.Cmp.Lexicographic.{bytes_decides}
use Rattle.std.proofs.lemmas.Bool.{cases_Bool, ltb-true, lt-ltb, eqb-true, eq-eqb, ne_eqb, and_parts}
use Rattle.std.proofs.lemmas.Option.{slice_get_within, slice_get-get_or}
use Rattle.ground_model.specs.Packed.{State, same_state, is_inside}
use Rattle.ground_model.specs.Ground.{Ground}
use Rattle.ground_model.specs.Invariant.{IsGroundProblem}
use Rattle.decision_process.specs.Following.{IsLowerFrom}
use Rattle.decision_process.specs.Levels.{successors}
use Rattle.ground_model.specs.Steps.{ground_process}
use Rattle.bound_core.specs.Numbers.{first_word, IsSupported}
use Rattle.bound_core.specs.declared.codes.TheConstants.{MOST_IDS}
use Rattle.bound_core.specs.declared.event.Event.{Event}
use Rattle.bound_core.specs.declared.event.Event.TheVariants.{SeeLower, SeeUpper, Raise, Sink, Claim, Write, Publish, Look, Split, Join}
use Rattle.bound_core.specs.declared.id_row.IdRow.{IdRow}
use Rattle.bound_core.specs.declared.worker.Seen.{Seen}
use Rattle.bound_core.specs.declared.worker.Worker.{Worker}
use Rattle.bound_core.specs.Core.{Sight, sight_at, IsLive, Knows, width, written}
use Rattle.bound_core.specs.Events.{CanPublish, Allowed}
use Rattle.bound_core.specs.Sound.{Sound}
use Rattle.bound_core.specs.Shown.{state_in, published_state, is_of, seen_lower_in, seen_upper_in, word_at, word_in, sight_in}
use Rattle.core_run.specs.declared.board.Board.{Board}
use Rattle.core_run.specs.Merged.{knows_in}
use Rattle.core_run.specs.Boards.{core_of, IsFormed}
use Rattle.core_run.specs.Decided.{live_in, if_live, knower_in, if_knows, is_taken, is_whole, is_reached, leads_to, leads_from, upper_values, can_raise, can_sink, raises, raises_at, sinks, sinks_at, claims, writes, publishes, is_without_spare, publishes_row, publishes_spare, allows}
use Rattle.core_run.specs.Stepped.{empty_row}
use Rattle.core_run.proofs.Choosing.{raise_allowed, allowed_raise, sink_allowed, allowed_sink, reaches, reached, any_at, any_there, all_at, all_each, both_true}
use Rattle.core_run.proofs.Drafts.{written_is_state}
use Rattle.core_run.proofs.Simulation.{sight_shown, live_worker, published_row_there, state_there}
use Rattle.core_run.proofs.Steps.{formed_row, spare_row, spare_off}

some_there : {A : Type 0} (o : Option A) → is_some o ≡ true → (a : A) × (o ≡ Some a)
some_there None on = absurd cc
some_there (Some a) on = (a, refl)

none_there : {A : Type 0} (o : Option A) → is_none o ≡ true → o ≡ None
none_there None on = refl
none_there (Some a) on = absurd cc

live_there : (o : Option Worker) (w : Worker) → if_live o ≡ Some w → (o ≡ Some w) × (w.live ≡ true)
live_there None w same = absurd cc
live_there (Some v) w same = elim (cases_Bool v.live) [
  | inl on ↦
      let here : v ≡ w = (let both : Some v ≡ Some w = sym (ap (λ b. cond b (Some v) None) on) ∙ same in cc) in
      (ap Some here, subst (λ (u : Worker). u.live ≡ true) here on)
  | inr off ↦ absurd (let both : None ≡ Some w = sym (ap (λ b. cond b (Some v) None) off) ∙ same in cc)
]

knows_there : (id : ℕ) (o : Option Worker) (w : Worker) → if_knows id o ≡ Some w → (o ≡ Some w) × (knows_in w.seen id ≡ true)
knows_there id None w same = absurd cc
knows_there id (Some v) w same = elim (cases_Bool (knows_in v.seen id)) [
  | inl on ↦
      let here : v ≡ w = (let both : Some v ≡ Some w = sym (ap (λ b. cond b (Some v) None) on) ∙ same in cc) in
      (ap Some here, subst (λ (u : Worker). knows_in u.seen id ≡ true) here on)
  | inr off ↦ absurd (let both : None ≡ Some w = sym (ap (λ b. cond b (Some v) None) off) ∙ same in cc)
]

pub live_found : (ws : List Worker) (k : ℕ) (w : Worker) → live_in ws k ≡ Some w → (slice_get ws k ≡ Some w) × (w.live ≡ true)
live_found ws k w same = live_there (slice_get ws k) w same

pub knower_found : (ws : List Worker) (k id : ℕ) (w : Worker) → knower_in ws k id ≡ Some w
    → (slice_get ws k ≡ Some w) × (w.live ≡ true) × (knows_in w.seen id ≡ true)
knower_found ws k id w same =
    let first = knows_there id (live_in ws k) w same in
    let second = live_found ws k w first.0 in (second.0, second.1, first.1)

live_is_found : (ws : List Worker) (k : ℕ) (w : Worker) → slice_get ws k ≡ Some w → w.live ≡ true → live_in ws k ≡ Some w
live_is_found ws k w there on = ap if_live there ∙ ap (λ b. cond b (Some w) None) on

knower_is_found : (ws : List Worker) (k id : ℕ) (w : Worker) → slice_get ws k ≡ Some w → w.live ≡ true → knows_in w.seen id ≡ true
    → knower_in ws k id ≡ Some w
knower_is_found ws k id w there on known = ap (if_knows id) (live_is_found ws k w there on) ∙ ap (λ b. cond b (Some w) None) known

opened : {A : Type 0} (o : Option A) → (o ≡ None) ⊎ ((a : A) × (o ≡ Some a))
opened None = inl refl
opened (Some a) = inr (a, refl)

same_default : {X : Type 0} (xs : List X) (i : ℕ) (d : X) → i < length xs → get_or xs i d ≡ get_or xs i (get_or xs i d)
same_default [] i d within = absurd (omega arith)
same_default (x ∷ xs) zero d within = refl
same_default (x ∷ xs) (suc i) d within = same_default xs i d (omega arith)

not_true : (b : Bool) → not b ≡ true → b ≡ false
not_true true on = absurd cc
not_true false on = refl

-- a published row with the state is found among the rows
row_taken : (g : Ground) (ids : List IdRow) (t : State) (id : ℕ) → published_state (slice_get ids id) ≡ Some t → is_taken g ids t ≡ true
row_taken g ids t id there =
    let found = published_row_there ids id (ap is_some there) in
    let same : state_in found.0 ≡ t = (let both : Some (state_in found.0) ≡ Some t = sym (state_there ids id found.0 found.1 found.2) ∙ there in cc) in
    any_there (λ (row : IdRow). is_of (Some row) t) ids id found.0 found.1
    (both_true found.0.published (same_state (state_in found.0) t) found.2 ((bytes_decides (state_in found.0) t).1 same))

taken_row : (g : Ground) (ids : List IdRow) (t : State) → is_taken g ids t ≡ true → (id : ℕ) × (published_state (slice_get ids id) ≡ Some t)
taken_row g ids t on =
    let found = any_at (λ (row : IdRow). is_of (Some row) t) ids on in
    let parts = and_parts found.1.published (same_state (state_in found.1) t) found.3 in
    (found.0, state_there ids found.0 found.1 found.2 parts.0 ∙ ap Some ((bytes_decides (state_in found.1) t).0 parts.1))

module _ (g : Ground) (is : IsGroundProblem g) (b : Board) (sound : Sound g (core_of g b)) (formed : IsFormed g b) where
  abbrev ids : List IdRow
  ids = b.ids.items

  abbrev ws : List Worker
  ws = b.workers.items

  sight_is : (k : ℕ) (w : Worker) → slice_get ws k ≡ Some w → sight_at g (core_of g b) k ≡ sight_in ids g w
  sight_is k w there = sight_shown g ids ws k w there

  lives : (k : ℕ) (w : Worker) → live_in ws k ≡ Some w → IsLive g (core_of g b) k
  lives k w same =
      let found = live_found ws k w same in ap (λ (v : Sight). v.live) (sight_is k w found.0) ∙ found.1

  lives_found : (k : ℕ) → IsLive g (core_of g b) k → (w : Worker) × (live_in ws k ≡ Some w) × (slice_get ws k ≡ Some w)
  lives_found k live =
      let found = live_worker g ids ws k live in (found.0, live_is_found ws k found.0 found.1 found.2, found.1)

  knows : (k id : ℕ) (w : Worker) → knower_in ws k id ≡ Some w → Knows g (core_of g b) k id
  knows k id w same =
      let found = knower_found ws k id w same in
      (ap (λ (v : Sight). v.live) (sight_is k w found.0) ∙ found.1, ap (λ (v : Sight). v.knows id) (sight_is k w found.0) ∙ found.2)

  knows_found : (k id : ℕ) → Knows g (core_of g b) k id → (w : Worker) × (knower_in ws k id ≡ Some w) × (slice_get ws k ≡ Some w)
  knows_found k id known =
      let found = live_worker g ids ws k known.0 in
      (found.0, knower_is_found ws k id found.0 found.1 found.2 (ap (λ (v : Sight). v.knows id) (sym (sight_is k found.0 found.1)) ∙ known.1), found.1)

  -- the state of a known id
  state_known : (k id : ℕ) → Knows g (core_of g b) k id → (s : State) × (published_state (slice_get ids id) ≡ Some s)
  state_known k id known = some_there (published_state (slice_get ids id)) (sound.states.known k id known.1)

  raise_decided : (k id value : ℕ) → raises g ids id value (knower_in ws k id) ≡ true → Allowed g (core_of g b) (Raise k id value)
  raise_decided k id value on = elim (opened (knower_in ws k id)) [
    | inl none ↦ absurd (let gone : false ≡ true = sym (ap (raises g ids id value) none) ∙ on in cc)
    | inr found ↦
        let known = knows k id found.0 found.1 in
        let state = state_known k id known in
        let there = knower_found ws k id found.0 found.1 in
        let test : can_raise g (seen_lower_in ids found.0.seen) state.0 value ≡ true
        = sym (ap (raises g ids id value) found.1 ∙ ap (raises_at g (seen_lower_in ids found.0.seen) value) state.1) ∙ on in (
          known,
          subst (λ s. IsLowerFrom (ground_process g) (sight_at g (core_of g b) k).lower s value) (sym (ap (λ o. unwrap_or o []) state.1))
              (subst (λ (v : Sight). IsLowerFrom (ground_process g) v.lower state.0 value) (sym (sight_is k found.0 there.0))
              (raise_allowed g is (seen_lower_in ids found.0.seen) state.0 value test)),
        )
  ]

  decided_raise : (k id value : ℕ) → Allowed g (core_of g b) (Raise k id value) → raises g ids id value (knower_in ws k id) ≡ true
  decided_raise k id value allowed =
      let found = knows_found k id allowed.0 in
      let state = state_known k id allowed.0 in
      let from : IsLowerFrom (ground_process g) (seen_lower_in ids found.0.seen) state.0 value
      = subst (λ (v : Sight). IsLowerFrom (ground_process g) v.lower state.0 value) (sight_is k found.0 found.2)
      (subst (λ s. IsLowerFrom (ground_process g) (sight_at g (core_of g b) k).lower s value) (ap (λ o. unwrap_or o []) state.1) allowed.1) in
      ap (raises g ids id value) found.1 ∙ ap (raises_at g (seen_lower_in ids found.0.seen) value) state.1
      ∙ allowed_raise g is (seen_lower_in ids found.0.seen) state.0 value from

  sink_decided : (k id word : ℕ) → sinks g ids id word (knower_in ws k id) ≡ true → Allowed g (core_of g b) (Sink k id word)
  sink_decided k id word on = elim (opened (knower_in ws k id)) [
    | inl none ↦ absurd (let gone : false ≡ true = sym (ap (sinks g ids id word) none) ∙ on in cc)
    | inr found ↦
        let known = knows k id found.0 found.1 in
        let state = state_known k id known in
        let there = knower_found ws k id found.0 found.1 in
        let test : can_sink g (upper_values g ids found.0.seen) state.0 word ≡ true
        = sym (ap (sinks g ids id word) found.1 ∙ ap (sinks_at g (upper_values g ids found.0.seen) word) state.1) ∙ on in (
          known,
          subst (λ s. IsSupported g (sight_at g (core_of g b) k).upper s word) (sym (ap (λ o. unwrap_or o []) state.1))
              (subst (λ (v : Sight). IsSupported g v.upper state.0 word) (sym (sight_is k found.0 there.0))
              (sink_allowed g is (λ s. seen_upper_in ids (first_word g s) found.0.seen s) state.0 word test)),
        )
  ]

  decided_sink : (k id word : ℕ) → Allowed g (core_of g b) (Sink k id word) → sinks g ids id word (knower_in ws k id) ≡ true
  decided_sink k id word allowed =
      let found = knows_found k id allowed.0 in
      let state = state_known k id allowed.0 in
      let supported : IsSupported g (λ s. seen_upper_in ids (first_word g s) found.0.seen s) state.0 word
      = subst (λ (v : Sight). IsSupported g v.upper state.0 word) (sight_is k found.0 found.2)
      (subst (λ s. IsSupported g (sight_at g (core_of g b) k).upper s word) (ap (λ o. unwrap_or o []) state.1) allowed.1) in
      ap (sinks g ids id word) found.1 ∙ ap (sinks_at g (upper_values g ids found.0.seen) word) state.1
      ∙ allowed_sink g is (λ s. seen_upper_in ids (first_word g s) found.0.seen s) state.0 word supported

  -- ---- publications

  written_row_is : (w : Worker) (id : ℕ) (row : IdRow) → slice_get ids id ≡ Some row → w.spare ≡ Some id → written g (sight_in ids g w) ≡ state_in row
  written_row_is w id row there holds = written_is_state g ids w id row there holds (formed_row g ids id row formed.rows there).whole

  word_there : (w : Worker) (id : ℕ) (row : IdRow) → slice_get ids id ≡ Some row → w.spare ≡ Some id → (place : ℕ)
      → word_in ids w.spare place ≡ unwrap_or (slice_get row.words place) None
  word_there w id row there holds place = ap (λ s. word_in ids s place) holds ∙ ap (λ o. word_at o place) there

  can_publish : (k : ℕ) (w : Worker) (id : ℕ) (row : IdRow) → slice_get ws k ≡ Some w → w.spare ≡ Some id → slice_get ids id ≡ Some row
      → publishes_row g ids w.seen (Some row) ≡ true → CanPublish g (core_of g b) (sight_in ids g w)
  can_publish k w id row at holds there on =
      let parts = and_parts (is_whole g row && not (is_taken g ids (state_in row))) (is_inside (length g.atoms) (state_in row) && is_reached g ids w.seen (state_in row)) on in
      let first = and_parts (is_whole g row) (not (is_taken g ids (state_in row))) parts.0 in
      let second = and_parts (is_inside (length g.atoms) (state_in row)) (is_reached g ids w.seen (state_in row)) parts.1 in
      let same : written g (sight_in ids g w) ≡ state_in row = written_row_is w id row there holds in
      let whole : length row.words ≡ width g = (formed_row g ids id row formed.rows there).whole in
      record {
        has_spare = ap is_some holds;
        is_whole = λ place within.
            let inside : place < length row.words = subst (λ n. place < n) (sym whole) within in
            let word = slice_get-get_or row.words place None inside in
            ap is_some (word_there w id row there holds place ∙ ap (λ o. unwrap_or o None) word)
            ∙ all_at (λ (o : Option ℕ). is_some o) row.words first.0 place (get_or row.words place None) word;
        is_state = ap (is_inside (length g.atoms)) same ∙ second.0;
        is_new = λ i taken.
            let none : is_taken g ids (state_in row) ≡ false = not_true (is_taken g ids (state_in row)) first.1 in
            let some : is_taken g ids (state_in row) ≡ true = row_taken g ids (state_in row) i (taken ∙ ap Some same) in absurd cc;
        is_reached =
            let found = any_at (λ (x : Seen). leads_from g (state_in row) (published_state (slice_get ids x.id))) w.seen second.1 in
            let source = from_state (published_state (slice_get ids found.1.id)) found.3 in (
              found.1.id,
              source.0,
              any_there (λ (x : Seen). nat_eq x.id found.1.id) w.seen found.0 found.1 found.2 (eq-eqb found.1.id found.1.id refl),
              source.1,
              subst (λ t. Contains (successors (ground_process g) source.0) t) (sym same) (reaches g source.0 (state_in row) source.2),
            );
      }
    where
      from_state : (o : Option State) → leads_from g (state_in row) o ≡ true → (s : State) × (o ≡ Some s) × (leads_to g s (state_in row) ≡ true)
      from_state None on = absurd cc
      from_state (Some s) on = (s, refl, on)

  publish_can : (k : ℕ) (w : Worker) (id : ℕ) (row : IdRow) → slice_get ws k ≡ Some w → w.spare ≡ Some id → slice_get ids id ≡ Some row
      → CanPublish g (core_of g b) (sight_in ids g w) → publishes_row g ids w.seen (Some row) ≡ true
  publish_can k w id row at holds there can =
      let same : written g (sight_in ids g w) ≡ state_in row = written_row_is w id row there holds in
      let whole : length row.words ≡ width g = (formed_row g ids id row formed.rows there).whole in
      both_true (is_whole g row && not (is_taken g ids (state_in row))) (is_inside (length g.atoms) (state_in row) && is_reached g ids w.seen (state_in row))
      (both_true (is_whole g row) (not (is_taken g ids (state_in row)))
      (all_each (λ (o : Option ℕ). is_some o) row.words (λ place word at_place.
      let within : place < width g = subst (λ n. place < n) whole (slice_get_within row.words place word at_place) in
      ap is_some (ap (λ o. unwrap_or o None) (sym at_place) ∙ sym (word_there w id row there holds place)) ∙ can.is_whole place within))
      (elim (cases_Bool (is_taken g ids (state_in row))) [
        | inl on ↦
            let found = taken_row g ids (state_in row) on in absurd (can.is_new found.0 (found.1 ∙ ap Some (sym same)))
        | inr off ↦ ap not off
      ]))
      (both_true (is_inside (length g.atoms) (state_in row)) (is_reached g ids w.seen (state_in row))
      (ap (is_inside (length g.atoms)) (sym same) ∙ can.is_state)
      (let next = can.is_reached in
      let found = any_at (λ (x : Seen). nat_eq x.id next.0) w.seen next.2 in
      let same_id : found.1.id ≡ next.0 = eqb-true found.1.id next.0 found.3 in
      any_there (λ (x : Seen). leads_from g (state_in row) (published_state (slice_get ids x.id))) w.seen found.0 found.1 found.2
      (ap (λ i. leads_from g (state_in row) (published_state (slice_get ids i))) same_id ∙ ap (leads_from g (state_in row)) next.3
      ∙ reached g next.1 (state_in row) (subst (λ t. Contains (successors (ground_process g) next.1) t) same next.4))))

  -- ---- each event

  spare_is : (k : ℕ) (w : Worker) → slice_get ws k ≡ Some w → (sight_at g (core_of g b) k).spare ≡ w.spare
  spare_is k w there = ap (λ (v : Sight). v.spare) (sight_is k w there)

  never : false ≡ true → ⊥
  never same = absurd cc

  pub allowed_by_test : (e : Event) → allows g b e ≡ true → Allowed g (core_of g b) e
  allowed_by_test (SeeLower k id) on = let found = some_there (knower_in ws k id) on in knows k id found.0 found.1
  allowed_by_test (SeeUpper k id) on = let found = some_there (knower_in ws k id) on in knows k id found.0 found.1
  allowed_by_test (Raise k id value) on = raise_decided k id value on
  allowed_by_test (Sink k id word) on = sink_decided k id word on
  allowed_by_test (Claim k) on = elim (opened (live_in ws k)) [
    | inl none ↦ absurd (never (sym (ap (claims g (length ids)) none) ∙ on))
    | inr found ↦
        let there = live_found ws k found.0 found.1 in
        let parts = and_parts (is_none found.0.spare) (nat_lt (length ids) MOST_IDS) (sym (ap (claims g (length ids)) found.1) ∙ on) in
        (lives k found.0 found.1, spare_is k found.0 there.0 ∙ none_there found.0.spare parts.0, ltb-true (length ids) MOST_IDS parts.1)
  ]
  allowed_by_test (Write k place word) on = elim (opened (live_in ws k)) [
    | inl none ↦ absurd (never (sym (ap (writes g place) none) ∙ on))
    | inr found ↦
        let there = live_found ws k found.0 found.1 in
        let parts = and_parts (is_some found.0.spare) (nat_lt place (width g)) (sym (ap (writes g place) found.1) ∙ on) in
        (lives k found.0 found.1, ap is_some (spare_is k found.0 there.0) ∙ parts.0, ltb-true place (width g) parts.1)
  ]
  allowed_by_test (Publish k) on = elim (opened (live_in ws k)) [
    | inl none ↦ absurd (never (sym (ap (publishes g ids) none) ∙ on))
    | inr found ↦ elim (opened found.0.spare) [
      | inl none ↦ absurd (never (sym (ap (publishes g ids) found.1 ∙ ap (publishes_spare g ids found.0.seen) none) ∙ on))
      | inr spare ↦
          let there = live_found ws k found.0 found.1 in
          let below = spare_row g b k found.0 spare.0 sound there.0 spare.1 in
          let row = spare_off g b k found.0 spare.0 sound there.0 spare.1 (get_or ids spare.0 (empty_row g)) (same_default ids spare.0 (empty_row g) below) in
          let test : publishes_row g ids found.0.seen (Some (get_or ids spare.0 (empty_row g))) ≡ true
          = sym (ap (publishes g ids) found.1 ∙ ap (publishes_spare g ids found.0.seen) spare.1 ∙ ap (publishes_row g ids found.0.seen) row.0) ∙ on in (
            lives k found.0 found.1,
            subst (CanPublish g (core_of g b)) (sym (sight_is k found.0 there.0))
                (can_publish k found.0 spare.0 (get_or ids spare.0 (empty_row g)) there.0 spare.1 row.0 test),
          )
    ]
  ]
  allowed_by_test (Look k None) on = let found = some_there (live_in ws k) on in lives k found.0 found.1
  allowed_by_test (Look k (Some id)) on =
      let parts = and_parts (is_some (live_in ws k)) (is_some (published_state (slice_get ids id))) on in
      let found = some_there (live_in ws k) parts.0 in (lives k found.0 found.1, parts.1)
  allowed_by_test (Split k) on = let found = some_there (live_in ws k) on in lives k found.0 found.1
  allowed_by_test (Join k other) on =
      let parts = and_parts (is_some (live_in ws k)) (not (nat_eq other k) && is_without_spare g (live_in ws other)) on in
      let rest = and_parts (not (nat_eq other k)) (is_without_spare g (live_in ws other)) parts.1 in
      let found = some_there (live_in ws k) parts.0 in elim (opened (live_in ws other)) [
        | inl none ↦ absurd (never (sym (ap (is_without_spare g) none) ∙ rest.1))
        | inr second ↦ (
          lives k found.0 found.1,
          lives other second.0 second.1,
          λ same. never (sym (not_true (nat_eq other k) rest.0) ∙ eq-eqb other k same),
          spare_is other second.0 (live_found ws other second.0 second.1).0 ∙ none_there second.0.spare (sym (ap (is_without_spare g) second.1) ∙ rest.1),
        )
      ]

  pub test_by_allowed : (e : Event) → Allowed g (core_of g b) e → allows g b e ≡ true
  test_by_allowed (SeeLower k id) allowed = ap is_some (knows_found k id allowed).1
  test_by_allowed (SeeUpper k id) allowed = ap is_some (knows_found k id allowed).1
  test_by_allowed (Raise k id value) allowed = decided_raise k id value allowed
  test_by_allowed (Sink k id word) allowed = decided_sink k id word allowed
  test_by_allowed (Claim k) allowed =
      let found = lives_found k allowed.0 in
      ap (claims g (length ids)) found.1
      ∙ both_true (is_none found.0.spare) (nat_lt (length ids) MOST_IDS) (ap is_none (sym (spare_is k found.0 found.2) ∙ allowed.1)) (lt-ltb (length ids) MOST_IDS allowed.2)
  test_by_allowed (Write k place word) allowed =
      let found = lives_found k allowed.0 in
      ap (writes g place) found.1
      ∙ both_true (is_some found.0.spare) (nat_lt place (width g)) (ap is_some (sym (spare_is k found.0 found.2)) ∙ allowed.1) (lt-ltb place (width g) allowed.2)
  test_by_allowed (Publish k) allowed =
      let found = lives_found k allowed.0 in
      let can : CanPublish g (core_of g b) (sight_in ids g found.0) = subst (CanPublish g (core_of g b)) (sight_is k found.0 found.2) allowed.1 in
      let spare = some_there found.0.spare can.has_spare in
      let below = spare_row g b k found.0 spare.0 sound found.2 spare.1 in
      let row = spare_off g b k found.0 spare.0 sound found.2 spare.1 (get_or ids spare.0 (empty_row g)) (same_default ids spare.0 (empty_row g) below) in
      ap (publishes g ids) found.1 ∙ ap (publishes_spare g ids found.0.seen) spare.1 ∙ ap (publishes_row g ids found.0.seen) row.0
      ∙ publish_can k found.0 spare.0 (get_or ids spare.0 (empty_row g)) found.2 spare.1 row.0 can
  test_by_allowed (Look k None) allowed = ap is_some (lives_found k allowed).1
  test_by_allowed (Look k (Some id)) allowed =
      both_true (is_some (live_in ws k)) (is_some (published_state (slice_get ids id))) (ap is_some (lives_found k allowed.0).1) allowed.1
  test_by_allowed (Split k) allowed = ap is_some (lives_found k allowed).1
  test_by_allowed (Join k other) allowed =
      let second = lives_found other allowed.1 in
      both_true (is_some (live_in ws k)) (not (nat_eq other k) && is_without_spare g (live_in ws other)) (ap is_some (lives_found k allowed.0).1)
      (both_true (not (nat_eq other k)) (is_without_spare g (live_in ws other)) (ap not (ne_eqb other k allowed.2))
      (ap (is_without_spare g) second.1 ∙ ap is_none (sym (spare_is other second.0 second.2) ∙ allowed.3)))
