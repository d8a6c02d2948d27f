-- A board after a write and after a publication shows the core after it.
use Rattle.std.proofs.Common.{◌≡◌, ◌≢◌, ℕ, ◌<◌, ◌≤◌, min, max, cond, Bool, true, false, ◌&&◌, List, [], ◌∷◌, length, map, None, Some, refl, sym, ap, subst, inl, inr, ◌∙◌, arith}
use Rattle.std.specs.Prelude.{Option, IsSome, is_some, nat_eq, get_or, slice_set}
use Rattle.std.specs.Option.{unwrap_or}
use Rattle.std.specs.List.{slice_get}
use Rattle.std.specs.Cmp.Lexicographic.{bytes_decides}
use Rattle.std.proofs.lemmas.Bool.{cases_Bool, cases_eq, eq-eqb, ne_eqb}
use Rattle.std.proofs.lemmas.List.{length-set, ext_get_or, get_or-map, length-map, map-set}
use Rattle.std.proofs.lemmas.List.FromFn.{length-map-range_with_len, get_or-map-range_with_len}
use Rattle.std.proofs.lemmas.Option.{slice_get-get_or}
use Rattle.ground_model.specs.Packed.{State, same_state}
use Rattle.ground_model.specs.Ground.{Ground}
use Rattle.bound_core.specs.declared.id_row.IdRow.{IdRow}
use Rattle.bound_core.specs.declared.worker.Worker.{Worker}
use Rattle.bound_core.specs.declared.event.Event.TheVariants.{Write, Publish}
use Rattle.bound_core.specs.Numbers.{first_word}
use Rattle.bound_core.specs.Core.{Sight, sight_at, width, written}
use Rattle.bound_core.specs.Events.{writes_word, learns, without_spare, after}
use Rattle.bound_core.specs.Sound.{Sound, spare_of}
use Rattle.bound_core.specs.Shown.{state_in, published_state, is_of, word_at, word_in, sight_in}
use Rattle.core_run.specs.Merged.{knows_in, HasLearned}
use Rattle.core_run.specs.Stepped.{written_row, published_row, with_spare}
use Rattle.core_run.proofs.Shown.{sight_equal, core_equal, map_one, map_places, sight_same, slice_get-set_same, slice_get-set_other, set_places}
use Rattle.core_run.proofs.Rows.{lower_kept, upper_kept}
use Rattle.core_run.proofs.Hearing.{said, entry, taught, hears_id}
use Rattle.core_run.proofs.Simulation.{show, sight_shown}

slice_get-set_written : (words : List (Option ℕ)) (place word i : ℕ) → place < length words
    → unwrap_or (slice_get (slice_set words place (Some word)) i) None ≡ cond (nat_eq i place) (Some word) (unwrap_or (slice_get words i) None)
slice_get-set_written words place word i within = elim (cases_eq i place) [
  | inl same ↦
      subst (λ n. unwrap_or (slice_get (slice_set words place (Some word)) n) None ≡ cond (nat_eq n place) (Some word) (unwrap_or (slice_get words n) None)) (sym same)
      (ap (λ o. unwrap_or o None) (slice_get-set_same words place (get_or words place None) (Some word) (slice_get-get_or words place None within))
      ∙ sym (ap (λ b. cond b (Some word) (unwrap_or (slice_get words place) None)) (eq-eqb place place refl)))
  | inr apart ↦
      ap (λ o. unwrap_or o None) (slice_get-set_other words place i (Some word) apart)
      ∙ sym (ap (λ b. cond b (Some word) (unwrap_or (slice_get words i) None)) (ne_eqb i place apart))
]

is_of-unpublished : (row : IdRow) (t : State) → row.published ≡ false → is_of (Some row) t ≡ false
is_of-unpublished row t off = ap (λ b. b && same_state (state_in row) t) off

unpublished_state : (row : IdRow) → row.published ≡ false → published_state (Some row) ≡ None
unpublished_state row off = ap (λ b. cond b (Some (state_in row)) None) off

-- what a worker has written is the state of the row of its spare
pub written_is_state : (g : Ground) (ids : List IdRow) (w : Worker) (id : ℕ) (row : IdRow) → slice_get ids id ≡ Some row → w.spare ≡ Some id
    → length row.words ≡ width g → written g (sight_in ids g w) ≡ state_in row
written_is_state g ids w id row row_there holds whole = ext_get_or 0 (written g (sight_in ids g w)) (state_in row)
    (length-map-range_with_len (λ i. unwrap_or (word_in ids w.spare i) 0) 0 (width g) ∙ sym whole
    ∙ sym (length-map row.words (λ (o : Option ℕ). unwrap_or o 0)))
    (λ i within.
    let small : i < width g = subst (λ n. i < n) (length-map-range_with_len (λ j. unwrap_or (word_in ids w.spare j) 0) 0 (width g)) within in
    let inside : i < length row.words = subst (λ n. i < n) (sym whole) small in
    get_or-map-range_with_len (λ j. unwrap_or (word_in ids w.spare j) 0) 0 (width g) i i 0 small (omega arith)
    ∙ ap (λ s. unwrap_or (word_in ids s i) 0) holds ∙ ap (λ o. unwrap_or (word_at o i) 0) row_there
    ∙ ap (λ o. unwrap_or (unwrap_or o None) 0) (slice_get-get_or row.words i None inside)
    ∙ sym (get_or-map (λ (o : Option ℕ). unwrap_or o 0) row.words i None 0 inside))

module _ (g : Ground) (ids : List IdRow) (ws : List Worker) (k : ℕ) (w : Worker) (there : slice_get ws k ≡ Some w)
    (id : ℕ) (row : IdRow) (row_there : slice_get ids id ≡ Some row) (off : row.published ≡ false) (holds : w.spare ≡ Some id)
    (sound : Sound g (show g ids ws)) where
  mine : sight_at g (show g ids ws) k ≡ sight_in ids g w
  mine = sight_shown g ids ws k w there

  holds_shown : spare_of g (show g ids ws) k ≡ Some id
  holds_shown = ap (λ (v : Sight). v.spare) mine ∙ holds

  -- no other worker has the id
  apart_from : (j : ℕ) (v : Worker) → slice_get ws j ≡ Some v → j ≢ k → (i : ℕ) → v.spare ≡ Some i → i ≢ id
  apart_from j v at other i spare same =
      other (sound.ids.spares_differ j k id (ap (λ (u : Sight). u.spare) (sight_shown g ids ws j v at) ∙ spare ∙ ap Some same) holds_shown)

  -- nor does any worker know it
  unknown : (j : ℕ) (v : Worker) → slice_get ws j ≡ Some v → (i : ℕ) → knows_in v.seen i ≡ true → i ≢ id
  unknown j v at i on same =
      let published : IsSome (published_state (slice_get ids i))
      = sound.states.known j i (ap (λ (u : Sight). u.knows i) (sight_shown g ids ws j v at) ∙ on) in
      let gone : false ≡ true = sym (ap is_some (ap (λ n. published_state (slice_get ids n)) same ∙ ap published_state row_there ∙ unpublished_state row off)) ∙ published in
      absurd cc

  module _ (place word : ℕ) (within : place < length row.words) where
    abbrev ids_written : List IdRow
    ids_written = slice_set ids id (written_row row place word)

    state_same : (j : ℕ) → published_state (slice_get ids_written j) ≡ published_state (slice_get ids j)
    state_same = set_places (λ _ o o'. published_state o' ≡ published_state o) ids id row (written_row row place word) row_there
        (unpublished_state (written_row row place word) off ∙ sym (unpublished_state row off)) (λ j apart. refl)

    word_other : (j i : ℕ) → j ≢ id → word_at (slice_get ids_written j) i ≡ word_at (slice_get ids j) i
    word_other j i apart = ap (λ o. word_at o i) (slice_get-set_other ids id j (written_row row place word) apart)

    my_sight : sight_in ids_written g w ≡ writes_word place word (sight_in ids g w)
    my_sight = sight_equal (sight_in ids_written g w) (writes_word place word (sight_in ids g w)) refl (λ _. refl)
        (λ t. ap (λ (v : Sight). v.lower t) but_words) (λ t. ap (λ (v : Sight). v.upper t) but_words) refl
        (λ i. ap (λ s. word_in ids_written s i) holds
        ∙ ap (λ o. word_at o i) (slice_get-set_same ids id row (written_row row place word) row_there)
        ∙ slice_get-set_written row.words place word i within
        ∙ ap (λ o. cond (nat_eq i place) (Some word) o) (ap (λ o. word_at o i) (sym row_there) ∙ ap (λ s. word_in ids s i) (sym holds)))
      where
        but_words : sight_in ids_written g (said w.seen) ≡ sight_in ids g (said w.seen)
        but_words = sight_same g ids ids_written (said w.seen) (λ j _. state_same j) (λ j i is. absurd cc)

    pub write_step : show g ids_written ws ≡ after g (show g ids ws) (Write k place word)
    write_step = core_equal (show g ids_written ws) (after g (show g ids ws) (Write k place word))
        (length-set ids id (written_row row place word)) state_same
        (λ t. lower_kept ids id row (written_row row place word) t row_there (λ m.
        ap (λ b. cond b (max m row.lower) m) (is_of-unpublished (written_row row place word) t off ∙ sym (is_of-unpublished row t off))))
        (λ t. upper_kept (first_word g t) ids id row (written_row row place word) t row_there (λ m _.
        ap (λ b. cond b (min m row.upper) m) (is_of-unpublished (written_row row place word) t off ∙ sym (is_of-unpublished row t off))))
        (map_one (sight_in ids g) (sight_in ids_written g) ws k w there
        (λ j v at apart. sight_same g ids ids_written v (λ i _. state_same i) (λ i n spare. word_other i n (apart_from j v at apart i spare)))
        ∙ ap (slice_set (map (sight_in ids g) ws) k) (my_sight ∙ ap (writes_word place word) (sym mine)))

  -- ---- a publication

  module _ (whole : length row.words ≡ width g) (lowest : row.lower ≡ 0) where
    abbrev now : IdRow
    now = published_row row (first_word g (state_in row))

    abbrev ids_now : List IdRow
    ids_now = slice_set ids id now

    its_state : written g (sight_in ids g w) ≡ state_in row
    its_state = written_is_state g ids w id row row_there holds whole

    state_now : (j : ℕ) → published_state (slice_get ids_now j) ≡ cond (nat_eq j id) (Some (state_in row)) (published_state (slice_get ids j))
    state_now = set_places (λ j o o'. published_state o' ≡ cond (nat_eq j id) (Some (state_in row)) (published_state o)) ids id row now row_there
        (sym (ap (λ b. cond b (Some (state_in row)) (published_state (Some row))) (eq-eqb id id refl)))
        (λ j apart. sym (ap (λ b. cond b (Some (state_in row)) (published_state (slice_get ids j))) (ne_eqb j id apart)))

    state_other : (j : ℕ) → j ≢ id → published_state (slice_get ids_now j) ≡ published_state (slice_get ids j)
    state_other j apart = ap published_state (slice_get-set_other ids id j now apart)

    word_now : (j i : ℕ) → word_at (slice_get ids_now j) i ≡ word_at (slice_get ids j) i
    word_now j i = set_places (λ _ o o'. word_at o' i ≡ word_at o i) ids id row now row_there refl (λ n apart. refl) j

    -- what a worker shows that doesn't learn of it
    shows_same : (j : ℕ) (v : Worker) → slice_get ws j ≡ Some v → sight_in ids_now g v ≡ sight_in ids g v
    shows_same j v at = sight_same g ids ids_now v (λ i on. state_other i (unknown j v at i on)) (λ i n _. word_now i n)

    first_lower : (t : State) (m : ℕ) → cond (is_of (Some now) t) (max m now.lower) m ≡ cond (is_of (Some row) t) (max m row.lower) m
    first_lower t m = either (is_of (Some now) t) m now.lower lowest ∙ sym (ap (λ b. cond b (max m row.lower) m) (is_of-unpublished row t off))
      where
        either : (b : Bool) (m l : ℕ) → l ≡ 0 → cond b (max m l) m ≡ m
        either true m l none = omega arith
        either false m l none = refl

    first_upper : (t : State) (m : ℕ) → m ≤ first_word g t → cond (is_of (Some now) t) (min m now.upper) m ≡ cond (is_of (Some row) t) (min m row.upper) m
    first_upper t m within = elim (cases_Bool (same_state (state_in row) t)) [
      | inl on ↦
          let at : first_word g t ≡ first_word g (state_in row) = ap (first_word g) (sym ((bytes_decides (state_in row) t).0 on)) in
          let kept : min m (first_word g (state_in row)) ≡ m = omega arith in
          ap (λ b. cond b (min m now.upper) m) on ∙ kept ∙ sym (ap (λ b. cond b (min m row.upper) m) (is_of-unpublished row t off))
      | inr apart ↦ ap (λ b. cond b (min m now.upper) m) apart ∙ sym (ap (λ b. cond b (min m row.upper) m) (is_of-unpublished row t off))
    ]

    published_sight : (w' : Worker) → HasLearned (with_spare w None) (entry id None None ∷ []) w'
        → sight_in ids_now g w' ≡ learns id (without_spare (sight_in ids g w))
    published_sight w' learned =
        taught g ids_now (with_spare w None) w' (entry id None None ∷ []) learned
        ∙ hears_id g ids_now (with_spare w None) id
        ∙ ap (learns id) (sight_equal (sight_in ids_now g (with_spare w None)) (without_spare (sight_in ids g w)) refl (λ _. refl)
        (λ t. ap (λ (v : Sight). v.lower t) (shows_same k w there)) (λ t. ap (λ (v : Sight). v.upper t) (shows_same k w there)) refl (λ _. refl))

    pub publish_step : (w' : Worker) → HasLearned (with_spare w None) (entry id None None ∷ []) w'
        → show g ids_now (slice_set ws k w') ≡ after g (show g ids ws) (Publish k)
    publish_step w' learned = core_equal (show g ids_now (slice_set ws k w')) (after g (show g ids ws) (Publish k))
        (length-set ids id now)
        (λ j. state_now j ∙ ap (λ s. cond (nat_eq j id) (Some s) (published_state (slice_get ids j))) (sym its_state ∙ ap (written g) (sym mine))
        ∙ ap (λ n. cond (nat_eq j n) (Some (written g (sight_at g (show g ids ws) k))) (published_state (slice_get ids j))) (sym same_id))
        (λ t. lower_kept ids id row now t row_there (first_lower t))
        (λ t. upper_kept (first_word g t) ids id row now t row_there (first_upper t))
        (map_set_one ∙ ap (slice_set (map (sight_in ids g) ws) k)
        (published_sight w' learned ∙ ap (λ v. learns id (without_spare v)) (sym mine)
        ∙ ap (λ n. learns n (without_spare (sight_at g (show g ids ws) k))) (sym same_id)))
      where
        same_id : unwrap_or (spare_of g (show g ids ws) k) 0 ≡ id
        same_id = ap (λ o. unwrap_or o 0) holds_shown

        map_set_one : map (sight_in ids_now g) (slice_set ws k w') ≡ slice_set (map (sight_in ids g) ws) k (sight_in ids_now g w')
        map_set_one = map-set (sight_in ids_now g) ws k w'
            ∙ ap (λ l. slice_set l k (sight_in ids_now g w')) (map_places (sight_in ids g) (sight_in ids_now g) ws shows_same)
