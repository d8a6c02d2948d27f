-- Each event's changes of a board are a step.
use Rattle.std.proofs.Common.{suc, zero, ◌≡◌, ℕ, ◌<◌, min, max, cond, true, false, List, [], ◌∷◌, ◌++◌, length, map, None, Some, Ok, Err, refl, sym, ap, subst, inl, inr, ◌∙◌}
use Rattle.std.specs.Prelude.{Option, Result, OnOk, All, is_some, get_or, slice_set, replicate}
use Rattle.std.specs.Option.{unwrap_or}
use Rattle.std.specs.List.{slice_get}
use Rattle.std.proofs.lemmas.Bool.{cases_Bool}
use Rattle.std.proofs.lemmas.List.{length-map, map-set, map-append, set-set, set-get_or, length-set, length-replicate}
use Rattle.std.proofs.lemmas.List.Elements.{All-set, All-append, All-cons, All-nil}
use Rattle.std.proofs.lemmas.Option.{slice_get_within, get_or_from_slice_get, slice_get-get_or}
use Rattle.ground_model.specs.Packed.{State}
use Rattle.ground_model.specs.Ground.{Ground}
use Rattle.bound_core.specs.declared.id_row.IdRow.{IdRow}
use Rattle.bound_core.specs.declared.worker.Seen.{Seen}
use Rattle.bound_core.specs.declared.worker.Worker.{Worker}
use Rattle.bound_core.specs.declared.event.Event.TheVariants.{SeeLower, SeeUpper, Raise, Sink, Claim, Write, Publish, Look, Split, Join}
use Rattle.bound_core.specs.Numbers.{first_word}
use Rattle.bound_core.specs.Core.{Sight, sight_at, IsLive, width}
use Rattle.bound_core.specs.Sound.{Sound, spare_of}
use Rattle.bound_core.specs.Shown.{state_in, published_state}
use Rattle.core_run.specs.declared.board.Board.{Board}
use Rattle.core_run.specs.Merged.{HasLearned}
use Rattle.core_run.specs.Boards.{core_of, IsFormedRow, IsFormed}
use Rattle.core_run.specs.Stepped.{raised_row, sunk_row, written_row, published_row, empty_row, with_spare, Teaches, MayStep, IsStep}
use Rattle.core_run.proofs.Shown.{slice_get-set_same}
use Rattle.core_run.proofs.Hearing.{said, entry}
use Rattle.core_run.proofs.Simulation.{show_same, sight_shown, live_worker, published_row_there, state_there, sees_lower_step, sees_upper_step, raise_step, sink_step, look_step, split_step, join_step, claim_step}
use Rattle.core_run.proofs.Drafts.{write_step, publish_step}

pub on_ok : {T E : Type 0} {P Q : Type 0} (r : Result T E) → OnOk r P → (P → Q) → OnOk r Q
on_ok (Ok x) holds f = f holds
on_ok (Err e) holds f = holds

same_item : {X : Type 0} (x y : X) → Some x ≡ Some y → x ≡ y
same_item x y same = cc

module _ (g : Ground) where
  -- ---- form

  pub formed_row : (ids : List IdRow) (id : ℕ) (row : IdRow) → All (IsFormedRow g) ids → slice_get ids id ≡ Some row → IsFormedRow g row
  formed_row ids id row rows there =
      subst (IsFormedRow g) (get_or_from_slice_get ids id row row there) (rows id row (slice_get_within ids id row there))

  formed_with : (b b' : Board) (ids : List IdRow) (states : List State) → b'.ids.items ≡ ids → b'.states.items ≡ states
      → states ≡ map state_in ids → All (IsFormedRow g) ids → IsFormed g b'
  formed_with b b' ids states first second same rows = record {
    states = second ∙ same ∙ ap (map state_in) (sym first);
    rows = subst (λ l. All (IsFormedRow g) l) (sym first) rows;
  }

  formed_set : (b b' : Board) (id : ℕ) (row row' : IdRow) → IsFormed g b → slice_get b.ids.items id ≡ Some row
      → state_in row' ≡ state_in row → IsFormedRow g row' → b'.ids.items ≡ slice_set b.ids.items id row' → b'.states.items ≡ b.states.items → IsFormed g b'
  formed_set b b' id row row' formed there state is ids states =
      formed_with b b' (slice_set b.ids.items id row') b.states.items ids states
      (formed.states ∙ sym (map-set state_in b.ids.items id row' ∙ ap (slice_set (map state_in b.ids.items) id) state ∙ set_here state_in b.ids.items id row there))
      (All-set (IsFormedRow g) b.ids.items id row' is formed.rows)
    where
      set_here : (f : IdRow → State) (ids : List IdRow) (id : ℕ) (row : IdRow) → slice_get ids id ≡ Some row → slice_set (map f ids) id (f row) ≡ map f ids
      set_here f ids id row there = sym (map-set f ids id row) ∙ ap (map f) (set_itself ids id row there)
        where
          set_itself : (ids : List IdRow) (id : ℕ) (row : IdRow) → slice_get ids id ≡ Some row → slice_set ids id row ≡ ids
          set_itself ids id row there = ap (slice_set ids id) (sym (get_or_from_slice_get ids id row row there)) ∙ set-get_or ids id row

  -- ---- what is found

  known_row : (b : Board) (k id : ℕ) → Sound g (core_of g b) → (sight_at g (core_of g b) k).knows id ≡ true
      → (row : IdRow) → row ≡ get_or b.ids.items id row → (slice_get b.ids.items id ≡ Some row) × (row.published ≡ true)
  known_row b k id sound knows row here =
      let found = published_row_there b.ids.items id (sound.states.known k id knows) in
      let same : found.0 ≡ row = sym (here ∙ get_or_from_slice_get b.ids.items id found.0 row found.1) in
      (found.1 ∙ ap Some same, subst (λ (r : IdRow). r.published ≡ true) same found.2)

  pub published_length : (b : Board) (id : ℕ) (s : State) → IsFormed g b → Some s ≡ published_state (slice_get b.ids.items id) → length s ≡ width g
  published_length b id s formed there =
      let found = published_row_there b.ids.items id (ap is_some (sym there)) in
      let same : s ≡ state_in found.0 = same_item s (state_in found.0) (there ∙ state_there b.ids.items id found.0 found.1 found.2) in
      ap length same ∙ length-map found.0.words (λ (o : Option ℕ). unwrap_or o 0) ∙ (formed_row b.ids.items id found.0 formed.rows found.1).whole

  -- ---- events

  pub see_lower_is : (b b' : Board) (k id : ℕ) (row : IdRow) → MayStep g b (SeeLower k id) → row ≡ get_or b.ids.items id row
      → Teaches b k (entry id (Some row.lower) None ∷ []) b' → IsStep g b (SeeLower k id) b'
  see_lower_is b b' k id row may here teaches =
      let found = known_row b k id may.sound may.allowed.1 row here in
      let (w, w', there, learned, workers) = teaches.workers in record {
        core = show_same g b.ids.items b'.ids.items (slice_set b.workers.items k w') b'.workers.items teaches.ids workers
            ∙ sees_lower_step g b.ids.items b.workers.items k w there id row found.0 found.1 may.sound may.allowed.1 w' learned;
        formed = formed_with b b' b.ids.items b.states.items teaches.ids teaches.states may.formed.states may.formed.rows;
      }

  pub see_upper_is : (b b' : Board) (k id : ℕ) (row : IdRow) → MayStep g b (SeeUpper k id) → row ≡ get_or b.ids.items id row
      → Teaches b k (entry id None (Some row.upper) ∷ []) b' → IsStep g b (SeeUpper k id) b'
  see_upper_is b b' k id row may here teaches =
      let found = known_row b k id may.sound may.allowed.1 row here in
      let (w, w', there, learned, workers) = teaches.workers in record {
        core = show_same g b.ids.items b'.ids.items (slice_set b.workers.items k w') b'.workers.items teaches.ids workers
            ∙ sees_upper_step g b.ids.items b.workers.items k w there id row found.0 found.1 may.sound may.allowed.1 w' learned;
        formed = formed_with b b' b.ids.items b.states.items teaches.ids teaches.states may.formed.states may.formed.rows;
      }

  pub raise_is : (b b1 b' : Board) (k id value : ℕ) (row row' : IdRow) (lower : ℕ) → Teaches b1 k (entry id (Some lower) None ∷ []) b'
      → MayStep g b (Raise k id value) → row ≡ get_or b.ids.items id row → row' ≡ raised_row row value
      → b1.ids.items ≡ slice_set b.ids.items id row' → b1.states.items ≡ b.states.items → b1.workers.items ≡ b.workers.items
      → lower ≡ max row.lower value → IsStep g b (Raise k id value) b'
  raise_is b b1 b' k id value row row' lower teaches may here is ids states workers number =
      let found = known_row b k id may.sound may.allowed.0.1 row here in
      let (w, w', there, learned, changed) = teaches.workers in
      let there' : slice_get b.workers.items k ≡ Some w = ap (λ l. slice_get l k) (sym workers) ∙ there in
      let all_ids : b'.ids.items ≡ slice_set b.ids.items id (raised_row row value) = teaches.ids ∙ ids ∙ ap (slice_set b.ids.items id) is in
      let learned' : HasLearned w (entry id (Some (max row.lower value)) None ∷ []) w'
      = subst (λ n. HasLearned w (entry id (Some n) None ∷ []) w') number learned in
      record {
        core = show_same g (slice_set b.ids.items id (raised_row row value)) b'.ids.items (slice_set b.workers.items k w') b'.workers.items all_ids
            (changed ∙ ap (λ l. slice_set l k w') workers)
            ∙ raise_step g b.ids.items b.workers.items k w there' id row found.0 found.1 may.sound may.allowed.0.1 value w' learned';
        formed = formed_set b b' id row (raised_row row value) may.formed found.0 refl
            (let old = formed_row b.ids.items id row may.formed.rows found.0 in record {
              whole = old.whole;
              lower = λ off. absurd (let on : row.published ≡ true = found.1 in cc);
              upper = old.upper;
            }) all_ids (teaches.states ∙ states);
      }

  pub sink_is : (b b1 b' : Board) (k id word : ℕ) (row row' : IdRow) (upper : ℕ) → Teaches b1 k (entry id None (Some upper) ∷ []) b'
      → MayStep g b (Sink k id word) → row ≡ get_or b.ids.items id row → row' ≡ sunk_row row word
      → b1.ids.items ≡ slice_set b.ids.items id row' → b1.states.items ≡ b.states.items → b1.workers.items ≡ b.workers.items
      → upper ≡ min row.upper word → IsStep g b (Sink k id word) b'
  sink_is b b1 b' k id word row row' upper teaches may here is ids states workers number =
      let found = known_row b k id may.sound may.allowed.0.1 row here in
      let (w, w', there, learned, changed) = teaches.workers in
      let there' : slice_get b.workers.items k ≡ Some w = ap (λ l. slice_get l k) (sym workers) ∙ there in
      let all_ids : b'.ids.items ≡ slice_set b.ids.items id (sunk_row row word) = teaches.ids ∙ ids ∙ ap (slice_set b.ids.items id) is in
      let learned' : HasLearned w (entry id None (Some (min row.upper word)) ∷ []) w'
      = subst (λ n. HasLearned w (entry id None (Some n) ∷ []) w') number learned in
      record {
        core = show_same g (slice_set b.ids.items id (sunk_row row word)) b'.ids.items (slice_set b.workers.items k w') b'.workers.items all_ids
            (changed ∙ ap (λ l. slice_set l k w') workers)
            ∙ sink_step g b.ids.items b.workers.items k w there' id row found.0 found.1 may.sound may.allowed.0.1 word w' learned';
        formed = formed_set b b' id row (sunk_row row word) may.formed found.0 refl
            (let old = formed_row b.ids.items id row may.formed.rows found.0 in record {
              whole = old.whole;
              lower = old.lower;
              upper = λ off. absurd (let on : row.published ≡ true = found.1 in cc);
            }) all_ids (teaches.states ∙ states);
      }

  pub look_is : (b b' : Board) (k id : ℕ) → MayStep g b (Look k (Some id)) → Teaches b k (entry id None None ∷ []) b'
      → IsStep g b (Look k (Some id)) b'
  look_is b b' k id may teaches =
      let (w, w', there, learned, workers) = teaches.workers in record {
        core = show_same g b.ids.items b'.ids.items (slice_set b.workers.items k w') b'.workers.items teaches.ids workers
            ∙ look_step g b.ids.items b.workers.items k w there id w' learned;
        formed = formed_with b b' b.ids.items b.states.items teaches.ids teaches.states may.formed.states may.formed.rows;
      }

  -- the worker at its place
  pub live_is : (b : Board) (k : ℕ) → IsLive g (core_of g b) k → (w : Worker) → w ≡ get_or b.workers.items k w
      → (slice_get b.workers.items k ≡ Some w) × (w.live ≡ true)
  live_is b k live w here =
      let found = live_worker g b.ids.items b.workers.items k live in
      let same : found.0 ≡ w = sym (here ∙ get_or_from_slice_get b.workers.items k found.0 w found.1) in
      (found.1 ∙ ap Some same, subst (λ (v : Worker). v.live ≡ true) same found.2)

  -- one worker, read twice
  pub live_twice : (b : Board) (k : ℕ) → IsLive g (core_of g b) k → (w v : Worker) → w ≡ get_or b.workers.items k w
      → v ≡ get_or b.workers.items k v → w ≡ v
  live_twice b k live w v here there =
      same_item w v (sym (live_is b k live w here).0 ∙ (live_is b k live v there).0)

  pub states_count : (b : Board) → IsFormed g b → length b.states.items ≡ length b.ids.items
  states_count b formed = ap length formed.states ∙ length-map b.ids.items state_in

  pub split_is : (b b' : Board) (k : ℕ) (w copy : Worker) → MayStep g b (Split k) → w ≡ get_or b.workers.items k w
      → copy.live ≡ true → copy.seen ≡ w.seen → copy.spare ≡ None → b'.ids.items ≡ b.ids.items → b'.states.items ≡ b.states.items
      → b'.workers.items ≡ b.workers.items ++ copy ∷ [] → IsStep g b (Split k) b'
  split_is b b' k w copy may here live seen spare ids states workers =
      let found = live_is b k may.allowed w here in record {
        core = show_same g b.ids.items b'.ids.items (b.workers.items ++ copy ∷ []) b'.workers.items ids workers
            ∙ split_step g b.ids.items b.workers.items k w found.0 copy (live ∙ sym found.1) seen spare;
        formed = formed_with b b' b.ids.items b.states.items ids states may.formed.states may.formed.rows;
      }

  pub join_is : (b b' : Board) (k other : ℕ) (w v w' gone : Worker) (ys : List Seen) → MayStep g b (Join k other)
      → w ≡ get_or b.workers.items k w → v ≡ get_or b.workers.items other v → ys ≡ v.seen → HasLearned w ys w' → gone ≡ said []
      → b'.ids.items ≡ b.ids.items → b'.states.items ≡ b.states.items
      → b'.workers.items ≡ slice_set (slice_set b.workers.items k w') other gone → IsStep g b (Join k other) b'
  join_is b b' k other w v w' gone ys may here there seen learned is ids states workers =
      let found = live_is b k may.allowed.0 w here in
      let found' = live_is b other may.allowed.1 v there in
      let learned' : HasLearned w v.seen w' = subst (λ l. HasLearned w l w') seen learned in record {
        core = show_same g b.ids.items b'.ids.items (slice_set (slice_set b.workers.items k w') other gone) b'.workers.items ids workers
            ∙ join_step g b.ids.items b.workers.items k w found.0 other v found'.0 w' gone learned' is;
        formed = formed_with b b' b.ids.items b.states.items ids states may.formed.states may.formed.rows;
      }

  -- the row of a spare
  pub spare_row : (b : Board) (k : ℕ) (w : Worker) (id : ℕ) → Sound g (core_of g b) → slice_get b.workers.items k ≡ Some w → w.spare ≡ Some id
      → id < length b.ids.items
  spare_row b k w id sound there holds =
      sound.ids.spare_given k id (ap (λ (v : Sight). v.spare) (sight_shown g b.ids.items b.workers.items k w there) ∙ holds)

  pub spare_off : (b : Board) (k : ℕ) (w : Worker) (id : ℕ) → Sound g (core_of g b) → slice_get b.workers.items k ≡ Some w → w.spare ≡ Some id
      → (row : IdRow) → row ≡ get_or b.ids.items id row → (slice_get b.ids.items id ≡ Some row) × (row.published ≡ false)
  spare_off b k w id sound there holds row here =
      let shown_spare : spare_of g (core_of g b) k ≡ Some id = ap (λ (v : Sight). v.spare) (sight_shown g b.ids.items b.workers.items k w there) ∙ holds in
      let row_there : slice_get b.ids.items id ≡ Some row
      = slice_get-get_or b.ids.items id row (spare_row b k w id sound there holds) ∙ ap Some (sym here) in (
        row_there,
        elim (cases_Bool row.published) [
          | inl on ↦
              let none : published_state (slice_get b.ids.items id) ≡ None = sound.ids.spare_unpublished k id shown_spare in
              let some : published_state (slice_get b.ids.items id) ≡ Some (state_in row)
              = ap published_state row_there ∙ ap (λ p. cond p (Some (state_in row)) None) on in
              absurd (let both : None ≡ Some (state_in row) = sym none ∙ some in cc)
          | inr off ↦ off
        ],
      )

  state_of_row : (b : Board) (id : ℕ) (row : IdRow) (state : State) → IsFormed g b → slice_get b.ids.items id ≡ Some row
      → state ≡ get_or b.states.items id state → state ≡ state_in row
  state_of_row b id row state formed there here =
      here ∙ ap (λ l. get_or l id state) formed.states
      ∙ get_or_from_slice_get (map state_in b.ids.items) id (state_in row) state (shown_at b.ids.items id row there)
    where
      shown_at : (ids : List IdRow) (id : ℕ) (row : IdRow) → slice_get ids id ≡ Some row → slice_get (map state_in ids) id ≡ Some (state_in row)
      shown_at [] id row there = absurd cc
      shown_at (r ∷ ids) zero row there = ap Some (ap state_in (same_item r row there))
      shown_at (r ∷ ids) (suc id) row there = shown_at ids id row there

  written_state : (row : IdRow) (place word : ℕ) → state_in (written_row row place word) ≡ slice_set (state_in row) place word
  written_state row place word = map-set (λ (o : Option ℕ). unwrap_or o 0) row.words place (Some word)

  pub write_within : (b : Board) (k place word : ℕ) (row : IdRow) (id : ℕ) → MayStep g b (Write k place word) → id < length b.ids.items
      → row ≡ get_or b.ids.items id row → place < length row.words
  write_within b k place word row id may within here =
      let old = formed_row b.ids.items id row may.formed.rows (slice_get-get_or b.ids.items id row within ∙ ap Some (sym here)) in
      subst (λ n. place < n) (sym old.whole) may.allowed.2

  pub write_room : (b : Board) (k place word id : ℕ) → MayStep g b (Write k place word) → id < length b.ids.items
      → (state : State) → state ≡ get_or b.states.items id state → place < length state
  write_room b k place word id may within state here =
      let there : slice_get b.ids.items id ≡ Some (get_or b.ids.items id (empty_row g)) = slice_get-get_or b.ids.items id (empty_row g) within in
      let row : IdRow = get_or b.ids.items id (empty_row g) in
      let old = formed_row b.ids.items id row may.formed.rows there in
      let same : length state ≡ width g
      = ap length (state_of_row b id row state may.formed there here) ∙ length-map row.words (λ (o : Option ℕ). unwrap_or o 0) ∙ old.whole in
      subst (λ n. place < n) (sym same) may.allowed.2

  pub write_is : (b b' : Board) (k place word id : ℕ) (w : Worker) (row row' : IdRow) (state state' : State) → MayStep g b (Write k place word)
      → w ≡ get_or b.workers.items k w → w.spare ≡ Some id → row ≡ get_or b.ids.items id row → row' ≡ written_row row place word
      → state ≡ get_or b.states.items id state → state' ≡ slice_set state place word
      → b'.ids.items ≡ slice_set b.ids.items id row' → b'.states.items ≡ slice_set b.states.items id state' → b'.workers.items ≡ b.workers.items
      → IsStep g b (Write k place word) b'
  write_is b b' k place word id w row row' state state' may here holds row_here is state_here state_is ids states workers =
      let found = live_is b k may.allowed.0 w here in
      let off = spare_off b k w id may.sound found.0 holds row row_here in
      let old = formed_row b.ids.items id row may.formed.rows off.0 in
      let all_ids : b'.ids.items ≡ slice_set b.ids.items id (written_row row place word) = ids ∙ ap (slice_set b.ids.items id) is in
      record {
        core = show_same g (slice_set b.ids.items id (written_row row place word)) b'.ids.items b.workers.items b'.workers.items all_ids workers
            ∙ write_step g b.ids.items b.workers.items k w found.0 id row off.0 off.1 holds may.sound place word
            (write_within b k place word row id may (spare_row b k w id may.sound found.0 holds) row_here);
        formed = formed_with b b' (slice_set b.ids.items id (written_row row place word)) (slice_set b.states.items id state') all_ids states
            (ap (λ l. slice_set l id state') may.formed.states
            ∙ ap (slice_set (map state_in b.ids.items) id) (state_is ∙ ap (λ s. slice_set s place word) (state_of_row b id row state may.formed off.0 state_here)
            ∙ sym (written_state row place word))
            ∙ sym (map-set state_in b.ids.items id (written_row row place word)))
            (All-set (IsFormedRow g) b.ids.items id (written_row row place word)
            (record { whole = length-set row.words place (Some word) ∙ old.whole; lower = old.lower; upper = old.upper }) may.formed.rows);
      }

  pub publish_is : (b b1 b' : Board) (k id : ℕ) (w v : Worker) (row row' : IdRow) (state : State) (first : ℕ)
      → Teaches b1 k (entry id None None ∷ []) b' → MayStep g b (Publish k) → w ≡ get_or b.workers.items k w → w.spare ≡ Some id → row ≡ get_or b.ids.items id row → state ≡ get_or b.states.items id state
      → first ≡ first_word g state → row' ≡ published_row row first → v ≡ with_spare w None
      → b1.ids.items ≡ slice_set b.ids.items id row' → b1.states.items ≡ b.states.items → b1.workers.items ≡ slice_set b.workers.items k v
      → IsStep g b (Publish k) b'
  publish_is b b1 b' k id w v row row' state first teaches may here holds row_here state_here first_is is v_is ids states workers =
      let found = live_is b k may.allowed.0 w here in
      let off = spare_off b k w id may.sound found.0 holds row row_here in
      let old = formed_row b.ids.items id row may.formed.rows off.0 in
      let now : IdRow = published_row row (first_word g (state_in row)) in
      let first_here : first ≡ first_word g (state_in row) = first_is ∙ ap (first_word g) (state_of_row b id row state may.formed off.0 state_here) in
      let all_ids : b'.ids.items ≡ slice_set b.ids.items id now
      = teaches.ids ∙ ids ∙ ap (slice_set b.ids.items id) (is ∙ ap (published_row row) first_here) in
      let (u, w', there, learned, changed) = teaches.workers in
      let is_spareless : u ≡ with_spare w None
      = same_item u (with_spare w None) (sym there ∙ ap (λ l. slice_get l k) workers ∙ slice_get-set_same b.workers.items k w v found.0 ∙ ap Some v_is) in
      let learned' : HasLearned (with_spare w None) (entry id None None ∷ []) w' = subst (λ x. HasLearned x (entry id None None ∷ []) w') is_spareless learned in
      record {
        core = show_same g (slice_set b.ids.items id now) b'.ids.items (slice_set b.workers.items k w') b'.workers.items all_ids
            (changed ∙ ap (λ l. slice_set l k w') workers ∙ set-set b.workers.items k v w')
            ∙ publish_step g b.ids.items b.workers.items k w found.0 id row off.0 off.1 holds may.sound old.whole (old.lower off.1) w' learned';
        formed = formed_set b b' id row now may.formed off.0 refl
            (record { whole = old.whole; lower = λ never. absurd cc; upper = λ never. absurd cc }) all_ids (teaches.states ∙ states);
      }

  pub claim_is : (b b' : Board) (k : ℕ) (w w' : Worker) (row : IdRow) (state : State) → MayStep g b (Claim k) → w ≡ get_or b.workers.items k w
      → w' ≡ with_spare w (Some (length b.ids.items)) → row ≡ empty_row g → state ≡ replicate (width g) 0
      → b'.ids.items ≡ b.ids.items ++ row ∷ [] → b'.states.items ≡ b.states.items ++ state ∷ [] → b'.workers.items ≡ slice_set b.workers.items k w'
      → IsStep g b (Claim k) b'
  claim_is b b' k w w' row state may here is row_is state_is ids states workers =
      let found = live_is b k may.allowed.0 w here in
      let all_ids : b'.ids.items ≡ b.ids.items ++ empty_row g ∷ [] = ids ∙ ap (λ r. b.ids.items ++ r ∷ []) row_is in
      record {
        core = show_same g (b.ids.items ++ empty_row g ∷ []) b'.ids.items (slice_set b.workers.items k w') b'.workers.items all_ids workers
            ∙ claim_step g b.ids.items b.workers.items k w found.0 w' is;
        formed = formed_with b b' (b.ids.items ++ empty_row g ∷ []) (b.states.items ++ state ∷ []) all_ids states
            (ap (λ l. l ++ state ∷ []) may.formed.states ∙ ap (λ s. map state_in b.ids.items ++ s ∷ []) (state_is ∙ sym (zeros (width g)))
            ∙ sym (map-append state_in b.ids.items (empty_row g ∷ [])))
            (All-append (IsFormedRow g) b.ids.items (empty_row g ∷ []) may.formed.rows
            (All-cons (IsFormedRow g) (empty_row g) [] (record { whole = length-replicate (width g) None; lower = λ _. refl; upper = λ _. refl }) (All-nil (IsFormedRow g))));
      }
    where
      zeros : (n : ℕ) → map (λ (o : Option ℕ). unwrap_or o 0) (replicate n None) ≡ replicate n 0
      zeros zero = refl
      zeros (suc n) = ap (λ l. 0 ∷ l) (zeros n)
