-- A board after an event shows the core after it.
use Rattle.std.proofs.Common.{◌≡◌, ◌⊎◌, ℕ, suc, zero, ◌≤◌, min, max, cond, true, false, List, [], ◌∷◌, ◌++◌, length, map, None, Some, refl, sym, ap, inl, inr, ◌∙◌, arith}
use Rattle.std.specs.Prelude.{IsSome, is_some, get_or, slice_set}
use Rattle.std.specs.Option.{unwrap_or}
use Rattle.std.specs.List.{slice_get}
use Rattle.std.specs.Cmp.Lexicographic.{bytes_decides}
use Rattle.std.proofs.lemmas.Bool.{cases_Bool}
use Rattle.std.proofs.lemmas.List.{map-set, map-append, length-set, length-append}
use Rattle.ground_model.specs.Packed.{same_state}
use Rattle.ground_model.specs.Ground.{Ground}
use Rattle.bound_core.specs.declared.id_row.IdRow.{IdRow}
use Rattle.bound_core.specs.declared.worker.Worker.{Worker}
use Rattle.bound_core.specs.declared.event.Event.TheVariants.{SeeLower, SeeUpper, Raise, Sink, Claim, Look, Split, Join}
use Rattle.bound_core.specs.Numbers.{first_word, raised_at}
use Rattle.bound_core.specs.Core.{Sight, Core, ended, sight_at, state_at, IsLive}
use Rattle.bound_core.specs.Events.{sees_lower, sees_upper, takes_spare, learns, without_spare, joined, after}
use Rattle.bound_core.specs.Sound.{Sound}
use Rattle.bound_core.specs.Shown.{state_in, published_state, lower_in, upper_in, seen_upper_in, word_in, sight_in, shown}
use Rattle.bound_core.proofs.Rows.{rows_show_their_numbers}
use Rattle.core_run.specs.Merged.{knows_in, HasLearned}
use Rattle.core_run.specs.Stepped.{raised_row, sunk_row, empty_row, with_spare}
use Rattle.core_run.proofs.Entries.{upper-le_first}
use Rattle.core_run.proofs.Shown.{SameKeys, sight_equal, core_equal, sight_same, sights_same}
use Rattle.core_run.proofs.Rows.{raised_lower, sunk_upper, lower_kept, upper_kept, set_keys, push_keys, push_lower, push_upper, new_word}
use Rattle.core_run.proofs.Hearing.{said, entry, workers_taught, hears_lower, hears_upper, hears_id}

abbrev pub show : Ground → List IdRow → List Worker → Core
show g ids ws = shown g (record { ids = ids; workers = ws })

pub show_same : (g : Ground) (ids ids' : List IdRow) (ws ws' : List Worker) → ids' ≡ ids → ws' ≡ ws → show g ids' ws' ≡ show g ids ws
show_same g ids ids' ws ws' first second = λ i. show g (first i) (second i)

-- ---- what an allowed event finds

get_or-shown : {X Y : Type 0} (f : X → Y) (xs : List X) (k : ℕ) (x : X) (d : Y) → slice_get xs k ≡ Some x → get_or (map f xs) k d ≡ f x
get_or-shown f [] k x d there = absurd cc
get_or-shown f (y ∷ xs) zero x d there = ap f (let here : y ≡ x = cc in here)
get_or-shown f (y ∷ xs) (suc k) x d there = get_or-shown f xs k x d there

get_or-gone : {X Y : Type 0} (f : X → Y) (xs : List X) (k : ℕ) (d : Y) → slice_get xs k ≡ None → get_or (map f xs) k d ≡ d
get_or-gone f [] k d none = refl
get_or-gone f (y ∷ xs) zero d none = absurd cc
get_or-gone f (y ∷ xs) (suc k) d none = get_or-gone f xs k d none

pub sight_shown : (g : Ground) (ids : List IdRow) (ws : List Worker) (k : ℕ) (w : Worker) → slice_get ws k ≡ Some w
    → sight_at g (show g ids ws) k ≡ sight_in ids g w
sight_shown g ids ws k w there = get_or-shown (sight_in ids g) ws k w (ended g) there

pub Found : {X : Type 0} → List X → ℕ → Type 0
Found {X} xs k = (x : X) × (slice_get xs k ≡ Some x)

pub find : {X : Type 0} (xs : List X) (k : ℕ) → (slice_get xs k ≡ None) ⊎ ((x : X) × (slice_get xs k ≡ Some x))
find [] k = inl refl
find (x ∷ xs) zero = inr (x, refl)
find (x ∷ xs) (suc k) = find xs k

pub live_worker : (g : Ground) (ids : List IdRow) (ws : List Worker) (k : ℕ) → IsLive g (show g ids ws) k
    → (w : Worker) × (slice_get ws k ≡ Some w) × (w.live ≡ true)
live_worker g ids ws k live = elim (find ws k) [
  | inl none ↦
      let gone : false ≡ true = ap (λ (v : Sight). v.live) (sym (get_or-gone (sight_in ids g) ws k (ended g) none)) ∙ live in absurd cc
  | inr found ↦ (found.0, found.1, ap (λ (v : Sight). v.live) (sym (sight_shown g ids ws k found.0 found.1)) ∙ live)
]

pub published_row_there : (ids : List IdRow) (id : ℕ) → IsSome (published_state (slice_get ids id))
    → (row : IdRow) × (slice_get ids id ≡ Some row) × (row.published ≡ true)
published_row_there ids id published = elim (find ids id) [
  | inl none ↦ let gone : false ≡ true = sym (ap (λ o. is_some (published_state o)) none) ∙ published in absurd cc
  | inr found ↦ (
    found.0,
    found.1,
    elim (cases_Bool found.0.published) [
      | inl on ↦ on
      | inr off ↦
          let gone : false ≡ true = sym (ap (λ b. is_some (cond b (Some (state_in found.0)) None)) off)
          ∙ sym (ap (λ o. is_some (published_state o)) found.1) ∙ published in absurd cc
    ],
  )
]

pub state_there : (ids : List IdRow) (id : ℕ) (row : IdRow) → slice_get ids id ≡ Some row → row.published ≡ true
    → published_state (slice_get ids id) ≡ Some (state_in row)
state_there ids id row there on = ap published_state there ∙ ap (λ b. cond b (Some (state_in row)) None) on

same_knows : (g : Ground) (ids : List IdRow) (ws : List Worker) (k id : ℕ) (w : Worker) → slice_get ws k ≡ Some w
    → (sight_at g (show g ids ws) k).knows id ≡ true → knows_in w.seen id ≡ true
same_knows g ids ws k id w there on = ap (λ (v : Sight). v.knows id) (sym (sight_shown g ids ws k w there)) ∙ on

module _ (g : Ground) (ids : List IdRow) (ws : List Worker) (k : ℕ) (w : Worker) (there : slice_get ws k ≡ Some w) where
  mine : sight_at g (show g ids ws) k ≡ sight_in ids g w
  mine = sight_shown g ids ws k w there

  -- the worker's sight changes by f
  with_mine : (f : Sight → Sight) (v : Sight) → v ≡ f (sight_in ids g w)
      → slice_set (map (sight_in ids g) ws) k v ≡ slice_set (map (sight_in ids g) ws) k (f (sight_at g (show g ids ws) k))
  with_mine f v same = ap (slice_set (map (sight_in ids g) ws) k) (same ∙ ap f (sym mine))

  module _ (id : ℕ) (row : IdRow) (row_there : slice_get ids id ≡ Some row) (on : row.published ≡ true)
      (sound : Sound g (show g ids ws)) (knows : (sight_at g (show g ids ws) k).knows id ≡ true) where
    known : knows_in w.seen id ≡ true
    known = same_knows g ids ws k id w there knows

    its_state : state_at (show g ids ws) id ≡ state_in row
    its_state = ap (λ o. unwrap_or o []) (state_there ids id row row_there on)

    numbers_of_row : (lower_in ids (state_in row) ≡ row.lower) × (upper_in (first_word g (state_in row)) ids (state_in row) ≡ min (first_word g (state_in row)) row.upper)
    numbers_of_row = rows_show_their_numbers g (record { ids = ids; workers = ws }) sound.states id row row_there (state_there ids id row row_there on)

    its_lower : (show g ids ws).lower (state_at (show g ids ws) id) ≡ row.lower
    its_lower = ap (lower_in ids) its_state ∙ numbers_of_row.0

    pub sees_lower_step : (w' : Worker) → HasLearned w (entry id (Some row.lower) None ∷ []) w'
        → show g ids (slice_set ws k w') ≡ after g (show g ids ws) (SeeLower k id)
    sees_lower_step w' learned = core_equal (show g ids (slice_set ws k w')) (after g (show g ids ws) (SeeLower k id)) refl (λ _. refl) (λ _. refl) (λ _. refl)
        (workers_taught g ids ids ws k w w' (entry id (Some row.lower) None ∷ []) (record { state = λ _. refl; word = λ _ _. refl }) learned
        ∙ with_mine (sees_lower (state_at (show g ids ws) id) ((show g ids ws).lower (state_at (show g ids ws) id)))
        (joined (sight_in ids g w) (sight_in ids g (said (entry id (Some row.lower) None ∷ []))))
        (hears_lower g ids w id row row_there on row.lower known
        ∙ ap (λ s. sees_lower s row.lower (sight_in ids g w)) (sym its_state)
        ∙ ap (λ n. sees_lower (state_at (show g ids ws) id) n (sight_in ids g w)) (sym its_lower)))

    pub raise_step : (value : ℕ) (w' : Worker) → HasLearned w (entry id (Some (max row.lower value)) None ∷ []) w'
        → show g (slice_set ids id (raised_row row value)) (slice_set ws k w') ≡ after g (show g ids ws) (Raise k id value)
    raise_step value w' learned = core_equal (show g (slice_set ids id (raised_row row value)) (slice_set ws k w')) (after g (show g ids ws) (Raise k id value))
        (length-set ids id (raised_row row value)) keys.state
        (λ t. raised_lower ids id row value t row_there on ∙ ap (λ s. raised_at s value (lower_in ids) t) (sym its_state))
        (λ t. upper_kept (first_word g t) ids id row (raised_row row value) t row_there (λ m _. refl))
        (workers_taught g ids (slice_set ids id (raised_row row value)) ws k w w' (entry id (Some (max row.lower value)) None ∷ []) keys learned
        ∙ with_mine (sees_lower (state_at (show g ids ws) id) (max ((show g ids ws).lower (state_at (show g ids ws) id)) value))
        (joined (sight_in ids g w) (sight_in ids g (said (entry id (Some (max row.lower value)) None ∷ []))))
        (hears_lower g ids w id row row_there on (max row.lower value) known
        ∙ ap (λ s. sees_lower s (max row.lower value) (sight_in ids g w)) (sym its_state)
        ∙ ap (λ n. sees_lower (state_at (show g ids ws) id) (max n value) (sight_in ids g w)) (sym its_lower)))
      where
        keys : SameKeys ids (slice_set ids id (raised_row row value))
        keys = set_keys ids id row (raised_row row value) row_there refl refl

    -- a word that is no more than the first one is not widened by it
    upper_seen : (n n' : ℕ) → n' ≡ min (first_word g (state_in row)) n
        → sees_upper (state_in row) n (sight_in ids g w) ≡ sees_upper (state_in row) n' (sight_in ids g w)
    upper_seen n n' same = sight_equal (sees_upper (state_in row) n (sight_in ids g w)) (sees_upper (state_in row) n' (sight_in ids g w)) refl (λ _. refl) (λ _. refl)
        (λ t. elim (cases_Bool (same_state t (state_in row))) [
          | inl here ↦
              let s : ℕ = seen_upper_in ids (first_word g t) w.seen t in
              let within : s ≤ first_word g t = upper-le_first ids (first_word g t) w.seen t in
              let at : first_word g t ≡ first_word g (state_in row) = ap (first_word g) ((bytes_decides t (state_in row)).0 here) in
              let both : min s n ≡ min s n' = omega arith in
              ap (λ b. cond b (min s n) s) here ∙ both ∙ sym (ap (λ b. cond b (min s n') s) here)
          | inr off ↦
              let s : ℕ = seen_upper_in ids (first_word g t) w.seen t in
              ap (λ b. cond b (min s n) s) off ∙ sym (ap (λ b. cond b (min s n') s) off)
        ]) refl (λ _. refl)

    its_upper : (show g ids ws).upper (state_at (show g ids ws) id) ≡ min (first_word g (state_in row)) row.upper
    its_upper = ap (λ s. upper_in (first_word g s) ids s) its_state ∙ numbers_of_row.1

    pub sees_upper_step : (w' : Worker) → HasLearned w (entry id None (Some row.upper) ∷ []) w'
        → show g ids (slice_set ws k w') ≡ after g (show g ids ws) (SeeUpper k id)
    sees_upper_step w' learned = core_equal (show g ids (slice_set ws k w')) (after g (show g ids ws) (SeeUpper k id)) refl (λ _. refl) (λ _. refl) (λ _. refl)
        (workers_taught g ids ids ws k w w' (entry id None (Some row.upper) ∷ []) (record { state = λ _. refl; word = λ _ _. refl }) learned
        ∙ with_mine (sees_upper (state_at (show g ids ws) id) ((show g ids ws).upper (state_at (show g ids ws) id)))
        (joined (sight_in ids g w) (sight_in ids g (said (entry id None (Some row.upper) ∷ []))))
        (hears_upper g ids w id row row_there on row.upper known
        ∙ upper_seen row.upper ((show g ids ws).upper (state_at (show g ids ws) id)) its_upper
        ∙ ap (λ s. sees_upper s ((show g ids ws).upper (state_at (show g ids ws) id)) (sight_in ids g w)) (sym its_state)))

    pub sink_step : (word : ℕ) (w' : Worker) → HasLearned w (entry id None (Some (min row.upper word)) ∷ []) w'
        → show g (slice_set ids id (sunk_row row word)) (slice_set ws k w') ≡ after g (show g ids ws) (Sink k id word)
    sink_step word w' learned = core_equal (show g (slice_set ids id (sunk_row row word)) (slice_set ws k w')) (after g (show g ids ws) (Sink k id word))
        (length-set ids id (sunk_row row word)) keys.state
        (λ t. lower_kept ids id row (sunk_row row word) t row_there (λ m. refl))
        (λ t. sunk_upper (first_word g t) ids id row word t row_there on
        ∙ ap (λ s. cond (same_state t s) (min (upper_in (first_word g t) ids t) word) (upper_in (first_word g t) ids t)) (sym its_state))
        (workers_taught g ids (slice_set ids id (sunk_row row word)) ws k w w' (entry id None (Some (min row.upper word)) ∷ []) keys learned
        ∙ with_mine (sees_upper (state_at (show g ids ws) id) (min ((show g ids ws).upper (state_at (show g ids ws) id)) word))
        (joined (sight_in ids g w) (sight_in ids g (said (entry id None (Some (min row.upper word)) ∷ []))))
        (hears_upper g ids w id row row_there on (min row.upper word) known
        ∙ upper_seen (min row.upper word) (min ((show g ids ws).upper (state_at (show g ids ws) id)) word)
        (let e : min (min (first_word g (state_in row)) row.upper) word ≡ min (first_word g (state_in row)) (min row.upper word) = omega arith in
        ap (λ n. min n word) its_upper ∙ e)
        ∙ ap (λ s. sees_upper s (min ((show g ids ws).upper (state_at (show g ids ws) id)) word) (sight_in ids g w)) (sym its_state)))
      where
        keys : SameKeys ids (slice_set ids id (sunk_row row word))
        keys = set_keys ids id row (sunk_row row word) row_there refl refl

  pub look_step : (id : ℕ) (w' : Worker) → HasLearned w (entry id None None ∷ []) w'
      → show g ids (slice_set ws k w') ≡ after g (show g ids ws) (Look k (Some id))
  look_step id w' learned = core_equal (show g ids (slice_set ws k w')) (after g (show g ids ws) (Look k (Some id))) refl (λ _. refl) (λ _. refl) (λ _. refl)
      (workers_taught g ids ids ws k w w' (entry id None None ∷ []) (record { state = λ _. refl; word = λ _ _. refl }) learned
      ∙ with_mine (learns id) (joined (sight_in ids g w) (sight_in ids g (said (entry id None None ∷ [])))) (hears_id g ids w id))

  pub split_step : (copy : Worker) → copy.live ≡ w.live → copy.seen ≡ w.seen → copy.spare ≡ None
      → show g ids (ws ++ copy ∷ []) ≡ after g (show g ids ws) (Split k)
  split_step copy live seen spare = core_equal (show g ids (ws ++ copy ∷ [])) (after g (show g ids ws) (Split k)) refl (λ _. refl) (λ _. refl) (λ _. refl)
      (map-append (sight_in ids g) ws (copy ∷ [])
      ∙ ap (λ v. map (sight_in ids g) ws ++ v ∷ [])
      (sight_equal (sight_in ids g copy) (without_spare (sight_in ids g w)) live
      (λ id. ap (λ xs. knows_in xs id) seen)
      (λ t. ap (λ xs. (sight_in ids g (said xs)).lower t) seen)
      (λ t. ap (λ xs. (sight_in ids g (said xs)).upper t) seen)
      spare (λ place. ap (λ s. word_in ids s place) spare)
      ∙ ap without_spare (sym mine)))

  pub join_step : (other : ℕ) (v : Worker) → slice_get ws other ≡ Some v → (w' gone : Worker) → HasLearned w v.seen w'
      → gone ≡ said [] → show g ids (slice_set (slice_set ws k w') other gone) ≡ after g (show g ids ws) (Join k other)
  join_step other v other_there w' gone learned is_gone =
      core_equal (show g ids (slice_set (slice_set ws k w') other gone)) (after g (show g ids ws) (Join k other)) refl (λ _. refl) (λ _. refl) (λ _. refl)
      (map-set (sight_in ids g) (slice_set ws k w') other gone
      ∙ ap (λ u. slice_set (map (sight_in ids g) (slice_set ws k w')) other (sight_in ids g u)) is_gone
      ∙ ap (slice_set (map (sight_in ids g) (slice_set ws k w')) other)
      (sight_equal (sight_in ids g (said [])) (ended g) refl (λ _. refl) (λ _. refl) (λ _. refl) refl (λ _. refl))
      ∙ ap (λ l. slice_set l other (ended g))
      (workers_taught g ids ids ws k w w' v.seen (record { state = λ _. refl; word = λ _ _. refl }) learned
      ∙ with_mine (λ s. joined s (sight_at g (show g ids ws) other)) (joined (sight_in ids g w) (sight_in ids g (said v.seen)))
      (sight_equal (joined (sight_in ids g w) (sight_in ids g (said v.seen))) (joined (sight_in ids g w) (sight_in ids g v)) refl (λ _. refl) (λ _. refl) (λ _. refl) refl (λ _. refl)
      ∙ ap (joined (sight_in ids g w)) (sym (sight_shown g ids ws other v other_there)))))

  pub claim_step : (w' : Worker) → w' ≡ with_spare w (Some (length ids))
      → show g (ids ++ empty_row g ∷ []) (slice_set ws k w') ≡ after g (show g ids ws) (Claim k)
  claim_step w' is = core_equal (show g (ids ++ empty_row g ∷ []) (slice_set ws k w')) (after g (show g ids ws) (Claim k))
      (length-append ids (empty_row g ∷ [])) (push_keys g ids).state (push_lower g ids) (λ t. push_upper g (first_word g t) ids t)
      (map-set (sight_in (ids ++ empty_row g ∷ []) g) ws k w'
      ∙ ap (λ l. slice_set l k (sight_in (ids ++ empty_row g ∷ []) g w')) (sights_same g ids (ids ++ empty_row g ∷ []) ws (push_keys g ids))
      ∙ with_mine (takes_spare (length ids)) (sight_in (ids ++ empty_row g ∷ []) g w')
      (ap (sight_in (ids ++ empty_row g ∷ []) g) is
      ∙ sight_equal (sight_in (ids ++ empty_row g ∷ []) g (with_spare w (Some (length ids)))) (takes_spare (length ids) (sight_in ids g w)) refl (λ _. refl)
      (λ t. ap (λ (v : Sight). v.lower t) (same_but_spare (ids ++ empty_row g ∷ []) (push_keys g ids)))
      (λ t. ap (λ (v : Sight). v.upper t) (same_but_spare (ids ++ empty_row g ∷ []) (push_keys g ids)))
      refl (new_word g ids)))
    where
      same_but_spare : (ids' : List IdRow) → SameKeys ids ids' → sight_in ids' g w ≡ sight_in ids g w
      same_but_spare ids' keys = sight_same g ids ids' w (λ id _. keys.state id) (λ id place _. keys.word id place)
