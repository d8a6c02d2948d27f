-- What a worker has seen never widens while it works.
use Rattle.std.proofs.Common.{◌≡◌, ℕ, ◌<◌, true, List, [], ◌∷◌, length, None, Some, sym, ap, ◌∙◌, arith}
use Rattle.std.specs.Prelude.{get_or, slice_set}
use Rattle.std.proofs.lemmas.List.{length-set, length-append, get_or_append_left}
use Rattle.ground_model.specs.Ground.{Ground}
use Rattle.bound_core.specs.declared.event.Event.{Event}
use Rattle.bound_core.specs.declared.event.Event.TheVariants.{SeeLower, SeeUpper, Raise, Sink, Claim, Write, Publish, Look, Split, Join}
use Rattle.bound_core.specs.Core.{Sight, Core, ended, sight_at, IsLive}
use Rattle.bound_core.specs.Events.{joined, without_spare, after, after_each}
use Rattle.bound_core.specs.Sound.{IsNarrower}
use Rattle.bound_core.specs.Laws as laws
use Rattle.bound_core.proofs.Numbers.{raised_more, sunk_less}
use Rattle.bound_core.proofs.Sights.{set_relates, push_relates, live_is_there}

same_sight : (v : Sight) → IsNarrower v v
same_sight v = record { lower = λ s. omega arith; upper = λ s. omega arith }

narrower_twice : (u v w : Sight) → IsNarrower u v → IsNarrower v w → IsNarrower u w
narrower_twice u v w first second = record {
  lower = λ s. omega (arith, first.lower s, second.lower s);
  upper = λ s. omega (arith, first.upper s, second.upper s);
}

-- narrower while it works
abbrev Narrows : Sight → Sight → Type 0
Narrows v w = v.live ≡ true → w.live ≡ true → IsNarrower v w

-- alive only if it was
abbrev Outlives : Sight → Sight → Type 0
Outlives v w = w.live ≡ true → v.live ≡ true

module _ (g : Ground) where
  changed : (c : Core) (k : ℕ) (w : Sight) → IsNarrower (sight_at g c k) w → (j : ℕ)
      → Narrows (sight_at g c j) (get_or (slice_set c.workers k w) j (ended g))
  changed c k w narrower = set_relates Narrows (λ v _ _. same_sight v) c.workers k w (ended g) (λ _ _. narrower)

  pub narrows : laws.NothingSeenWidens g
  narrows c (SeeLower k id) j = changed c k _ (record { lower = raised_more _ _ _; upper = λ s. omega arith }) j
  narrows c (SeeUpper k id) j = changed c k _ (record { lower = λ s. omega arith; upper = sunk_less _ _ _ }) j
  narrows c (Raise k id value) j = changed c k _ (record { lower = raised_more _ _ _; upper = λ s. omega arith }) j
  narrows c (Sink k id word) j = changed c k _ (record { lower = λ s. omega arith; upper = sunk_less _ _ _ }) j
  narrows c (Claim k) j = changed c k _ (record { lower = λ s. omega arith; upper = λ s. omega arith }) j
  narrows c (Write k place word) j = changed c k _ (record { lower = λ s. omega arith; upper = λ s. omega arith }) j
  narrows c (Publish k) j = changed c k _ (record { lower = λ s. omega arith; upper = λ s. omega arith }) j
  narrows c (Look k None) j = λ _ _. same_sight (sight_at g c j)
  narrows c (Look k (Some id)) j = changed c k _ (record { lower = λ s. omega arith; upper = λ s. omega arith }) j
  narrows c (Split k) j = push_relates Narrows (λ v _ _. same_sight v) c.workers (without_spare (sight_at g c k)) (ended g) (λ off _. absurd cc) j
  narrows c (Join k other) j = λ before later.
      let w : Sight = joined (sight_at g c k) (sight_at g c other) in
      let ws : List Sight = slice_set c.workers k w in
      let first = changed c k w (record { lower = λ s. omega arith; upper = λ s. omega arith }) j in
      let second : Narrows (get_or ws j (ended g)) (get_or (slice_set ws other (ended g)) j (ended g))
      = set_relates Narrows (λ v _ _. same_sight v) ws other (ended g) (ended g) (λ _ off. absurd cc) j in
      let between : (get_or ws j (ended g)).live ≡ true
      = set_relates Outlives (λ v on. on) ws other (ended g) (ended g) (λ off. absurd cc) j later in
      narrower_twice (sight_at g c j) (get_or ws j (ended g)) (get_or (slice_set ws other (ended g)) j (ended g))
      (first before between) (second between later)

  abbrev StaysEnded : Core → Core → ℕ → Type 0
  StaysEnded c c' j = (j < length c'.workers) × (IsLive g c' j → IsLive g c j)

  set_stays : (c : Core) (k : ℕ) (w : Sight) → Outlives (sight_at g c k) w → (j : ℕ) → j < length c.workers
      → (j < length (slice_set c.workers k w)) × Outlives (sight_at g c j) (get_or (slice_set c.workers k w) j (ended g))
  set_stays c k w outlives j there = (
    omega (arith, there, length-set c.workers k w),
    set_relates Outlives (λ v on. on) c.workers k w (ended g) outlives j,
  )

  stays_ended : (c : Core) (e : Event) (j : ℕ) → j < length c.workers → StaysEnded c (after g c e) j
  stays_ended c (SeeLower k id) j there = set_stays c k _ (λ on. on) j there
  stays_ended c (SeeUpper k id) j there = set_stays c k _ (λ on. on) j there
  stays_ended c (Raise k id value) j there = set_stays c k _ (λ on. on) j there
  stays_ended c (Sink k id word) j there = set_stays c k _ (λ on. on) j there
  stays_ended c (Claim k) j there = set_stays c k _ (λ on. on) j there
  stays_ended c (Write k place word) j there = set_stays c k _ (λ on. on) j there
  stays_ended c (Publish k) j there = set_stays c k _ (λ on. on) j there
  stays_ended c (Look k None) j there = (there, λ on. on)
  stays_ended c (Look k (Some id)) j there = set_stays c k _ (λ on. on) j there
  stays_ended c (Split k) j there =
      let w : Sight = without_spare (sight_at g c k) in (
        omega (arith, there, length-append c.workers (w ∷ [])),
        λ on. ap (λ (v : Sight). v.live) (sym (get_or_append_left c.workers (w ∷ []) (ended g) j there)) ∙ on,
      )
  stays_ended c (Join k other) j there =
      let w : Sight = joined (sight_at g c k) (sight_at g c other) in
      let ws : List Sight = slice_set c.workers k w in
      let first = set_stays c k w (λ on. on) j there in (
        omega (arith, first.0, length-set ws other (ended g)),
        λ on. first.1 (set_relates Outlives (λ v alive. alive) ws other (ended g) (ended g) (λ off. absurd cc) j on),
      )

  still_live : (c : Core) (events : List Event) (j : ℕ) → j < length c.workers → IsLive g (after_each g c events) j → IsLive g c j
  still_live c [] j there on = on
  still_live c (e ∷ events) j there on =
      let stays = stays_ended c e j there in
      stays.1 (still_live (after g c e) events j stays.0 on)

  pub narrows_later : laws.NothingSeenWidensLater g
  narrows_later c [] j before later = same_sight (sight_at g c j)
  narrows_later c (e ∷ events) j before later =
      let between : IsLive g (after g c e) j
      = still_live (after g c e) events j (stays_ended c e j (live_is_there g c j before)).0 later in
      narrower_twice (sight_at g c j) (sight_at g (after g c e) j) (sight_at g (after_each g (after g c e) events) j)
      (narrows c e j before between) (narrows_later (after g c e) events j between later)
