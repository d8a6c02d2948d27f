-- The first events of a run, one more at a time.
use Rattle.std.proofs.Common.{◌≡◌, ℕ, suc, zero, ◌+◌, ◌<◌, ◌≤◌, true, false, List, [], ◌∷◌, ◌++◌, length, take, Some, refl, sym, ap, subst, ◌∙◌, arith}
use Rattle.std.specs.Prelude.{get_or}
use Rattle.std.proofs.lemmas.List.{take_more}
use Rattle.std.proofs.lemmas.Option.{slice_get-get_or}
use Rattle.ground_model.specs.Ground.{Ground}
use Rattle.ground_model.specs.Invariant.{IsGroundProblem}
use Rattle.bound_core.specs.declared.event.Event.{Event}
use Rattle.bound_core.specs.Core.{Core, Sight}
use Rattle.bound_core.specs.Events.{Allowed, after, after_each, AreAllowed, IsFirstRefused}
use Rattle.bound_core.specs.Sound.{Sound}
use Rattle.bound_core.specs.Shown.{seen_lower_in}
use Rattle.bound_core.proofs.Keeping.{keep_sound}
use Rattle.bound_core.proofs.Worth.{sound_covers}
use Rattle.core_run.specs.declared.board.Board.{Board}
use Rattle.core_run.specs.Boards.{core_of, IsFormed, AreBounded}
use Rattle.core_run.specs.Decided.{allows}
use Rattle.core_run.specs.Stepped.{MayStep}
use Rattle.core_run.specs.Run.{begun, StaysSound}
use Rattle.core_run.proofs.Allowance.{allowed_by_test, test_by_allowed}
use Rattle.core_run.proofs.Simulation.{sight_shown}
use Rattle.core_run.proofs.Starts.{begun_is_sound}

module _ (g : Ground) where
  after_push : (c : Core) (events : List Event) (e : Event) → after_each g c (events ++ e ∷ []) ≡ after g (after_each g c events) e
  after_push c [] e = refl
  after_push c (x ∷ events) e = after_push (after g c x) events e

  allowed_push : (c : Core) (events : List Event) (e : Event) → AreAllowed g c events → Allowed g (after_each g c events) e
      → AreAllowed g c (events ++ e ∷ [])
  allowed_push c [] e allowed last = (last, tt)
  allowed_push c (x ∷ events) e allowed last = (allowed.0, allowed_push (after g c x) events e allowed.1 last)

  first_more : (events : List Event) (i : ℕ) (e : Event) → i < length events → e ≡ get_or events i e → take (i + 1) events ≡ take i events ++ e ∷ []
  first_more events i e within here = take_more events i e within ∙ ap (λ x. take i events ++ x ∷ []) (sym here)

  pub allowed_more : (c : Core) (events : List Event) (i : ℕ) (e : Event) → i < length events → e ≡ get_or events i e
      → AreAllowed g c (take i events) → Allowed g (after_each g c (take i events)) e → AreAllowed g c (take (i + 1) events)
  allowed_more c events i e within here allowed last =
      subst (AreAllowed g c) (sym (first_more events i e within here)) (allowed_push c (take i events) e allowed last)

  pub after_more : (c : Core) (events : List Event) (i : ℕ) (e : Event) → i < length events → e ≡ get_or events i e
      → after_each g c (take (i + 1) events) ≡ after g (after_each g c (take i events)) e
  after_more c events i e within here = ap (after_each g c) (first_more events i e within here) ∙ after_push c (take i events) e

  allowed_take : (c : Core) (events : List Event) (n : ℕ) → AreAllowed g c events → AreAllowed g c (take n events)
  allowed_take c events zero allowed = tt
  allowed_take c [] (suc n) allowed = tt
  allowed_take c (x ∷ events) (suc n) allowed = (allowed.0, allowed_take (after g c x) events n allowed.1)

  pub stays_sound : IsGroundProblem g → (events : List Event) → AreAllowed g (begun g) events → StaysSound g events
  stays_sound is events allowed n = keep_sound g (begun g) (take n events) (begun_is_sound g is) (allowed_take (begun g) events n allowed)

  -- the core that the board shows on the way
  pub sound_now : IsGroundProblem g → (b : Board) (events : List Event) → AreAllowed g (begun g) events → core_of g b ≡ after_each g (begun g) events
      → Sound g (core_of g b)
  sound_now is b events allowed core = subst (Sound g) (sym core) (keep_sound g (begun g) events (begun_is_sound g is) allowed)

  pub bounded_now : IsGroundProblem g → (b : Board) → Sound g (core_of g b) → AreBounded b
  bounded_now is b sound k w s there =
      let seen : seen_lower_in b.ids.items w.seen s ≤ (core_of g b).lower s
      = subst (λ (v : Sight). v.lower s ≤ (core_of g b).lower s) (sight_shown g b.ids.items b.workers.items k w there) ((sound.seen k).lower s) in
      let covers = sound_covers g is (core_of g b) sound s in
      omega (arith, seen, covers.1, covers.2, is.penalty_within)

  pub refused_now : IsGroundProblem g → (b : Board) (events : List Event) (i : ℕ) (e : Event) → IsFormed g b → AreAllowed g (begun g) (take i events)
      → core_of g b ≡ after_each g (begun g) (take i events) → i < length events → e ≡ get_or events i e → allows g b e ≡ false
      → IsFirstRefused g (begun g) events i
  refused_now is b events i e formed allowed core within here off = record {
    before = allowed;
    refused = (
      e,
      slice_get-get_or events i e within ∙ ap Some (sym here),
      λ may.
          let on : allows g b e ≡ true = test_by_allowed g is b (sound_now is b (take i events) allowed core) formed e (subst (λ c. Allowed g c e) (sym core) may) in
          absurd (let both : true ≡ false = sym on ∙ off in cc),
    );
  }

  pub may_now : IsGroundProblem g → (b : Board) (events : List Event) (i : ℕ) (e : Event) → IsFormed g b → AreAllowed g (begun g) (take i events)
      → core_of g b ≡ after_each g (begun g) (take i events) → allows g b e ≡ true → MayStep g b e
  may_now is b events i e formed allowed core on =
      let sound = sound_now is b (take i events) allowed core in record {
        sound = sound;
        formed = formed;
        allowed = allowed_by_test g is b sound formed e on;
      }
