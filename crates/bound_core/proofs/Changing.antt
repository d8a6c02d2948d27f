-- Events that see, raise, sink, write or look keep a core sound.
use Rattle.std.proofs.Common.{◌≡◌, ◌≢◌, ◌⊎◌, ℕ, ◌≤◌, min, max, cond, Bool, true, false, ◌||◌, List, None, Some, refl, sym, ap, subst, inl, inr, ◌∙◌, arith}
use Rattle.std.specs.Prelude.{Option, IsSome, is_some, get_or, slice_set, nat_eq}
use Rattle.std.specs.Option.{unwrap_or}
use Rattle.std.proofs.lemmas.Bool.{eq-eqb, eqb-true, ne_eqb}
use Rattle.ground_model.specs.Packed.{State}
use Rattle.ground_model.specs.Ground.{Ground}
use Rattle.bound_core.specs.declared.event.Event.TheVariants.{SeeLower, SeeUpper, Raise, Sink, Write, Look}
use Rattle.bound_core.specs.Numbers.{raised_at, sunk_at}
use Rattle.bound_core.specs.Core.{Sight, Core, ended, sight_at, state_at, IsPublished}
use Rattle.bound_core.specs.Events.{sees_lower, sees_upper, writes_word, learns, Allowed, after}
use Rattle.bound_core.specs.Sound.{spare_of, IdsAreHeld, LowerIsSound, UpperIsSound, IsSeenBy, Sound}
use Rattle.bound_core.proofs.Numbers.{raised_more, sunk_less, raised_here, sunk_here, raised_within, sunk_within, lower_raised, upper_sunk}
use Rattle.bound_core.proofs.Sights.{set_each, set_relates}

-- ---- options and tests

pub none_or_some : {A : Type 0} (o : Option A) → (o ≡ None) ⊎ ((a : A) × (o ≡ Some a))
none_or_some None = inl refl
none_or_some (Some a) = inr (a, refl)

pub some_is_some : {A : Type 0} (o : Option A) (a : A) → o ≡ Some a → IsSome o
some_is_some o a same = ap is_some same

pub unwrapped : {A : Type 0} (o : Option A) (d : A) → IsSome o → o ≡ Some (unwrap_or o d)
unwrapped None d some = absurd cc
unwrapped (Some a) d some = refl

pub same_content : {A : Type 0} (a b : A) → Some a ≡ Some b → a ≡ b
same_content a b same = cc

pub or_cases : (a b : Bool) → (a || b) ≡ true → (a ≡ true) ⊎ (b ≡ true)
or_cases true b on = inl refl
or_cases false b on = inr on

-- a value that is one thing at the id and another elsewhere
pub at_id : {A : Type 0} (id : ℕ) (x : A) (f : ℕ → A) → cond (nat_eq id id) x (f id) ≡ x
at_id id x f = ap (λ b. cond b x (f id)) (eq-eqb id id refl)

pub off_id : {A : Type 0} (i id : ℕ) (x : A) (f : ℕ → A) → i ≢ id → cond (nat_eq i id) x (f i) ≡ f i
off_id i id x f apart = ap (λ b. cond b x (f i)) (ne_eqb i id apart)

module _ (g : Ground) where
  abbrev pub Spares : List Sight → List Sight → Type 0
  Spares ws ws' = (j : ℕ) → (get_or ws' j (ended g)).spare ≡ (get_or ws j (ended g)).spare

  -- ids stay as they are held where no spare changes
  pub ids_kept : (c : Core) (lower upper : State → ℕ) (workers : List Sight) → Spares c.workers workers
      → IdsAreHeld g c
      → IdsAreHeld g (record { given = c.given; state_of = c.state_of; lower = lower; upper = upper; workers = workers })
  ids_kept c lower upper workers spares held = record {
    each = λ id below. elim (held.each id below) [
      | inl published ↦ inl published
      | inr (k, holds) ↦ inr (k, spares k ∙ holds)
    ];
    published = held.published;
    spare_given = λ k id holds. held.spare_given k id (sym (spares k) ∙ holds);
    spare_unpublished = λ k id holds. held.spare_unpublished k id (sym (spares k) ∙ holds);
    spares_differ = λ k l id first second. held.spares_differ k l id (sym (spares k) ∙ first) (sym (spares l) ∙ second);
  }

  abbrev pub KnowsPublished : Core → Sight → Type 0
  KnowsPublished c w = (id : ℕ) → w.knows id ≡ true → IsPublished c id

  -- an event by which worker k sees, raises, sinks, writes or looks
  sight_changes : (c : Core) (lower upper : State → ℕ) (k : ℕ) (w : Sight) → Sound g c
      → LowerIsSound g lower → UpperIsSound g upper
      → ((t : State) → c.lower t ≤ lower t) → ((t : State) → upper t ≤ c.upper t)
      → w.spare ≡ spare_of g c k → KnowsPublished c w
      → ((t : State) → w.lower t ≤ lower t) → ((t : State) → upper t ≤ w.upper t)
      → Sound g (record { given = c.given; state_of = c.state_of; lower = lower; upper = upper; workers = slice_set c.workers k w })
  sight_changes c lower upper k w sound lower_sound upper_sound more less spare known seen_lower seen_upper = record {
    ids = ids_kept c lower upper (slice_set c.workers k w)
        (set_relates (λ (v v' : Sight). v'.spare ≡ v.spare) (λ v. refl) c.workers k w (ended g) spare) sound.ids;
    states = record {
      distinct = sound.states.distinct;
      reachable = sound.states.reachable;
      known = set_each (KnowsPublished c) c.workers k w (ended g) known sound.states.known;
    };
    lower = lower_sound;
    upper = upper_sound;
    seen = set_each (IsSeenBy (record { given = c.given; state_of = c.state_of; lower = lower; upper = upper; workers = slice_set c.workers k w }))
        c.workers k w (ended g) (record { lower = seen_lower; upper = seen_upper })
        (λ j. record {
          lower = λ t. omega (arith, more t, (sound.seen j).lower t);
          upper = λ t. omega (arith, less t, (sound.seen j).upper t);
        });
  }

  same_lower : (f : State → ℕ) (t : State) → f t ≤ f t
  same_lower f t = omega arith

  pub lower_is_seen : (c : Core) (k id : ℕ) → Sound g c → Sound g (after g c (SeeLower k id))
  lower_is_seen c k id sound =
      let s : State = state_at c id in let w : Sight = sight_at g c k in
      sight_changes c c.lower c.upper k (sees_lower s (c.lower s) w) sound sound.lower sound.upper (same_lower c.lower) (same_lower c.upper)
      refl (sound.states.known k) (raised_within s (c.lower s) w.lower c.lower (sound.seen k).lower (omega arith)) (sound.seen k).upper

  pub upper_is_seen : (c : Core) (k id : ℕ) → Sound g c → Sound g (after g c (SeeUpper k id))
  upper_is_seen c k id sound =
      let s : State = state_at c id in let w : Sight = sight_at g c k in
      sight_changes c c.lower c.upper k (sees_upper s (c.upper s) w) sound sound.lower sound.upper (same_lower c.lower) (same_lower c.upper)
      refl (sound.states.known k) (sound.seen k).lower (sunk_within s (c.upper s) w.upper c.upper (sound.seen k).upper (omega arith))

  pub raise_keeps : (c : Core) (k id value : ℕ) → Sound g c → Allowed g c (Raise k id value) → Sound g (after g c (Raise k id value))
  raise_keeps c k id value sound allowed =
      let s : State = state_at c id in let w : Sight = sight_at g c k in
      let lower : State → ℕ = raised_at s value c.lower in
      sight_changes c lower c.upper k (sees_lower s (max (c.lower s) value) w) sound
      (lower_raised g c.lower w.lower s value sound.lower (sound.seen k).lower allowed.1)
      sound.upper (raised_more s value c.lower) (same_lower c.upper) refl (sound.states.known k)
      (raised_within s (max (c.lower s) value) w.lower lower
      (λ t. let more = raised_more s value c.lower t in omega (arith, more, (sound.seen k).lower t))
      (omega (arith, raised_here s value c.lower)))
      (sound.seen k).upper

  pub sink_keeps : (c : Core) (k id word : ℕ) → Sound g c → Allowed g c (Sink k id word) → Sound g (after g c (Sink k id word))
  sink_keeps c k id word sound allowed =
      let s : State = state_at c id in let w : Sight = sight_at g c k in
      let upper : State → ℕ = sunk_at s word c.upper in
      sight_changes c c.lower upper k (sees_upper s (min (c.upper s) word) w) sound sound.lower
      (upper_sunk g c.upper w.upper s word sound.upper (sound.seen k).upper allowed.1)
      (same_lower c.lower) (sunk_less s word c.upper) refl (sound.states.known k) (sound.seen k).lower
      (sunk_within s (min (c.upper s) word) w.upper upper
      (λ t. let less = sunk_less s word c.upper t in omega (arith, less, (sound.seen k).upper t))
      (omega (arith, sunk_here s word c.upper)))

  pub write_keeps : (c : Core) (k place word : ℕ) → Sound g c → Sound g (after g c (Write k place word))
  write_keeps c k place word sound =
      sight_changes c c.lower c.upper k (writes_word place word (sight_at g c k)) sound sound.lower sound.upper
      (same_lower c.lower) (same_lower c.upper) refl (sound.states.known k) (sound.seen k).lower (sound.seen k).upper

  pub learned : (c : Core) (w : Sight) (id : ℕ) → IsPublished c id → KnowsPublished c w → KnowsPublished c (learns id w)
  learned c w id published known i on = elim (or_cases (nat_eq i id) (w.knows i) on) [
    | inl same ↦ subst (λ (n : ℕ). IsPublished c n) (sym (eqb-true i id same)) published
    | inr old ↦ known i old
  ]

  pub look_keeps : (c : Core) (k id : ℕ) → Sound g c → IsPublished c id → Sound g (after g c (Look k (Some id)))
  look_keeps c k id sound published =
      sight_changes c c.lower c.upper k (learns id (sight_at g c k)) sound sound.lower sound.upper
      (same_lower c.lower) (same_lower c.upper) refl (learned c (sight_at g c k) id published (sound.states.known k))
      (sound.seen k).lower (sound.seen k).upper
