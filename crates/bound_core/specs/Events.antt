-- Events: where each is allowed, and the core after it. An event reads what its own worker has seen, and no other number.
-- The order of workers' steps is that of the list of their events.
--     with_sight g c k f         the core with the sight of worker k changed by f
--     sees_lower s x, sees_upper s x
--                                a sight that has seen the number x of the state s; it keeps what was narrower
--     takes_spare, writes_word, publishes, learns, copy_of, joined
--                                the sight after a claim, a write, a publication and a look, the sight of a new worker, and
--                                that of two workers in one
--     CanPublish g c w           the spare of w is written whole, is a state that no published id has, and is a successor of a
--                                published state that w knows
--     Allowed g c e              the event is allowed
--     after g c e                the core after it
--     after_each g c es          the core after several events
--     AreAllowed g c es          each is allowed where it comes
--     IsFirstRefused g c es i    the first event that is not allowed is at the place i
use Rattle.std.specs.Prelude.{◌≡◌, ◌≢◌, ℕ, ◌+◌, ◌<◌, max, min, true, IsTrue, ◌||◌, cond, nat_eq}
use Rattle.std.specs.Prelude.{Some, None, IsSome, List, [], ◌∷◌, ◌++◌, length, take, Contains, slice_set}
use Rattle.std.specs.Option.{unwrap_or}
use Rattle.std.specs.List.{slice_get}
use Rattle.decision_process.specs.Following.{IsLowerFrom}
use Rattle.decision_process.specs.Levels.{successors}
use Rattle.ground_model.specs.Packed.{State, is_inside}
use Rattle.ground_model.specs.Ground.{Ground}
use Rattle.ground_model.specs.Steps.{ground_process}
use Rattle.bound_core.specs.declared.codes.TheConstants.{MOST_IDS}
use Rattle.bound_core.specs.declared.event.Event.{Event}
use Rattle.bound_core.specs.declared.event.Event.TheVariants.{SeeLower, SeeUpper, Raise, Sink, Claim, Write}
use Rattle.bound_core.specs.declared.event.Event.TheVariants.{Publish, Look, Split, Join}
use Rattle.bound_core.specs.Numbers.{raised_at, sunk_at, IsSupported}
use Rattle.bound_core.specs.Core.{Sight, Core, ended, sight_at, state_at, IsLive, Knows, IsPublished, width, written}

-- ---- sights

abbrev pub with_sight : Ground → Core → ℕ → (Sight → Sight) → Core
with_sight g c k f = record c { workers = slice_set c.workers k (f (sight_at g c k)) }

abbrev pub sees_lower : State → ℕ → Sight → Sight
sees_lower s x w = record w { lower = raised_at s x w.lower }

abbrev pub sees_upper : State → ℕ → Sight → Sight
sees_upper s x w = record w { upper = sunk_at s x w.upper }

abbrev pub takes_spare : ℕ → Sight → Sight
takes_spare id w = record w { spare = Some id; draft = λ place. None }

abbrev pub writes_word : ℕ → ℕ → Sight → Sight
writes_word place word w = record w {
  draft = λ i. cond (nat_eq i place) (Some word) (w.draft i);
}

abbrev pub learns : ℕ → Sight → Sight
learns id w = record w { knows = λ i. nat_eq i id || w.knows i }

abbrev pub without_spare : Sight → Sight
without_spare w = record w { spare = None; draft = λ place. None }

abbrev pub joined : Sight → Sight → Sight
joined v w = record v {
  knows = λ id. v.knows id || w.knows id;
  lower = λ s. max (v.lower s) (w.lower s);
  upper = λ s. min (v.upper s) (w.upper s);
}

-- ---- events

pub record CanPublish (g : Ground) (c : Core) (w : Sight) : Type 0 where
  pub has_spare : IsSome w.spare
  pub is_whole : (place : ℕ) → place < width g → IsSome (w.draft place)
  pub is_state : IsTrue (is_inside (length g.atoms) (written g w))
  pub is_new : (id : ℕ) → c.state_of id ≢ Some (written g w)
  pub is_reached : (id : ℕ) × (s : State) × (w.knows id ≡ true) × (c.state_of id ≡ Some s)
      × Contains (successors (ground_process g) s) (written g w)

abbrev pub Allowed : Ground → Core → Event → Type 0
Allowed g c (SeeLower k id) = Knows g c k id
Allowed g c (SeeUpper k id) = Knows g c k id
Allowed g c (Raise k id value) =
    Knows g c k id
    × IsLowerFrom (ground_process g) (sight_at g c k).lower (state_at c id) value
Allowed g c (Sink k id word) =
    Knows g c k id × IsSupported g (sight_at g c k).upper (state_at c id) word
Allowed g c (Claim k) =
    IsLive g c k × ((sight_at g c k).spare ≡ None) × (c.given < MOST_IDS)
Allowed g c (Write k place word) =
    IsLive g c k × IsSome (sight_at g c k).spare × (place < width g)
Allowed g c (Publish k) = IsLive g c k × CanPublish g c (sight_at g c k)
Allowed g c (Look k None) = IsLive g c k
Allowed g c (Look k (Some id)) = IsLive g c k × IsPublished c id
Allowed g c (Split k) = IsLive g c k
Allowed g c (Join k other) =
    IsLive g c k × IsLive g c other × (other ≢ k) × ((sight_at g c other).spare ≡ None)

-- the core once worker k has published the state that it wrote
abbrev pub publishes : Ground → Core → ℕ → ℕ → Core
publishes g c k id =
    with_sight g
    (record c { state_of = λ i. cond (nat_eq i id) (Some (written g (sight_at g c k))) (c.state_of i) })
    k (λ w. learns id (without_spare w))

abbrev pub after : Ground → Core → Event → Core
after g c (SeeLower k id) =
    with_sight g c k (sees_lower (state_at c id) (c.lower (state_at c id)))
after g c (SeeUpper k id) =
    with_sight g c k (sees_upper (state_at c id) (c.upper (state_at c id)))
after g c (Raise k id value) =
    with_sight g (record c { lower = raised_at (state_at c id) value c.lower }) k
    (sees_lower (state_at c id) (max (c.lower (state_at c id)) value))
after g c (Sink k id word) =
    with_sight g (record c { upper = sunk_at (state_at c id) word c.upper }) k
    (sees_upper (state_at c id) (min (c.upper (state_at c id)) word))
after g c (Claim k) = with_sight g (record c { given = c.given + 1 }) k (takes_spare c.given)
after g c (Write k place word) = with_sight g c k (writes_word place word)
after g c (Publish k) = publishes g c k (unwrap_or (sight_at g c k).spare 0)
after g c (Look k None) = c
after g c (Look k (Some id)) = with_sight g c k (learns id)
after g c (Split k) = record c { workers = c.workers ++ without_spare (sight_at g c k) ∷ [] }
after g c (Join k other) = record c {
  workers = slice_set
      (slice_set c.workers k (joined (sight_at g c k) (sight_at g c other))) other (ended g);
}

abbrev pub after_each : Ground → Core → List Event → Core
after_each g c [] = c
after_each g c (e ∷ es) = after_each g (after g c e) es

abbrev pub AreAllowed : Ground → Core → List Event → Type 0
AreAllowed g c [] = Unit {0}
AreAllowed g c (e ∷ es) = Allowed g c e × AreAllowed g (after g c e) es

pub record IsFirstRefused (g : Ground) (c : Core) (events : List Event) (index : ℕ) : Type 0 where
  pub before : AreAllowed g c (take index events)
  pub refused : (e : Event) × (slice_get events index ≡ Some e)
      × (Allowed g (after_each g c (take index events)) e → ⊥)
