-- The laws of the rule, as statements. Each kind of step is an event of the core, whichever core the words and views show.
--     IsViewOf g l v             a view that steps, of this problem and layout
--     IsStep g l most s s' e     where the rule holds of s it does of s', and the event e leads from each core that s shows to one that
--                                s' shows
--     with_view s k v            the table with another view of seat k
--     with_word s i x k v        and with another word i
--     MadeHolds                  the rule holds of a table as it is made of distinct reachable states
--     PutIsMade                  words with one state more are made of one state more
--     StepKeepsTheRule           so a step keeps the rule
--     LowerLoadIsAStep, UpperLoadIsAStep, RaiseIsAStep, SinkIsAStep, CountLoadIsAStep, ClaimIsAStep, WriteIsAStep,
--     HeldLoadIsAStep, EmptyLoadIsAStep, StateLoadIsAStep, PublishIsAStep, SplitIsAStep, OneRightIsAStep, JoinIsAStep,
--     RightsJoinIsAStep
--                                the kinds of step; an exchange that is refused is a look at what it found
--     LowerIsTold, UpperIsTold, CountIsTold, HeldIsTold, EmptyIsTold, StatesAreTold, OneStateIsTold
--                                what a step tells its own pass
use Rattle.std.specs.Prelude.{List, length, AllPairs, Contains}
use Rattle.std.specs.Prelude.{◌≡◌, ◌≢◌, ℕ, ◌+◌, ◌<◌, ◌≤◌, min, max, true, Some, None}
use Rattle.std.specs.Prelude.{[], ◌∷◌, ◌++◌, slice_set}
use mathlib.Core.Option.{some}
use lib.ListN.{get_elem?}
use Rattle.atomic_table.specs.Table.{opening}
use Rattle.decision_process.specs.Levels.{IsReachable}
use Rattle.ground_model.specs.Packed.{State}
use Rattle.ground_model.specs.Ground.{Ground}
use Rattle.ground_model.specs.Steps.{ground_process, ground_starts}
use Rattle.bound_core.specs.declared.event.Event.{Event}
use Rattle.bound_core.specs.declared.event.Event.TheVariants.{SeeLower, SeeUpper, Raise, Sink, Claim}
use Rattle.bound_core.specs.declared.event.Event.TheVariants.{Write, Publish, Look, Split, Join}
use Rattle.bound_core.specs.Core.{Core}
use Rattle.bound_core.specs.Events.{Allowed, after}
use Rattle.bound_core.specs.Sound.{Sound}
use Rattle.word_table.specs.declared.layout.Layout.{Layout}
use Rattle.word_table.specs.layout.Places.{IsLayout, count_at, bucket_at, state_at, lower_at, upper_at}
use Rattle.word_table.specs.declared.view.View.{View}
use Rattle.word_table.specs.view.Views.{knows, CanRaise, CanSink, CanPublish}
use Rattle.word_table.specs.view.Steps.{with_lower_load, with_upper_load, with_lower, with_upper, with_count}
use Rattle.word_table.specs.view.Steps.{with_spare, with_written, with_held, with_empty, with_state_word}
use Rattle.word_table.specs.view.Steps.{with_published, without_rights, with_one_right, less_one_right}
use Rattle.word_table.specs.view.Steps.{united, richer, spent, first_view}
use Rattle.word_table.specs.rule.Words.{Table, word, given_in, held_in, lower_in, upper_in, AreWords}
use Rattle.word_table.specs.rule.Rule.{Shows, AreRights, IsTable, Holds}
use Rattle.word_table.specs.rule.Made.{AreMade, IsPut}
use Rattle.word_table.specs.rule.Told.{TellsLower, TellsUpper, TellsCount, TellsNone}
use Rattle.word_table.specs.rule.Told.{HasRoom, HasOneEach, HasOneState}

pub record IsViewOf (g : Ground) (l : Layout) (v : View) : Type 0 where
  pub live : v.live ≡ true
  pub problem : v.problem ≡ g
  pub layout : v.layout ≡ l

abbrev pub with_view : Table → ℕ → View → Table
with_view s k v =
    record { words = s.words; homes = s.homes; views = slice_set s.views k v }

abbrev pub with_word : Table → ℕ → ℕ → ℕ → View → Table
with_word s i x k v =
    record { words = slice_set s.words i x; homes = s.homes; views = slice_set s.views k v }

abbrev pub with_split : Table → ℕ → View → View → Table
with_split s k left right = record {
  words = s.words;
  homes = s.homes;
  views = slice_set s.views k left ++ right ∷ [];
}

abbrev pub with_join : Table → ℕ → View → ℕ → Table
with_join s k both other = record {
  words = s.words;
  homes = s.homes;
  views = slice_set (slice_set s.views k both) other spent;
}

module _ (g : Ground) (l : Layout) (most : ℕ) where
  pub record IsStep (s s' : Table) (e : Event) : Type 0 where
    pub words : AreWords g l s'.words
    pub rights : AreRights l most s'
    pub event : (c : Core) → Sound g c → Shows g l s c
        → Allowed g c e × Shows g l s' (after g c e)

  abbrev pub MadeHolds : Type 0
  MadeHolds = (states : List State) (ws : List ℕ) → IsTable g l → AreMade g l states ws
      → AllPairs (λ (s t : State). s ≢ t) states
      → ((s : State) → Contains states s → IsReachable (ground_process g) (ground_starts g) s)
      → Holds g l most (opening ws [] (first_view g l most states))

  abbrev pub PutIsMade : Type 0
  PutIsMade = (states : List State) (s : State) (bucket : ℕ) (ws ws' : List ℕ) → IsLayout l
      → AreMade g l states ws → length states < l.ids → length s ≡ l.width
      → IsPut g l s (length states) bucket ws ws' → AreMade g l (states ++ s ∷ []) ws'

  abbrev pub StepKeepsTheRule : Type 0
  StepKeepsTheRule = (s s' : Table) (e : Event) → Holds g l most s → IsStep s s' e
      → Holds g l most s'

  -- the rule holds of s, and seat k has the view v
  pub record Sits (s : Table) (k : ℕ) (v : View) : Type 0 where
    pub holds : Holds g l most s
    pub here : get_elem? s.views k ≡ some v
    pub view : IsViewOf g l v

  -- ---- numbers

  abbrev pub LowerLoadIsAStep : Type 0
  LowerLoadIsAStep = (s : Table) (k : ℕ) (v : View) (id : ℕ) → Sits s k v → knows v id
      → IsStep s (with_view s k (with_lower_load v id (lower_in l s.words id))) (SeeLower k id)

  abbrev pub UpperLoadIsAStep : Type 0
  UpperLoadIsAStep = (s : Table) (k : ℕ) (v : View) (id : ℕ) → Sits s k v → knows v id
      → IsStep s (with_view s k (with_upper_load v id (upper_in l s.words id))) (SeeUpper k id)

  abbrev pub RaiseIsAStep : Type 0
  RaiseIsAStep = (s : Table) (k : ℕ) (v : View) (id n : ℕ) → Sits s k v → CanRaise v id n
      → IsStep s
      (with_word s (lower_at l id) (max (lower_in l s.words id) n) k (with_lower v id n))
      (Raise k id n)

  abbrev pub SinkIsAStep : Type 0
  SinkIsAStep = (s : Table) (k : ℕ) (v : View) (id x : ℕ) → Sits s k v → CanSink v id x
      → IsStep s
      (with_word s (upper_at l id) (min (upper_in l s.words id) x) k (with_upper v id x))
      (Sink k id x)

  -- ---- ids

  abbrev pub CountLoadIsAStep : Type 0
  CountLoadIsAStep = (s : Table) (k : ℕ) (v : View) → Sits s k v
      → IsStep s (with_view s k (with_count v (given_in s.words))) (Look k None)

  abbrev pub ClaimIsAStep : Type 0
  ClaimIsAStep = (s : Table) (k : ℕ) (v : View) (from : ℕ) → Sits s k v
      → v.spare ≡ None → 0 < v.rights → from < l.ids → given_in s.words ≡ from
      → IsStep s (with_word s count_at (from + 1) k (with_spare v from)) (Claim k)

  abbrev pub WriteIsAStep : Type 0
  WriteIsAStep = (s : Table) (k : ℕ) (v : View) (id place x : ℕ) → Sits s k v
      → v.spare ≡ Some id → place < l.width
      → IsStep s (with_word s (state_at l id place) x k (with_written v place x))
      (Write k place x)

  abbrev pub HeldLoadIsAStep : Type 0
  HeldLoadIsAStep = (s : Table) (k : ℕ) (v : View) (bucket id : ℕ) → Sits s k v
      → bucket < l.buckets → held_in s.words bucket ≡ id + 1
      → IsStep s (with_view s k (with_held v bucket id)) (Look k (Some id))

  abbrev pub EmptyLoadIsAStep : Type 0
  EmptyLoadIsAStep = (s : Table) (k : ℕ) (v : View) (bucket : ℕ) → Sits s k v
      → IsStep s (with_view s k (with_empty v bucket)) (Look k None)

  abbrev pub StateLoadIsAStep : Type 0
  StateLoadIsAStep = (s : Table) (k : ℕ) (v : View) (id place : ℕ) → Sits s k v
      → knows v id → place < l.width
      → IsStep s
      (with_view s k (with_state_word v id place (word s.words (state_at l id place))))
      (Look k None)

  abbrev pub PublishIsAStep : Type 0
  PublishIsAStep = (s : Table) (k : ℕ) (v : View) (t : State) (id bucket : ℕ) → Sits s k v
      → v.spare ≡ Some id → bucket < l.buckets → CanPublish v t bucket
      → held_in s.words bucket ≡ 0
      → IsStep s (with_word s (bucket_at bucket) (id + 1) k (with_published v bucket))
      (Publish k)

  -- ---- seats

  abbrev pub SplitIsAStep : Type 0
  SplitIsAStep = (s : Table) (k : ℕ) (v : View) → Sits s k v
      → IsStep s (with_split s k v (without_rights v)) (Split k)

  abbrev pub OneRightIsAStep : Type 0
  OneRightIsAStep = (s : Table) (k : ℕ) (v : View) → Sits s k v → 0 < v.rights
      → ((id : ℕ) → v.spare ≡ Some id → 1 < v.rights)
      → IsStep s (with_split s k (less_one_right v) (with_one_right v)) (Split k)

  abbrev pub JoinIsAStep : Type 0
  JoinIsAStep = (s : Table) (k : ℕ) (v : View) (other : ℕ) (w : View) → Sits s k v
      → IsViewOf g l w → w.spare ≡ None → other ≢ k → get_elem? s.views other ≡ some w
      → IsStep s (with_join s k (united v w) other) (Join k other)

  abbrev pub RightsJoinIsAStep : Type 0
  RightsJoinIsAStep = (s : Table) (k : ℕ) (v : View) (other : ℕ) (w : View) → Sits s k v
      → IsViewOf g l w → w.spare ≡ None → other ≢ k → get_elem? s.views other ≡ some w
      → IsStep s (with_join s k (richer v w) other) (Join k other)

  -- ---- what is told

  abbrev pub LowerIsTold : Type 0
  LowerIsTold = (s : Table) (k : ℕ) (v : View) (id : ℕ) → Sits s k v → knows v id
      → TellsLower g v id (lower_in l s.words id)

  abbrev pub UpperIsTold : Type 0
  UpperIsTold = (s : Table) (k : ℕ) (v : View) (id : ℕ) → Sits s k v → knows v id
      → TellsUpper g v id (upper_in l s.words id)

  abbrev pub CountIsTold : Type 0
  CountIsTold = (s : Table) (k : ℕ) (v : View) → Sits s k v → TellsCount v (given_in s.words)

  abbrev pub HeldIsTold : Type 0
  HeldIsTold = (s : Table) (k : ℕ) (v : View) → Sits s k v
      → ((bucket : ℕ) → bucket < l.buckets → held_in s.words bucket ≤ l.ids) × HasRoom v

  abbrev pub EmptyIsTold : Type 0
  EmptyIsTold = (s : Table) (k : ℕ) (v : View) (bucket : ℕ) → Sits s k v
      → held_in s.words bucket ≡ 0 → TellsNone v bucket

  abbrev pub StatesAreTold : Type 0
  StatesAreTold = (s : Table) (k : ℕ) (v : View) → Sits s k v → HasOneEach v

  abbrev pub OneStateIsTold : Type 0
  OneStateIsTold = (s : Table) (k : ℕ) (v : View) → Sits s k v → HasOneState v
