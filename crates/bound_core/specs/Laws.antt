-- The laws of cores, as statements.
--     FirstIsSound               the core in which distinct reachable states are published is sound
--     EventKeepsSound            an allowed event keeps a core sound
--     EventsKeepSound            and so do several
--     NothingSeenWidens          nothing that a worker has seen widens, whatever the event
--     NothingSeenWidensLater     nor over several events
--     SoundIsBalanced            lower numbers, upper values and what the words say to do are balanced readings
--     SoundCovers                so each state's numbers cover the cost from it, and stay within the penalty
--     WordsPolicyIsWithin        and what the words say to do costs at most the upper value, however many steps are counted
--     WordNamesItsAct            the act of an upper word is worth its value: an action is open and covers the cost, and giving up
--                                costs the penalty
--     SeenCovers                 what a worker has seen covers the cost too
--     PublishedAreInside         published states have one bit for each atom, and no further ones
--     RowsShowTheirNumbers       the number of a published id is that of its state
use Rattle.std.specs.Prelude.{◌≡◌, ◌≢◌, ℕ, suc, ◌+◌, ◌*◌, ◌^◌, ◌≤◌, IsTrue, min, false, Some, None}
use Rattle.std.specs.Prelude.{AllPairs, List, length, Contains}
use Rattle.std.specs.List.{slice_get}
use Rattle.fixed_round.specs.Words.{value_of}
use Rattle.decision_process.specs.Process.{expected}
use Rattle.decision_process.specs.Policies.{spend}
use Rattle.decision_process.specs.Least.{least, Covers}
use Rattle.decision_process.specs.Levels.{IsReachable}
use Rattle.decision_process.specs.Balanced.{IsBalanced}
use Rattle.ground_model.specs.Packed.{State, is_inside}
use Rattle.ground_model.specs.Ground.{Ground}
use Rattle.ground_model.specs.Steps.{ground_process, ground_starts}
use Rattle.bound_core.specs.declared.event.Event.{Event}
use Rattle.bound_core.specs.declared.id_row.IdRow.{IdRow}
use Rattle.bound_core.specs.declared.core_state.CoreState.{CoreState}
use Rattle.bound_core.specs.Numbers.{act_of, first_word, policy_of}
use Rattle.bound_core.specs.Core.{Core, sight_at, IsLive, first_core}
use Rattle.bound_core.specs.Events.{Allowed, after, after_each, AreAllowed}
use Rattle.bound_core.specs.Sound.{Sound, StatesAreReached, IsNarrower}
use Rattle.bound_core.specs.Shown.{shown, state_in}

module _ (g : Ground) where
  abbrev pub FirstIsSound : Type 0
  FirstIsSound = (states : List State) → AllPairs (λ (s t : State). s ≢ t) states
      → ((s : State) → Contains states s → IsReachable (ground_process g) (ground_starts g) s)
      → Sound g (first_core g states)

  abbrev pub EventKeepsSound : Type 0
  EventKeepsSound = (c : Core) (e : Event) → Sound g c → Allowed g c e → Sound g (after g c e)

  abbrev pub EventsKeepSound : Type 0
  EventsKeepSound = (c : Core) (events : List Event) → Sound g c → AreAllowed g c events
      → Sound g (after_each g c events)

  abbrev pub NothingSeenWidens : Type 0
  NothingSeenWidens = (c : Core) (e : Event) (k : ℕ) → IsLive g c k → IsLive g (after g c e) k
      → IsNarrower (sight_at g c k) (sight_at g (after g c e) k)

  abbrev pub NothingSeenWidensLater : Type 0
  NothingSeenWidensLater = (c : Core) (events : List Event) (k : ℕ) → IsLive g c k
      → IsLive g (after_each g c events) k
      → IsNarrower (sight_at g c k) (sight_at g (after_each g c events) k)

  abbrev pub SoundIsBalanced : Type 0
  SoundIsBalanced = (c : Core) → Sound g c
      → IsBalanced (ground_process g) c.lower (λ s. value_of (c.upper s)) (policy_of c.upper)

  abbrev pub SoundCovers : Type 0
  SoundCovers = (c : Core) → Sound g c → (s : State)
      → Covers (ground_process g) (c.lower s) (value_of (c.upper s)) s
      × (c.lower s ≤ value_of (c.upper s)) × (value_of (c.upper s) ≤ g.penalty)

  abbrev pub SeenCovers : Type 0
  SeenCovers = (c : Core) → Sound g c → (k : ℕ) (s : State)
      → Covers (ground_process g) ((sight_at g c k).lower s) (value_of ((sight_at g c k).upper s)) s

  abbrev pub WordsPolicyIsWithin : Type 0
  WordsPolicyIsWithin = (c : Core) → Sound g c → (n : ℕ) (s : State)
      → spend (ground_process g) (policy_of c.upper) n s
      ≤ value_of (c.upper s) * (ground_process g).den ^ n

  pub record IsActOfWord (s : State) (word : ℕ) : Type 0 where
    pub quits : act_of word ≡ None → value_of word ≡ g.penalty
    pub acts : (a n : ℕ) → act_of word ≡ Some a
        → Contains ((ground_process g).choices s) a
        × (expected (λ o. o.cost * (ground_process g).den ^ n + least (ground_process g) n o.next)
        ((ground_process g).step a s) ≤ value_of word * (ground_process g).den ^ suc n)

  abbrev pub WordNamesItsAct : Type 0
  WordNamesItsAct = (c : Core) → Sound g c → (s : State) → (ground_process g).goal s ≡ false
      → IsActOfWord s (c.upper s)

  abbrev pub PublishedAreInside : Type 0
  PublishedAreInside = (c : Core) → StatesAreReached g c → (id : ℕ) (s : State)
      → c.state_of id ≡ Some s → IsTrue (is_inside (length g.atoms) s)

  abbrev pub RowsShowTheirNumbers : Type 0
  RowsShowTheirNumbers = (c : CoreState) → StatesAreReached g (shown g c) → (id : ℕ) (row : IdRow)
      → slice_get c.ids id ≡ Some row → (shown g c).state_of id ≡ Some (state_in row)
      → ((shown g c).lower (state_in row) ≡ row.lower)
      × ((shown g c).upper (state_in row) ≡ min (first_word g (state_in row)) row.upper)
