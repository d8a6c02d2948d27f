-- What a run of events answers.
--     begun g                the core in which the starts are published, each with its place as its id, and known to worker 0
--     RunAnswers g es r      the core state after the events; or the place of the first event that is not allowed. Want of
--                            memory is free
--     StaysSound g es        the core after each first part of the events is sound
use Rattle.std.specs.Prelude.{◌≡◌, ℕ, Result, Ok, Err, List, map, take}
use Rattle.ground_model.specs.declared.start.Start.{Start}
use Rattle.ground_model.specs.Packed.{State}
use Rattle.ground_model.specs.Ground.{Ground}
use Rattle.bound_core.specs.declared.event.Event.{Event}
use Rattle.bound_core.specs.declared.core_state.CoreState.{CoreState}
use Rattle.bound_core.specs.Core.{Core, first_core}
use Rattle.bound_core.specs.Events.{after_each, AreAllowed, IsFirstRefused}
use Rattle.bound_core.specs.Sound.{Sound}
use Rattle.bound_core.specs.Shown.{shown}
use Rattle.core_run.specs.declared.refusal.CoreRefusal.{CoreRefusal}
use Rattle.core_run.specs.declared.refusal.CoreRefusal.TheVariants.{NotAllowed, Memory}

abbrev pub start_states : Ground → List State
start_states g = map (λ (x : Start). x.state) g.starts

abbrev pub begun : Ground → Core
begun g = first_core g (start_states g)

pub record IsRunTo (g : Ground) (events : List Event) (c : CoreState) : Type 0 where
  pub allowed : AreAllowed g (begun g) events
  pub state : shown g c ≡ after_each g (begun g) events

abbrev pub RunAnswers : Ground → List Event → Result CoreState CoreRefusal → Type 0
RunAnswers g events (Ok c) = IsRunTo g events c
RunAnswers g events (Err (NotAllowed index)) = IsFirstRefused g (begun g) events index
RunAnswers g events (Err Memory) = Unit {0}

abbrev pub StaysSound : Ground → List Event → Type 0
StaysSound g events = (n : ℕ) → Sound g (after_each g (begun g) (take n events))
