-- How a search begins.
--     AreSizes sizes             1 to 16 workers; all starts may be swept, and the table has room for more states than are swept
--     room_for depth listed states
--                                for how many states there is an id: for so many listed ones, where no depth says that there are
--                                further ones, and else for so many as the table has room for in any case
--     IsOpened g sizes o         a table of the problem with so many ids, and one for each worker, and as many claim rights as workers;
--                                a pass over it that has all rights, no spare, and the states near the starts, each with its place
--                                as its id; an index of the problem's actions; transitions of such states, which rest on what the
--                                pass has noted
use Rattle.std.specs.Prelude.{◌≡◌, ℕ, ◌+◌, ◌<◌, ◌≤◌, List, length, Option, Some, None}
use Rattle.std.specs.Arc.{arc_value}
use Rattle.ground_model.specs.declared.limits.TheConstants.{MOST_STARTS}
use Rattle.ground_model.specs.Packed.{State}
use Rattle.ground_model.specs.Ground.{Ground}
use Rattle.word_table.specs.Seen.{IsOf}
use Rattle.bellman_backup.specs.Kept.{KeepsStates}
use Rattle.trial_workers.specs.declared.crew.TheConstants.{MOST_WORKERS}
use Rattle.trial_workers.specs.Workers.{HasListed}
use Rattle.trial_workers.specs.Crews.{AreNear}
use Rattle.plan_search.specs.declared.solver.opening.Opening.{Opening}
use Rattle.plan_search.specs.declared.solver.sizes.Sizes.{Sizes}
use Rattle.plan_search.specs.declared.solver.sizes.TheConstants.{MOST_STATES}

pub record AreSizes (sizes : Sizes) : Type 0 where
  pub workers : (1 ≤ sizes.workers) × (sizes.workers ≤ MOST_WORKERS)
  pub enough : MOST_STARTS ≤ sizes.sweep_states
  pub room : sizes.sweep_states < sizes.states
  pub few : sizes.states ≤ MOST_STATES

abbrev pub room_for : Option ℕ → ℕ → ℕ → ℕ
room_for None listed states = listed
room_for (Some depth) listed states = states

pub record IsOpened (g : Ground) (sizes : Sizes) (o : Opening) : Type 0 where
  pub problem : o.words.problem ≡ g
  pub states : List State
  pub listed : AreNear g sizes.sweep_states states o.extent
  pub ids : o.words.layout.ids ≡ room_for o.extent.depth (length states) sizes.states + sizes.workers
  pub room : o.words.layout.ids ≤ sizes.states + sizes.workers
  pub rights : (o.words.most ≡ sizes.workers) × (o.pass.view.rights ≡ sizes.workers)
  pub here : IsOf o.words o.pass
  pub free : o.pass.view.spare ≡ None
  pub has : HasListed states o.pass.view
  pub index : arc_value o.index ≡ g
  pub near : KeepsStates g o.pass.view (arc_value o.near)
