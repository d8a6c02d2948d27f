-- The table of the states near the starts, as it is made.
use Rattle.std.proofs.Common.{◌≡◌, ℕ, ◌+◌, ◌<◌, ◌≤◌, Option, Some, None, List, [], length, get_or, refl, sym, ap, ◌∙◌, subst, arith}
use Rattle.std.specs.Prelude.{IsTrue}
use Rattle.std.specs.Arc.{arc_value}
use Rattle.std.specs.List.{slice_get}
use Rattle.std.proofs.lemmas.Option.{slice_get-get_or}
use Rattle.ground_model.specs.Packed.{State}
use Rattle.ground_model.specs.Ground.{Ground}
use Rattle.ground_model.proofs.Packed.{length-inside}
use Rattle.bound_core.specs.Core.{first_core}
use Rattle.bound_core.proofs.Keeping.{first_is_sound}
use Rattle.bound_core.proofs.Worth.{published_are_inside}
use Rattle.word_table.specs.view.Views.{knows, has_state}
use Rattle.word_table.proofs.lemmas.view.Noting.{given_is_had}
use Rattle.word_table.proofs.lemmas.view.Seen.{has_state_more}
use Rattle.word_table.specs.Made.{AreFirst, IsMade}
use Rattle.word_table.specs.Seen.{Board, Knowledge, IsOf}
use Rattle.bellman_backup.specs.Kept.{KeepsStates}
use Rattle.bellman_backup.specs.Backups.{Keeps}
use Rattle.trial_workers.specs.declared.extent.Extent.{Extent}
use Rattle.trial_workers.specs.declared.worker.Worker.{Worker}
use Rattle.trial_workers.specs.Workers.{HasListed}
use Rattle.trial_workers.specs.Crews.{AreNear, IsNear, FirstHas}
use Rattle.plan_search.specs.declared.solver.opening.Opening.{Opening}
use Rattle.plan_search.specs.declared.solver.sizes.Sizes.{Sizes}
use Rattle.plan_search.specs.solver.Opened.{room_for, AreSizes, IsOpened}

pub room_within : (depth : Option ℕ) (listed states : ℕ) → listed ≤ states → (listed ≤ room_for depth listed states) × (room_for depth listed states ≤ states)
room_within None listed states few = (omega arith, few)
room_within (Some depth) listed states few = (few, omega arith)

pub listed_are_first : (g : Ground) (most ids : ℕ) (states : List State) (x : Extent) → AreNear g most states x → length states ≤ ids → AreFirst g ids states
listed_are_first g most ids states x listed room = record {
  few = room;
  differ = listed.differ;
  reached = listed.reached;
}

module _ (g : Ground) (most ids rights : ℕ) (states : List State) (x : Extent) (listed : AreNear g most states x) (b : Board) (k : Knowledge)
    (made : IsMade g ids rights states b k) where
  wide : (id : ℕ) (s : State) → slice_get states id ≡ Some s → length s ≡ b.layout.width
  wide id s there =
      length-inside (length g.atoms) s
      (published_are_inside g made.layout.problem (first_core g states) (first_is_sound g states listed.differ listed.reached).states id s there)
      ∙ sym made.layout.width

  pub made_has : HasListed states k.view
  made_has id s there = subst (λ (l : Knowledge). knows l.view id × IsTrue (has_state l.view id s)) (sym made.pass)
      (given_is_had g b.layout rights states id s there (wide id s there))

  pub made_is_of : IsOf b k
  made_is_of = subst (IsOf b) (sym made.pass) (record { table = refl; view = record { live = refl; problem = sym made.problem; layout = refl } })

  pub swept_are_known : (id : ℕ) → id < x.swept → knows k.view id
  swept_are_known id below =
      let there = slice_get-get_or states id [] (let within = listed.within in omega arith) in (made_has id (get_or states id []) there).0

-- once the transitions are kept
module _ (g : Ground) (sizes : Sizes) (o : Opening) (k : Knowledge) (states : List State) (listed : AreNear g sizes.sweep_states states o.extent)
    (made : IsMade g (room_for o.extent.depth (length states) sizes.states + sizes.workers) sizes.workers states o.words k) (keeps : Keeps o.words k o.pass) where
  has : HasListed states o.pass.view
  has id s there =
      let had = made_has g sizes.sweep_states (room_for o.extent.depth (length states) sizes.states + sizes.workers) sizes.workers states o.extent listed o.words k made id s there in
      (keeps.noted.known id had.0, has_state_more k.view o.pass.view keeps.noted id s had.1)

  pub is_opened : o.pass.view.spare ≡ k.view.spare → KeepsStates o.words.problem o.pass.view (arc_value o.near) → length states ≤ sizes.states
      → arc_value o.index ≡ g → IsOpened g sizes o
  is_opened spare kept few index = record {
    problem = made.problem;
    states = states;
    listed = listed;
    ids = made.count.0;
    room = (let within = (room_within o.extent.depth (length states) sizes.states few).1 in let count = made.count.0 in omega arith);
    rights = (made.count.1, keeps.rights ∙ ap (λ (l : Knowledge). l.view.rights) made.pass);
    here = keeps.here;
    free = spare ∙ ap (λ (l : Knowledge). l.view.spare) made.pass;
    has = has;
    index = index;
    near = subst (λ (p : Ground). KeepsStates p o.pass.view (arc_value o.near)) made.problem kept;
  }

-- the transitions are those of the table's problem
pub opened_keeps : (g : Ground) (sizes : Sizes) (o : Opening) → IsOpened g sizes o → KeepsStates o.words.problem o.pass.view (arc_value o.near)
opened_keeps g sizes o opened = subst (λ (p : Ground). KeepsStates p o.pass.view (arc_value o.near)) (sym opened.problem) opened.near

-- so are the listed states
pub opened_lists : (g : Ground) (sizes : Sizes) (o : Opening) → (opened : IsOpened g sizes o) → AreNear o.words.problem sizes.sweep_states opened.states o.extent
opened_lists g sizes o opened = subst (λ (p : Ground). AreNear p sizes.sweep_states opened.states o.extent) (sym opened.problem) opened.listed

-- a crew that has the listed states has the states near the starts
pub opened_is_near : (g : Ground) (sizes : Sizes) (o : Opening) → (opened : IsOpened g sizes o) → AreSizes sizes → (ws : List Worker) → FirstHas opened.states ws
    → IsNear o.words.problem o.extent ws
opened_is_near g sizes o opened are ws has = record {
  states = opened.states;
  listed = (
    sizes.sweep_states,
    (let room = are.room in let few = are.few in omega arith),
    opened_lists g sizes o opened,
  );
  has = has;
}
