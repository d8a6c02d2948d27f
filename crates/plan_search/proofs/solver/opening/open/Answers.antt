use Rattle.std.proofs.Common.{◌≡◌, ℕ, ◌+◌, ◌≤◌, Option, List, length, sym, subst, arith, rules}
use Rattle.ground_model.specs.Packed.{State}
use Rattle.ground_model.specs.Ground.{Ground}
use Rattle.word_table.specs.Made.{AreFirst, IsMade}
use Rattle.word_table.specs.Seen.{Board, Knowledge}
use Rattle.bellman_backup.specs.Kept.{KeepsStates}
use Rattle.trial_workers.specs.declared.explorer.explored.Explored.{Explored}
use Rattle.trial_workers.specs.declared.extent.Extent.{Extent}
use Rattle.trial_workers.specs.Crews.{AreNear}
use Rattle.plan_search.specs.declared.solver.sizes.Sizes.{Sizes}
use Rattle.plan_search.specs.solver.Opened.{AreSizes, room_for}
use Rattle.plan_search.proofs.lemmas.solver.Listing.{room_within, listed_are_first, made_is_of, swept_are_known, is_opened}
use Rattle.plan_search.proofs.solver.opening.open.Goals as goal

abbrev extent_of : Explored → Extent
extent_of x = record { swept = x.swept; depth = x.depth }

-- the listed states have ids
few_ids : (depth : Option ℕ) (listed states workers room : ℕ) → room ≡ room_for depth listed states → listed ≤ states → listed ≤ room + workers
few_ids depth listed states workers room is few = let within = (room_within depth listed states few).0 in omega arith

-- the table, by the states and the room that its makers were handed
made_of : (g : Ground) (workers : ℕ) (states ss : List State) (b : Board) (k : Knowledge) (room n : ℕ) → ss ≡ states → n ≡ room → IsMade g (n + workers) workers ss b k
    → IsMade g (room + workers) workers states b k
made_of g workers states ss b k room n same is made =
    subst (λ (l : List State). IsMade g (room + workers) workers l b k) same (subst (λ m. IsMade g (m + workers) workers ss b k) is made)

-- what was listed is of the index's problem
near_of : (g p : Ground) (most : ℕ) (x : Explored) → p ≡ g → AreNear p most x.states (extent_of x) → AreNear g most x.states (extent_of x)
near_of g p most x is = subst (λ (q : Ground). AreNear q most x.states (extent_of x)) is

few_listed : (g : Ground) (sizes : Sizes) (x : Explored) → AreNear g sizes.sweep_states x.states (extent_of x) → AreSizes sizes → length x.states ≤ sizes.states
few_listed g sizes x near are = let few = near.few in let room = are.room in omega arith

pub make-requires-clause-states : goal.make-requires-clause-states
make-requires-clause-states c =
    let g = c.args.problem.now in let sizes = c.args.sizes.now in let x = c.in_ok-explored.explored in
    let near = near_of g c.deref.result.now sizes.sweep_states x (search rules) c.in_ok-explored.ensures in
    let few = few_listed g sizes x near c.requires in
    subst (AreFirst g (c.room_for.result + sizes.workers)) (sym c.as_slice-states.ensures)
    (listed_are_first g sizes.sweep_states (c.room_for.result + sizes.workers) x.states (extent_of x) near
    (few_ids x.depth (length x.states) sizes.states sizes.workers c.room_for.result c.room_for.ensures few))

pub keep_near-requires-clause-here : goal.keep_near-requires-clause-here
keep_near-requires-clause-here c =
    let g = c.args.problem.now in let sizes = c.args.sizes.now in let x = c.in_ok-explored.explored in
    let near = near_of g c.deref.result.now sizes.sweep_states x (search rules) c.in_ok-explored.ensures in
    let b = c.in_ok-words.words in let k = c.in_ok-words.pass in
    made_is_of g sizes.sweep_states (room_for x.depth (length x.states) sizes.states + sizes.workers) sizes.workers x.states (extent_of x) near b k
    (made_of g sizes.workers x.states c.as_slice-states.result.now b k (room_for x.depth (length x.states) sizes.states) c.room_for.result c.as_slice-states.ensures c.room_for.ensures
    c.in_ok-words.ensures)

pub keep_near-requires-clause-known : goal.keep_near-requires-clause-known
keep_near-requires-clause-known c =
    let g = c.args.problem.now in let sizes = c.args.sizes.now in let x = c.in_ok-explored.explored in
    let near = near_of g c.deref.result.now sizes.sweep_states x (search rules) c.in_ok-explored.ensures in
    let b = c.in_ok-words.words in let k = c.in_ok-words.pass in
    swept_are_known g sizes.sweep_states (room_for x.depth (length x.states) sizes.states + sizes.workers) sizes.workers x.states (extent_of x) near b k
    (made_of g sizes.workers x.states c.as_slice-states.result.now b k (room_for x.depth (length x.states) sizes.states) c.room_for.result c.as_slice-states.ensures c.room_for.ensures
    c.in_ok-words.ensures)

pub returns : goal.returns
returns c =
    let g = c.args.problem.now in let sizes = c.args.sizes.now in let x = c.in_ok-explored.explored in
    let near = near_of g c.deref.result.now sizes.sweep_states x (search rules) c.in_ok-explored.ensures in
    let b = c.in_ok-words.words in let k = c.in_ok-words.pass in let pass = c.keep_near.new.pass in
    is_opened g sizes record { words = b; pass = pass; extent = extent_of x; index = c.in_ok-index.index; near = c.in_ok-near-2.near } k x.states near
    (made_of g sizes.workers x.states c.as_slice-states.result.now b k (room_for x.depth (length x.states) sizes.states) c.room_for.result c.as_slice-states.ensures c.room_for.ensures
    c.in_ok-words.ensures)
    c.keep_near.ensures.keeps c.keep_near.ensures.spare
    (subst (KeepsStates b.problem pass.view) (sym c.in_ok-near-2.ensures.ok) c.in_ok-near.ensures.kept)
    (few_listed g sizes x near c.requires) (search rules)
