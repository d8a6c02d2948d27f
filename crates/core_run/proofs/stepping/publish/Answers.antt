-- The row is published at first bounds, and the worker learns of it.
use Rattle.std.proofs.Common.{refl, ap, ◌∙◌, arith, None}
use Rattle.bound_core.specs.declared.worker.Worker.{Worker}
use Rattle.core_run.specs.Stepped.{with_spare}
use Rattle.core_run.proofs.Steps.{on_ok, live_is, live_twice, spare_row, states_count, publish_is}
use Rattle.core_run.proofs.stepping.publish.Goals as goal

pub index-requires-2 : goal.index-requires-2
index-requires-2 c =
    let below = spare_row c.args.problem.now c.args.board.now c.args.worker c.index.result.now c.in-Some.id c.requires.sound
    (live_is c.args.problem.now c.args.board.now c.args.worker c.requires.allowed.0 c.index.result.now c.index.ensures).0 c.in-Some.is in
    omega (arith, below, states_count c.args.problem.now c.args.board.now c.requires.formed, c.args.board.now.states.ok)

pub index_mut-requires : goal.index_mut-requires
index_mut-requires c =
    let below = spare_row c.args.problem.now c.args.board.now c.args.worker c.index.result.now c.in-Some.id c.requires.sound
    (live_is c.args.problem.now c.args.board.now c.args.worker c.requires.allowed.0 c.index.result.now c.index.ensures).0 c.in-Some.is in
    omega (arith, below, c.args.board.now.ids.ok)

pub returns : goal.returns
returns c = on_ok c.teach.result c.teach.ensures
    (λ t. publish_is c.args.problem.now c.args.board.now _ _ c.args.worker c.in-Some.id c.index.result.now c.set_spare.new.worker
    c.index_mut.result.now c.publish_row.new.row c.index-2.result.now c.first_word-first.result t c.requires c.index.ensures c.in-Some.is
    c.index_mut.ensures.value c.index-2.ensures c.first_word-first.ensures c.publish_row.ensures
    (c.set_spare.ensures ∙ ap (λ (w : Worker). with_spare w None)
    (live_twice c.args.problem.now c.args.board.now c.args.worker c.requires.allowed.0 c.index_mut-2.result.now c.index.result.now c.index_mut-2.ensures.value c.index.ensures))
    refl refl refl)
