-- The row and its state have the word.
use Rattle.std.proofs.Common.{refl, arith}
use Rattle.core_run.proofs.Steps.{live_is, spare_row, states_count, write_within, write_room, write_is}
use Rattle.core_run.proofs.stepping.write.Goals as goal

pub index_mut-requires : goal.index_mut-requires
index_mut-requires c =
    let below = spare_row c.args.problem.now c.args.board.now c.args.worker c.index.result.now c.in-Some.spare c.requires.sound
    (live_is c.args.problem.now c.args.board.now c.args.worker c.requires.allowed.0 c.index.result.now c.index.ensures).0 c.in-Some.is in
    omega (arith, below, c.args.board.now.ids.ok)

pub write_row-requires : goal.write_row-requires
write_row-requires c =
    write_within c.args.problem.now c.args.board.now c.args.worker c.args.place c.args.word c.index_mut.result.now c.in-Some.spare c.requires
    (spare_row c.args.problem.now c.args.board.now c.args.worker c.index.result.now c.in-Some.spare c.requires.sound
    (live_is c.args.problem.now c.args.board.now c.args.worker c.requires.allowed.0 c.index.result.now c.index.ensures).0 c.in-Some.is)
    c.index_mut.ensures.value

pub index_mut-requires-in-Some : goal.index_mut-requires-in-Some
index_mut-requires-in-Some c =
    let below = spare_row c.args.problem.now c.args.board.now c.args.worker c.index.result.now c.in-Some.spare c.requires.sound
    (live_is c.args.problem.now c.args.board.now c.args.worker c.requires.allowed.0 c.index.result.now c.index.ensures).0 c.in-Some.is in
    omega (arith, below, states_count c.args.problem.now c.args.board.now c.requires.formed, c.args.board.now.states.ok)

pub set_word-requires : goal.set_word-requires
set_word-requires c =
    write_room c.args.problem.now c.args.board.now c.args.worker c.args.place c.args.word c.in-Some.spare c.requires
    (spare_row c.args.problem.now c.args.board.now c.args.worker c.index.result.now c.in-Some.spare c.requires.sound
    (live_is c.args.problem.now c.args.board.now c.args.worker c.requires.allowed.0 c.index.result.now c.index.ensures).0 c.in-Some.is)
    c.index_mut-in-Some.result.now c.index_mut-in-Some.ensures.value

pub returns-in-Some : goal.returns-in-Some
returns-in-Some c =
    write_is c.args.problem.now c.args.board.now _ c.args.worker c.args.place c.args.word c.in-Some.spare c.index.result.now c.index_mut.result.now
    c.write_row.new.row c.index_mut-in-Some.result.now c.set_word.new.self c.requires c.index.ensures c.in-Some.is c.index_mut.ensures.value
    c.write_row.ensures c.index_mut-in-Some.ensures.value c.set_word.ensures refl refl refl
