-- Walkers may go to another thread.
use denote.Param.Send.{sendable}
use Rattle.std.proofs.Crossing.{crosses}
use Rattle.ground_model.proofs.state.State.TheSendSync as state_crosses
use Rattle.word_table.proofs.pass.Pass.TheSendSync as pass_crosses
use Rattle.trial_workers.proofs.Sending.{words_sync}
use Rattle.search_tests.proofs.table.walks.walk_all.Goals as goal

pub for_each_mut-requires-send-T : goal.for_each_mut-requires-send-T
for_each_mut-requires-send-T g c κs within = search (sendable, crosses, state_crosses.the_send, pass_crosses.the_send) depth 30

pub for_each_mut-requires-sync-F : goal.for_each_mut-requires-sync-F
for_each_mut-requires-sync-F g c κs within = search (sendable, words_sync) depth 30
