-- What the rounds take along may go to another thread.
use denote.Param.Send.{sendable}
use Rattle.trial_workers.proofs.effort.Effort.TheSendSync as effort_crosses
use Rattle.trial_workers.proofs.extent.Extent.TheSendSync as extent_crosses
use Rattle.trial_workers.proofs.Sending.{words_sync}
use Rattle.plan_search.proofs.lemmas.service.Sending.{crew_send}
use Rattle.search_tests.proofs.numbers.read_beside.Goals as goal

pub join_mut-requires-send-F : goal.join_mut-requires-send-F
join_mut-requires-send-F g c κs within = search (sendable, words_sync, crew_send, effort_crosses.the_sync, extent_crosses.the_sync) depth 30
