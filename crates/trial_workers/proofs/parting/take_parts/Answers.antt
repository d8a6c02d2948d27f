use Rattle.std.proofs.Common.{subst}
use denote.Param.Send.{sendable}
use Rattle.trial_workers.specs.Workers.{HasTakenPart}
use Rattle.trial_workers.proofs.Rounding.{zip_weaker}
use Rattle.trial_workers.proofs.effort.Effort.TheSendSync as effort_crosses
use Rattle.trial_workers.proofs.Sending.{worker_send, words_sync}
use Rattle.trial_workers.proofs.parting.take_parts.Goals as goal

pub call_each-requires-send-T : goal.call_each-requires-send-T
call_each-requires-send-T g c κs within = search (sendable, worker_send) depth 30

pub call_each-requires-sync-F : goal.call_each-requires-sync-F
call_each-requires-sync-F g c κs within = search (sendable, words_sync, effort_crosses.the_sync) depth 30

pub returns : goal.returns
returns g c =
    let R = HasTakenPart c.args.words.now c.args.effort.now in
    zip_weaker _ R _ _ (λ w n x. subst (R w) x.left (subst (λ o. R o x.after_call.now) x.argument_is x.call)) c.call_each.ensures
