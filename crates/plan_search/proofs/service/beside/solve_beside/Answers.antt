-- What the rounds take along may go to another thread.
use Rattle.std.proofs.Common.{ℕ}
use mir.Syntax.{Lifetime}
use base.Fml.{Lft}
use denote.RattleType.{RattleType}
use denote.Ref.{MutRef, ShrRef}
use denote.Param.{param}
use denote.Param.Send.{IsSend, IsSync, sendable, param_send, mut_send, shr_send}
use Rattle.trial_workers.proofs.effort.Effort.TheSendSync as effort_crosses
use Rattle.trial_workers.proofs.extent.Extent.TheSendSync as extent_crosses
use Rattle.trial_workers.proofs.Sending.{words_sync}
use Rattle.plan_search.proofs.lemmas.service.Sending.{crew_send}
use Rattle.plan_search.proofs.service.beside.solve_beside.Lts.{arg-0-1}
use Rattle.plan_search.proofs.service.beside.solve_beside.Goals as goal

-- what may cross, or be shared, does so behind a reference
lent_send : (i : ℕ) (R : RattleType) → IsSend (param i R) → (ℓ : Lifetime) (κ : Lft) → IsSend (MutRef ℓ κ (param i R))
lent_send i R may ℓ κ = mut_send ℓ κ (param i R) may

shared_send : (i : ℕ) (R : RattleType) → IsSync (param i R) → (ℓ : Lifetime) (κ : Lft) → IsSend (ShrRef ℓ κ (param i R))
shared_send i R may ℓ κ = shr_send ℓ κ (param i R) may

pub join_mut-requires-send-F : goal.join_mut-requires-send-F
join_mut-requires-send-F g c κs within =
    let threads : (ℓ : Lifetime) (κ : Lft) → IsSend (ShrRef ℓ κ (param 0 g.row.R)) = shared_send 0 g.row.R c.type_bounds.sync-R in
    let watcher : (ℓ : Lifetime) (κ : Lft) → IsSend (MutRef ℓ κ (param 1 g.row.W)) = lent_send 1 g.row.W c.type_bounds.send-W in
    let gate : (ℓ : Lifetime) (κ : Lft) → IsSend (ShrRef ℓ κ (param 4 g.row.G)) = shared_send 4 g.row.G c.type_bounds.sync-G in
    param_send 1
    (arg-0-1 g.row.R g.row.W g.row.I g.row.O g.row.G g.R.laws g.W.laws g.I.laws g.O.laws g.G.laws g.R.Threads-dict g.W.Watcher-dict g.I.Source-dict g.O.Sink-dict g.G.Gate-dict κs)
    (search (sendable, threads, watcher, gate, words_sync, crew_send, effort_crosses.the_sync, extent_crosses.the_sync) depth 30)
