-- Workers may go to another thread, and words may be shared by threads.
use Rattle.std.proofs.Common.{subst}
use denote.Param.Send.{IsSend, IsSync, Common, sendable}
use Rattle.std.proofs.Crossing.{crosses}
use Rattle.std.proofs.alloc.Global.TheSendSync as heap
use Rattle.atomic_table.proofs.owned.Table.TheSendSync as table_crosses
use Rattle.plain_list.proofs.boxed.Boxed.TheSendSync as boxed_crosses
use Rattle.plain_list.proofs.list.List.TheSendSync as list_crosses
use Rattle.plain_list.proofs.text.Text.TheSendSync as text_crosses
use Rattle.plain_list.proofs.shared.shared_list.SharedList.TheSendSync as shared_crosses
use Rattle.ground_model.proofs.condition.GroundCondition.TheLaws.TheKnot as condition_crosses
use Rattle.ground_model.proofs.state.State.TheSendSync as state_crosses
use Rattle.ground_model.proofs.start.Start.TheSendSync as start_crosses
use Rattle.applicable_actions.proofs.entry_runs.EntryRuns.TheSendSync as runs_cross
use Rattle.applicable_actions.proofs.word_test.WordTest.TheSendSync as test_crosses
use Rattle.applicable_actions.proofs.distinct.span.Span.TheSendSync as span_crosses
use Rattle.applicable_actions.proofs.distinct.distinct_codes.DistinctCodes.TheSendSync as distinct_cross
use Rattle.kept_transitions.proofs.kept.Kept.TheSendSync as kept_crosses
use Rattle.bellman_backup.proofs.steps.Steps.TheSendSync as steps_cross
use Rattle.brtdp_trial.proofs.path.Path.TheSendSync as path_crosses
use Rattle.word_table.proofs.layout.Layout.TheSendSync as layout_crosses
use Rattle.word_table.proofs.pass.Pass.TheSendSync as pass_crosses
use Rattle.ground_model.specs.contracts.condition.GroundCondition as condition
use Rattle.ground_model.specs.contracts.action.Guarded as guarded
use Rattle.ground_model.specs.contracts.action.Choice as choice
use Rattle.ground_model.specs.contracts.action.GroundAction as action
use Rattle.ground_model.specs.contracts.problem.GroundProblem as problem
use Rattle.ground_step.specs.contracts.prepared_choice.PreparedChoice as prepared_choice
use Rattle.applicable_actions.specs.contracts.masked.Masked as masked
use Rattle.applicable_actions.specs.contracts.action_index.ActionIndex as index
use Rattle.applicable_actions.specs.contracts.distinct.prepared_actions.PreparedActions as prepared
use Rattle.applicable_actions.specs.contracts.distinct.distinct_actions.DistinctActions as distinct
use Rattle.word_table.specs.contracts.words.Words as words
use Rattle.bellman_backup.specs.contracts.scratch.Scratch as scratch
use Rattle.trial_workers.specs.contracts.worker.Worker as worker

-- ---- conditions hold conditions

pub condition_sync : IsSync (condition.the_field).row
condition_sync = condition_crosses.sync-GroundCondition (search sendable) (λ h s. search (sendable, crosses, boxed_crosses.the_sync)) (λ h s. search (sendable, crosses, list_crosses.the_sync))

pub hole_sync : IsSync condition.the_hole
hole_sync = condition_crosses.hole_sync-GroundCondition (search sendable) (λ h s. search (sendable, crosses, boxed_crosses.the_sync)) (λ h s. search (sendable, crosses, list_crosses.the_sync))

pub condition_row_sync : IsSync condition.the_row
condition_row_sync = record { shared = λ x b o. subst (λ s. Common (s b o)) (condition.shr_is x) (hole_sync.shared x b o) }

pub condition_send : IsSend (condition.the_field).row
condition_send = condition_crosses.send-GroundCondition (search sendable) (λ h s. search (sendable, crosses, boxed_crosses.the_send)) (λ h s. search (sendable, crosses, list_crosses.the_send))

-- ---- a ground problem, whose choices are shared

pub guarded_send : IsSend guarded.the_row
guarded_send = search (sendable, crosses, list_crosses.the_send, condition_send) depth 30

pub choice_send : IsSend choice.the_row
choice_send = search (sendable, crosses, list_crosses.the_send, guarded_send) depth 30

pub guarded_sync : IsSync guarded.the_row
guarded_sync = search (sendable, crosses, list_crosses.the_sync, condition_sync) depth 30

pub choice_sync : IsSync choice.the_row
choice_sync = search (sendable, crosses, list_crosses.the_sync, guarded_sync) depth 30

pub action_sync : IsSync action.the_row
action_sync = search (sendable, crosses, text_crosses.the_sync, shared_crosses.the_sync, condition_sync, choice_send, choice_sync) depth 30

pub problem_sync : IsSync problem.the_row
problem_sync = search (sendable, crosses, list_crosses.the_sync, text_crosses.the_sync, start_crosses.the_sync, condition_sync, action_sync) depth 30

-- ---- workers

pub masked_send : (ℓ : _) → IsSend (masked.the_row ℓ)
masked_send ℓ = search (sendable, crosses, list_crosses.the_send, test_crosses.the_send, condition_row_sync) depth 30

pub index_send : (ℓ : _) → IsSend (index.the_row ℓ)
index_send ℓ = search (sendable, crosses, list_crosses.the_send, runs_cross.the_send, masked_send, problem_sync) depth 30

pub masked_sync : (ℓ : _) → IsSync (masked.the_row ℓ)
masked_sync ℓ = search (sendable, crosses, list_crosses.the_sync, test_crosses.the_sync, condition_row_sync) depth 30

pub index_sync : (ℓ : _) → IsSync (index.the_row ℓ)
index_sync ℓ = search (sendable, crosses, list_crosses.the_sync, runs_cross.the_sync, masked_sync, problem_sync) depth 30

pub prepared_choice_send : (ℓ : _) → IsSend (prepared_choice.the_row ℓ)
prepared_choice_send ℓ = search (sendable, crosses, choice_sync) depth 30

pub prepared_choice_sync : (ℓ : _) → IsSync (prepared_choice.the_row ℓ)
prepared_choice_sync ℓ = search (sendable, crosses, choice_sync) depth 30

pub prepared_send : (ℓ : _) → IsSend (prepared.the_row ℓ)
prepared_send ℓ = search (sendable, crosses, span_crosses.the_send, prepared_choice_send) depth 30

pub prepared_sync : (ℓ : _) → IsSync (prepared.the_row ℓ)
prepared_sync ℓ = search (sendable, crosses, span_crosses.the_sync, prepared_choice_sync) depth 30

pub distinct_send : (ℓ : _) → IsSend (distinct.the_row ℓ)
distinct_send ℓ = search (sendable, crosses, index_send, prepared_send) depth 30

pub distinct_sync : (ℓ : _) → IsSync (distinct.the_row ℓ)
distinct_sync ℓ = search (sendable, crosses, index_sync, prepared_sync) depth 30

pub scratch_send : (ℓ : _) → IsSend (scratch.the_row ℓ)
scratch_send ℓ = search (sendable, crosses, distinct_send, distinct_sync, distinct_cross.the_send, state_crosses.the_send, steps_cross.the_send, kept_crosses.the_send, kept_crosses.the_sync, pass_crosses.the_send) depth 40

pub worker_send : (ℓ : _) → IsSend (worker.the_row ℓ)
worker_send ℓ = search (sendable, pass_crosses.the_send, path_crosses.the_send, scratch_send) depth 30

-- ---- words

pub words_sync : (ℓ : _) → IsSync (words.the_row ℓ)
words_sync ℓ = search (sendable, crosses, heap.the_send, heap.the_sync, layout_crosses.the_sync, table_crosses.the_field_sync, problem_sync) depth 40
