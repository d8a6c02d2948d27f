use Rattle.std.proofs.Common.{◌≡◌, take}
use Rattle.certificate_check.specs.Claims.{numbered}
use Rattle.ground_step.specs.Names.{action_names}
use Rattle.policy_walk.proofs.tables.action_codes.Given as goal

abbrev pub invariant-loop-text : goal.invariant-loop-text
invariant-loop-text l = l.codes.items ≡ numbered (action_names l.problem) (take l.text-index l.texts)
