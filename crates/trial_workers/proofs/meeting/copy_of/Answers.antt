use Rattle.trial_workers.proofs.meeting.copy_of.Goals as goal

pub split-requires-clause-keeps : goal.split-requires-clause-keeps
split-requires-clause-keeps c = λ id held. c.requires.can.right
