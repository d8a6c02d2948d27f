use Rattle.task_instances.proofs.lemmas.variables.Alike.{condition_alike, choices_alike, widest_alike, charged_alike, joint_alike}
use Rattle.task_instances.proofs.variables.laws.named_laws.Goals as goal

pub returns-clause-condition : goal.returns-clause-condition
returns-clause-condition c = condition_alike

pub returns-clause-choices : goal.returns-clause-choices
returns-clause-choices c = choices_alike

pub returns-clause-widest : goal.returns-clause-widest
returns-clause-widest c = widest_alike

pub returns-clause-charged : goal.returns-clause-charged
returns-clause-charged c = charged_alike

pub returns-clause-joint : goal.returns-clause-joint
returns-clause-joint c = joint_alike
