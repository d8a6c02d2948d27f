use Rattle.kept_transitions.proofs.Growth.{grown_all, id_grown}
use Rattle.bellman_backup.proofs.expanding.keep_id.Goals as goal

pub returns-in-Some-clause-grown : goal.returns-in-Some-clause-grown
returns-in-Some-clause-grown c = id_grown c.args.kept.now c.push_id.new.self c.in-Some.id c.push_id.result c.push_id.ensures

pub returns-in-None-clause-grown : goal.returns-in-None-clause-grown
returns-in-None-clause-grown c = grown_all c.args.kept.now
