use Rattle.bellman_backup.proofs.Finishing.{weighed_earlier}
use Rattle.bellman_backup.proofs.Keeping.{keeps_again}
use Rattle.bellman_backup.proofs.recalling.weigh_kept.Goals as goal

pub weigh_learnt-requires-clause-known : goal.weigh_learnt-requires-clause-known
weigh_learnt-requires-clause-known c = c.learn.ensures.keeps.noted.known c.args.id c.requires.known

pub returns-clause-keeps : goal.returns-clause-keeps
returns-clause-keeps c =
    keeps_again c.args.words.now c.args.pass.now c.learn.new.pass c.weigh_learnt.new.pass c.learn.ensures.keeps c.weigh_learnt.ensures.keeps

pub returns-clause-told : goal.returns-clause-told
returns-clause-told c =
    weighed_earlier c.args.words.now c.args.pass.now c.learn.new.pass c.weigh_learnt.new.pass c.args.id c.learn.ensures.keeps c.learn.ensures.loads
    c.weigh_learnt.new.scratch.last c.weigh_learnt.result c.weigh_learnt.ensures.told
