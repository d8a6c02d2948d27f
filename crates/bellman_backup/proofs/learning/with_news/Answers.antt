use Rattle.bellman_backup.proofs.Keeping.{meets}
use Rattle.bellman_backup.proofs.learning.with_news.Goals as goal

pub returns-in-Some-clause-heard : goal.returns-in-Some-clause-heard
returns-in-Some-clause-heard c =
    (meets c.args.words.now c.in-Some.old c.args.pass.now c.meet.new.pass (c.requires.witness c.in-Some.old c.in-Some.is) c.requires.here c.meet.ensures.pass).1
