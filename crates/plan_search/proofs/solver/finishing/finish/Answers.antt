use Rattle.plan_search.proofs.lemmas.solver.Ending.{image_is_ended}
use Rattle.plan_search.proofs.solver.finishing.finish.Goals as goal

pub returns : goal.returns
returns c = image_is_ended c.args.words c.args.pass.view c.in-Ok.image c.in-Ok.ensures.ok
