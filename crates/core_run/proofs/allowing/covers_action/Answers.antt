-- What is seen of upper words is worth no more than the first ones.
use Rattle.core_run.proofs.Firsts.{seen_value_within}
use Rattle.core_run.proofs.allowing.covers_action.Goals as goal

pub action_value-own-requires-clause-bounded : goal.action_value-own-requires-clause-bounded
action_value-own-requires-clause-bounded c =
    seen_value_within c.args.problem.now c.requires.problem c.args.board.now.ids.items c.args.seen.now
