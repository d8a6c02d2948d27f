use Rattle.std.proofs.Common.{sym, ◌∙◌}
use Rattle.std.proofs.lemmas.Bool.{eqb-true}
use Rattle.outcome_dist.proofs.lemmas.lists.Sets.{less_none}
use Rattle.outcome_dist.proofs.lists.atoms.less.Goals as goal

pub returns-then-is_empty : goal.returns-then-is_empty
returns-then-is_empty c = less_none c.args.atoms.items c.args.gone.now (eqb-true _ 0 (sym c.is_empty.ensures ∙ c.if-is_empty.true))
