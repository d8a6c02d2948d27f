-- Nothing behind a text leaves it.
use Rattle.std.proofs.Common.{sym, ap, ◌∙◌, ◌++◌, append-nil}
use Rattle.plan_search.specs.Under.{under_lines}
use Rattle.plan_search.proofs.answering.told_behind.Goals as goal

pub returns-in-None : goal.returns-in-None
returns-in-None c = sym (ap (λ told. c.args.report ++ under_lines told) c.in-None.is ∙ append-nil c.args.report)
