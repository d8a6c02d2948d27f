use Rattle.std.proofs.Common.{sym, subst}
use Rattle.word_table.specs.view.Views.{CanRaise}
use Rattle.word_table.specs.rule.Told.{HasOneEach}
use Rattle.word_table.specs.Seen.{Knowledge}
use Rattle.bellman_backup.proofs.Keeping.{keeps_all, keeps_raised}
use Rattle.bellman_backup.proofs.unasked.raise_from.Goals as goal

pub raise-requires-clause-allowed : goal.raise-requires-clause-allowed
raise-requires-clause-allowed c = subst (CanRaise c.args.pass.now.view c.args.id) (sym c.floor.ensures) c.requires.allowed

pub returns-then-not-exceeds-clause-keeps : goal.returns-then-not-exceeds-clause-keeps
returns-then-not-exceeds-clause-keeps c = keeps_all c.args.words.now c.args.pass.now c.requires.here

pub returns-clause-keeps : goal.returns-clause-keeps
returns-clause-keeps c = keeps_raised c.args.words.now c.args.pass.now c.raise.new.pass c.args.id _ c.requires.here c.raise.ensures.seen

pub returns-clause-one : goal.returns-clause-one
returns-clause-one c = λ one. subst (λ (x : Knowledge). HasOneEach x.view) (sym c.raise.ensures.seen) one
