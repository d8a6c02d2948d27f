use Rattle.std.proofs.Common.{refl, rules, sym, subst}
use Rattle.word_table.specs.Seen.{Knowledge}
use Rattle.bellman_backup.proofs.Keeping.{keeps_interval}
use Rattle.bellman_backup.specs.means.Sums.{IsReadOf}
use Rattle.bellman_backup.proofs.lemmas.means.Adding.{off_goal_is_read, goal_is_read}
use Rattle.bellman_backup.proofs.means.reading.read_start.Goals as goal

pub returns-then-is_goal-clause-keeps : goal.returns-then-is_goal-clause-keeps
returns-then-is_goal-clause-keeps c = keeps_interval c.args.words.now c.args.pass.now c.interval-found.new.pass c.args.id c.interval-found.result c.requires.here c.interval-found.ensures.seen

pub returns-else-is_goal-clause-keeps : goal.returns-else-is_goal-clause-keeps
returns-else-is_goal-clause-keeps c = keeps_interval c.args.words.now c.args.pass.now c.interval-found.new.pass c.args.id c.interval-found.result c.requires.here c.interval-found.ensures.seen

pub returns-then-is_goal-clause-read : goal.returns-then-is_goal-clause-read
returns-then-is_goal-clause-read c =
    let g = c.args.words.now.problem in let v = c.args.pass.now.view in let s = c.args.start.now.state in
    subst (λ (k : Knowledge). IsReadOf g v k.view c.args.id s record { lower = c.interval-found.result.lower; upper = 0 }) (sym c.interval-found.ensures.seen)
    (goal_is_read g v c.args.id s c.requires.has c.requires.here.view.problem c.interval-found.result (search rules) c.interval-found.ensures.told
    record { lower = c.interval-found.result.lower; upper = 0 } refl (search rules) refl)

pub returns-else-is_goal-clause-read : goal.returns-else-is_goal-clause-read
returns-else-is_goal-clause-read c =
    let g = c.args.words.now.problem in let v = c.args.pass.now.view in let s = c.args.start.now.state in
    subst (λ (k : Knowledge). IsReadOf g v k.view c.args.id s record { lower = c.interval-found.result.lower; upper = c.interval-found.result.upper }) (sym c.interval-found.ensures.seen)
    (off_goal_is_read g v c.args.id s c.requires.has c.requires.here.view.problem c.interval-found.result (search rules) c.interval-found.ensures.told
    record { lower = c.interval-found.result.lower; upper = c.interval-found.result.upper } refl (search rules) refl)
