use Rattle.std.proofs.Common.{sym, subst}
use Rattle.word_table.specs.rule.Told.{HasOneEach}
use Rattle.word_table.specs.Seen.{Knowledge}
use Rattle.bellman_backup.proofs.Keeping.{keeps_again, keeps_count, keeps_raised}
use Rattle.bellman_backup.proofs.Finishing.{may_raise, may_sink}
use Rattle.bellman_backup.proofs.settling.settle.Goals as goal

pub raise-requires-clause-allowed : goal.raise-requires-clause-allowed
raise-requires-clause-allowed c =
    let b = c.args.words.now in let l = c.args.pass.now in let m = c.load_count.new.pass in let can = c.requires.can in
    may_raise b can.before l m c.args.id can.last c.args.best.now.lower c.args.best.now.word can.here can.known can.keeps can.weighed
    (keeps_count b l m c.load_count.result c.requires.here c.load_count.ensures.seen)
    (subst (λ (x : Knowledge). HasOneEach x.view) (sym c.load_count.ensures.seen) c.load_count.ensures.one) c.enough_laws.ensures.lower

pub sink_upper-requires-clause-allowed : goal.sink_upper-requires-clause-allowed
sink_upper-requires-clause-allowed c =
    let b = c.args.words.now in let l = c.args.pass.now in let m = c.load_count.new.pass in let n = c.raise.new.pass in let can = c.requires.can in
    let count = keeps_count b l m c.load_count.result c.requires.here c.load_count.ensures.seen in
    let one = subst (λ (x : Knowledge). HasOneEach x.view) (sym c.load_count.ensures.seen) c.load_count.ensures.one in
    may_sink b can.before l n c.args.id can.last c.args.best.now.lower c.args.best.now.word can.here can.known can.keeps can.weighed
    (keeps_again b l m n count (keeps_raised b m n c.args.id c.args.best.now.lower count.here c.raise.ensures.seen))
    (subst (λ (x : Knowledge). HasOneEach x.view) (sym c.raise.ensures.seen) one)
