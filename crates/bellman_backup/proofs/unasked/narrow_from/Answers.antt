use Rattle.std.proofs.Common.{◌≡◌, ◌/◌, ◌≤◌, sym, subst, arith}
use Rattle.word_table.specs.view.Views.{noted_lower, CanSink}
use Rattle.word_table.specs.rule.Told.{HasOneEach}
use Rattle.word_table.specs.Seen.{Knowledge}
use Rattle.bellman_backup.proofs.Keeping.{keeps_again, keeps_count, grows}
use Rattle.bellman_backup.proofs.Finishing.{may_raise, may_sink}
use Rattle.bellman_backup.proofs.unasked.narrow_from.Goals as goal

pub raise_from-requires-clause-noted : goal.raise_from-requires-clause-noted
raise_from-requires-clause-noted c =
    subst (λ (x : Knowledge). c.args.lower ≤ noted_lower x.view c.args.id) (sym c.load_count.ensures.seen) c.requires.can.lower_noted

pub raise_from-requires-clause-allowed : goal.raise_from-requires-clause-allowed
raise_from-requires-clause-allowed c =
    let b = c.args.words.now in let l = c.args.pass.now in let m = c.load_count.new.pass in let mean = c.args.least.mean in
    let can = c.requires.can.settle in
    may_raise b can.before l m c.args.id can.last (mean.sum / mean.den) c.requires.can.word can.here can.known can.keeps can.weighed
    (keeps_count b l m c.load_count.result c.requires.here c.load_count.ensures.seen)
    (subst (λ (x : Knowledge). HasOneEach x.view) (sym c.load_count.ensures.seen) c.load_count.ensures.one) c.enough_laws.ensures.lower

pub sink_from-requires-clause-noted : goal.sink_from-requires-clause-noted
sink_from-requires-clause-noted c =
    let b = c.args.words.now in let l = c.args.pass.now in let m = c.load_count.new.pass in let n = c.raise_from.new.pass in
    let count = keeps_count b l m c.load_count.result c.requires.here c.load_count.ensures.seen in
    let later = (grows b l n (keeps_again b l m n count c.raise_from.ensures.keeps)).later.noted_upper c.args.id in
    let noted = c.requires.can.upper_noted in omega arith

pub sink_from-requires-clause-allowed : goal.sink_from-requires-clause-allowed
sink_from-requires-clause-allowed c = λ under.
    let b = c.args.words.now in let l = c.args.pass.now in let m = c.load_count.new.pass in let n = c.raise_from.new.pass in
    let mean = c.args.least.mean in let can = c.requires.can.settle in let word = c.requires.can.word in
    let count = keeps_count b l m c.load_count.result c.requires.here c.load_count.ensures.seen in
    let one = subst (λ (x : Knowledge). HasOneEach x.view) (sym c.load_count.ensures.seen) c.load_count.ensures.one in
    let is : word ≡ c.args.least.word = (let w = c.requires.can.word_is in omega arith) in
    subst (CanSink n.view c.args.id) is
    (may_sink b can.before l n c.args.id can.last (mean.sum / mean.den) word can.here can.known can.keeps can.weighed
    (keeps_again b l m n count c.raise_from.ensures.keeps) (c.raise_from.ensures.one one))

pub returns-clause-keeps : goal.returns-clause-keeps
returns-clause-keeps c =
    let b = c.args.words.now in let l = c.args.pass.now in let m = c.load_count.new.pass in let n = c.raise_from.new.pass in
    keeps_again b l m c.sink_from.new.pass (keeps_count b l m c.load_count.result c.requires.here c.load_count.ensures.seen)
    (keeps_again b m n c.sink_from.new.pass c.raise_from.ensures.keeps c.sink_from.ensures.keeps)

pub returns-clause-raised : goal.returns-clause-raised
returns-clause-raised c =
    let raised = c.raise_from.ensures.raised in
    let later = (grows c.args.words.now c.raise_from.new.pass c.sink_from.new.pass c.sink_from.ensures.keeps).later.noted_lower c.args.id in omega arith
