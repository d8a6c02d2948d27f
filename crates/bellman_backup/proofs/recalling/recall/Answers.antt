use Rattle.std.proofs.Common.{sym, ap, subst, ◌∙◌}
use Rattle.word_table.specs.rule.Told.{HasOneState}
use Rattle.word_table.specs.Seen.{Knowledge}
use Rattle.bellman_backup.specs.Races.{has_more_again}
use Rattle.bellman_backup.proofs.Keeping.{keeps_again, keeps_count, meets}
use Rattle.bellman_backup.proofs.recalling.recall.Goals as goal

pub load_count-requires : goal.load_count-requires
load_count-requires c =
    (meets c.args.words.now c.args.pass.now c.args.witness.now c.meet.new.pass c.requires.here.0 c.requires.here.1 c.meet.ensures.pass).0.here

pub returns-clause-keeps : goal.returns-clause-keeps
returns-clause-keeps c =
    let b = c.args.words.now in let k = c.args.pass.now in let k1 = c.meet.new.pass in let k2 = c.load_count.new.pass in
    let met = meets b k c.args.witness.now k1 c.requires.here.0 c.requires.here.1 c.meet.ensures.pass in
    keeps_again b k k1 k2 met.0 (keeps_count b k1 k2 c.load_count.result met.0.here c.load_count.ensures.seen)

pub returns-clause-loads : goal.returns-clause-loads
returns-clause-loads c = ap (λ (n : Knowledge). n.view.loads) c.load_count.ensures.seen ∙ ap (λ (n : Knowledge). n.view.loads) c.meet.ensures.pass

pub returns-clause-heard : goal.returns-clause-heard
returns-clause-heard c =
    let b = c.args.words.now in let k = c.args.pass.now in let k1 = c.meet.new.pass in let k2 = c.load_count.new.pass in
    let met = meets b k c.args.witness.now k1 c.requires.here.0 c.requires.here.1 c.meet.ensures.pass in
    has_more_again c.args.witness.now.view k1.view k2.view met.1
    (keeps_count b k1 k2 c.load_count.result met.0.here c.load_count.ensures.seen).noted

pub returns-clause-state : goal.returns-clause-state
returns-clause-state c = subst (λ (x : Knowledge). HasOneState x.view) (sym c.load_count.ensures.seen) c.load_count.ensures.state
