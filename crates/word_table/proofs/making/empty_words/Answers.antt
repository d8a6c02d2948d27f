use Rattle.std.proofs.Common.{rules, arith}
use Rattle.word_table.proofs.Filling.{empty_is_made}
use Rattle.word_table.proofs.making.empty_words.Goals as goal

pub returns : goal.returns
returns c = empty_is_made c.args.problem.now c.args.layout c.word-quit.result c.loop-id.id c.loop-id.words.items c.loop-id.invariant
    (let past = c.loop-id-test.false in omega arith) (search rules)
