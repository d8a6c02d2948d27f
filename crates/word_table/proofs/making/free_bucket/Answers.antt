use Rattle.std.proofs.Common.{arith}
use Rattle.word_table.proofs.Turns.{bucket_is, first_free, not_free}
use Rattle.word_table.proofs.making.free_bucket.Goals as goal

pub loop-turn-init : goal.loop-turn-init
loop-turn-init c = λ m below. absurd (omega arith)

pub returns-then-words-bucket-eq0 : goal.returns-then-words-bucket-eq0
returns-then-words-bucket-eq0 c = first_free c.args.layout c.args.words.now c.args.hash _ c.loop-turn.turn c.bucket.result c.requires.layout
    (bucket_is c.args.layout c.args.hash c.from.result c.loop-turn.turn c.from.ensures) c.bucket.ensures c.if-words-bucket-eq0.true c.loop-turn.invariant

pub loop-turn-preserved : goal.loop-turn-preserved
loop-turn-preserved c = not_free c.args.layout c.args.words.now c.args.hash _ c.loop-turn.turn c.bucket.result
    (bucket_is c.args.layout c.args.hash c.from.result c.loop-turn.turn c.from.ensures) c.bucket.ensures c.if-words-bucket-eq0.false c.loop-turn.invariant

pub unreachable-requires : goal.unreachable-requires
unreachable-requires c = c.requires.free (λ m below. c.loop-turn.invariant m (let test = c.loop-turn-test.false in omega arith))
