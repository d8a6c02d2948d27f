use Rattle.std.proofs.Common.{◌∙◌}
use Rattle.ppddl_lex.proofs.Lowered.{agree_same, same_word-Decides}
use Rattle.ppddl_lex.proofs.words.is_same_word.Goals as goal

pub returns-then-word-lower-clause-test : goal.returns-then-word-lower-clause-test
returns-then-word-lower-clause-test c = c.agrees.ensures ∙ agree_same c.args.word.now c.args.lower.now c.if-word-lower.true

pub returns-then-word-lower-clause-same : goal.returns-then-word-lower-clause-same
returns-then-word-lower-clause-same c =
    same_word-Decides c.args.word.now c.args.lower.now c.agrees.result (returns-then-word-lower-clause-test c)
