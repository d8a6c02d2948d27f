use Rattle.std.proofs.Common.{subst}
use Rattle.word_table.specs.rule.Told.{TellsUpper}
use Rattle.word_table.specs.Seen.{Knowledge}
use Rattle.bound_words.proofs.Narrow.{interval_is_told}
use Rattle.bound_words.proofs.reading.interval.Goals as goal

pub returns-clause-told : goal.returns-clause-told
returns-clause-told c = interval_is_told c.args.words.now.problem c.args.pass.now.view c.args.id c.load_lower-lower.result c.load_upper-word.result
    c.value.result c.code.result c.load_lower-lower.ensures.told
    (subst (λ (k : Knowledge). TellsUpper c.args.words.now.problem k.view c.args.id c.load_upper-word.result) c.load_lower-lower.ensures.seen c.load_upper-word.ensures.told)
    c.value.ensures c.code.ensures
