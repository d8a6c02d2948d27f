use Rattle.std.proofs.Common.{ap, ◌∙◌, ◌+◌, rules}
use Rattle.word_table.proofs.Filling.{put_is}
use Rattle.word_table.proofs.making.put_state.Goals as goal

pub returns : goal.returns
returns c = (
  c.free_bucket-bucket.result,
  put_is c.args.problem.now c.args.layout c.args.state.now c.args.id c.free_bucket-bucket.result c.args.words.now c.write_state.new.words
      c.bucket.result c.state_word.result c.upper.result (c.from.result + 1) (c.from-2.result + 1) c.word.result c.requires.layout c.requires.words
      c.requires.id c.requires.state (search rules)
      c.bucket.ensures c.state_word.ensures c.upper.ensures (ap (λ n. n + 1) c.from.ensures) (ap (λ n. n + 1) c.from-2.ensures)
      (c.word.ensures ∙ c.first_word.ensures) c.write_state.ensures,
)
