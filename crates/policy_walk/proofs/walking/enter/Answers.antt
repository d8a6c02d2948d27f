-- The drawn start is one of the problem, so it has as many words as its states have.
use Rattle.std.proofs.Common.{length, ap, sym, ◌∙◌}
use Rattle.policy_walk.proofs.Steps.{start_long}
use Rattle.policy_walk.proofs.walking.enter.Goals as goal

pub copy_words-requires : goal.copy_words-requires
copy_words-requires c =
    c.requires.state
    ∙ sym (ap length c.words.ensures
    ∙ start_long c.args.problem.now c.starts.ensures.valid c.starts.result.now c.start_den.result c.draw.result c.drawn-start.result.now
    c.starts.ensures.value c.drawn-start.ensures)

pub returns-clause-state : goal.returns-clause-state
returns-clause-state c =
    ap length c.copy_words.ensures ∙ ap length c.words.ensures
    ∙ start_long c.args.problem.now c.starts.ensures.valid c.starts.result.now c.start_den.result c.draw.result c.drawn-start.result.now
    c.starts.ensures.value c.drawn-start.ensures
