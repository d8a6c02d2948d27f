-- The words, as they are looked at, are numbers of 64 bits.
use Rattle.std.proofs.Common.{subst, rules}
use Rattle.ground_step.proofs.Packed.{AreWords, are_words}
use Rattle.kept_transitions.proofs.IdleChoices.{idle_stays}
use Rattle.kept_transitions.proofs.idle.idle_law.Goals as goal

pub returns : goal.returns
returns c = λ choice idle.
    let are : AreWords c.words-words.result.now = are_words c.words-words.result.now (search rules) in
    idle_stays c.args.state.now choice (subst AreWords c.words-words.ensures are) idle
