-- Actions fit, by the lemmas.
use Rattle.ppddl_grammar.proofs.lemmas.fits.Actions.{action-fits, action-draws, action-is_new, action-grows}
use Rattle.ppddl_grammar.proofs.fits.action_laws.Goals as goal

pub returns : goal.returns
returns c = record { fits = action-fits; draws = action-draws; new = action-is_new; grows = action-grows }
