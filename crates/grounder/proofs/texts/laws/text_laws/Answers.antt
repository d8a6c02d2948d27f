use Rattle.grounder.proofs.lemmas.texts.Sorting.{texts_in_order, same_texts}
use Rattle.grounder.proofs.texts.laws.text_laws.Goals as goal

pub returns-clause-order : goal.returns-clause-order
returns-clause-order c = texts_in_order

pub returns-clause-same : goal.returns-clause-same
returns-clause-same c = same_texts
