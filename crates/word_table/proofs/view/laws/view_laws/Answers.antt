-- The laws of views, by their lemmas.
use Rattle.word_table.proofs.lemmas.view.Seen.{more_is_later, later_is_reflexive, later_is_transitive}
use Rattle.word_table.proofs.lemmas.view.Noting.{noted_is_more, united_is_more, given_is_had, draft_is_had}
use Rattle.word_table.proofs.view.laws.view_laws.Goals as goal

pub returns-clause-later : goal.returns-clause-later
returns-clause-later c = more_is_later

pub returns-clause-reflexive : goal.returns-clause-reflexive
returns-clause-reflexive c = later_is_reflexive

pub returns-clause-transitive : goal.returns-clause-transitive
returns-clause-transitive c = later_is_transitive

pub returns-clause-noted : goal.returns-clause-noted
returns-clause-noted c = noted_is_more

pub returns-clause-united : goal.returns-clause-united
returns-clause-united c = united_is_more

pub returns-clause-given : goal.returns-clause-given
returns-clause-given c = given_is_had

pub returns-clause-draft : goal.returns-clause-draft
returns-clause-draft c = draft_is_had
