-- The laws of lists that are alike, by their lemmas.
use Rattle.plain_list.proofs.lemmas.weighted.Alike.{alike_symmetric, alike_transitive, alike_scaled, alike_reduced, alike_products}
use Rattle.plain_list.proofs.lemmas.weighted.Chances.{alike_from_chances}
use Rattle.plain_list.proofs.lemmas.weighted.Related.{alike_is_below, alike_has_member}
use Rattle.plain_list.proofs.weighted.alike_laws.Goals as goal

pub returns-clause-symmetric : goal.returns-clause-symmetric
returns-clause-symmetric g c = alike_symmetric

pub returns-clause-transitive : goal.returns-clause-transitive
returns-clause-transitive g c = alike_transitive

pub returns-clause-scaled : goal.returns-clause-scaled
returns-clause-scaled g c = alike_scaled

pub returns-clause-reduced : goal.returns-clause-reduced
returns-clause-reduced g c = alike_reduced

pub returns-clause-products : goal.returns-clause-products
returns-clause-products g c = alike_products

pub returns-clause-chances : goal.returns-clause-chances
returns-clause-chances g c = alike_from_chances

pub returns-clause-below : goal.returns-clause-below
returns-clause-below g c = alike_is_below

pub returns-clause-member : goal.returns-clause-member
returns-clause-member g c = alike_has_member
