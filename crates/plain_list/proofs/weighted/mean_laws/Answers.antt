-- The laws of means, by their lemmas.
use Rattle.plain_list.proofs.lemmas.weighted.Means.{mean-add, mean-times, mean-constant, mean-scaled, mean-reduced, mean-products, mean-positive, total-products, total-positive}
use Rattle.plain_list.proofs.lemmas.weighted.Merging.{mean-merged, total-merged, length-with_items}
use Rattle.plain_list.proofs.weighted.mean_laws.Goals as goal

pub returns-clause-sum : goal.returns-clause-sum
returns-clause-sum g c = mean-add

pub returns-clause-multiple : goal.returns-clause-multiple
returns-clause-multiple g c = mean-times

pub returns-clause-constant : goal.returns-clause-constant
returns-clause-constant g c = mean-constant

pub returns-clause-scaled : goal.returns-clause-scaled
returns-clause-scaled g c = mean-scaled

pub returns-clause-reduced : goal.returns-clause-reduced
returns-clause-reduced g c = mean-reduced

pub returns-clause-products : goal.returns-clause-products
returns-clause-products g c = mean-products

pub returns-clause-merged : goal.returns-clause-merged
returns-clause-merged g c = mean-merged

pub returns-clause-positive : goal.returns-clause-positive
returns-clause-positive g c = mean-positive

pub returns-clause-weight_of_products : goal.returns-clause-weight_of_products
returns-clause-weight_of_products g c = total-products

pub returns-clause-weight_of_merged : goal.returns-clause-weight_of_merged
returns-clause-weight_of_merged g c = total-merged

pub returns-clause-weight_of_positive : goal.returns-clause-weight_of_positive
returns-clause-weight_of_positive g c = total-positive

pub returns-clause-length_of_merging : goal.returns-clause-length_of_merging
returns-clause-length_of_merging g c = length-with_items
