-- The laws of layers, by their lemmas.
use Rattle.balanced_pair.proofs.lemmas.layers.Groups.{greater_is_sub_solution, group_is_sub_solution, layers_are_sub_solution}
use Rattle.balanced_pair.proofs.layers.layer_laws.Goals as goal

pub returns-clause-greater : goal.returns-clause-greater
returns-clause-greater g c p = greater_is_sub_solution p

pub returns-clause-group : goal.returns-clause-group
returns-clause-group g c p = group_is_sub_solution p

pub returns-clause-layers : goal.returns-clause-layers
returns-clause-layers g c p = layers_are_sub_solution p
