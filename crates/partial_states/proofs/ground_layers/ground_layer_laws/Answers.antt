-- The laws of layers of a ground problem, by their lemmas.
use Rattle.partial_states.proofs.lemmas.ground_layers.Projected.{ground_layers_are_sub_solution}
use Rattle.partial_states.proofs.lemmas.ground_layers.LayerRows.{layer_rows_pass}
use Rattle.partial_states.proofs.ground_layers.ground_layer_laws.Goals as goal

pub returns-clause-rows : goal.returns-clause-rows
returns-clause-rows c g = layer_rows_pass g

pub returns-clause-lower : goal.returns-clause-lower
returns-clause-lower c g is = ground_layers_are_sub_solution g is
