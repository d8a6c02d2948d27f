-- Layers and partial rows that pass their tests make a balanced pair.
use Rattle.std.specs.Cmp.Lexicographic.{bytes_decides}
use Rattle.balanced_pair.proofs.Halves.{halves_are_balanced}
use Rattle.balanced_pair.proofs.Rows.{certificate_encloses}
use Rattle.ground_model.specs.Packed.{same_state}
use Rattle.ground_model.specs.Ground.{Ground}
use Rattle.ground_model.specs.Invariant.{IsGroundProblem}
use Rattle.ground_model.specs.Steps.{ground_process, ground_starts}
use Rattle.ground_model.proofs.Steps.{start_den_positive}
use Rattle.partial_states.specs.informed.Informed.{informed}
use Rattle.partial_states.specs.informed.Laws as laws
use Rattle.partial_states.proofs.lemmas.ground_rows.Taken.{ground_rows_are_super_solution}
use Rattle.partial_states.proofs.lemmas.ground_layers.Projected.{ground_layers_are_sub_solution}

pub informed_is_balanced : (g : Ground) → IsGroundProblem g → laws.InformedIsBalanced g
informed_is_balanced g is groups rows passes =
    let pair = informed g groups rows in
    (halves_are_balanced (ground_process g) pair.low pair.high pair.act).1 (
      ground_layers_are_sub_solution g is groups passes.layers,
      ground_rows_are_super_solution g is rows passes.partial_rows,
    )

pub informed_encloses : (g : Ground) → IsGroundProblem g → laws.InformedEncloses g
informed_encloses g is groups rows passes c over =
    certificate_encloses (ground_process g) same_state (λ x y. bytes_decides x y) (informed g groups rows)
    (informed_is_balanced g is groups rows passes) (ground_starts g) g.start_den (start_den_positive g is) c over
