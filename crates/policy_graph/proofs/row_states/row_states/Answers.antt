-- The state of one more row is new, since rows are of different states.
use Rattle.std.proofs.Common.{◌≡◌, ◌<◌, ◌∙◌, List, map, Some, length, sym, ap, arith}
use Rattle.std.specs.List.{slice_get}
use Rattle.std.proofs.lemmas.List.{length-map}
use Rattle.std.proofs.lemmas.Option.{slice_get_within}
use Rattle.certificate.specs.Rows.{Row, shown}
use Rattle.certificate_check.specs.Claims.{atom_numbers, numbers_of, row_state}
use Rattle.ground_model.specs.Packed.{words_for}
use Rattle.ground_step.specs.Atoms.{state_of}
use Rattle.ground_step.specs.Names.{place_of}
use Rattle.policy_graph.proofs.Rows.{put_state, row_below, state_there, states_apart}
use Rattle.policy_graph.proofs.row_states.row_states.Goals as goal

pub state_of_row-requires : goal.state_of_row-requires
state_of_row-requires c =
    let g = c.args.problem.now in let q = c.args.certificate.now in
    let mine : Row = shown c.row.result in
    let there : slice_get q.rows c.loop-place.place ≡ Some mine
    = ap (λ (l : List Row). slice_get l c.loop-place.place) (sym c.rows-rows.ensures.value) ∙ c.row.ensures in
    let numbers : c.as_slice-numbers.result.now ≡ atom_numbers g q
    = c.as_slice-numbers.ensures.value ∙ c.in_ok-table.ensures ∙ ap (map (place_of g.atoms)) c.atoms.ensures.value in
    λ k d within.
    let below = row_below (length q.atoms) (length q.acts) q.rows c.atoms.ensures.valid.rows c.loop-place.place mine there k d within in
    omega (arith, below, ap length numbers, length-map q.atoms (place_of g.atoms))

pub loop-place-preserved : goal.loop-place-preserved
loop-place-preserved c =
    let g = c.args.problem.now in let q = c.args.certificate.now in
    let mine : Row = shown c.row.result in
    let place = c.loop-place.place in
    let states = map (row_state g q) q.rows in
    let there : slice_get q.rows place ≡ Some mine
    = ap (λ (l : List Row). slice_get l place) (sym c.rows-rows.ensures.value) ∙ c.row.ensures in
    let numbers : c.as_slice-numbers.result.now ≡ atom_numbers g q
    = c.as_slice-numbers.ensures.value ∙ c.in_ok-table.ensures ∙ ap (map (place_of g.atoms)) c.atoms.ensures.value in
    let is : c.in_ok-state.state ≡ row_state g q mine
    = c.in_ok-state.ensures ∙ ap (λ l. state_of (numbers_of l mine.atoms) (words_for (length g.atoms))) numbers in
    let within : place < length states
    = omega (arith, length-map q.rows (row_state g q), slice_get_within q.rows place mine there) in
    c.in-Ok.ensures.keys
    ∙ put_state states (states_apart g q c.requires) c.loop-place.states.keys place c.in_ok-state.state within c.loop-place.invariant
    (is ∙ state_there g q place mine there)
