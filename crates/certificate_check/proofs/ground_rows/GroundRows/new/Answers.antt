-- The parts are made of the certificate's.
use Rattle.std.proofs.Common.{◌≡◌, map, sym, ap, subst, ◌∙◌}
use Rattle.std.specs.List.{flat_map}
use Rattle.ground_step.specs.Names.{place_of, action_names}
use Rattle.certificate_check.specs.Claims.{atom_numbers, is_known, state_of_row}
use Rattle.certificate_check.specs.Packing.{NumbersDiffer}
use Rattle.certificate_check.proofs.Distinct.{numbers_differ}
use Rattle.certificate_check.proofs.ground_rows.GroundRows.new.Goals as goal

pub pack_rows-requires-clause-differ : goal.pack_rows-requires-clause-differ
pack_rows-requires-clause-differ c =
    let g = c.args.problem.now in
    let q = c.args.certificate.now in
    let numbers : c.as_slice.result.now ≡ atom_numbers g q
    = c.as_slice.ensures.value ∙ c.in_ok-numbers.ensures ∙ ap (map (place_of g.atoms)) c.atoms.ensures.value in
    subst NumbersDiffer (sym numbers) (numbers_differ g q c.atoms.ensures.valid.atoms_rise)

pub invariant_of-result : goal.invariant_of-result
invariant_of-result c =
    let g = c.args.problem.now in
    let numbers : c.as_slice.result.now ≡ atom_numbers g c.args.certificate.now
    = c.as_slice.ensures.value ∙ c.in_ok-numbers.ensures ∙ ap (map (place_of g.atoms)) c.atoms.ensures.value in
    let width = c.state_width-width.ensures.width in
    record {
      width_is = width;
      words_are = c.in_ok-words.ensures.words
          ∙ (λ j. flat_map (state_of_row (numbers j) (width j)) (c.rows.ensures.value j));
      known_are = c.in_ok-words.ensures.known ∙ (λ j. map (is_known (numbers j)) (c.rows.ensures.value j));
      codes_are = c.in_ok-actions.ensures ∙ ap (map (place_of (action_names g))) c.acts.ensures.value;
    }
