-- One more row: its state goes behind the others.
use Rattle.std.proofs.Common.{◌≡◌, ◌<◌, ◌+◌, ◌++◌, ◌∷◌, [], length, map, take, sym, ap, subst, ◌∙◌}
use Rattle.std.specs.List.{flat_map, All}
use Rattle.std.proofs.lemmas.List.{flat_map_more, map-append}
use Rattle.std.proofs.lemmas.List.Elements.{All-get_or}
use Rattle.std.proofs.lemmas.Option.{get_or_from_slice_get, slice_get_within}
use Rattle.certificate.specs.Rows.{Row, shown}
use Rattle.ground_model.specs.Choices.{is_member}
use Rattle.ground_model.proofs.Packed.{length-packed}
use Rattle.certificate_check.specs.Claims.{numbers_of, is_known, state_of_row}
use Rattle.certificate_check.specs.Packing.{state_by}
use Rattle.certificate_check.proofs.Arena.{row_more}
use Rattle.certificate_check.proofs.Popping.{rise_at}
use Rattle.certificate_check.proofs.packing.pack_rows.Goals as goal

pub turn_state-is_known-requires-clause-state : goal.turn_state-is_known-requires-clause-state
turn_state-is_known-requires-clause-state c =
    let before = c.loop-place.before.now in
    let long : length c.loop-place.state ≡ c.args.width
    = ap length c.loop-place.invariant.state ∙ length-packed (is_member (numbers_of c.args.numbers.now before)) c.args.width in
    c.loop-place.invariant.state ∙ ap (state_by c.args.numbers.now before) (sym long)

pub loop-place-preserved : goal.loop-place-preserved
loop-place-preserved c =
    let numbers = c.args.numbers.now in
    let rows = c.args.rows.now in
    let k = c.loop-place.place in
    let r : Row = shown c.row.result in
    let f : Row → _ = state_of_row numbers c.args.width in
    let more : take (k + 1) rows ≡ take k rows ++ r ∷ [] = row_more rows k r c.row.ensures in
    let long : length c.loop-place.state ≡ c.args.width
    = ap length c.loop-place.invariant.state
    ∙ length-packed (is_member (numbers_of numbers c.loop-place.before.now)) c.args.width in
    let state : c.turn_state-is_known.new.state ≡ f r
    = c.turn_state-is_known.ensures.state ∙ ap (state_by numbers r.atoms) long in
    let written : c.words.result.now ≡ f r = c.words.ensures ∙ state in
    record {
      words = c.in_ok-extend_from_slice.ensures.items
          ∙ (λ j. c.loop-place.invariant.words j ++ written j)
          ∙ flat_map_more f [] (take k rows) r ∙ ap (flat_map f) (sym more);
      known = c.in_ok-push.ensures.items
          ∙ (λ j. c.loop-place.invariant.known j ++ c.turn_state-is_known.ensures.known j ∷ [])
          ∙ sym (ap (map (is_known numbers)) more ∙ map-append (is_known numbers) (take k rows) (r ∷ []));
      within = subst (λ (x : Row). All (λ i. i < length numbers) x.atoms) (get_or_from_slice_get rows k r r c.row.ensures)
          (All-get_or (λ (x : Row). All (λ i. i < length numbers) x.atoms) rows k r (slice_get_within rows k r c.row.ensures)
          c.requires.within);
      rise = rise_at rows k r c.requires.rise c.row.ensures;
      state = state;
      told = c.turn_state-is_known.ensures.known;
    }
