-- A first part of the pieces is one of the line.
use Rattle.std.proofs.Common.{◌≡◌, List, ℕ, flat_map, subst, ap, ◌∙◌}
use Rattle.std.specs.Prelude.{OnErr, decimal}
use Rattle.std.specs.Borrow.{Bor}
use Rattle.shelf_io.specs.Streams.{PutsPrefix}
use Rattle.plan_app.specs.Progress.{progress_line}
use Rattle.plan_app.proofs.Progress.{line_same}
use Rattle.plan_app.proofs.progress_lines.put_line.Goals as goal

pub returns-clause-prefix : goal.returns-clause-prefix
returns-clause-prefix g c =
    let rounds = c.as_bytes.ensures.value ∙ c.format.ensures.text ∙ ap decimal c.from.ensures in
    let states = c.as_bytes-2.ensures.value ∙ c.format-2.ensures.text ∙ ap decimal c.from-2.ensures in
    let is : flat_map (λ (piece : Bor (List ℕ)). piece.now) c.as_slice.result.now ≡ progress_line c.args.reading.now =
    ap (flat_map (λ (piece : Bor (List ℕ)). piece.now)) c.as_slice.ensures
    ∙ line_same rounds c.put_units-lower_end.ensures.text c.put_units-upper_end.ensures.text states in
    subst (λ text. OnErr c.put_pieces.result (PutsPrefix (g.P.Sink.taken c.args.sink.now) (g.P.Sink.taken c.put_pieces.new.sink) text))
    is c.put_pieces.ensures.prefix
