-- The pieces up to here were put.
use Rattle.std.proofs.Common.{◌≡◌, ◌++◌, ℕ, List, drop, flat_map}
use Rattle.std.specs.Borrow.{Bor}
use Rattle.std.specs.Io.KnownBytes.{Appends}
use Rattle.plan_app.proofs.progress_lines.put_pieces.Given as goal

abbrev pub invariant-loop-piece : goal.invariant-loop-piece
invariant-loop-piece g l = (text : List ℕ) × Appends (g.P.Sink.taken l.fn.sink) (g.P.Sink.taken l.sink) text
    × (flat_map (λ (piece : Bor (List ℕ)). piece.now) l.pieces ≡ text ++ flat_map (λ (piece : Bor (List ℕ)). piece.now) (drop l.piece-index l.pieces))
    × (g.P.Sink.faults l.sink ≡ g.P.Sink.faults l.fn.sink)
