-- A piece more, or a first part of it.
use Rattle.std.proofs.Common.{◌≡◌, ◌+◌, ◌++◌, ℕ, List, [], drop, get_or, flat_map, Result, Ok, Err, refl, ap, sym, subst, ◌∙◌, append-nil}
use Rattle.std.specs.Prelude.{OnErr}
use Rattle.std.specs.Borrow.{Bor}
use Rattle.std.specs.Io.KnownBytes.{Appends}
use Rattle.std.proofs.lemmas.List.{drop_more, drop_all}
use Rattle.plan_app.proofs.Progress.{appends_none, pieces_more, pieces_part}
use Rattle.plan_app.proofs.progress_lines.put_pieces.Goals as goal

abbrev text : Bor (List ℕ) → List ℕ
text piece = piece.now

on_err : {T E : Type 0} {P : Type 0} (r : Result T E) → P → OnErr r P
on_err (Ok x) p = tt
on_err (Err e) p = p

pub loop-piece-init : goal.loop-piece-init
loop-piece-init g c = ([], appends_none (g.P.Sink.taken c.args.sink.now), refl, refl)

pub loop-piece-preserved : goal.loop-piece-preserved
loop-piece-preserved g c =
    let taken = g.P.Sink.taken in let ps = c.args.pieces.now in let i = c.loop-piece.piece-index in
    let d : Bor (List ℕ) = record { ref_ptr = (0, 0); now = [] } in
    let front = c.loop-piece.invariant.0 in
    let more = pieces_more text (taken c.args.sink.now) (taken c.loop-piece.sink) (taken c.put_all.new.sink) front (flat_map text ps)
    (get_or ps i d) (drop (i + 1) ps) c.loop-piece.invariant.1
    (c.loop-piece.invariant.2 ∙ ap (λ l. front ++ flat_map text l) (drop_more ps i d c.loop-piece-test.true)) c.in_ok-put_all.ensures.all in
    (more.0, more.1, more.2, c.in_ok-put_all.ensures.cause.steady ∙ c.loop-piece.invariant.3)

pub returns-in_err-put_all-clause-prefix : goal.returns-in_err-put_all-clause-prefix
returns-in_err-put_all-clause-prefix g c =
    let taken = g.P.Sink.taken in let ps = c.args.pieces.now in let i = c.loop-piece.piece-index in
    let d : Bor (List ℕ) = record { ref_ptr = (0, 0); now = [] } in
    let front = c.loop-piece.invariant.0 in
    on_err c.from_residual.result
    (pieces_part text (taken c.args.sink.now) (taken c.loop-piece.sink) (taken c.put_all.new.sink) front (flat_map text ps)
    (get_or ps i d) (drop (i + 1) ps) c.loop-piece.invariant.1
    (c.loop-piece.invariant.2 ∙ ap (λ l. front ++ flat_map text l) (drop_more ps i d c.loop-piece-test.true)) c.in_err-put_all.ensures.prefix)

pub returns-clause-all : goal.returns-clause-all
returns-clause-all g c =
    let ps = c.args.pieces.now in let i = c.loop-piece.piece-index in let front = c.loop-piece.invariant.0 in
    let is : flat_map text ps ≡ front =
    c.loop-piece.invariant.2 ∙ ap (λ l. front ++ flat_map text l) (drop_all i ps c.loop-piece-test.false) ∙ append-nil front in
    subst (Appends (g.P.Sink.taken c.args.sink.now) (g.P.Sink.taken c.loop-piece.sink)) (sym is) c.loop-piece.invariant.1
