-- A request that starts no server puts nothing but its ending.
use Rattle.std.proofs.Common.{sym, subst, Some}
use Rattle.plan_request.specs.Asked.{to_solve, to_check, to_ground, to_bench, to_merge, to_walk, to_draw}
use Rattle.plan_request.specs.Shown.{shown_sources, shown_solving, shown_merging, shown_walking, shown_drawing, shown_request}
use Rattle.policy_server.specs.Serving.{input}
use Rattle.plan_app.specs.Putting.{PutsAnswers}
use Rattle.plan_app.proofs.Flow.{measured, puts_nothing}
use Rattle.plan_app.proofs.commands.answer.Goals as goal

pub returns-in-Solve-clause-ends : goal.returns-in-Solve-clause-ends
returns-in-Solve-clause-ends g c =
    subst
    (λ r. PutsAnswers g.S.Shelf.held g.S.Shelf.read_faults g.S.Shelf.write_faults c.args.shelf.now c.solve.new.shelf
    (input g.I.Source.left g.I.Source.ends g.I.Source.faults c.args.source.now)
    (input g.I.Source.left g.I.Source.ends g.I.Source.faults c.args.source.now)
    (g.O.Sink.taken c.args.out.now) (g.O.Sink.taken c.args.out.now) (Some (shown_request r)) c.solve.result)
    (sym c.in-Solve.is)
    (puts_nothing g.S.Shelf.held g.S.Shelf.read_faults g.S.Shelf.write_faults c.args.shelf.now c.solve.new.shelf
    (input g.I.Source.left g.I.Source.ends g.I.Source.faults c.args.source.now) (g.O.Sink.taken c.args.out.now)
    (to_solve (shown_solving c.in-Solve.solving)) c.solve.result c.solve.ensures.ends)

pub returns-in-Check-clause-ends : goal.returns-in-Check-clause-ends
returns-in-Check-clause-ends g c =
    subst
    (λ r. PutsAnswers g.S.Shelf.held g.S.Shelf.read_faults g.S.Shelf.write_faults c.args.shelf.now c.check.new.shelf
    (input g.I.Source.left g.I.Source.ends g.I.Source.faults c.args.source.now)
    (input g.I.Source.left g.I.Source.ends g.I.Source.faults c.args.source.now)
    (g.O.Sink.taken c.args.out.now) (g.O.Sink.taken c.args.out.now) (Some (shown_request r)) c.check.result)
    (sym c.in-Check.is)
    (puts_nothing g.S.Shelf.held g.S.Shelf.read_faults g.S.Shelf.write_faults c.args.shelf.now c.check.new.shelf
    (input g.I.Source.left g.I.Source.ends g.I.Source.faults c.args.source.now) (g.O.Sink.taken c.args.out.now)
    (to_check (shown_sources c.in-Check.sources) c.in-Check.certificate.now) c.check.result c.check.ensures.ends)

pub returns-in-Ground-clause-ends : goal.returns-in-Ground-clause-ends
returns-in-Ground-clause-ends g c =
    subst
    (λ r. PutsAnswers g.S.Shelf.held g.S.Shelf.read_faults g.S.Shelf.write_faults c.args.shelf.now c.ground.new.shelf
    (input g.I.Source.left g.I.Source.ends g.I.Source.faults c.args.source.now)
    (input g.I.Source.left g.I.Source.ends g.I.Source.faults c.args.source.now)
    (g.O.Sink.taken c.args.out.now) (g.O.Sink.taken c.args.out.now) (Some (shown_request r)) c.ground.result)
    (sym c.in-Ground.is)
    (puts_nothing g.S.Shelf.held g.S.Shelf.read_faults g.S.Shelf.write_faults c.args.shelf.now c.ground.new.shelf
    (input g.I.Source.left g.I.Source.ends g.I.Source.faults c.args.source.now) (g.O.Sink.taken c.args.out.now)
    (to_ground (shown_sources c.in-Ground.sources)) c.ground.result c.ground.ensures.ends)

pub returns-in-Bench-clause-ends : goal.returns-in-Bench-clause-ends
returns-in-Bench-clause-ends g c =
    subst
    (λ r. PutsAnswers g.S.Shelf.held g.S.Shelf.read_faults g.S.Shelf.write_faults c.args.shelf.now c.args.shelf.now
    (input g.I.Source.left g.I.Source.ends g.I.Source.faults c.args.source.now)
    (input g.I.Source.left g.I.Source.ends g.I.Source.faults c.args.source.now)
    (g.O.Sink.taken c.args.out.now) (g.O.Sink.taken c.args.out.now) (Some (shown_request r)) c.bench.result)
    (sym c.in-Bench.is)
    (puts_nothing g.S.Shelf.held g.S.Shelf.read_faults g.S.Shelf.write_faults c.args.shelf.now c.args.shelf.now
    (input g.I.Source.left g.I.Source.ends g.I.Source.faults c.args.source.now) (g.O.Sink.taken c.args.out.now)
    (to_bench c.in-Bench.places c.in-Bench.seed) c.bench.result
    (measured g.S.Shelf.held g.S.Shelf.read_faults g.S.Shelf.write_faults c.args.shelf.now c.args.shelf.now c.in-Bench.places c.in-Bench.seed
    c.bench.result c.bench.ensures))

pub returns-in-Merge-clause-ends : goal.returns-in-Merge-clause-ends
returns-in-Merge-clause-ends g c =
    subst
    (λ r. PutsAnswers g.S.Shelf.held g.S.Shelf.read_faults g.S.Shelf.write_faults c.args.shelf.now c.merge.new.shelf
    (input g.I.Source.left g.I.Source.ends g.I.Source.faults c.args.source.now)
    (input g.I.Source.left g.I.Source.ends g.I.Source.faults c.args.source.now)
    (g.O.Sink.taken c.args.out.now) (g.O.Sink.taken c.args.out.now) (Some (shown_request r)) c.merge.result)
    (sym c.in-Merge.is)
    (puts_nothing g.S.Shelf.held g.S.Shelf.read_faults g.S.Shelf.write_faults c.args.shelf.now c.merge.new.shelf
    (input g.I.Source.left g.I.Source.ends g.I.Source.faults c.args.source.now) (g.O.Sink.taken c.args.out.now)
    (to_merge (shown_merging c.in-Merge.merging)) c.merge.result c.merge.ensures.ends)

pub returns-in-Walk-clause-ends : goal.returns-in-Walk-clause-ends
returns-in-Walk-clause-ends g c =
    subst
    (λ r. PutsAnswers g.S.Shelf.held g.S.Shelf.read_faults g.S.Shelf.write_faults c.args.shelf.now c.walk.new.shelf
    (input g.I.Source.left g.I.Source.ends g.I.Source.faults c.args.source.now)
    (input g.I.Source.left g.I.Source.ends g.I.Source.faults c.args.source.now)
    (g.O.Sink.taken c.args.out.now) (g.O.Sink.taken c.args.out.now) (Some (shown_request r)) c.walk.result)
    (sym c.in-Walk.is)
    (puts_nothing g.S.Shelf.held g.S.Shelf.read_faults g.S.Shelf.write_faults c.args.shelf.now c.walk.new.shelf
    (input g.I.Source.left g.I.Source.ends g.I.Source.faults c.args.source.now) (g.O.Sink.taken c.args.out.now)
    (to_walk (shown_walking c.in-Walk.walking)) c.walk.result c.walk.ensures.ends)

pub returns-in-Draw-clause-ends : goal.returns-in-Draw-clause-ends
returns-in-Draw-clause-ends g c =
    subst
    (λ r. PutsAnswers g.S.Shelf.held g.S.Shelf.read_faults g.S.Shelf.write_faults c.args.shelf.now c.draw.new.shelf
    (input g.I.Source.left g.I.Source.ends g.I.Source.faults c.args.source.now)
    (input g.I.Source.left g.I.Source.ends g.I.Source.faults c.args.source.now)
    (g.O.Sink.taken c.args.out.now) (g.O.Sink.taken c.args.out.now) (Some (shown_request r)) c.draw.result)
    (sym c.in-Draw.is)
    (puts_nothing g.S.Shelf.held g.S.Shelf.read_faults g.S.Shelf.write_faults c.args.shelf.now c.draw.new.shelf
    (input g.I.Source.left g.I.Source.ends g.I.Source.faults c.args.source.now) (g.O.Sink.taken c.args.out.now)
    (to_draw (shown_drawing c.in-Draw.drawing)) c.draw.result c.draw.ensures.ends)
