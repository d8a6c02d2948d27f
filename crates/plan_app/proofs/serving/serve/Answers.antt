-- The ground problem of the texts, what a search of it answers beside a server, and what is written.
use Rattle.std.proofs.Common.{◌≡◌, ◌⊎◌, inl, inr, rules, refl, sym, subst, Some, Ok, Err}
use Rattle.plan_request.specs.Asked.{to_serve}
use Rattle.plan_request.specs.Shown.{shown_solving}
use Rattle.plan_search.specs.declared.answer.Answer.{Answer}
use Rattle.plan_request.specs.declared.stop.Stop.{Stop}
use Rattle.plan_request.specs.declared.stop.Stop.TheVariants.{WriteFailed}
use Rattle.policy_server.specs.Serving.{input}
use Rattle.plan_search.specs.service.Served.{streams}
use Rattle.plan_app.specs.Endings.{IsHeld}
use Rattle.plan_app.specs.Putting.{PutsAnswers}
use Rattle.plan_app.specs.Progress.{rounds_of}
use Rattle.plan_app.proofs.Progress.{asked_told, nothing_told, told_held}
use Rattle.plan_app.proofs.Exchanges.{counts_on, counts_same}
use Rattle.plan_app.proofs.Flow.{
  serve_stops,
  puts_nothing,
  no_answer,
  served_writes,
  served_rose,
  answer_of_service,
  search_held,
  under_name,
  leaves,
  nothing_written,
  calls_alone,
  calls_behind,
  texts_write,
  unwritten_rose,
}
use Rattle.plan_app.proofs.Names.{given_names}
use Rattle.plan_app.proofs.serving.serve.Goals as goal

-- ---- the texts have no problem

pub returns-in_err-problem-clause-ends : goal.returns-in_err-problem-clause-ends
returns-in_err-problem-clause-ends g c =
    let s = shown_solving c.args.solving.now in
    let stop = puts_nothing g.S.Shelf.held g.S.Shelf.read_faults g.S.Shelf.write_faults c.args.shelf.now c.problem_of.new.shelf
    (input g.I.Source.left g.I.Source.ends g.I.Source.faults c.args.source.now) (g.O.Sink.taken c.args.out.now) (to_serve s)
    (Err c.in_err-problem.field-0.0)
    (serve_stops g.S.Shelf.held g.S.Shelf.read_faults g.S.Shelf.write_faults c.args.shelf.now s c.problem_of.new.shelf
    c.in_err-problem.field-0.0 c.in_err-problem.ensures.ends) in
    search (rules, stop)

pub returns-in_err-problem-clause-write_failed : goal.returns-in_err-problem-clause-write_failed
returns-in_err-problem-clause-write_failed g c = λ is.
    absurd (texts_write c.source_laws.ensures.stops (g.S.Shelf.held c.args.shelf.now) (shown_solving c.args.solving.now).sources _
    c.in_err-problem.field-0.0 c.in_err-problem.ensures.ends (search (rules, is)))

pub returns-in_err-problem-clause-calls : goal.returns-in_err-problem-clause-calls
returns-in_err-problem-clause-calls g c =
    calls_alone g.S.Shelf.held g.S.Shelf.calls c.args.shelf.now c.problem_of.new.shelf 1 (shown_solving c.args.solving.now).sources c.problem_of.ensures.calls

pub returns-in_err-problem-clause-shelf : goal.returns-in_err-problem-clause-shelf
returns-in_err-problem-clause-shelf g c =
    let s = shown_solving c.args.solving.now in
    nothing_written g.S.Shelf.held g.S.Shelf.read_faults g.S.Shelf.write_faults c.args.shelf.now c.problem_of.new.shelf s.certificate
    (IsHeld g.S.Shelf.held g.S.Shelf.read_faults g.S.Shelf.write_faults c.args.shelf.now c.problem_of.new.shelf s) c.problem_of.ensures.shelf

-- ---- its names are those of certificates

pub serve-requires-clause-names : goal.serve-requires-clause-names
serve-requires-clause-names g c κs within =
    given_names c.source_laws.ensures.stands (g.S.Shelf.held c.args.shelf.now) (shown_solving c.args.solving.now).sources
    c.in_ok-problem.problem c.requires.terms c.in_ok-problem.ensures.ends

-- ---- the search has no answer

pub returns-in_err-answer-clause-ends : goal.returns-in_err-answer-clause-ends
returns-in_err-answer-clause-ends g c =
    let stop = no_answer g.S.Shelf.held g.S.Shelf.read_faults g.S.Shelf.write_faults c.args.shelf.now (shown_solving c.args.solving.now)
    c.in_ok-problem.problem c.in_ok-problem.ensures.ends
    g.I.Source.left g.I.Source.ends g.I.Source.faults g.O.Sink.taken g.O.Sink.faults
    c.args.source.now c.serve.new.source c.args.out.now c.serve.new.sink c.problem_of.new.shelf
    (Err c.in_err-answer.field-0.0) c.in_err-answer.field-0.0 refl c.in_err-answer.ensures.ends in
    let same : c.from_residual-in_err-answer.result ≡ Err c.in_err-answer.field-0.0 = search rules in
    subst
    (PutsAnswers g.S.Shelf.held g.S.Shelf.read_faults g.S.Shelf.write_faults c.args.shelf.now c.problem_of.new.shelf
    (input g.I.Source.left g.I.Source.ends g.I.Source.faults c.args.source.now) (input g.I.Source.left g.I.Source.ends g.I.Source.faults c.serve.new.source)
    (g.O.Sink.taken c.args.out.now) (g.O.Sink.taken c.serve.new.sink) (Some (to_serve (shown_solving c.args.solving.now))))
    (sym same) stop

pub returns-in_err-answer-clause-write_failed : goal.returns-in_err-answer-clause-write_failed
returns-in_err-answer-clause-write_failed g c = λ is.
    let s = shown_solving c.args.solving.now in
    let shown = streams g.I.Source.left g.I.Source.ends g.I.Source.faults g.O.Sink.taken g.O.Sink.faults in
    let stop : c.in_err-answer.field-0.0 ≡ WriteFailed = search (rules, is) in
    inl (elim c.in_err-answer.ensures.ends [
      | inl serving ↦ served_rose g.S.Shelf.held g.S.Shelf.read_faults g.S.Shelf.write_faults c.args.shelf.now s c.in_ok-problem.problem c.in_ok-problem.ensures.ends
          (shown c.args.source.now c.args.out.now) (shown c.serve.new.source c.serve.new.sink) c.in_err-answer.field-0.0 serving stop
      | inr (none, same) ↦ absurd (cc (none, stop))
    ])

pub returns-in_err-answer-clause-counts : goal.returns-in_err-answer-clause-counts
returns-in_err-answer-clause-counts g c = elim c.in_err-answer.ensures.ends [
  | inl serving ↦ counts_on c.in_ok-problem.problem _ _ _ serving.served serving.replies serving.has
  | inr (none, same) ↦ counts_same g.O.Sink.faults same.1
]

pub returns-in_err-answer-clause-calls : goal.returns-in_err-answer-clause-calls
returns-in_err-answer-clause-calls g c =
    calls_alone g.S.Shelf.held g.S.Shelf.calls c.args.shelf.now c.problem_of.new.shelf 1 (shown_solving c.args.solving.now).sources c.problem_of.ensures.calls

pub returns-in_err-answer-clause-shelf : goal.returns-in_err-answer-clause-shelf
returns-in_err-answer-clause-shelf g c =
    let s = shown_solving c.args.solving.now in
    nothing_written g.S.Shelf.held g.S.Shelf.read_faults g.S.Shelf.write_faults c.args.shelf.now c.problem_of.new.shelf s.certificate
    (IsHeld g.S.Shelf.held g.S.Shelf.read_faults g.S.Shelf.write_faults c.args.shelf.now c.problem_of.new.shelf s) c.problem_of.ensures.shelf

-- ---- it has one

serving_so : {A B : Type 0} {e : Stop} {a : Answer} → A ⊎ ((Ok a ≡ Err e) × B) → A
serving_so (inl serving) = serving
serving_so (inr (is, same)) = absurd (cc is)

pub returns-clause-ends : goal.returns-clause-ends
returns-clause-ends g c =
    let s = shown_solving c.args.solving.now in
    let shown = streams g.I.Source.left g.I.Source.ends g.I.Source.faults g.O.Sink.taken g.O.Sink.faults in
    served_writes g.S.Shelf.held g.S.Shelf.read_faults g.S.Shelf.write_faults c.args.shelf.now s c.in_ok-problem.problem c.in_ok-problem.ensures.ends
    (shown c.args.source.now c.args.out.now) (shown c.serve.new.source c.serve.new.sink) c.problem_of.new.shelf c.write.new.shelf
    c.problem_of.ensures.shelf.held_same c.in_ok-answer.answer (serving_so c.in_ok-answer.ensures.ends) c.write.result
    c.problem_of.ensures.shelf.no_write_fault c.write.ensures.report c.write.ensures.written c.write.ensures.stops

pub returns-clause-write_failed : goal.returns-clause-write_failed
returns-clause-write_failed g c = λ is.
    inr (unwritten_rose g.S.Shelf.write_faults c.args.shelf.now c.problem_of.new.shelf c.write.new.shelf c.problem_of.ensures.shelf.no_write_fault
    c.write.result c.write.ensures.stops is)

pub returns-clause-counts : goal.returns-clause-counts
returns-clause-counts g c =
    let serving = serving_so c.in_ok-answer.ensures.ends in
    counts_on c.in_ok-problem.problem _ _ _ serving.served serving.replies serving.has

pub returns-clause-calls : goal.returns-clause-calls
returns-clause-calls g c =
    calls_behind g.S.Shelf.held g.S.Shelf.calls c.args.shelf.now c.problem_of.new.shelf c.write.new.shelf 1 (shown_solving c.args.solving.now).sources
    (c.in_ok-problem.problem, c.in_ok-problem.ensures.ends) c.problem_of.ensures.calls c.write.ensures.calls

pub returns-clause-shelf : goal.returns-clause-shelf
returns-clause-shelf g c =
    let s = shown_solving c.args.solving.now in
    let shown = streams g.I.Source.left g.I.Source.ends g.I.Source.faults g.O.Sink.taken g.O.Sink.faults in
    let is_answer = answer_of_service g.S.Shelf.held g.S.Shelf.read_faults g.S.Shelf.write_faults c.args.shelf.now s c.in_ok-problem.problem c.in_ok-problem.ensures.ends
    (shown c.args.source.now c.args.out.now) (shown c.serve.new.source c.serve.new.sink) c.in_ok-answer.answer (serving_so c.in_ok-answer.ensures.ends) in
    let a = c.in_ok-answer.answer in
    leaves g.S.Shelf.held g.S.Shelf.read_faults g.S.Shelf.write_faults c.args.shelf.now c.problem_of.new.shelf c.write.new.shelf
    c.problem_of.ensures.shelf.held_same s.certificate a
    (IsHeld g.S.Shelf.held g.S.Shelf.read_faults g.S.Shelf.write_faults c.args.shelf.now c.write.new.shelf s)
    (search_held g.S.Shelf.held g.S.Shelf.read_faults g.S.Shelf.write_faults c.args.shelf.now s c.in_ok-problem.problem c.in_ok-problem.ensures.ends
    a is_answer c.write.new.shelf)
    c.problem_of.ensures.shelf
    (under_name g.S.Shelf.held g.S.Shelf.read_faults g.S.Shelf.write_faults c.args.shelf.now c.problem_of.new.shelf c.write.new.shelf
    c.problem_of.ensures.shelf.held_same s.certificate a c.write.result c.write.ensures.written c.write.ensures.stops c.write.ensures.memory)
    c.write.ensures.others c.write.ensures.reads c.write.ensures.once

-- ---- what is told of its rounds

pub returns-in_err-problem-clause-tells : goal.returns-in_err-problem-clause-tells
returns-in_err-problem-clause-tells g c =
    nothing_told g.P.Sink.taken g.P.Sink.faults (rounds_of (shown_solving c.args.solving.now)) c.args.progress.now _ (λ s. search rules)

pub returns-in_err-answer-clause-tells : goal.returns-in_err-answer-clause-tells
returns-in_err-answer-clause-tells g c =
    asked_told g.P.Sink.taken g.P.Sink.faults (shown_solving c.args.solving.now) c.args.progress.now c.serve.new.watcher _ _
    c.in_err-answer.ensures.told (λ rs is. search rules)

pub returns-clause-tells : goal.returns-clause-tells
returns-clause-tells g c =
    let s = shown_solving c.args.solving.now in let a = c.in_ok-answer.answer in
    asked_told g.P.Sink.taken g.P.Sink.faults s c.args.progress.now c.serve.new.watcher _ _ c.in_ok-answer.ensures.told
    (λ rs is. told_held g.S.Shelf.held c.args.shelf.now c.problem_of.new.shelf c.write.new.shelf c.problem_of.ensures.shelf.held_same s
    c.in_ok-problem.problem c.in_ok-problem.ensures.ends a rs is c.write.result c.write.ensures.written)
