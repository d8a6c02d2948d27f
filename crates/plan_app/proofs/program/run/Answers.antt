-- The clauses of the top call, from how the words may end and what was put.
use Rattle.std.proofs.Common.{◌≡◌, ◌≢◌, ◌⊎◌, ◌++◌, inl, inr, sym, ap, ◌∙◌, subst, arith, Err}
use Rattle.std.specs.Prelude.{IfOk}
use Rattle.std.specs.Io.KnownBytes.{Appends}
use Rattle.shelf_io.specs.Causes.{Rose}
use Rattle.policy_server.specs.Serving.{input}
use Rattle.plan_request.specs.stop.Stop.{ending_text}
use Rattle.plan_request.specs.declared.stop.status.TheConstants.{WRITE_FAILED}
use Rattle.plan_request.specs.declared.stop.Stop.TheVariants.{WriteFailed}
use Rattle.plan_app.specs.Asking.{asked_by, AsksToWrite}
use Rattle.plan_app.specs.Endings.{MayEndAs}
use Rattle.plan_app.specs.Putting.{PutsAnswers}
use Rattle.plan_app.specs.Verdicts.{IsAnswerTo}
use Rattle.plan_app.proofs.Asked.{asked_range, check_terms, ground_terms, solve_range, serve_range, merge_terms, walk_terms, draw_terms, judged_terms}
use Rattle.plan_app.proofs.Exchanges.{rose_on}
use Rattle.plan_app.proofs.Answering.{answer_with, write_rose}
use Rattle.plan_app.proofs.Statuses.{
  ended,
  put_whole,
  cut,
  request_ends,
  bad_words_exactly,
  refused_exactly,
  refusal_put,
  limited_so,
  limited_by,
  grounded_exactly,
  accepted_exactly,
  rejected_exactly,
  policy_ends,
  problem_put,
  report_put,
  read_failed_only,
  write_failed_for,
}
use Rattle.plan_app.proofs.Merged.{merged_exactly, unmerged_exactly, merge_put}
use Rattle.plan_app.proofs.Walked.{walks_told}
use Rattle.plan_app.proofs.Drawn.{draw_put}
use Rattle.plan_app.proofs.Solved.{solution_put, service_put, measure_put, report_is_a_verdict}
use Rattle.plan_app.specs.Progress.{TellsAsked, AreToldOf}
use Rattle.plan_app.proofs.Progress.{told_in, none_in, reported, rounds_reported}
use Rattle.plan_app.proofs.program.run.Given.{Over}
use Rattle.plan_app.proofs.program.run.Goals as goal

-- what the parts of the run put
abbrev puts_at : (g : Over) (c : goal.After-put_ending g)
    → PutsAnswers g.S.Shelf.held g.S.Shelf.read_faults g.S.Shelf.write_faults c.args.shelf.now c.report_of-ending.new.shelf
    (input g.I.Source.left g.I.Source.ends g.I.Source.faults c.args.source.now)
    (input g.I.Source.left g.I.Source.ends g.I.Source.faults c.report_of-ending.new.source)
    (g.O.Sink.taken c.args.out.now) (g.O.Sink.taken c.report_of-ending.new.out) (asked_by c.args.words.now) c.report_of-ending.result
puts_at g c = c.report_of-ending.ensures.ends

-- how the run ended, if its text was put whole
ended_at : (g : Over) (c : goal.After-put_ending g) (written : c.put_ending.result ≢ WRITE_FAILED)
    → MayEndAs g.S.Shelf.held g.S.Shelf.read_faults g.S.Shelf.write_faults c.args.words.now c.args.shelf.now c.report_of-ending.new.shelf
    (input g.I.Source.left g.I.Source.ends g.I.Source.faults c.args.source.now)
    (input g.I.Source.left g.I.Source.ends g.I.Source.faults c.report_of-ending.new.source) c.put_ending.result
    ((puts_at g c).answers ++ ending_text (c.put_ending.ensures.put written).said)
ended_at g c written = ended g.S.Shelf.held g.S.Shelf.read_faults g.S.Shelf.write_faults c.args.words.now c.args.shelf.now c.report_of-ending.new.shelf
    _ _ _ _ c.report_of-ending.result (puts_at g c) c.put_ending.result _ (c.put_ending.ensures.put written)

-- and what was put then
put_at : (g : Over) (c : goal.After-put_ending g) (written : c.put_ending.result ≢ WRITE_FAILED)
    → Appends (g.O.Sink.taken c.args.out.now) (g.O.Sink.taken c.put_ending.new.out)
    ((puts_at g c).answers ++ ending_text (c.put_ending.ensures.put written).said)
put_at g c written = put_whole g.S.Shelf.held g.S.Shelf.read_faults g.S.Shelf.write_faults c.args.words.now c.args.shelf.now c.report_of-ending.new.shelf
    _ _ _ _ c.report_of-ending.result (puts_at g c) c.put_ending.result _ (c.put_ending.ensures.put written)

pub returns-clause-ends : goal.returns-clause-ends
returns-clause-ends g c = λ written.
    ((puts_at g c).answers ++ ending_text (c.put_ending.ensures.put written).said, ended_at g c written, put_at g c written)

pub returns-clause-cut_short : goal.returns-clause-cut_short
returns-clause-cut_short g c = λ four.
    cut g.S.Shelf.held g.S.Shelf.read_faults g.S.Shelf.write_faults c.args.words.now c.args.shelf.now c.report_of-ending.new.shelf
    _ _ _ _ c.report_of-ending.result (puts_at g c) _ (c.put_ending.ensures.cut_short four)

pub returns-clause-bad_words : goal.returns-clause-bad_words
returns-clause-bad_words g c = λ written enough. bad_words_exactly (ended_at g c written) c.source_laws.ensures.stops enough

pub returns-clause-refused : goal.returns-clause-refused
returns-clause-refused g c = λ s t tells verdict.
    refused_exactly (ended_at g c verdict.no_write_fault) c.source_laws.ensures.told c.source_laws.ensures.stops s t
    c.text_laws.ensures.reads c.check_laws.ensures.accepted tells verdict

pub returns-clause-refuses : goal.returns-clause-refuses
returns-clause-refuses g c = λ s t tells six.
    let written : c.put_ending.result ≢ WRITE_FAILED = λ four. omega (arith, six, four) in
    refusal_put (ended_at g c written) c.source_laws.ensures.told c.source_laws.ensures.stops s t
    c.text_laws.ensures.reads c.check_laws.ensures.accepted tells c.source_laws.ensures.refused
    _ _ six (put_at g c written)

pub returns-clause-limited : goal.returns-clause-limited
returns-clause-limited g c = λ s t tells verdict limited.
    limited_so (ended_at g c verdict.no_write_fault) c.source_laws.ensures.told c.source_laws.ensures.stops s t
    c.text_laws.ensures.reads c.check_laws.ensures.accepted tells verdict limited

pub returns-clause-limited_only : goal.returns-clause-limited_only
returns-clause-limited_only g c = λ s t tells eight.
    limited_by (ended_at g c (λ four. omega (arith, eight, four))) c.source_laws.ensures.told c.source_laws.ensures.stops s t
    c.text_laws.ensures.reads c.check_laws.ensures.accepted tells eight

pub returns-clause-grounded : goal.returns-clause-grounded
returns-clause-grounded g c = λ s t tells verdict.
    grounded_exactly (ended_at g c verdict.no_write_fault) c.source_laws.ensures.told c.source_laws.ensures.stops s t tells verdict

pub returns-clause-accepted : goal.returns-clause-accepted
returns-clause-accepted g c = λ s t f tells verdict.
    accepted_exactly (ended_at g c verdict.no_write_fault) c.source_laws.ensures.told c.source_laws.ensures.stops s t
    c.text_laws.ensures.reads c.check_laws.ensures.accepted f tells verdict

pub returns-clause-rejected : goal.returns-clause-rejected
returns-clause-rejected g c = λ s t f tells verdict.
    rejected_exactly (ended_at g c verdict.no_write_fault) c.source_laws.ensures.told c.source_laws.ensures.stops s t
    c.text_laws.ensures.reads c.check_laws.ensures.accepted f tells verdict

pub returns-clause-stands : goal.returns-clause-stands
returns-clause-stands g c = λ s t tells zero.
    let written : c.put_ending.result ≢ WRITE_FAILED = λ four. omega (arith, zero, four) in
    problem_put (ended_at g c written) c.source_laws.ensures.told c.source_laws.ensures.stops s t
    c.source_laws.ensures.stands (ground_terms c.request_laws.ensures c.args.words.now s tells.asks) tells _ _ zero (put_at g c written)

pub returns-clause-encloses : goal.returns-clause-encloses
returns-clause-encloses g c = λ s t f tells zero.
    let written : c.put_ending.result ≢ WRITE_FAILED = λ four. omega (arith, zero, four) in
    report_put (ended_at g c written) c.source_laws.ensures.told c.source_laws.ensures.stops s t
    c.text_laws.ensures.reads c.check_laws.ensures.accepted f
    c.source_laws.ensures.stands c.task_certificate_laws.ensures.names c.task_certificate_laws.ensures.ends c.task_laws.ensures.well_formed
    (check_terms c.request_laws.ensures c.args.words.now s tells.name tells.asks)
    c.task_certificate_laws.ensures.balance c.task_certificate_laws.ensures.encloses tells _ _ zero (put_at g c written)

pub returns-clause-ends_soon : goal.returns-clause-ends_soon
returns-clause-ends_soon g c = λ s t f tells zero.
    policy_ends (ended_at g c (λ four. omega (arith, zero, four))) c.source_laws.ensures.told c.source_laws.ensures.stops s t
    c.text_laws.ensures.reads c.check_laws.ensures.accepted f
    c.source_laws.ensures.stands c.task_certificate_laws.ensures.names c.task_certificate_laws.ensures.ends c.task_laws.ensures.well_formed
    (judged_terms c.request_laws.ensures c.args.words.now (g.S.Shelf.held c.args.shelf.now) s t f tells) tells zero

pub returns-clause-merged : goal.returns-clause-merged
returns-clause-merged g c = λ m t f f' tells verdict.
    merged_exactly (ended_at g c verdict.no_write_fault) c.source_laws.ensures.told c.source_laws.ensures.stops
    c.text_laws.ensures.reads c.check_laws.ensures.accepted c.merged_laws.ensures m t f f' tells verdict

pub returns-clause-unmerged : goal.returns-clause-unmerged
returns-clause-unmerged g c = λ m t f f' tells verdict.
    unmerged_exactly (ended_at g c verdict.no_write_fault) c.source_laws.ensures.told c.source_laws.ensures.stops
    c.text_laws.ensures.reads c.check_laws.ensures.accepted c.merged_laws.ensures m t f f' tells verdict

pub returns-clause-merges : goal.returns-clause-merges
returns-clause-merges g c = λ m t f f' tells zero.
    let written : c.put_ending.result ≢ WRITE_FAILED = λ four. omega (arith, zero, four) in
    merge_put (ended_at g c written) c.source_laws.ensures.told c.source_laws.ensures.stops
    c.text_laws.ensures.reads c.check_laws.ensures.accepted c.merged_laws.ensures m t f f' tells
    c.source_laws.ensures.stands (merge_terms c.request_laws.ensures c.args.words.now m tells.asks)
    c.task_certificate_laws.ensures.names c.task_certificate_laws.ensures.balance c.task_certificate_laws.ensures.encloses c.task_certificate_laws.ensures.ends
    c.task_laws.ensures.well_formed _ _ zero (put_at g c written)

pub returns-clause-walks : goal.returns-clause-walks
returns-clause-walks g c = λ w t f tells zero.
    let written : c.put_ending.result ≢ WRITE_FAILED = λ four. omega (arith, zero, four) in
    walks_told (ended_at g c written) c.source_laws.ensures.told c.source_laws.ensures.stops
    c.text_laws.ensures.reads c.check_laws.ensures.accepted w t f tells
    c.source_laws.ensures.stands (walk_terms c.request_laws.ensures c.args.words.now w tells.asks)
    c.stands_laws.ensures.process c.stands_laws.ensures.starts c.stands_laws.ensures.back
    c.task_certificate_laws.ensures.carried c.task_certificate_laws.ensures.names _ _ zero (put_at g c written)

pub returns-clause-draws : goal.returns-clause-draws
returns-clause-draws g c = λ d t f tells zero.
    let written : c.put_ending.result ≢ WRITE_FAILED = λ four. omega (arith, zero, four) in
    draw_put (ended_at g c written) c.source_laws.ensures.told c.source_laws.ensures.stops
    c.text_laws.ensures.reads c.check_laws.ensures.accepted d t f tells
    c.source_laws.ensures.stands (draw_terms c.request_laws.ensures c.args.words.now d tells.asks)
    c.stands_laws.ensures.process c.stands_laws.ensures.starts c.stands_laws.ensures.back c.task_certificate_laws.ensures.carried
    c.task_certificate_laws.ensures.names c.task_certificate_laws.ensures.encloses c.task_certificate_laws.ensures.ends
    c.task_laws.ensures.well_formed _ _ zero (put_at g c written)

pub returns-clause-solves : goal.returns-clause-solves
returns-clause-solves g c = λ s t tells has.
    let written : c.put_ending.result ≢ WRITE_FAILED = (report_is_a_verdict c.put_ending.result has).no_write_fault in
    solution_put c.source_laws.ensures.stands c.stands_laws.ensures.back c.same_level_laws.ensures.near c.same_level_laws.ensures.near_found
    c.stands_laws.ensures.process c.same_cost_laws.ensures.least
    c.same_level_laws.ensures.depth c.same_value_laws.ensures.plain
    c.task_certificate_laws.ensures.names c.task_certificate_laws.ensures.balance c.task_certificate_laws.ensures.encloses c.task_certificate_laws.ensures.ends
    c.task_progress_laws.ensures.starts c.task_laws.ensures.well_formed c.task_laws.ensures.proper c.task_laws.ensures.proper_starts
    (ended_at g c written) has c.source_laws.ensures.stops c.task_certificate_laws.ensures.carried c.source_laws.ensures.told s t
    (solve_range c.request_laws.ensures c.args.words.now s tells.asks).terms tells _ _ (put_at g c written)

pub returns-clause-serves : goal.returns-clause-serves
returns-clause-serves g c = λ s t tells has.
    let written : c.put_ending.result ≢ WRITE_FAILED = (report_is_a_verdict c.put_ending.result has).no_write_fault in
    service_put c.source_laws.ensures.stands c.stands_laws.ensures.back c.same_level_laws.ensures.near c.same_level_laws.ensures.near_found
    c.stands_laws.ensures.process c.same_cost_laws.ensures.least
    c.same_level_laws.ensures.depth c.same_value_laws.ensures.plain
    c.task_certificate_laws.ensures.names c.task_certificate_laws.ensures.balance c.task_certificate_laws.ensures.encloses c.task_certificate_laws.ensures.ends
    c.task_progress_laws.ensures.starts c.task_laws.ensures.well_formed c.task_laws.ensures.proper c.task_laws.ensures.proper_starts
    (ended_at g c written) has c.source_laws.ensures.stops c.source_laws.ensures.told s t
    (serve_range c.request_laws.ensures c.args.words.now s tells.asks).terms tells _ _ (put_at g c written)

pub returns-clause-measures : goal.returns-clause-measures
returns-clause-measures g c = λ places seed asks has.
    let written : c.put_ending.result ≢ WRITE_FAILED = (report_is_a_verdict c.put_ending.result has).no_write_fault in
    measure_put c.source_laws.ensures.stands c.stands_laws.ensures.back c.same_level_laws.ensures.near c.same_level_laws.ensures.near_found
    c.stands_laws.ensures.process c.same_cost_laws.ensures.least
    c.same_level_laws.ensures.depth c.same_value_laws.ensures.plain
    c.task_certificate_laws.ensures.names c.task_certificate_laws.ensures.balance c.task_certificate_laws.ensures.encloses c.task_certificate_laws.ensures.ends
    c.task_progress_laws.ensures.starts c.task_laws.ensures.well_formed c.task_laws.ensures.proper c.task_laws.ensures.proper_starts
    (ended_at g c written) has c.source_laws.ensures.stops places seed asks _ _ (put_at g c written)

-- a certificate was not written, or the sink failed before the ending was put
not_written : (g : Over) (c : goal.After-put_ending g) → c.report_of-ending.result ≡ Err WriteFailed
    → Rose (g.O.Sink.faults c.args.out.now) (g.O.Sink.faults c.put_ending.new.out)
    ⊎ (AsksToWrite c.args.words.now × Rose (g.S.Shelf.write_faults c.args.shelf.now) (g.S.Shelf.write_faults c.report_of-ending.new.shelf))
not_written g c is =
    elim (write_failed_for g.S.Shelf.held g.S.Shelf.read_faults g.S.Shelf.write_faults c.args.shelf.now c.report_of-ending.new.shelf
    _ c.source_laws.ensures.stops _ _ is (puts_at g c).may_end) [
      | inl asks ↦ elim (c.report_of-ending.ensures.write_failed asks is) [
        | inl rose ↦ inl (subst (λ out. Rose (g.O.Sink.faults c.args.out.now) (g.O.Sink.faults out)) (sym (c.put_ending.ensures.unwritten is)) rose)
        | inr rose ↦ inr (inl (asks.0, inr asks.1), rose)
      ]
      | inr (inl (s, asks), rose) ↦ inr (inl (s, inl asks), rose)
      | inr (inr (inl (m, asks)), rose) ↦ inr (inr (inl (m, asks)), rose)
      | inr (inr (inr (d, asks)), rose) ↦ inr (inr (inr (d, asks)), rose)
    ]

-- 4 comes by a fault of the sink, or where a certificate was not written
four_by : (g : Over) (c : goal.After-put_ending g) → c.put_ending.result ≡ WRITE_FAILED
    → Rose (g.O.Sink.faults c.args.out.now) (g.O.Sink.faults c.put_ending.new.out)
    ⊎ (AsksToWrite c.args.words.now × Rose (g.S.Shelf.write_faults c.args.shelf.now) (g.S.Shelf.write_faults c.report_of-ending.new.shelf))
four_by g c four = elim (c.put_ending.ensures.write_failed four) [
  | inl rose ↦ inl (rose_on _ _ _ c.report_of-ending.ensures.counts rose)
  | inr is ↦ not_written g c is
]

pub returns-clause-write_failed : goal.returns-clause-write_failed
returns-clause-write_failed g c = λ four. four_by g c four

pub returns-clause-read_failed : goal.returns-clause-read_failed
returns-clause-read_failed g c = λ three.
    read_failed_only (ended_at g c (λ four. omega (arith, three, four))) three

pub returns-clause-memory : goal.returns-clause-memory
returns-clause-memory g c = λ five. elim c.report_of-ending.ensures.silent [
  | inl asks ↦ inl asks
  | inr same ↦ inr (c.put_ending.ensures.memory five ∙ ap g.O.Sink.taken same.1)
]

pub returns-clause-unwritten : goal.returns-clause-unwritten
returns-clause-unwritten g c = λ four. elim c.report_of-ending.ensures.silent [
  | inl asks ↦ inl asks
  | inr same ↦ inr (elim (c.put_ending.ensures.write_failed four) [
    | inl rose ↦ inl (rose_on _ _ _ c.report_of-ending.ensures.counts rose)
    | inr is ↦ inr (ap g.O.Sink.taken (c.put_ending.ensures.unwritten is ∙ same.1))
  ])
]

pub returns-clause-answered : goal.returns-clause-answered
returns-clause-answered g c = λ q asks lacks faults puts.
    let written : c.put_ending.result ≢ WRITE_FAILED = λ four. elim (four_by g c four) [
      | inl rose ↦ puts rose
      | inr (writes, rose) ↦ faults (write_rose g.S.Shelf.read_faults g.S.Shelf.write_faults g.I.Source.faults c.args.shelf.now c.report_of-ending.new.shelf
          c.args.source.now c.report_of-ending.new.source c.args.words.now q asks writes rose)
    ] in
    let ends = ended_at g c written in
    subst (IsAnswerTo q) (sym ends.status_is)
    (answer_with g.S.Shelf.held g.S.Shelf.read_faults g.S.Shelf.write_faults g.I.Source.left g.I.Source.ends g.I.Source.faults
    c.args.shelf.now c.report_of-ending.new.shelf c.args.source.now c.report_of-ending.new.source ends.answers c.source_laws.ensures.stops c.line_laws.ensures.grounded
    q ends.ending (asked_range c.request_laws.ensures c.args.words.now q asks) (request_ends ends q asks) lacks faults (subst (λ n. n ≢ WRITE_FAILED) ends.status_is written))

pub returns-clause-reasons : goal.returns-clause-reasons
returns-clause-reasons g c = c.put_ending.ensures.reasons

pub returns-clause-no_reasons : goal.returns-clause-no_reasons
returns-clause-no_reasons g c = c.put_ending.ensures.no_reasons

-- ---- rounds

pub returns-clause-tells : goal.returns-clause-tells
returns-clause-tells g c = λ s asks.
    let held = g.S.Shelf.held in let old = c.args.shelf.now in let new = c.report_of-ending.new.shelf in
    let tells = subst
    (λ o. TellsAsked g.P.Sink.taken g.P.Sink.faults o c.args.progress.now c.report_of-ending.new.progress
    (λ s rs. IfOk c.report_of-ending.result (λ _. AreToldOf held old new s rs)))
    (told_in (asked_by c.args.words.now) s asks) c.report_of-ending.ensures.tells in (
      tells.0,
      tells.1,
      tells.2,
      λ t texts named has.
          let written : c.put_ending.result ≢ WRITE_FAILED = λ four. elim has [ inl zero ↦ omega (arith, zero, four) | inr one ↦ omega (arith, one, four) ] in
          rounds_reported held old new c.source_laws.ensures.told s t texts named tells.0
          (reported c.report_of-ending.result c.put_ending.result _ _ (c.put_ending.ensures.put written) has (AreToldOf held old new s tells.0) tells.3),
    )

pub returns-clause-quiet : goal.returns-clause-quiet
returns-clause-quiet g c = λ no.
    subst
    (λ o. TellsAsked g.P.Sink.taken g.P.Sink.faults o c.args.progress.now c.report_of-ending.new.progress
    (λ s rs. IfOk c.report_of-ending.result (λ _. AreToldOf g.S.Shelf.held c.args.shelf.now c.report_of-ending.new.shelf s rs)))
    (none_in (asked_by c.args.words.now) no) c.report_of-ending.ensures.tells
