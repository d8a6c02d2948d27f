-- The line that was put is that of the answer.
use Rattle.std.proofs.Common.{ap, ◌∙◌}
use Rattle.ground_model.specs.Ground.{Ground}
use Rattle.policy_server.specs.Queries.{query_of}
use Rattle.policy_server.specs.Parts.{BufferView, answer_text}
use Rattle.policy_server.proofs.Turned.{reply_told}
use Rattle.policy_server.proofs.answering.answer_line.Goals as goal

pub returns-clause-told : goal.returns-clause-told
returns-clause-told g c =
    let b = c.args.words.now in let a = c.answer_to-answer.result in
    reply_told b c.args.pass.now c.answer_to-answer.new.pass c.args.buffer.now.line c.bytes-2.result.now (g.O.Sink.taken c.args.sink.now) (g.O.Sink.taken c.put_all.new.sink)
    c.put_all.result (query_of b.problem c.bytes.result.now) a
    (ap (query_of b.problem) (c.bytes.ensures.value ∙ ap (λ (v : BufferView). v.line) c.buffer.view_is)) c.answer_to-answer.ensures.told
    (c.bytes-2.ensures.value ∙ (c.write_answer.ensures.text ∙ ap (λ (p : Ground). answer_text p a) c.problem.ensures)) c.put_all.ensures.all c.put_all.ensures.prefix
