-- The answer to what the line asks.
use Rattle.std.proofs.Common.{sym, ap, ◌∙◌}
use Rattle.ground_model.specs.Ground.{Ground}
use Rattle.policy_server.specs.Queries.{query_of}
use Rattle.policy_server.proofs.Turned.{no_query_told, no_atom_told, state_told}
use Rattle.policy_server.proofs.looking.answer_to.Goals as goal

pub returns-in-NoQuery-clause-told : goal.returns-in-NoQuery-clause-told
returns-in-NoQuery-clause-told c =
    let b = c.args.words.now in let line = c.args.line.now in
    no_query_told b c.args.pass.now (query_of b.problem line) c.requires.here (ap (λ (p : Ground). query_of p line) (sym c.problem.ensures) ∙ c.in-NoQuery.ensures.read)

pub returns-in-NoAtom-clause-told : goal.returns-in-NoAtom-clause-told
returns-in-NoAtom-clause-told c =
    let b = c.args.words.now in let line = c.args.line.now in
    no_atom_told b c.args.pass.now (query_of b.problem line) c.requires.here (ap (λ (p : Ground). query_of p line) (sym c.problem.ensures) ∙ c.in-NoAtom.ensures.read)

pub returns-in-State-clause-told : goal.returns-in-State-clause-told
returns-in-State-clause-told c =
    let b = c.args.words.now in let line = c.args.line.now in
    state_told b c.args.pass.now c.look_up.new.pass c.read_query.new.state (query_of b.problem line) c.look_up.result
    (ap (λ (p : Ground). query_of p line) (sym c.problem.ensures) ∙ c.in-State.ensures.read) c.look_up.ensures
