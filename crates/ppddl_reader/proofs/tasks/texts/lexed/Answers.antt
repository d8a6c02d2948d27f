use Rattle.ppddl_lex.specs.Lexemes.{tokens_of}
use Rattle.ppddl_reader.proofs.lemmas.tasks.Refusals.{lexed_refuses}
use Rattle.ppddl_reader.proofs.tasks.texts.lexed.Goals as goal

pub returns-in-Err-clause-gives : goal.returns-in-Err-clause-gives
returns-in-Err-clause-gives c =
    rw c.lex_refusal.ensures (lexed_refuses c.args.text.now c.args.file c.in-Err.refusal (tokens_of c.args.text.now) c.in-Err.ensures.exact)
