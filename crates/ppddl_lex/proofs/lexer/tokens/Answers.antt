-- What is told when the loop ends is the whole text's answer, and an answer's laws are laws of the definition.
use Rattle.std.proofs.Common.{Ok, Err, sym, ap, ◌∙◌, arith}
use Rattle.std.proofs.lemmas.Result.{err_from_is_err_and}
use Rattle.ppddl_lex.specs.declared.refusal.LexRefusal.TheVariants.{Unbalanced}
use Rattle.ppddl_lex.specs.Lexemes.{tokens_of, tokens_at, nested, with_front, last_line}
use Rattle.ppddl_lex.proofs.Only.{one_spelling}
use Rattle.ppddl_lex.proofs.Whole.{all_close, spells, gives_refusal, ends_closed, ends_open}
use Rattle.ppddl_lex.proofs.lexer.tokens.Goals as goal

pub returns-in_err-token-clause-exact : goal.returns-in_err-token-clause-exact
returns-in_err-token-clause-exact c =
    let p = err_from_is_err_and c.from_residual.result c.from_residual.ensures.1 in
    let l = c.loop-next in
    let refused = rw c.in_err-token.was at c.in-Some.ensures.next in
    rw (p.1, p.2) (gives_refusal c.in_err-token.field-0.0 (tokens_of c.args.text.now)
    (sym (ap (λ ls. with_front l.tokens.items (nested (last_line c.args.text.now) l.depth ls)) refused) ∙ l.invariant.told))

pub returns-then-depth-gt0-clause-exact : goal.returns-then-depth-gt0-clause-exact
returns-then-depth-gt0-clause-exact c =
    let l = c.loop-next in
    let last = last_line c.args.text.now in
    sym l.invariant.told ∙ ap (λ ls. with_front l.tokens.items (nested last l.depth ls)) c.in_default.ensures.next
    ∙ ends_open l.tokens.items last l.depth c.if-depth-gt0.true
    ∙ ap (λ n. Err (Unbalanced n)) (sym c.last_line.ensures)

pub returns-clause-exact : goal.returns-clause-exact
returns-clause-exact c =
    let l = c.loop-next in
    let last = last_line c.args.text.now in
    sym l.invariant.told ∙ ap (λ ls. with_front l.tokens.items (nested last l.depth ls)) c.in_default.ensures.next
    ∙ ends_closed l.tokens.items last l.depth (omega arith) ∙ ap Ok (sym c.from_vec.ensures)

pub returns-clause-closed : goal.returns-clause-closed
returns-clause-closed c =
    all_close (last_line c.args.text.now) 0 (tokens_at c.args.text.now 0 1) c.from_vec.result (returns-clause-exact c)

pub returns-clause-spelled : goal.returns-clause-spelled
returns-clause-spelled c = spells (last_line c.args.text.now) 0 0 1 c.args.text.now c.from_vec.result (returns-clause-exact c)

pub returns-clause-only : goal.returns-clause-only
returns-clause-only c = λ others h. one_spelling 0 1 c.args.text.now others c.from_vec.result h (returns-clause-spelled c)
