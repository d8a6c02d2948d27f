use Rattle.std.proofs.lemmas.Result.{err_from_is_err_and}
use Rattle.ppddl_cursor.specs.Pieces.{text_ahead}
use Rattle.ppddl_reader.proofs.lemmas.tasks.OfTexts.{one_lexed, one_read, one_finished}
use Rattle.ppddl_reader.proofs.tasks.texts.read_one.Goals as goal

pub returns-in_err-tokens : goal.returns-in_err-tokens
returns-in_err-tokens c =
    let p = err_from_is_err_and c.from_residual.result c.from_residual.ensures.1 in
    rw (p.1, p.2) (one_lexed c.args.text.now c.in_err-tokens.field-0.0 c.in_err-tokens.ensures.gives)

pub returns-in_err-draft : goal.returns-in_err-draft
returns-in_err-draft c =
    let p = err_from_is_err_and c.from_residual-in_err-draft.result c.from_residual-in_err-draft.ensures.1 in
    rw (p.1, p.2) (
    one_read c.args.text.now c.in_err-draft.field-0.0 (text_ahead c.args.text.now 1 c.in_ok-tokens.tokens) c.in_ok-tokens.ensures.gives
    (rw c.as_slice.ensures at c.in_err-draft.ensures)
    )

pub returns : goal.returns
returns c =
    one_finished c.args.text.now c.finish.result (text_ahead c.args.text.now 1 c.in_ok-tokens.tokens) c.in_ok-draft.draft c.in_ok-tokens.ensures.gives
    (rw c.as_slice.ensures at c.in_ok-draft.ensures) (rw c.end_of_text.ensures at c.finish.ensures)
