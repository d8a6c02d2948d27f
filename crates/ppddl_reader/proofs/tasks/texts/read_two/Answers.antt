use Rattle.std.proofs.lemmas.Result.{err_from_is_err_and}
use Rattle.ppddl_cursor.specs.Pieces.{text_ahead}
use Rattle.ppddl_reader.proofs.lemmas.tasks.OfTexts.{two_lexed, second_lexed, two_read, second_read, two_finished}
use Rattle.ppddl_reader.proofs.tasks.texts.read_two.Goals as goal

pub returns-in_err-first_tokens : goal.returns-in_err-first_tokens
returns-in_err-first_tokens c =
    let p = err_from_is_err_and c.from_residual.result c.from_residual.ensures.1 in
    rw (p.1, p.2) (two_lexed c.args.first.now c.args.second.now c.in_err-first_tokens.field-0.0 c.in_err-first_tokens.ensures.gives)

pub returns-in_err-second_tokens : goal.returns-in_err-second_tokens
returns-in_err-second_tokens c =
    let p = err_from_is_err_and c.from_residual-in_err-second_tokens.result c.from_residual-in_err-second_tokens.ensures.1 in
    rw (p.1, p.2) (
    second_lexed c.args.first.now c.args.second.now (text_ahead c.args.first.now 1 c.in_ok-first_tokens.first_tokens) c.in_ok-first_tokens.ensures.gives
    c.in_err-second_tokens.field-0.0 c.in_err-second_tokens.ensures.gives
    )

pub returns-in_err-first_draft : goal.returns-in_err-first_draft
returns-in_err-first_draft c =
    let p = err_from_is_err_and c.from_residual-in_err-first_draft.result c.from_residual-in_err-first_draft.ensures.1 in
    rw (p.1, p.2) (
    two_read c.args.first.now c.args.second.now (text_ahead c.args.first.now 1 c.in_ok-first_tokens.first_tokens) c.in_ok-first_tokens.ensures.gives
    (text_ahead c.args.second.now 2 c.in_ok-second_tokens.second_tokens) c.in_ok-second_tokens.ensures.gives
    c.in_err-first_draft.field-0.0 (rw c.as_slice.ensures at c.in_err-first_draft.ensures)
    )

pub returns-in_err-draft : goal.returns-in_err-draft
returns-in_err-draft c =
    let p = err_from_is_err_and c.from_residual-in_err-draft.result c.from_residual-in_err-draft.ensures.1 in
    rw (p.1, p.2) (
    second_read c.args.first.now c.args.second.now (text_ahead c.args.first.now 1 c.in_ok-first_tokens.first_tokens) c.in_ok-first_tokens.ensures.gives
    (text_ahead c.args.second.now 2 c.in_ok-second_tokens.second_tokens) c.in_ok-second_tokens.ensures.gives
    c.in_ok-first_draft.first_draft (rw c.as_slice.ensures at c.in_ok-first_draft.ensures)
    c.in_err-draft.field-0.0 (rw c.as_slice-2.ensures at c.in_err-draft.ensures)
    )

pub returns : goal.returns
returns c =
    two_finished c.args.first.now c.args.second.now (text_ahead c.args.first.now 1 c.in_ok-first_tokens.first_tokens) c.in_ok-first_tokens.ensures.gives
    (text_ahead c.args.second.now 2 c.in_ok-second_tokens.second_tokens) c.in_ok-second_tokens.ensures.gives
    c.in_ok-first_draft.first_draft (rw c.as_slice.ensures at c.in_ok-first_draft.ensures)
    c.finish.result c.in_ok-draft.draft (rw c.as_slice-2.ensures at c.in_ok-draft.ensures) (rw c.end_of_text.ensures at c.finish.ensures)
