-- Each byte's class says what the tokens from its offset on are, and the invariant that these are the tokens asked for.
use Rattle.std.proofs.Common.{◌≡◌, length, drop, take_while, sym, ◌∙◌, ap, Some, None, Ok, Err, arith}
use Rattle.std.proofs.lemmas.List.{take_rest, at_drop_all}
use Rattle.ppddl_lex.specs.declared.refusal.LexRefusal.TheVariants.{BadByte}
use Rattle.ppddl_lex.specs.Bytes.{is_word_byte, continues_comment}
use Rattle.ppddl_lex.specs.Lexemes.{tokens_from}
use Rattle.ppddl_lex.proofs.Next.{next_stands}
use Rattle.ppddl_lex.proofs.Only.{next_ends, lines_go_on}
use Rattle.ppddl_lex.proofs.Offsets.{left_at, right_at, word_at, bad_at, comment_at, run_within}
use Rattle.ppddl_lex.proofs.lexer.next_token.Goals as goal

pub loop-offset-preserved : goal.loop-offset-preserved
loop-offset-preserved c =
    let text = c.args.text.now in
    let offset = c.loop-offset.offset in
    let long : c.comment_length-offset.result ≡ length (take_while continues_comment (drop offset text)) =
    c.comment_length-offset.ensures ∙ ap (λ x. length (take_while continues_comment x)) (take_rest text offset) in
    let within = run_within continues_comment text offset c.loop-offset.invariant.within in
    record {
      same = comment_at text offset c.loop-offset.line _ c.loop-offset-test.true (sym c.in-Semicolon.ensures) long ∙ c.loop-offset.invariant.same;
      behind = omega arith;
      within = omega arith;
      lines = omega arith;
    }

pub returns-in-Left-clause-next : goal.returns-in-Left-clause-next
returns-in-Left-clause-next c =
    rw c.token.ensures (sym c.loop-offset.invariant.same ∙ left_at c.args.text.now c.loop-offset.offset c.loop-offset.line c.loop-offset-test.true (sym c.in-Left.ensures))

pub returns-in-Left-clause-stands : goal.returns-in-Left-clause-stands
returns-in-Left-clause-stands c =
    next_stands c.args.text.now c.args.offset c.args.line (Some (Ok c.token.result)) (returns-in-Left-clause-next c)

pub returns-in-Right-clause-next : goal.returns-in-Right-clause-next
returns-in-Right-clause-next c =
    rw c.token-in-Right.ensures (sym c.loop-offset.invariant.same ∙ right_at c.args.text.now c.loop-offset.offset c.loop-offset.line c.loop-offset-test.true (sym c.in-Right.ensures))

pub returns-in-Right-clause-stands : goal.returns-in-Right-clause-stands
returns-in-Right-clause-stands c =
    next_stands c.args.text.now c.args.offset c.args.line (Some (Ok c.token-in-Right.result)) (returns-in-Right-clause-next c)

pub returns-in-Word-clause-next : goal.returns-in-Word-clause-next
returns-in-Word-clause-next c =
    let text = c.args.text.now in
    let offset = c.loop-offset.offset in
    let long : c.word_length.result ≡ length (take_while is_word_byte (drop offset text)) =
    c.word_length.ensures ∙ ap (λ x. length (take_while is_word_byte x)) (take_rest text offset) in
    rw c.token-in-Word.ensures (sym c.loop-offset.invariant.same ∙ word_at text offset c.loop-offset.line _ c.loop-offset-test.true (sym c.in-Word.ensures) long)

pub returns-in-Word-clause-stands : goal.returns-in-Word-clause-stands
returns-in-Word-clause-stands c =
    next_stands c.args.text.now c.args.offset c.args.line (Some (Ok c.token-in-Word.result)) (returns-in-Word-clause-next c)

pub returns-in-Bad-clause-next : goal.returns-in-Bad-clause-next
returns-in-Bad-clause-next c =
    sym c.loop-offset.invariant.same ∙ bad_at c.args.text.now c.loop-offset.offset c.loop-offset.line c.loop-offset-test.true (sym c.in-Bad.ensures)

pub returns-in-Bad-clause-stands : goal.returns-in-Bad-clause-stands
returns-in-Bad-clause-stands c =
    next_stands c.args.text.now c.args.offset c.args.line (Some (Err (BadByte c.loop-offset.line))) (returns-in-Bad-clause-next c)

pub returns-clause-next : goal.returns-clause-next
returns-clause-next c =
    sym c.loop-offset.invariant.same ∙ at_drop_all (tokens_from c.loop-offset.offset c.loop-offset.line) c.args.text.now c.loop-offset.offset c.loop-offset-test.false

pub returns-clause-stands : goal.returns-clause-stands
returns-clause-stands c = next_stands c.args.text.now c.args.offset c.args.line None (returns-clause-next c)

pub returns-in-Left-clause-end : goal.returns-in-Left-clause-end
returns-in-Left-clause-end c = next_ends c.args.text.now c.args.offset c.args.line (Some (Ok c.token.result)) (returns-in-Left-clause-next c)

pub returns-in-Right-clause-end : goal.returns-in-Right-clause-end
returns-in-Right-clause-end c = next_ends c.args.text.now c.args.offset c.args.line (Some (Ok c.token-in-Right.result)) (returns-in-Right-clause-next c)

pub returns-in-Word-clause-end : goal.returns-in-Word-clause-end
returns-in-Word-clause-end c = next_ends c.args.text.now c.args.offset c.args.line (Some (Ok c.token-in-Word.result)) (returns-in-Word-clause-next c)

pub returns-in-Bad-clause-end : goal.returns-in-Bad-clause-end
returns-in-Bad-clause-end c = next_ends c.args.text.now c.args.offset c.args.line (Some (Err (BadByte c.loop-offset.line))) (returns-in-Bad-clause-next c)

pub returns-clause-end : goal.returns-clause-end
returns-clause-end c = next_ends c.args.text.now c.args.offset c.args.line None (returns-clause-next c)

pub returns-in-Left-clause-lines : goal.returns-in-Left-clause-lines
returns-in-Left-clause-lines c = lines_go_on c.args.text.now c.args.offset c.args.line c.token.result (returns-in-Left-clause-stands c)

pub returns-in-Right-clause-lines : goal.returns-in-Right-clause-lines
returns-in-Right-clause-lines c = lines_go_on c.args.text.now c.args.offset c.args.line c.token-in-Right.result (returns-in-Right-clause-stands c)

pub returns-in-Word-clause-lines : goal.returns-in-Word-clause-lines
returns-in-Word-clause-lines c = lines_go_on c.args.text.now c.args.offset c.args.line c.token-in-Word.result (returns-in-Word-clause-stands c)
