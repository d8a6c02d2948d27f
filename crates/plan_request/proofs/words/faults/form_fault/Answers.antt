use Rattle.std.proofs.Common.{◌≡◌, refl, sym, ap, ◌∙◌, ℕ, ◌+◌, ◌<◌, true, false, true≢false, List, [], ◌∷◌, Option, Some, None, is_some, option_map, length, drop, suc, drop-cons, get_or, arith, lit≤, rules}
use Rattle.std.specs.Borrow.{Bor}
use Rattle.plan_request.specs.words.Words.{Text}
use Rattle.plan_request.specs.words.Faults.{Fault, Standing, form_fault, or_else, behind_word}
use Rattle.plan_request.specs.words.Shown.{shown_form, texts_of}
use Rattle.plan_request.specs.words.Standing.{shown_fault, shown_standing}
use Rattle.plan_request.specs.declared.words.fault.Fault.{Fault as CodeFault}
use Rattle.plan_request.proofs.words.faults.form_fault.Goals as goal

texts_drop : (ws : List (Bor Text)) (i : ℕ) (d : Bor Text) → i < length ws → texts_of (drop i ws) ≡ (get_or ws i d).now ∷ texts_of (drop (i + 1) ws)
texts_drop ws i d lt = let next : suc i ≡ i + 1 = omega arith in ap texts_of (drop-cons ws i d lt) ∙ ap (λ n. (get_or ws i d).now ∷ texts_of (drop n ws)) next

or_some : (o : Option CodeFault) (more : Option Fault) → is_some o ≡ true → or_else (option_map shown_fault o) more ≡ option_map shown_fault o
or_some None more e = absurd (true≢false (sym e))
or_some (Some x) more e = refl

or_none : (o : Option CodeFault) (more : Option Fault) → is_some o ≡ false → or_else (option_map shown_fault o) more ≡ more
or_none None more e = refl
or_none (Some x) more e = absurd (true≢false e)

pub loop-word-init : goal.loop-word-init
loop-word-init c =
    let at : List (Bor Text) → Standing = λ l. record { plain = 0; seen = texts_of l; waiting = None } in
    (ap (λ l. form_fault (shown_form c.args.form.now) (at l) (texts_of c.args.words.now)) c.new.ensures.items, lit≤ tt)

pub returns-then-is_some : goal.returns-then-is_some
returns-then-is_some c =
    let f = shown_form c.args.form.now in
    let i = c.loop-word.word-index in
    let d : Bor Text = record { ref_ptr = (0, 0); now = [] } in
    let at = shown_standing c.loop-word.standing in
    let w = (get_or c.args.words.now i d).now in
    let rest = texts_of (drop (i + 1) c.args.words.now) in
    let more = form_fault f (behind_word at w) rest in
    let yes : is_some c.word_fault-fault.result ≡ true = search rules in
    sym (sym c.loop-word.invariant.0 ∙ ap (form_fault f at) (texts_drop c.args.words.now i d c.loop-word-test.true)
    ∙ ap (λ o. or_else o more) (sym c.word_fault-fault.ensures) ∙ or_some c.word_fault-fault.result more yes)

pub loop-word-preserved : goal.loop-word-preserved
loop-word-preserved c =
    let f = shown_form c.args.form.now in
    let i = c.loop-word.word-index in
    let d : Bor Text = record { ref_ptr = (0, 0); now = [] } in
    let at = shown_standing c.loop-word.standing in
    let w = (get_or c.args.words.now i d).now in
    let rest = texts_of (drop (i + 1) c.args.words.now) in
    let more = form_fault f (behind_word at w) rest in
    let no : is_some c.word_fault-fault.result ≡ false = search rules in (
      ap (λ a. form_fault f a rest) c.in_ok-pass.ensures.stands ∙ sym (or_none c.word_fault-fault.result more no) ∙ ap (λ o. or_else o more) c.word_fault-fault.ensures
          ∙ sym (ap (form_fault f at) (texts_drop c.args.words.now i d c.loop-word-test.true)) ∙ c.loop-word.invariant.0,
      (let a = c.loop-word.invariant.1 in let b = c.in_ok-pass.ensures.count in omega arith),
    )
