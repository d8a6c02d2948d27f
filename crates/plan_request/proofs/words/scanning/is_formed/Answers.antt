use Rattle.std.proofs.Common.{◌≡◌, sym, ap, ◌∙◌, ℕ, ◌+◌, ◌<◌, true, false, ◌&&◌, List, [], ◌∷◌, length, drop, suc, drop-cons, get_or, None, arith, lit≤, rules}
use Rattle.std.specs.Borrow.{Bor}
use Rattle.plan_request.specs.words.Words.{Text, read}
use Rattle.plan_request.specs.words.Scans.{leaves, makes}
use Rattle.plan_request.specs.words.Shown.{texts_of}
use Rattle.plan_request.proofs.words.scanning.is_formed.Goals as goal

texts_drop : (ws : List (Bor Text)) (i : ℕ) (d : Bor Text) → i < length ws → texts_of (drop i ws) ≡ (get_or ws i d).now ∷ texts_of (drop (i + 1) ws)
texts_drop ws i d lt = let next : suc i ≡ i + 1 = omega arith in ap texts_of (drop-cons ws i d lt) ∙ ap (λ n. (get_or ws i d).now ∷ texts_of (drop n ws)) next

pub loop-word-init : goal.loop-word-init
loop-word-init c =
    (ap (λ l. makes (length (texts_of c.args.form.now.words.now)) 0 (read (texts_of c.args.form.now.options.now) (texts_of l) None (texts_of c.args.words.now))) c.new.ensures.items, lit≤ tt)

pub returns-then-not-branch : goal.returns-then-not-branch
returns-then-not-branch c =
    let os = texts_of c.args.form.now.options.now in
    let total = length (texts_of c.args.form.now.words.now) in
    let i = c.loop-word.word-index in
    let d : Bor Text = record { ref_ptr = (0, 0); now = [] } in
    let rest = texts_of (drop (i + 1) c.args.words.now) in
    let no : c.in_ok-take.field-0 ≡ false = search rules in
    sym (sym c.loop-word.invariant.0 ∙ ap (leaves os total c.loop-word.scan) (texts_drop c.args.words.now i d c.loop-word-test.true) ∙ c.in_ok-take.ensures.form rest ∙ ap (λ b. b && leaves os total c.take.new.self rest) no)

pub loop-word-preserved : goal.loop-word-preserved
loop-word-preserved c =
    let os = texts_of c.args.form.now.options.now in
    let total = length (texts_of c.args.form.now.words.now) in
    let i = c.loop-word.word-index in
    let d : Bor Text = record { ref_ptr = (0, 0); now = [] } in
    let rest = texts_of (drop (i + 1) c.args.words.now) in
    let yes : c.in_ok-take.field-0 ≡ true = search rules in (
      sym (ap (λ b. b && leaves os total c.take.new.self rest) yes) ∙ sym (c.in_ok-take.ensures.form rest) ∙ sym (ap (leaves os total c.loop-word.scan) (texts_drop c.args.words.now i d c.loop-word-test.true)) ∙ c.loop-word.invariant.0,
      (let a = c.loop-word.invariant.1 in let b = c.in_ok-take.ensures.count in omega arith),
    )
