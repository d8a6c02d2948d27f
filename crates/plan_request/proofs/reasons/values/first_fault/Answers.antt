use Rattle.std.proofs.Common.{◌≡◌, refl, sym, ap, ◌∙◌, ℕ, ◌+◌, ◌<◌, true, false, true≢false, List, [], ◌∷◌, Option, Some, None, is_some, option_map, length, drop, suc, drop-cons, get_or, arith, rules}
use Rattle.std.specs.Borrow.{Bor}
use Rattle.plan_request.specs.words.Words.{Text}
use Rattle.plan_request.specs.words.Faults.{or_else}
use Rattle.plan_request.specs.words.Shown.{texts_of}
use Rattle.plan_request.specs.Shown.{given_by}
use Rattle.plan_request.specs.reasons.Values.{ValueFault, first_fault}
use Rattle.plan_request.specs.reasons.Shown.{shown_value}
use Rattle.plan_request.specs.declared.reasons.value_fault.ValueFault.{ValueFault as CodeFault}
use Rattle.plan_request.proofs.reasons.values.first_fault.Goals as goal

texts_drop : (ws : List (Bor Text)) (i : ℕ) (d : Bor Text) → i < length ws → texts_of (drop i ws) ≡ (get_or ws i d).now ∷ texts_of (drop (i + 1) ws)
texts_drop ws i d lt = let next : suc i ≡ i + 1 = omega arith in ap texts_of (drop-cons ws i d lt) ∙ ap (λ n. (get_or ws i d).now ∷ texts_of (drop n ws)) next

or_some : (o : Option CodeFault) (more : Option ValueFault) → is_some o ≡ true → or_else (option_map shown_value o) more ≡ option_map shown_value o
or_some None more e = absurd (true≢false (sym e))
or_some (Some x) more e = refl

or_none : (o : Option CodeFault) (more : Option ValueFault) → is_some o ≡ false → or_else (option_map shown_value o) more ≡ more
or_none None more e = refl
or_none (Some x) more e = absurd (true≢false e)

pub returns-then-is_some : goal.returns-then-is_some
returns-then-is_some c =
    let command = c.args.parsed.now.form.name.now in
    let given = given_by c.args.parsed.now in
    let i = c.loop-name.name-index in
    let d : Bor Text = record { ref_ptr = (0, 0); now = [] } in
    let more = first_fault command given (texts_of (drop (i + 1) c.args.names.now)) in
    let yes : is_some c.fault_at-fault.result ≡ true = search rules in
    sym (sym c.loop-name.invariant ∙ ap (first_fault command given) (texts_drop c.args.names.now i d c.loop-name-test.true)
    ∙ ap (λ o. or_else o more) (sym c.fault_at-fault.ensures) ∙ or_some c.fault_at-fault.result more yes)

pub loop-name-preserved : goal.loop-name-preserved
loop-name-preserved c =
    let command = c.args.parsed.now.form.name.now in
    let given = given_by c.args.parsed.now in
    let i = c.loop-name.name-index in
    let d : Bor Text = record { ref_ptr = (0, 0); now = [] } in
    let more = first_fault command given (texts_of (drop (i + 1) c.args.names.now)) in
    let no : is_some c.fault_at-fault.result ≡ false = search rules in
    sym (or_none c.fault_at-fault.result more no) ∙ ap (λ o. or_else o more) c.fault_at-fault.ensures
    ∙ sym (ap (first_fault command given) (texts_drop c.args.names.now i d c.loop-name-test.true)) ∙ c.loop-name.invariant
