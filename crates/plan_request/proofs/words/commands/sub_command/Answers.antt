use Rattle.std.proofs.Common.{◌≡◌, sym, ap, ap₂, ◌∙◌, ℕ, ◌+◌, ◌<◌, false, ◌||◌, List, [], ◌∷◌, ◌++◌, length, take, get_or, map, append_assoc, rules}
use Rattle.std.specs.Borrow.{Bor}
use Rattle.std.proofs.lemmas.List.{map-append, map_more}
use Rattle.clap.specs.Walk.{Rule, rule_of}
use Rattle.clap.specs.Simple.{App, with_rule, new_shape}
use Rattle.plan_request.specs.words.Words.{Text}
use Rattle.plan_request.specs.words.Table.{option_rule, positional_rule}
use Rattle.plan_request.specs.words.Shown.{texts_of}
use Rattle.plan_request.proofs.words.commands.sub_command.Goals as goal

-- one rule more
rules_more : (f : Text → Rule) (xs : List (Bor Text)) (i : ℕ) (d : Bor Text) → i < length xs → map f (texts_of (take i xs)) ++ f (get_or xs i d).now ∷ [] ≡ map f (texts_of (take (i + 1) xs))
rules_more f xs i d lt = sym (ap (map f) (map_more (λ (b : Bor Text). b.now) xs i d lt) ∙ map-append f (texts_of (take i xs)) ((get_or xs i d).now ∷ []))

abbrev of_rules : Text → List Rule → App
of_rules name rs = record { top = record (new_shape name) { rules = rs }; subs = [] }

pub loop-name-preserved : goal.loop-name-preserved
loop-name-preserved c =
    let i = c.loop-name.name-index in
    let d : Bor Text = record { ref_ptr = (0, 0); now = [] } in
    let name = get_or c.args.form.options.now i d in
    let rule_is : rule_of c.action-arg.result ≡ option_rule name.now = search rules in
    let local : c.action-arg.result.global ≡ false = search rules in (
      c.in_ok-command.ensures.shape local ∙ ap₂ with_rule c.loop-name.invariant.0 rule_is ∙ ap (of_rules c.args.form.name.now) (rules_more option_rule c.args.form.options.now i d c.loop-name-test.true),
      c.in_ok-command.ensures.globals ∙ ap₂ (λ a b. a || b) c.loop-name.invariant.1 local,
    )

pub loop-name-2-preserved : goal.loop-name-2-preserved
loop-name-2-preserved c =
    let i = c.loop-name-2.name-index in
    let d : Bor Text = record { ref_ptr = (0, 0); now = [] } in
    let name = get_or c.args.form.words.now i d in
    let before = map option_rule (texts_of c.args.form.options.now) in
    let rule_is : rule_of c.action-arg-in-loop-name-2.result ≡ positional_rule name.now = search rules in
    let local : c.action-arg-in-loop-name-2.result.global ≡ false = search rules in (
      c.in_ok-command-2.ensures.shape local ∙ ap₂ with_rule c.loop-name-2.invariant.0 rule_is
          ∙ ap (of_rules c.args.form.name.now) (append_assoc before (map positional_rule (texts_of (take i c.args.form.words.now))) (positional_rule name.now ∷ []) ∙ ap (λ l. before ++ l) (rules_more positional_rule c.args.form.words.now i d c.loop-name-2-test.true)),
      c.in_ok-command-2.ensures.globals ∙ ap₂ (λ a b. a || b) c.loop-name-2.invariant.1 local,
    )
