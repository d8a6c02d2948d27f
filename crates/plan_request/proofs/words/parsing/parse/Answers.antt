use Rattle.std.proofs.Common.{◌≡◌, sym, ap, ap₂, ◌∙◌, List, ◌∷◌, Some, option_map, rules, true, false, true≢false}
use Rattle.std.specs.Prelude.{find}
use Rattle.std.specs.Str.{bytes_eq}
use Rattle.clap.specs.Simple.{app_of, is_simple, subcommand_of, subcommand_rows_of}
use Rattle.plan_request.specs.words.Words.{Text}
use Rattle.plan_request.specs.words.Table.{forms, name_at, plan_app, rows_from}
use Rattle.plan_request.specs.words.Scans.{formed}
use Rattle.plan_request.specs.words.Shown.{shown_form, texts_of}
use Rattle.plan_request.specs.words.Parses.{first_in}
use Rattle.plan_request.proofs.lemmas.words.Formed.{found_is, taken, formed_no, formed_yes, option_is, word_is}
use Rattle.plan_request.proofs.lemmas.words.Rules.{simple}
use Rattle.plan_request.proofs.words.parsing.parse.Goals as goal
use Rattle.plan_request.proofs.words.parsing.parse.Goals.{in-OutOfMemory, in_default-matches}
use Rattle.clap.specs.Takes.{takes}
use Rattle.clap.specs.declared.error.kind.ErrorKind.TheVariants.{OutOfMemory}

pub returns-then-not-branch : goal.returns-then-not-branch
returns-then-not-branch c =
    let w : Text = c.in-Some.name.now.now in
    let ws : List Text = texts_of c.in-Some.rest.now in
    let f = shown_form c.in-Some-form_named.form in
    let words_are : c.args.words.now ≡ c.in-Some.name.now ∷ c.in-Some.rest.now = search rules in
    let found : find (λ f. bytes_eq f.name w) forms ≡ Some f = sym c.form_named.ensures ∙ ap (option_map shown_form) c.in-Some-form_named.is in
    let no : c.in_ok-is_formed.field-0 ≡ false = search rules in
    ap (λ l. formed (texts_of l)) words_are ∙ formed_no w ws f found (sym c.in_ok-is_formed.ensures ∙ no)

pub returns-in-Ok : goal.returns-in-Ok
returns-in-Ok c =
    let w : Text = c.in-Some.name.now.now in
    let ws : List Text = texts_of c.in-Some.rest.now in
    let f = shown_form c.in-Some-form_named.form in
    let words_are : c.args.words.now ≡ c.in-Some.name.now ∷ c.in-Some.rest.now = search rules in
    let found : find (λ f. bytes_eq f.name w) forms ≡ Some f = sym c.form_named.ensures ∙ ap (option_map shown_form) c.in-Some-form_named.is in
    let yes : c.in_ok-is_formed.field-0 ≡ true = search rules in
    let y = formed_yes w ws f found (sym c.in_ok-is_formed.ensures ∙ yes) in
    let app_is : app_of c.in_ok-plan_command.field-0 ≡ plan_app forms = c.in_ok-plan_command.ensures in
    let texts : texts_of c.args.words.now ≡ w ∷ ws = ap texts_of words_are in
    let rows : subcommand_rows_of c.in-Ok.matches ≡ Some (f.name, rows_from f.words 0 y.items) =
    (c.in-Ok.ensures.matches (ap is_simple app_is ∙ simple)).1 ∙ ap₂ subcommand_of app_is texts ∙ found_is w ws f found y
    in (
      y.items,
      ap formed texts ∙ y.is,
      record {
        options = λ n among. ap (first_in n) rows ∙ option_is w ws f found y n among;
        words = λ i lt. ap (first_in (name_at f.words i)) rows ∙ word_is w ws f found y i lt;
      },
    )

pub prove-unreachable-requires : goal.prove-unreachable-requires
prove-unreachable-requires c =
    let w : Text = c.in-Some.name.now.now in
    let ws : List Text = texts_of c.in-Some.rest.now in
    let f = shown_form c.in-Some-form_named.form in
    let words_are : c.args.words.now ≡ c.in-Some.name.now ∷ c.in-Some.rest.now = search rules in
    let found : find (λ f. bytes_eq f.name w) forms ≡ Some f = sym c.form_named.ensures ∙ ap (option_map shown_form) c.in-Some-form_named.is in
    let yes : c.in_ok-is_formed.field-0 ≡ true = search rules in
    let y = formed_yes w ws f found (sym c.in_ok-is_formed.ensures ∙ yes) in
    let app_is : app_of c.in_ok-plan_command.field-0 ≡ plan_app forms = c.in_ok-plan_command.ensures in
    let texts : texts_of c.args.words.now ≡ w ∷ ws = ap texts_of words_are in
    let kind_is : c.kind.result ≡ OutOfMemory = c.kind.ensures ∙ c.in-Err.ensures.passes (ap₂ takes app_is texts ∙ taken w ws f found y) in
    elim c.match-matches.branch [
      | in-OutOfMemory v ↦ true≢false (sym v.matches-is ∙ c.if-prove.true)
      | in_default-matches v ↦ search (rules, kind_is)
    ]
