use Rattle.std.proofs.Common.{◌≡◌, refl, sym, ap, ◌∙◌, rules, true, false, List}
use Rattle.std.specs.List.{list_any}
use Rattle.std.specs.Str.{bytes_eq}
use Rattle.std.specs.Borrow.{Bor}
use Rattle.clap.proofs.WalkLemmas.{list_any-map}
use Rattle.plan_request.specs.words.Words.{Text, is_among}
use Rattle.plan_request.specs.words.Shown.{texts_of}
use Rattle.plan_request.proofs.words.standing.Standing.name_fault.Goals as goal

among_texts : (name : Text) (names : List (Bor Text)) → list_any (λ o. bytes_eq o.now name) names ≡ is_among name (texts_of names)
among_texts name names = list_any-map (λ (o : Text). bytes_eq o name) (λ (o : Bor Text). o.now) names

pub returns-then-not-is_among : goal.returns-then-not-is_among
returns-then-not-is_among c =
    let no : c.is_among.result ≡ false = search rules in
    let offered : is_among c.args.name.now (texts_of c.args.form.now.options.now) ≡ false = sym (c.is_among.ensures ∙ among_texts c.args.name.now c.args.form.now.options.now) ∙ no in
    rw offered refl

pub returns-then-is_among : goal.returns-then-is_among
returns-then-is_among c =
    let yes : c.is_among.result ≡ true = search rules in
    let offered : is_among c.args.name.now (texts_of c.args.form.now.options.now) ≡ true = sym (c.is_among.ensures ∙ among_texts c.args.name.now c.args.form.now.options.now) ∙ yes in
    let stood : is_among c.args.name.now (texts_of c.args.self.now.seen.items) ≡ true =
    sym (c.is_among-2.ensures ∙ among_texts c.args.name.now c.as_slice.result.now ∙ ap (λ l. is_among c.args.name.now (texts_of l)) c.as_slice.ensures.value) ∙ c.if-is_among.true in
    rw (offered, stood) refl

pub returns : goal.returns
returns c =
    let yes : c.is_among.result ≡ true = search rules in
    let offered : is_among c.args.name.now (texts_of c.args.form.now.options.now) ≡ true = sym (c.is_among.ensures ∙ among_texts c.args.name.now c.args.form.now.options.now) ∙ yes in
    let new : is_among c.args.name.now (texts_of c.args.self.now.seen.items) ≡ false =
    sym (c.is_among-2.ensures ∙ among_texts c.args.name.now c.as_slice.result.now ∙ ap (λ l. is_among c.args.name.now (texts_of l)) c.as_slice.ensures.value) ∙ c.if-is_among.false in
    rw (offered, new) refl
