use Rattle.std.proofs.Common.{◌≡◌, sym, ap, ◌∙◌, true, false, not, ◌&&◌, List}
use Rattle.std.specs.List.{list_any}
use Rattle.std.specs.Str.{bytes_eq}
use Rattle.std.specs.Borrow.{Bor}
use Rattle.clap.proofs.WalkLemmas.{list_any-map}
use Rattle.plan_request.specs.words.Words.{Text, is_among}
use Rattle.plan_request.specs.words.Shown.{texts_of}
use Rattle.plan_request.proofs.words.scanning.may_stand.Goals as goal

among_texts : (name : Text) (names : List (Bor Text)) → list_any (λ o. bytes_eq o.now name) names ≡ is_among name (texts_of names)
among_texts name names = list_any-map (λ (o : Text). bytes_eq o name) (λ (o : Bor Text). o.now) names

pub returns-then-is_among : goal.returns-then-is_among
returns-then-is_among c =
    let offered : is_among c.args.name.now (texts_of c.args.options.now) ≡ true = sym (c.is_among.ensures ∙ among_texts c.args.name.now c.args.options.now) ∙ c.if-is_among.true in
    ap not (c.is_among-then-is_among.ensures ∙ among_texts c.args.name.now c.args.seen.now)
    ∙ sym (ap (λ b. b && not (is_among c.args.name.now (texts_of c.args.seen.now))) offered)

pub returns-else-is_among : goal.returns-else-is_among
returns-else-is_among c =
    let offered : is_among c.args.name.now (texts_of c.args.options.now) ≡ false = sym (c.is_among.ensures ∙ among_texts c.args.name.now c.args.options.now) ∙ c.if-is_among.false in
    c.if-is_among.false ∙ sym (ap (λ b. b && not (is_among c.args.name.now (texts_of c.args.seen.now))) offered)
