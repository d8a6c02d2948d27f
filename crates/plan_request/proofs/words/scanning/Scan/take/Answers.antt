use Rattle.std.proofs.Common.{◌≡◌, refl, sym, ap, ◌∙◌, rules, true, false, ◌&&◌, List, [], ◌∷◌, ◌++◌, Option, Some, None, is_some, option_map, true≢false, ◌+◌, length}
use Rattle.std.specs.Borrow.{Bor}
use Rattle.std.proofs.lemmas.List.{map-append}
use Rattle.plan_request.specs.words.Words.{Text, gives, may_stand, read, word_of}
use Rattle.plan_request.specs.words.Scans.{makes}
use Rattle.plan_request.specs.words.Shown.{shown_word, texts_of}
use Rattle.plan_request.proofs.lemmas.words.Scanned.{take_gives, take_value, take_waiting}
use Rattle.plan_request.proofs.words.scanning.Scan.take.Goals as goal

some_text : (o : Option (Bor Text)) → is_some o ≡ true → is_some (option_map (λ n. n.now) o) ≡ true
some_text None e = e
some_text (Some x) e = e

no_text : (o : Option (Bor Text)) → is_some o ≡ false → option_map (λ n. n.now) o ≡ None
no_text None e = refl
no_text (Some x) e = absurd (true≢false e)

texts_push : (xs ys : List (Bor Text)) (x : Bor Text) → ys ≡ xs ++ x ∷ [] → texts_of ys ≡ texts_of xs ++ x.now ∷ []
texts_push xs ys x e = ap texts_of e ∙ map-append (λ (b : Bor Text). b.now) xs (x ∷ [])

pub returns-then-is_some-clause-form : goal.returns-then-is_some-clause-form
returns-then-is_some-clause-form c = λ rest.
    let s = c.args.self.now in
    let os = texts_of c.args.form.now.options.now in
    let total = length (texts_of c.args.form.now.words.now) in
    let waits : is_some s.waiting ≡ true = sym c.is_some.ensures ∙ c.if-is_some.true in
    take_waiting os total s.plain (texts_of s.seen.items) c.args.word.now rest (option_map (λ n. n.now) s.waiting) (some_text s.waiting waits)
    ∙ ap (λ b. b && makes total s.plain (read os (texts_of s.seen.items) None rest)) (sym c.is_plain.ensures)

pub returns-in-Value-clause-form : goal.returns-in-Value-clause-form
returns-in-Value-clause-form c = λ rest.
    let s = c.args.self.now in
    let os = texts_of c.args.form.now.options.now in
    let total = length (texts_of c.args.form.now.words.now) in
    let none : option_map (λ n. n.now) s.waiting ≡ None = no_text s.waiting (sym c.is_some.ensures ∙ c.if-is_some.false) in
    ap (λ o. makes total s.plain (read os (texts_of s.seen.items) o (c.args.word.now ∷ rest))) none
    ∙ take_value os total s.plain (texts_of s.seen.items) c.args.word.now rest (sym c.word_of.ensures ∙ ap shown_word c.in-Value.is)
    ∙ ap (λ o. makes total (s.plain + 1) (read os (texts_of s.seen.items) o rest)) (sym none)

pub returns-in_ok-push-in-Gives-clause-form : goal.returns-in_ok-push-in-Gives-clause-form
returns-in_ok-push-in-Gives-clause-form c = λ rest.
    let s = c.args.self.now in
    let os = texts_of c.args.form.now.options.now in
    let total = length (texts_of c.args.form.now.words.now) in
    let n = c.in-Gives.name.now in
    let none : option_map (λ n. n.now) s.waiting ≡ None = no_text s.waiting (sym c.is_some.ensures ∙ c.if-is_some.false) in
    let is : word_of c.args.word.now ≡ gives n c.in-Gives.field-1.now = sym c.word_of.ensures ∙ ap shown_word c.in-Gives.is in
    let stands : c.may_stand-in-Gives.result ≡ true = search rules in
    let may : may_stand os (texts_of s.seen.items) n ≡ true = ap (λ l. may_stand os (texts_of l) n) (sym c.as_slice-in-Gives.ensures.value) ∙ sym c.may_stand-in-Gives.ensures ∙ stands in
    let pushed : texts_of c.push-in-Gives.new.self.items ≡ texts_of s.seen.items ++ n ∷ [] = texts_push s.seen.items c.push-in-Gives.new.self.items c.in-Gives.name c.in_ok-push-in-Gives.ensures.items in
    ap (λ o. makes total s.plain (read os (texts_of s.seen.items) o (c.args.word.now ∷ rest))) none
    ∙ take_gives os total s.plain (texts_of s.seen.items) c.args.word.now rest n c.in-Gives.field-1.now is may
    ∙ ap (λ l. makes total s.plain (read os l None rest)) (sym pushed)
    ∙ ap (λ o. makes total s.plain (read os (texts_of c.push-in-Gives.new.self.items) o rest)) (sym none)
