-- The request of words, by what their parse answers.
use Rattle.std.proofs.Common.{◌≡◌, sym, ap, ◌∙◌, List, Some, None}
use Rattle.std.specs.Prelude.{option_and_then}
use Rattle.plan_request.specs.words.Words.{Text, Item}
use Rattle.plan_request.specs.words.Table.{Form}
use Rattle.plan_request.specs.words.Parses.{Answers}
use Rattle.plan_request.specs.words.Shown.{shown_form}
use Rattle.plan_request.specs.declared.words.parsing.Parsed.{Parsed}
use Rattle.plan_request.specs.Asked.{asked_by, given_in, request_of}
use Rattle.plan_request.specs.Shown.{given_by}
use Rattle.plan_request.proofs.Found.{found_asked}

pub no_request : (words : List Text) → Answers words None → request_of words ≡ None
unfolding request_of
no_request words none = ap (option_and_then (λ (p : Form × List Item). asked_by p.0.name (given_in p.0 p.1))) none

pub a_request : (words : List Text) (p : Parsed) → Answers words (Some p) → asked_by p.form.name.now (given_by p) ≡ request_of words
unfolding request_of
a_request words p (items, is, values) =
    found_asked words (shown_form p.form) items p is values
    ∙ sym (ap (option_and_then (λ (q : Form × List Item). asked_by q.0.name (given_in q.0 q.1))) is)
