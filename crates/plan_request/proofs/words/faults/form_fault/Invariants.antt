use Rattle.std.proofs.Common.{◌≡◌, ◌≤◌, drop}
use Rattle.plan_request.specs.words.Faults.{at_first, form_fault}
use Rattle.plan_request.specs.words.Shown.{shown_form, texts_of}
use Rattle.plan_request.specs.words.Standing.{shown_standing}
use Rattle.plan_request.proofs.words.faults.form_fault.Given as goal

abbrev pub invariant-loop-word : goal.invariant-loop-word
invariant-loop-word l =
    (form_fault (shown_form l.form) (shown_standing l.standing) (texts_of (drop l.word-index l.words)) ≡ form_fault (shown_form l.form) at_first (texts_of l.words))
    × (l.standing.plain ≤ l.word-index)
