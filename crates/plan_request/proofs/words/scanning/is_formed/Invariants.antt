use Rattle.std.proofs.Common.{◌≡◌, ◌≤◌, drop, length}
use Rattle.plan_request.specs.words.Scans.{is_formed, leaves}
use Rattle.plan_request.specs.words.Shown.{shown_form, texts_of}
use Rattle.plan_request.proofs.words.scanning.is_formed.Given as goal

abbrev pub invariant-loop-word : goal.invariant-loop-word
invariant-loop-word l =
    (leaves (texts_of l.form.options.now) (length (texts_of l.form.words.now)) l.scan (texts_of (drop l.word-index l.words)) ≡ is_formed (shown_form l.form) (texts_of l.words))
    × (l.scan.plain ≤ l.word-index)
