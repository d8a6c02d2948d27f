use Rattle.std.proofs.Common.{◌≡◌, drop}
use Rattle.plan_request.specs.reasons.Values.{first_fault}
use Rattle.plan_request.specs.Shown.{given_by}
use Rattle.plan_request.specs.words.Shown.{texts_of}
use Rattle.plan_request.proofs.reasons.values.first_fault.Given as goal

abbrev pub invariant-loop-name : goal.invariant-loop-name
invariant-loop-name l =
    first_fault l.parsed.form.name.now (given_by l.parsed) (texts_of (drop l.name-index l.names)) ≡ first_fault l.parsed.form.name.now (given_by l.parsed) (texts_of l.names)
