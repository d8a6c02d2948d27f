use Rattle.std.proofs.Common.{◌≡◌, map, take}
use Rattle.certificate.specs.Content.{name_at}
use Rattle.plan_report.proofs.certificates.atoms.texts_of.Given as goal

abbrev pub invariant-loop-number : goal.invariant-loop-number
invariant-loop-number l = l.texts.items ≡ map (name_at l.atoms) (take l.number-index l.numbers)
