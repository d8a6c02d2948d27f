use Rattle.std.proofs.Common.{◌≡◌, drop}
use Rattle.certificate.specs.Numbering.{filled}
use Rattle.cert_merge.proofs.tables.insert_all.Given as goal

abbrev pub invariant-loop-text : goal.invariant-loop-text
invariant-loop-text l = filled l.names.keys (drop l.text-index l.texts) ≡ filled l.initial.names.keys l.texts
