use Rattle.std.proofs.Common.{◌∙◌}
use Rattle.certificate.proofs.Sorted.{sorted_is}
use Rattle.certificate.proofs.Searched.{searched}
use Rattle.cert_merge.proofs.tables.place_of.Goals as goal
use Rattle.cert_merge.proofs.tables.place_of.Goals.{in-Ok, in-Ok-2}

pub returns : goal.returns
returns c among =
    let table = c.args.table.now in
    let text = c.args.text.now in
    let found = searched table text (sorted_is table c.requires.rises) among c.binary_search.result c.binary_search.ensures.bound c.binary_search.ensures.position in
    elim c.match-binary_search.branch [
      | in-Ok w ↦ w.place-is ∙ found w.in-Ok.place w.in-Ok.is
      | in-Ok-2 w ↦ w.place-is ∙ found w.in-Ok.place w.in-Ok.is
    ]
