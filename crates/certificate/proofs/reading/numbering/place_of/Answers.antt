use Rattle.std.proofs.Common.{◌≡◌, ◌∙◌, subst, ℕ}
use Rattle.std.specs.Prelude.{IfOk}
use Rattle.certificate.specs.Numbering.{place_of}
use Rattle.certificate.proofs.Sorted.{sorted_is}
use Rattle.certificate.proofs.Searched.{searched}
use Rattle.certificate.proofs.reading.numbering.place_of.Goals as goal
use Rattle.certificate.proofs.reading.numbering.place_of.Goals.{in-Ok, in-Ok-2}

pub returns : goal.returns
returns c =
    let table = c.args.table.now in
    let text = c.args.text.now in
    let found = searched table text (sorted_is table c.requires.rises) c.requires.has c.binary_search.result c.binary_search.ensures.bound c.binary_search.ensures.position in
    let same : c.match-binary_search.place ≡ place_of table text = elim c.match-binary_search.branch [
      | in-Ok w ↦ w.place-is ∙ found w.in-Ok.place w.in-Ok.is
      | in-Ok-2 w ↦ w.place-is ∙ found w.in-Ok.place w.in-Ok.is
    ] in
    subst (λ (n : ℕ). IfOk c.place_within.result (λ place. place ≡ n)) same c.place_within.ensures
