use Rattle.std.proofs.Common.{sym, ◌∙◌}
use Rattle.std.proofs.lemmas.List.{length-take-le}
use Rattle.certificate.proofs.Lists.{list_found, list_fits, list_taken, list_is}
use Rattle.certificate.proofs.reading.fields.list_at.Goals as goal

pub slice_bounds-result-end : goal.slice_bounds-result-end
slice_bounds-result-end c =
    let found = list_found c.args.text.now c.in_ok-opened.opened.now c.in_ok-names.names.now c.in_ok-names.rest.now c.in_ok-opened.ensures c.in_ok-names.ensures in
    sym (length-take-le _ _ (list_fits _ _ _ found))

pub returns : goal.returns
returns c =
    let found = list_found c.args.text.now c.in_ok-opened.opened.now c.in_ok-names.names.now c.in_ok-names.rest.now c.in_ok-opened.ensures c.in_ok-names.ensures in
    let list = list_is c.args.text.now c.in_ok-opened.opened.now c.in_ok-names.names.now c.in_ok-names.rest.now c.in_ok-opened.ensures c.in_ok-names.ensures (sym c.are_names.ensures ∙ c.if-not-are_names.false) in
    rw (list_taken _ _ _ found) (sym list)
