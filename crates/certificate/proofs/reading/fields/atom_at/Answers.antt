use Rattle.std.proofs.Common.{◌∙◌, sym}
use Rattle.certificate.proofs.Lists.{atom_found, atom_fits, atom_taken, atom_is}
use Rattle.certificate.proofs.reading.fields.atom_at.Goals as goal

pub slice_bounds-result-end : goal.slice_bounds-result-end
slice_bounds-result-end c =
    let found = atom_found c.args.text.now c.in_ok-part.part.now c.in_ok-names.names.now c.in_ok-part.rest.now c.in_ok-part.ensures c.in_ok-names.ensures in
    atom_fits _ _ _ found

pub returns : goal.returns
returns c =
    let found = atom_found c.args.text.now c.in_ok-part.part.now c.in_ok-names.names.now c.in_ok-part.rest.now c.in_ok-part.ensures c.in_ok-names.ensures in
    let atom = atom_is c.args.text.now c.in_ok-part.part.now c.in_ok-names.names.now c.in_ok-part.rest.now c.in_ok-part.ensures c.in_ok-names.ensures (sym c.are_names.ensures ∙ c.if-not-are_names.false) in
    rw (atom_taken _ _ _ found) (sym atom)
