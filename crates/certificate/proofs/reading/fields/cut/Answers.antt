use Rattle.std.proofs.Common.{◌+◌, add-one, Some, None, sym}
use Rattle.certificate.proofs.Cuts.{cut_at, take_rest}
use Rattle.certificate.proofs.reading.fields.cut.Goals as goal

pub returns-in_err-place : goal.returns-in_err-place
returns-in_err-place c =
    rw c.from_residual.ensures (sym (cut_at c.args.byte c.args.text.now None c.in_err-place.ensures))

pub returns : goal.returns
returns c =
    let place = c.in_ok-place.place in
    rw (take_rest (place + 1) c.args.text.now, add-one place) (sym (cut_at c.args.byte c.args.text.now (Some place) c.in_ok-place.ensures))
