use Rattle.std.proofs.Common.{◌≡◌, ◌++◌, length, rules}
use Rattle.certificate.proofs.Arena.{row_pushed}
use Rattle.certificate.proofs.rows.Rows.push.Goals as goal

pub returns-clause-pushed : goal.returns-clause-pushed
returns-clause-pushed c =
    let from : c.in_ok-from.from ≡ length c.self.inside.numbers.items = search rules in
    let to : c.in_ok-to.to ≡ length (c.self.inside.numbers.items ++ c.args.row.atoms.now) = search rules in
    rw (c.push_reserved.ensures.items, c.reserve.ensures.items, c.in_ok-extend_from_slice.ensures.items, ← c.self.view_is)
    (row_pushed c.self.inside.numbers.items c.args.row.atoms.now c.self.inside.heads.items
    (record { lower = c.args.row.lower; upper = c.args.row.upper; act = c.args.row.act; from = c.in_ok-from.from; to = c.in_ok-to.to })
    c.self.invariant from to)
