use Rattle.std.proofs.Common.{◌≡◌, ◌-◌, ◌*◌, ap, arith}
use Rattle.std.specs.Int.{div_ceil}
use Rattle.std.proofs.lemmas.Bool.{le-leb, leb-true}
use Rattle.bellman_backup.proofs.Quotients.{ceiling_under}
use Rattle.bellman_backup.proofs.sums.is_word_below.Goals as goal

pub returns-then-den-most : goal.returns-then-den-most
returns-then-den-most c =
    let x = c.args.sum in let n = c.from.result in let d = c.from-den.result in
    let den = c.from-den.ensures in let value = c.from.ensures in let parts = c.value.ensures in let code = c.code.ensures in
    let same : div_ceil x d ≡ div_ceil x c.args.den = ap (div_ceil x) den in
    let fits = c.ranges.code.fits in let positive = c.requires in let least = c.if-code.false in
    let under = ceiling_under x n d (omega arith) c.if-den-most.true in (
      λ on. (let below = under.0 (leb-true x (n * d - d) on) in omega arith),
      λ below. le-leb x (n * d - d) (under.1 (omega arith)),
    )
