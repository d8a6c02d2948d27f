use Rattle.std.proofs.Common.{◌≡◌, ◌*◌, arith}
use Rattle.bellman_backup.proofs.Quotients.{quotient_below}
use Rattle.bellman_backup.proofs.mean.Mean.smaller.Goals as goal

pub returns-then-from-clause-value : goal.returns-then-from-clause-value
returns-then-from-clause-value c =
    let x = c.args.sum in let d = c.args.den in let y = c.args.self.sum in let e = c.args.self.den in
    let own : c.from-2.result * c.from-3.result ≡ x * e = (λ i. c.from-2.ensures i * c.from-3.ensures i) in
    let other : c.from-4.result * c.from-5.result ≡ y * d = (λ i. c.from-4.ensures i * c.from-5.ensures i) in
    let test = c.if-from.true in
    let within = quotient_below x d y e c.requires.1 c.requires.0 (omega arith) in omega arith

pub returns-else-from-clause-value : goal.returns-else-from-clause-value
returns-else-from-clause-value c =
    let x = c.args.sum in let d = c.args.den in let y = c.args.self.sum in let e = c.args.self.den in
    let own : c.from-2.result * c.from-3.result ≡ x * e = (λ i. c.from-2.ensures i * c.from-3.ensures i) in
    let other : c.from-4.result * c.from-5.result ≡ y * d = (λ i. c.from-4.ensures i * c.from-5.ensures i) in
    let test = c.if-from.false in
    let within = quotient_below y e x d c.requires.0 c.requires.1 (omega arith) in omega arith
