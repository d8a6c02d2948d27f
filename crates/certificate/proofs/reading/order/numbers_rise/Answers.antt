-- The closure tests whether a number is below another.
use Rattle.std.proofs.Common.{rules}
use Rattle.std.specs.Ordering.{is_lt, nat_cmp}
use Rattle.std.proofs.lemmas.Fn.{always_returns_same}
use Rattle.certificate.proofs.Rising.{rises_answer}
use Rattle.certificate.proofs.reading.order.numbers_rise.Goals as goal

pub returns : goal.returns
returns c =
    rises_answer nat_cmp c.args.numbers.now c.is_sorted_by.result (
    c.is_sorted_by.ensures.cases (λ x y. is_lt (nat_cmp x y)) (always_returns_same _ _ _ (λ a r f called. search rules))
    )
