-- The closure tests whether a text is below another.
use Rattle.std.proofs.Common.{rules}
use Rattle.std.specs.Ordering.{is_lt}
use Rattle.std.proofs.lemmas.Fn.{always_returns_same}
use Rattle.plain_list.specs.Texts.{compare_texts}
use Rattle.certificate.proofs.Rising.{rises_answer}
use Rattle.certificate.proofs.reading.order.atoms_rise.Goals as goal

pub returns : goal.returns
returns c =
    rises_answer compare_texts c.args.atoms.now c.is_sorted_by.result (
    c.is_sorted_by.ensures.cases (λ x y. is_lt (compare_texts x y)) (always_returns_same _ _ _ (λ a r f called. search rules))
    )
