-- The ones of all words are as many as the atoms that hold.
use Rattle.std.proofs.Common.{◌+◌, ◌<◌, ◌^◌, length, sym, ap, ◌∙◌, arith, rules}
use Rattle.std.specs.Prelude.{get_or, count_ones}
use Rattle.std.specs.List.{sum_by}
use Rattle.std.proofs.lemmas.List.{take_all}
use Rattle.std.proofs.lemmas.List.Sums.{sum_by_more}
use Rattle.std.proofs.lemmas.Nat.{ones-le}
use Rattle.ground_step.specs.Atoms.{true_atoms}
use Rattle.plan_report.specs.certificates.RowsKept.{KeptRow}
use Rattle.plan_report.proofs.lemmas.certificates.Ones.{ones_of_state}
use Rattle.plan_report.proofs.certificates.kept_row.KeptRow.atom_count.Goals as goal

pub loop-word-preserved : goal.loop-word-preserved
loop-word-preserved c =
    let words = c.words-word-items.result.now in let place = c.loop-word.word-index in
    let fits : get_or words place 0 < 2 ^ 64 = omega (arith, c.type_inv.word-items place) in
    let most = ones-le 64 (get_or words place 0) fits in record {
      ones = ap (λ n. n + count_ones (get_or words place 0)) c.loop-word.invariant.ones
          ∙ sym (sum_by_more count_ones words place 0 c.loop-word-test.true);
      few = omega (arith, most, c.loop-word.invariant.few);
    }

pub returns : goal.returns
returns c =
    let words = c.words-word-items.result.now in
    c.loop-word.invariant.ones
    ∙ ap (sum_by count_ones) (take_all c.loop-word.word-index words c.loop-word-test.false)
    ∙ sym (ones_of_state words (search rules))
    ∙ ap (λ s. length (true_atoms s)) c.words-word-items.ensures
    ∙ ap (λ (r : KeptRow). length r.atoms) c.self.view_is
