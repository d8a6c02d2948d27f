-- Each mark says whether the action does the same as the one before.
use Rattle.std.proofs.Common.{◌≡◌, ℕ, ◌+◌, true, [], ◌∷◌, ◌++◌, length, sym, ap, subst, ◌∙◌, arith}
use Rattle.std.proofs.lemmas.Bool.Decides.{nat_tests}
use Rattle.std.proofs.lemmas.List.{length_push}
use Rattle.applicable_actions.specs.distinct.Enough.{RepeatsLast}
use Rattle.applicable_actions.specs.distinct.Repeats.{AreRepeats}
use Rattle.applicable_actions.proofs.lemmas.distinct.Repeats.{repeats_more, repeats_last}
use Rattle.applicable_actions.proofs.distinct.distinct_actions.repeats_of.Goals.{then-code-gt0, else-code-gt0}
use Rattle.applicable_actions.proofs.distinct.distinct_actions.repeats_of.Goals as goal

pub loop-code-preserved : goal.loop-code-preserved
loop-code-preserved c =
    let actions = c.args.actions.now in
    let marks = c.loop-code.repeats.items in
    let mark = c.if-code-gt0.push in
    let same : mark ≡ true → RepeatsLast actions c.loop-code.code
    = λ marked. elim c.if-code-gt0.branch [
      | then-code-gt0 w ↦
          repeats_last actions c.loop-code.code w.index-actions-code-then-code-gt0.result c.index-actions-code.result
          w.if-code-gt0.true (omega arith) w.index-actions-code-then-code-gt0.is c.index-actions-code.is
          (w.do_the_same.ensures (sym w.push-is ∙ marked))
      | else-code-gt0 w ↦ absurd (grind (arith, nat_tests, w.push-is, marked))
    ] in
    let pushed : c.push.new.self.items ≡ marks ++ mark ∷ [] = c.in_ok-push.ensures.items in
    record {
      long = ap length pushed ∙ length_push marks mark ∙ ap (λ (n : ℕ). n + 1) c.loop-code.invariant.long;
      marked = subst (AreRepeats actions) (sym pushed)
          (repeats_more actions marks mark c.loop-code.invariant.marked
          (λ marked. subst (RepeatsLast actions) (sym c.loop-code.invariant.long) (same marked)));
    }
