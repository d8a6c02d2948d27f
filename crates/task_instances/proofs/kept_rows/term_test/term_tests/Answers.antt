use Rattle.std.proofs.Common.{[], ◌∷◌, ◌++◌, sym, ap, subst, ◌∙◌}
use Rattle.std.specs.Prelude.{All}
use Rattle.std.proofs.lemmas.List.{map-append}
use Rattle.std.proofs.lemmas.List.Elements.{All-nil, All-cons, All-append}
use Rattle.ground_terms.proofs.lemmas.terms.Giving.{one_more}
use Rattle.task_instances.specs.declared.kept_rows.term_test.TermTest.{TermTest}
use Rattle.task_instances.specs.kept_rows.Patterns.{IsTermTest, terms_in}
use Rattle.task_instances.proofs.kept_rows.term_test.term_tests.Goals as goal

pub loop-term-preserved : goal.loop-term-preserved
loop-term-preserved c =
    let is_test = IsTermTest c.args.facts.now c.args.params.now in
    let test : TermTest = c.in_ok-term_test.field-0 in
    let before = c.loop-term.tests.items in
    record {
      terms =
          ap terms_in c.in_ok-push.ensures.items
          ∙ map-append (λ (t : TermTest). t.term.now) before (test ∷ [])
          ∙ (λ i. c.loop-term.invariant.terms i ++ c.in_ok-term_test.ensures.term i ∷ [])
          ∙ sym (one_more c.args.terms.now c.loop-term.term-index c.term-item.result c.loop-term-test.true c.term-item.is);
      tests =
          subst (All is_test) (sym c.in_ok-push.ensures.items)
          (All-append is_test before (test ∷ []) c.loop-term.invariant.tests
          (All-cons is_test test [] c.in_ok-term_test.ensures.test (All-nil is_test)));
    }
