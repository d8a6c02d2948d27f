-- The literal goes into the test of its word, or into a new one.
use Rattle.std.proofs.Common.{◌≡◌, ℕ, ◌/◌, ◌<◌, ◌∷◌, ◌++◌, List, [], ap, subst, sym, ◌∙◌, arith, length, get_or, slice_set}
use Rattle.std.proofs.lemmas.List.{get_or_default}
use Rattle.applicable_actions.specs.Masks.{AddsLiteral, passes, with_literal}
use Rattle.std.specs.List.{list_all}
use Rattle.applicable_actions.specs.declared.word_test.WordTest.{WordTest}
use Rattle.applicable_actions.proofs.WordTests.{set_adds, push_adds}
use Rattle.applicable_actions.proofs.requirements.add_literal.Goals as goal

set_in : (tests initial : List WordTest) (k a : ℕ) (is_true : _) (seen read new : WordTest) → tests ≡ initial → k < length tests
    → seen ≡ get_or tests k seen → read ≡ get_or tests k read → seen.place ≡ a / 64 → new ≡ with_literal read a is_true
    → AddsLiteral initial a is_true (slice_set tests k new)
set_in tests initial k a is_true seen read new same within seen_is read_is here new_is =
    let one : read ≡ seen = read_is ∙ get_or_default tests k read seen within ∙ sym seen_is in
    subst (λ from. AddsLiteral from a is_true (slice_set tests k new)) same
    (subst (λ t. AddsLiteral tests a is_true (slice_set tests k t)) (sym new_is)
    (set_adds tests k a is_true read within read_is (ap (λ (t : WordTest). t.place) one ∙ here)))

pub returns-then-index-place : goal.returns-then-index-place
returns-then-index-place c =
    set_in c.loop-k.tests.items c.args.tests.now.items c.loop-k.k c.args.atom c.args.is_true c.index.result.now
    c.index-then-index-place.result.now c.with_literal.result c.loop-k.invariant (omega arith) c.index.ensures
    c.index-then-index-place.ensures c.if-index-place.true c.with_literal.ensures

pub returns : goal.returns
returns c = λ s.
    ap (λ tests. list_all (λ t. passes t s) tests)
    (c.in_ok-push.ensures.items ∙ (λ i. c.loop-k.invariant i ++ c.with_literal-2.ensures i ∷ []))
    ∙ push_adds c.args.tests.now.items c.args.atom c.args.is_true s
