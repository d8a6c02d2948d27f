-- Literals that are put behind others, by the cases of the condition.
use Rattle.std.proofs.Common.{◌≡◌, ℕ, Bool, true, false, not, ◌&&◌, List, sym, ap, ◌∙◌}
use Rattle.std.proofs.lemmas.Bool.{and_parts}
use Rattle.ground_model.specs.declared.condition.GroundCondition.TheVariants as condition
use Rattle.ground_model.specs.Packed.{State, has_bit}
use Rattle.ground_model.specs.Truth.{truth}
use Rattle.ground_step.proofs.Truth.{truth-Not}
use Rattle.applicable_actions.specs.Masks.{pass_all, AddsLiteral, Literals, Adds, AddsCondition}
use Rattle.applicable_actions.specs.declared.word_test.WordTest.{WordTest}

both : (a b : Bool) → a ≡ true → b ≡ true → (a && b) ≡ true
both a b first second = ap (λ c. c && b) first ∙ second

module _ (tests new : List WordTest) (atoms : List ℕ) (a : ℕ) where
  pub adds-Not : AddsLiteral tests a false new
      → AddsCondition (condition.Not (condition.Atom a)) (tests, atoms) (new, atoms) true
  adds-Not adds =
      let same : (s : State) → truth (has_bit s) (condition.Not (condition.Atom a)) ≡ not (has_bit s a)
      = λ s. truth-Not (has_bit s) (condition.Atom a) in
      record {
        kept = λ s passes. (and_parts (pass_all tests s) (not (has_bit s a)) (sym (adds s) ∙ passes)).0;
        needed = λ s passes holds. adds s ∙ both (pass_all tests s) (not (has_bit s a)) passes (sym (same s) ∙ holds);
        needed_atoms = λ s are holds. are;
        enough = λ whole s passes.
            same s ∙ (and_parts (pass_all tests s) (not (has_bit s a)) (sym (adds s) ∙ passes)).1;
      }

pub adds-same : (old new : Literals) (p q : State → Bool) (w : Bool) → ((s : State) → p s ≡ q s) → Adds old new p w
    → Adds old new q w
adds-same old new p q w same adds = record {
  kept = adds.kept;
  needed = λ s passes holds. adds.needed s passes (same s ∙ holds);
  needed_atoms = λ s are holds. adds.needed_atoms s are (same s ∙ holds);
  enough = λ whole s passes. sym (same s) ∙ adds.enough whole s passes;
}
