-- Tests of conditions by masks of words.
--     passes t s                 word `place` of s has each bit of `required` and none of `excluded`
--     pass_all tests s           s passes each of the tests
--     with_literal t a is_true   the test with the bit of atom a required, or excluded
--     AddsLiteral old a is_true tests
--                                a state passes the tests where it passes the old ones and has the literal
--     AreRequired atoms c        each of the atoms is true in each state where c holds
--     IsMaskOf tests whole c     each state where c holds passes; where the tests are the whole
--                                condition, c holds in each state that passes
--     Literals                   tests, and atoms that are required to be true
--     Adds old new holds whole   the same of literals that are put behind others
--     AddsCondition c old new whole
--                                and of those of the condition c
--     AddsLiterals c tests atoms tests' atoms' whole
--                                the same of vectors
use Rattle.std.specs.Prelude.{◌≡◌, ℕ, ◌*◌, ◌%◌, ◌^◌, Bool, cond, not, ◌&&◌, nat_eq, List, get_or, IsTrue, Vec}
use Rattle.std.specs.Prelude.{bit_and, bit_or}
use Rattle.std.specs.List.{list_all}
use Rattle.ground_model.specs.declared.condition.GroundCondition.{GroundCondition}
use Rattle.ground_model.specs.Packed.{State, has_bit}
use Rattle.ground_model.specs.Truth.{truth}
use Rattle.applicable_actions.specs.declared.word_test.WordTest.{WordTest}

abbrev pub passes : WordTest → State → Bool
passes t s =
    nat_eq (bit_and (get_or s t.place 0) t.required) t.required
    && nat_eq (bit_and (get_or s t.place 0) t.excluded) 0

abbrev pub pass_all : List WordTest → State → Bool
pass_all tests s = list_all (λ t. passes t s) tests

abbrev pub with_bit : ℕ → ℕ → ℕ
with_bit mask a = bit_or mask (1 * 2 ^ (a % 64) % 2 ^ 64)

abbrev pub with_literal : WordTest → ℕ → Bool → WordTest
with_literal t a is_true = record {
  place = t.place;
  required = cond is_true (with_bit t.required a) t.required;
  excluded = cond is_true t.excluded (with_bit t.excluded a);
}

abbrev pub has_literal : State → ℕ → Bool → Bool
has_literal s a is_true = cond is_true (has_bit s a) (not (has_bit s a))

abbrev pub AddsLiteral : List WordTest → ℕ → Bool → List WordTest → Type 0
AddsLiteral old a is_true tests = (s : State) → pass_all tests s ≡ (pass_all old s && has_literal s a is_true)

abbrev pub are_true : List ℕ → State → Bool
are_true atoms s = list_all (has_bit s) atoms

abbrev pub AreRequired : List ℕ → GroundCondition → Type 0
AreRequired atoms c = (s : State) → IsTrue (truth (has_bit s) c) → IsTrue (are_true atoms s)

pub record IsMaskOf (tests : List WordTest) (whole : Bool) (c : GroundCondition) : Type 0 where
  pub needed : (s : State) → IsTrue (truth (has_bit s) c) → IsTrue (pass_all tests s)
  pub enough : IsTrue whole → (s : State) → IsTrue (pass_all tests s) → IsTrue (truth (has_bit s) c)

abbrev pub Literals : Type 0
Literals = List WordTest × List ℕ

pub record Adds (old new : Literals) (holds : State → Bool) (whole : Bool) : Type 0 where
  pub kept : (s : State) → IsTrue (pass_all new.0 s) → IsTrue (pass_all old.0 s)
  pub needed : (s : State) → IsTrue (pass_all old.0 s) → IsTrue (holds s) → IsTrue (pass_all new.0 s)
  pub needed_atoms : (s : State) → IsTrue (are_true old.1 s) → IsTrue (holds s) → IsTrue (are_true new.1 s)
  pub enough : IsTrue whole → (s : State) → IsTrue (pass_all new.0 s) → IsTrue (holds s)

abbrev pub AddsCondition : GroundCondition → Literals → Literals → Bool → Type 0
AddsCondition c old new whole = Adds old new (λ s. truth (has_bit s) c) whole

-- of literals that stand in vectors
abbrev pub AddsLiterals : {A B : Type 0} → GroundCondition → Vec WordTest A → Vec ℕ B → Vec WordTest A → Vec ℕ B → Bool → Type 0
AddsLiterals c tests atoms tests' atoms' whole = AddsCondition c (tests.items, atoms.items) (tests'.items, atoms'.items) whole
