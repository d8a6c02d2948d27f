-- Tests by number.
use Rattle.std.proofs.Common.{◌≡◌, ℕ, zero, suc, ◌-◌, ◌<◌, ◌≤◌, ◌++◌, take, reverse, Bool, true, false, ◌&&◌, cond, List, [], ◌∷◌, length, Some, None, refl, sym, ap, subst, ◌∙◌, arith}
use Rattle.std.specs.Prelude.{All, Option, IfSome, Vec}
use Rattle.std.specs.Borrow.{Bor}
use Rattle.std.proofs.lemmas.List.Elements.{All-weaker}
use Rattle.ppddl_model.specs.declared.tree.Atom.{Atom}
use Rattle.ppddl_model.specs.declared.tree.Param.{Param}
use Rattle.ppddl_model.specs.declared.tree.Task.{Task}
use Rattle.ppddl_model.specs.declared.tree.Term.{Term}
use Rattle.ppddl_model.specs.State.{Name}
use Rattle.ppddl_model.specs.Objects.{World, Binding, ground_atom}
use Rattle.ppddl_model.specs.Functions.{has_value}
use Rattle.ppddl_model.specs.Steps.{world}
use Rattle.type_table.specs.Numbered.{number_of}
use Rattle.type_table.specs.Types.{object_at}
use Rattle.type_table.proofs.Numbered.{number_is}
use Rattle.task_instances.specs.quantified_atoms.Needed.{params_of}
use Rattle.task_instances.specs.facts.Facts.{table_of}
use Rattle.task_instances.specs.declared.kept_rows.pattern.Pattern.{Pattern}
use Rattle.task_instances.specs.declared.kept_rows.pattern.Slot.{Slot}
use Rattle.task_instances.specs.declared.kept_rows.stages.Stage.{Stage}
use Rattle.task_instances.specs.declared.kept_rows.term_test.TermTest.{TermTest}
use Rattle.task_instances.specs.declared.kept_rows.test.Test.{Test}
use Rattle.task_instances.specs.kept_rows.Kept.{bound_to, IsRow}
use Rattle.task_instances.specs.kept_rows.Terms.{has_values}
use Rattle.task_instances.specs.kept_rows.Patterns.{fits_in, HasSlots, IsPattern, TestStands, TermStands, IsTest, IsTermTest, ArePrepared}
use Rattle.task_instances.proofs.lemmas.kept_rows.Staging.{pushed_first}

pub number_given : (may : Bool) (number : Option ℕ) (k : ℕ) → Some k ≡ cond may None number → (may ≡ false) × (number ≡ Some k)
number_given true number k is = absurd cc
number_given false number k is = (refl, sym is)

pub pattern_is : (names : List Name) (w : World) (ps : List Param) (a : Atom) (p : Pattern) → number_of names a.predicate ≡ Some p.predicate
    → HasSlots w ps a.args p.slots.items → IsPattern names w ps a p
pattern_is names w ps a p number has = λ row is.
    let at = number_is names a.predicate p.predicate number in
    record {
      fit = subst (λ n. All (fits_in n) p.slots.items) (sym is.long) has.fit;
      is_row = (at.within, has.within row is);
      is = (λ i. at.named i ∷ has.are row is i);
    }

module _ (task : Task) (ps : List Param) where
  one_value : (a : Atom) (variables : List (Bor Param)) (b : Binding) → length variables ≡ 0
      → has_values (world task) a (params_of variables) b ≡ has_value (world task) (ground_atom b a)
  one_value a [] b none = and-true (has_value (world task) (ground_atom b a))
    where
      and-true : (x : Bool) → (x && true) ≡ x
      and-true true = refl
      and-true false = refl
  one_value a (v ∷ variables) b none = absurd (omega (arith, none))

pub given_slots : {A : Type 0} (w v : World) (ps : List Param) (ts us : List Term) (o : Option (Vec Slot A)) (slots : Vec Slot A)
    → v ≡ w → us ≡ ts → o ≡ Some slots → IfSome o (λ s. HasSlots v ps us s.items) → HasSlots w ps ts slots.items
given_slots w v ps ts us o slots same are is has =
    subst (λ x. HasSlots x ps ts slots.items) same
    (subst (λ l. HasSlots v ps l slots.items) are (subst (λ x. IfSome x (λ s. HasSlots v ps us s.items)) is has))

-- ---- rows that bind the first parameters

take-nil : {X : Type 0} (n : ℕ) → take {A = X} n [] ≡ []
take-nil zero = refl
take-nil (suc n) = refl

length-take_le : {X : Type 0} (n : ℕ) (xs : List X) → n ≤ length xs → length (take n xs) ≡ n
length-take_le zero xs short = refl
length-take_le (suc n) [] short = absurd (omega arith)
length-take_le (suc n) (x ∷ xs) short = let e : length (take n xs) ≡ n = length-take_le n xs (omega arith) in omega (arith, e)

module _ (w : World) where
  bound_front : (n : ℕ) (ps : List Param) (row : List ℕ) (b : Binding) → length row ≡ n → bound_to w (take n ps) row b ≡ bound_to w ps row b
  bound_front n [] [] b long = ap (λ l. bound_to w l [] b) (take-nil n)
  bound_front n [] (o ∷ row) b long = ap (λ l. bound_to w l (o ∷ row) b) (take-nil n)
  bound_front zero (p ∷ ps) [] b long = refl
  bound_front (suc n) (p ∷ ps) [] b long = refl
  bound_front zero (p ∷ ps) (o ∷ row) b long = absurd (omega (arith, long))
  bound_front (suc n) (p ∷ ps) (o ∷ row) b long = bound_front n ps row ((p.name, object_at w o) ∷ b) (omega (arith, long))

module _ (task : Task) (ps : List Param) (row : List ℕ) (b : Binding) where
  pub tests_stand : (n : ℕ) (tests : List Test) → All (IsTest task (take n ps)) tests → length row ≡ n → n ≤ length ps
      → All (λ o. o < length (table_of task).objects) row → bound_to (table_of task) ps row [] ≡ b → All (TestStands task row b) tests
  tests_stand n tests each long short within is =
      let fits : IsRow (table_of task) (length (take n ps)) row = record { long = long ∙ sym (length-take_le n ps short); within = within } in
      let bound : bound_to (table_of task) (take n ps) row [] ≡ b = bound_front (table_of task) n ps row [] long ∙ is in
      All-weaker (IsTest task (take n ps)) (TestStands task row b)
      (λ t stands. subst (λ x. TestStands task row x t) bound (stands row fits)) tests each

  pub terms_stand : (tests : List TermTest) → All (IsTermTest task ps) tests → length row ≡ length ps
      → All (λ o. o < length (table_of task).objects) row → bound_to (table_of task) ps row [] ≡ b → All (TermStands task row b) tests
  terms_stand tests each long within is =
      All-weaker (IsTermTest task ps) (TermStands task row b)
      (λ t stands. subst (λ x. TermStands task row x t) is (stands row (record { long = long; within = within }))) tests each

-- ---- how stages are prepared

pub next_prepared : (task : Task) (ps front : List Param) (place : ℕ) (s : Stage) (stages after : List Stage) → 0 < place
    → after ≡ stages ++ s ∷ [] → front ≡ take place ps → All (IsTest task front) s.tests.items
    → ArePrepared task ps place (reverse stages) → ArePrepared task ps (place - 1) (reverse after)
next_prepared task ps front place s stages after some put are each before =
    let here : suc (place - 1) ≡ place = omega (arith, some) in
    subst (ArePrepared task ps (place - 1)) (sym (pushed_first stages after s put)) (
      subst (λ l. All (IsTest task l) s.tests.items) (are ∙ ap (λ k. take k ps) (sym here)) each,
      subst (λ k. ArePrepared task ps k (reverse stages)) (sym here) before,
    )
