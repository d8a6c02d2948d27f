-- What is within the limits where none is exceeded.
use Rattle.std.proofs.Common.{◌≡◌, ℕ, ◌+◌, ◌*◌, ◌≤◌, Bool, true, false, List, [], ◌∷◌, length, Result, Ok, Err, refl, arith}
use Rattle.std.specs.Prelude.{All, nat_le}
use Rattle.std.proofs.lemmas.Bool.{leb-true}
use Rattle.std.proofs.lemmas.List.Elements.{All-nil, All-cons}
use Rattle.plain_list.specs.Results.{◌>>=◌}
use Rattle.ppddl_model.specs.declared.tree.Action.{Action}
use Rattle.ppddl_model.specs.declared.tree.Task.{Task}
use Rattle.ppddl_model.specs.Changing.{kept_instances}
use Rattle.ppddl_model.specs.Steps.{Instance, Charges, world, instances}
use Rattle.ground_model.specs.declared.limits.TheConstants.{MOST_ACTIONS, MOST_ATOMS, MOST_CHOICES, MOST_DENOMINATOR, MOST_STARTS}
use Rattle.ground_meaning.specs.choices.Joint.{den_of}
use Rattle.ground_meaning.specs.choices.Limits.{widest, condition_size, effect_size}
use Rattle.ground_meaning.specs.declared.refusals.limits.LimitCode.{LimitCode}
use Rattle.ground_meaning.specs.declared.refusals.limits.LimitCode.TheVariants.{Choices, Denominator, Instances, Actions, Atoms, Starts, Objects, OutcomeCost, GroundSize}
use Rattle.ground_meaning.specs.refusals.Codes.{most_of}
use Rattle.ground_meaning.specs.refusals.Atoms.{numbering_of}
use Rattle.ground_meaning.specs.refusals.Starts.{starts_den, widest_start}
use Rattle.ground_meaning.specs.refusals.Limits.{checked, within, tried, actions_within, is_cheap, size_of, instances_within, limits}

-- ---- results in a row

pub both_are : {A B E : Type 0} (r : Result A E) (f : A → Result B E) (y : B) → (r >>= f) ≡ Ok y → (x : A) × (r ≡ Ok x) × (f x ≡ Ok y)
both_are (Ok x) f y found = (x, refl, found)
both_are (Err e) f y found = absurd cc

checked_is : (holds : Bool) (code : LimitCode) (u : Unit {0}) → checked holds code ≡ Ok u → holds ≡ true
checked_is true code u found = refl
checked_is false code u found = absurd cc

within_is : (n : ℕ) (code : LimitCode) (u : Unit {0}) → within n code ≡ Ok u → n ≤ most_of code
within_is n code u found = leb-true n (most_of code) (checked_is (nat_le n (most_of code)) code u found)

module _ (task : Task) where
  abbrev pub IsSmall : Action → Type 0
  IsSmall a = den_of (world task) a.effect ≤ MOST_DENOMINATOR

  actions_are : (size : ℕ) (actions : List Action) (sum : ℕ) → actions_within task size actions ≡ Ok sum → All IsSmall actions
  actions_are size [] sum found = All-nil IsSmall
  actions_are size (a ∷ more) sum found =
      let size' : ℕ = size + tried task a * condition_size (world task) a.condition in
      let first = both_are (within (den_of (world task) a.effect) Denominator)
      (λ _. within size' GroundSize >>= λ _. actions_within task size' more) sum found in
      let second = both_are (within size' GroundSize) (λ _. actions_within task size' more) sum first.2 in
      All-cons IsSmall a more (within_is (den_of (world task) a.effect) Denominator first.0 first.1)
      (actions_are size' more sum second.2)

  module _ (charges : Charges) where
    abbrev pub IsLimited : Instance → Type 0
    IsLimited i =
        (widest (world task) (numbering_of task) i.action.effect i.binding ≤ MOST_CHOICES) × (is_cheap task charges i ≡ true)

    instances_are : (count size : ℕ) (is : List Instance) (sum : ℕ) → count ≤ MOST_ACTIONS → instances_within task charges count size is ≡ Ok sum
        → All IsLimited is × (count + length is ≤ MOST_ACTIONS)
    instances_are count size [] sum few found = (All-nil IsLimited, omega (arith, few))
    instances_are count size (i ∷ more) sum few found =
        let a = within (count + 1) Actions in
        let b = within (size + effect_size (world task) i.action.effect) GroundSize in
        let c = within (widest (world task) (numbering_of task) i.action.effect i.binding) Choices in
        let d = checked (is_cheap task charges i) OutcomeCost in
        let e = within (size + size_of task charges i) GroundSize in
        let f : Unit {0} → Result ℕ LimitCode = λ _. instances_within task charges (count + 1) (size + size_of task charges i) more in
        let one = both_are a (λ _. b >>= λ _. c >>= λ _. d >>= λ _. e >>= f) sum found in
        let two = both_are b (λ _. c >>= λ _. d >>= λ _. e >>= f) sum one.2 in
        let three = both_are c (λ _. d >>= λ _. e >>= f) sum two.2 in
        let four = both_are d (λ _. e >>= f) sum three.2 in
        let five = both_are e f sum four.2 in
        let counted : count + 1 ≤ MOST_ACTIONS = within_is (count + 1) Actions one.0 one.1 in
        let rest = instances_are (count + 1) (size + size_of task charges i) more sum counted five.2 in (
          All-cons IsLimited i more
              (within_is (widest (world task) (numbering_of task) i.action.effect i.binding) Choices three.0 three.1, checked_is (is_cheap task charges i) OutcomeCost four.0 four.1)
              rest.0,
          omega (arith, rest.1),
        )

    pub record IsWithin : Type 0 where
      pub actions : All IsSmall task.domain.actions
      pub instances : All IsLimited (kept_instances task)
      pub count : length (kept_instances task) ≤ MOST_ACTIONS
      pub atoms : length (numbering_of task).atoms ≤ MOST_ATOMS
      pub starts_den : starts_den task.problem.init ≤ MOST_DENOMINATOR
      pub starts : widest_start (numbering_of task) task.problem.init ≤ MOST_STARTS

    pub limits_are : (u : Unit {0}) → limits task charges ≡ Ok u → IsWithin
    limits_are u found =
        let a = within (length (world task).objects) Objects in
        let b = within (length (instances task)) Instances in
        let c = actions_within task 0 task.domain.actions in
        let d : ℕ → Result ℕ LimitCode = λ tested. instances_within task charges 0 tested (kept_instances task) in
        let e : ℕ → Result (Unit {0}) LimitCode = λ size. within (size + condition_size (world task) task.problem.goal) GroundSize in
        let f = within (length (numbering_of task).atoms) Atoms in
        let g = within (starts_den task.problem.init) Denominator in
        let h : Unit {0} → Result (Unit {0}) LimitCode = λ _. within (widest_start (numbering_of task) task.problem.init) Starts in
        let one = both_are a (λ _. b >>= λ _. c >>= λ tested. d tested >>= λ size. e size >>= λ _. f >>= λ _. g >>= h) u found in
        let two = both_are b (λ _. c >>= λ tested. d tested >>= λ size. e size >>= λ _. f >>= λ _. g >>= h) u one.2 in
        let three = both_are c (λ tested. d tested >>= λ size. e size >>= λ _. f >>= λ _. g >>= h) u two.2 in
        let four = both_are (d three.0) (λ size. e size >>= λ _. f >>= λ _. g >>= h) u three.2 in
        let five = both_are (e four.0) (λ _. f >>= λ _. g >>= h) u four.2 in
        let six = both_are f (λ _. g >>= h) u five.2 in
        let seven = both_are g h u six.2 in
        let counted = instances_are 0 three.0 (kept_instances task) four.0 (omega arith) four.1 in
        record {
          actions = actions_are 0 task.domain.actions three.0 three.1;
          instances = counted.0;
          count = omega (arith, counted.1);
          atoms = within_is (length (numbering_of task).atoms) Atoms six.0 six.1;
          starts_den = within_is (starts_den task.problem.init) Denominator seven.0 seven.1;
          starts = within_is (widest_start (numbering_of task) task.problem.init) Starts u seven.2;
        }
