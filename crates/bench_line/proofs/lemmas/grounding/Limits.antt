-- A task whose parts are small is within all limits.
--     IsSmall task a          an action with one instance, a condition of size 1 and a denominator within the limit
--     IsEasy task charges i   an instance of two choices at most, none of which is dear
--     IsFew task charges      a task of at most 1,000 actions that are small, with instances that are easy
use Rattle.std.proofs.Common.{◌≡◌, ℕ, ◌+◌, ◌*◌, ◌≤◌, Bool, true, List, [], ◌∷◌, length, Result, Ok, refl, ap, ◌∙◌, arith}
use Rattle.std.specs.Prelude.{All, nat_le}
use Rattle.std.proofs.Math.Nat.{mul-le-mul}
use Rattle.std.proofs.lemmas.Bool.{le-leb}
use Rattle.std.proofs.lemmas.List.{length-map}
use Rattle.std.proofs.lemmas.List.Elements.{All-head, All-tail}
use Rattle.plain_list.specs.Results.{◌>>=◌}
use Rattle.ppddl_model.specs.declared.tree.Action.{Action}
use Rattle.ppddl_model.specs.declared.tree.Task.{Task}
use Rattle.ppddl_model.specs.Changing.{kept_instances}
use Rattle.ppddl_model.specs.Steps.{Instance, Charges, world, instances, base_cost}
use Rattle.ground_model.specs.declared.action.Choice.{Choice}
use Rattle.ground_model.specs.declared.limits.TheConstants.{MOST_ACTIONS, MOST_ATOMS, MOST_DENOMINATOR, MOST_STARTS}
use Rattle.ground_meaning.specs.choices.Joint.{den_of, choices, charged_choices, divisor, reduced, charged}
use Rattle.ground_meaning.specs.choices.Limits.{widest, condition_size, effect_size}
use Rattle.ground_meaning.specs.declared.refusals.limits.LimitCode.{LimitCode}
use Rattle.ground_meaning.specs.declared.refusals.limits.LimitCode.TheVariants.{Choices, Denominator, Instances, Actions, Atoms, Starts, Objects, OutcomeCost, GroundSize}
use Rattle.ground_meaning.specs.declared.refusals.limits.TheConstants.{MOST_GROUND_SIZE, MOST_OBJECTS}
use Rattle.ground_meaning.specs.refusals.Codes.{most_of}
use Rattle.ground_meaning.specs.refusals.Atoms.{numbering_of}
use Rattle.ground_meaning.specs.refusals.Starts.{starts_den, widest_start}
use Rattle.ground_meaning.specs.refusals.Problem.{joint_of}
use Rattle.ground_meaning.specs.refusals.Limits.{checked, within, tried, actions_within, is_cheap, size_of, instances_within, limits}

-- ---- results in a row

pub after : {A B E : Type 0} (r : Result A E) (f : A → Result B E) (x : A) (y : Result B E) → r ≡ Ok x → f x ≡ y → (r >>= f) ≡ y
after r f x y is then = ap (λ z. z >>= f) is ∙ then

checked_passes : (holds : Bool) (code : LimitCode) → holds ≡ true → checked holds code ≡ Ok tt
checked_passes holds code passes = ap (λ b. checked b code) passes

within_limit : (n : ℕ) (code : LimitCode) → n ≤ most_of code → within n code ≡ Ok tt
within_limit n code small = checked_passes (nat_le n (most_of code)) code (le-leb n (most_of code) small)

module _ (task : Task) where
  -- ---- actions

  pub record IsSmall (a : Action) : Type 0 where
    pub den : den_of (world task) a.effect ≤ MOST_DENOMINATOR
    pub size : tried task a * condition_size (world task) a.condition ≤ 1

  actions_fit : (size : ℕ) (actions : List Action) → All IsSmall actions → size + length actions ≤ MOST_GROUND_SIZE
      → (sum : ℕ) × (actions_within task size actions ≡ Ok sum) × (sum ≤ size + length actions)
  actions_fit size [] small fits = (size, refl, omega arith)
  actions_fit size (a ∷ more) small fits =
      let here : IsSmall a = All-head IsSmall a more small in
      let size' : ℕ = size + tried task a * condition_size (world task) a.condition in
      let grown : size' ≤ size + 1 = omega (arith, here.size) in
      let rest = actions_fit size' more (All-tail IsSmall a more small) (omega (arith, fits, grown)) in
      let b = within (den_of (world task) a.effect) Denominator in
      let c = within size' GroundSize in
      let d : Unit {0} → Result ℕ LimitCode = λ _. actions_within task size' more in (
        rest.0,
        after b (λ _. c >>= d) tt (Ok rest.0) (within_limit (den_of (world task) a.effect) Denominator here.den)
            (after c d tt (Ok rest.0) (within_limit size' GroundSize (omega (arith, fits, grown))) rest.1),
        omega (arith, rest.2, grown),
      )

  -- ---- instances

  module _ (charges : Charges) where
    pub record IsEasy (i : Instance) : Type 0 where
      pub size : effect_size (world task) i.action.effect ≤ 7
      pub widest : widest (world task) (numbering_of task) i.action.effect i.binding ≤ 2
      pub few : length (choices (world task) (numbering_of task) i.action.effect i.binding) ≤ 2
      pub cheap : is_cheap task charges i ≡ true

    size_fits : (i : Instance) → IsEasy i → size_of task charges i ≤ 14
    size_fits i easy =
        let cs : List Choice = choices (world task) (numbering_of task) i.action.effect i.binding in
        let dear : List Choice = charged_choices (world task) (numbering_of task) i.action.effect i.binding (base_cost task charges) in
        let by : ℕ = divisor (world task) (numbering_of task) i.action.effect i.binding in
        let few : length (joint_of task charges i).list ≤ 2
        = omega (arith, easy.few, length-map dear (reduced by), length-map cs (charged (base_cost task charges))) in
        omega (arith, mul-le-mul few easy.size)

    instances_fit : (count size : ℕ) (is : List Instance) → All IsEasy is → count + length is ≤ MOST_ACTIONS → size + 14 * length is ≤ MOST_GROUND_SIZE
        → (sum : ℕ) × (instances_within task charges count size is ≡ Ok sum) × (sum ≤ size + 14 * length is)
    instances_fit count size [] easy few fits = (size, refl, omega arith)
    instances_fit count size (i ∷ more) easy few fits =
        let here : IsEasy i = All-head IsEasy i more easy in
        let grown : size_of task charges i ≤ 14 = size_fits i here in
        let rest = instances_fit (count + 1) (size + size_of task charges i) more (All-tail IsEasy i more easy) (omega (arith, few)) (omega (arith, fits, grown)) in
        let a = within (count + 1) Actions in
        let b = within (size + effect_size (world task) i.action.effect) GroundSize in
        let c = within (widest (world task) (numbering_of task) i.action.effect i.binding) Choices in
        let d = checked (is_cheap task charges i) OutcomeCost in
        let e = within (size + size_of task charges i) GroundSize in
        let f : Unit {0} → Result ℕ LimitCode = λ _. instances_within task charges (count + 1) (size + size_of task charges i) more in (
          rest.0,
          after a (λ _. b >>= λ _. c >>= λ _. d >>= λ _. e >>= f) tt (Ok rest.0) (within_limit (count + 1) Actions (omega (arith, few)))
              (after b (λ _. c >>= λ _. d >>= λ _. e >>= f) tt (Ok rest.0)
              (within_limit (size + effect_size (world task) i.action.effect) GroundSize (omega (arith, fits, here.size)))
              (after c (λ _. d >>= λ _. e >>= f) tt (Ok rest.0)
              (within_limit (widest (world task) (numbering_of task) i.action.effect i.binding) Choices (omega (arith, here.widest)))
              (after d (λ _. e >>= f) tt (Ok rest.0) (checked_passes (is_cheap task charges i) OutcomeCost here.cheap)
              (after e f tt (Ok rest.0) (within_limit (size + size_of task charges i) GroundSize (omega (arith, fits, grown))) rest.1)))),
          omega (arith, rest.2, grown),
        )

    -- ---- the task

    pub record IsFew : Type 0 where
      pub objects : length (world task).objects ≤ MOST_OBJECTS
      pub instances : length (instances task) ≤ 1000
      pub actions : length task.domain.actions ≤ 1000
      pub small : All IsSmall task.domain.actions
      pub kept : length (kept_instances task) ≤ 1000
      pub easy : All IsEasy (kept_instances task)
      pub goal : condition_size (world task) task.problem.goal ≤ 1
      pub atoms : length (numbering_of task).atoms ≤ MOST_ATOMS
      pub starts_den : starts_den task.problem.init ≤ MOST_DENOMINATOR
      pub starts : widest_start (numbering_of task) task.problem.init ≤ MOST_STARTS

    pub few_is_within : IsFew → limits task charges ≡ Ok tt
    few_is_within few =
        let one = actions_fit 0 task.domain.actions few.small (omega (arith, few.actions)) in
        let two = instances_fit 0 one.0 (kept_instances task) few.easy (omega (arith, few.kept)) (omega (arith, one.2, few.actions, few.kept)) in
        let a = within (length (world task).objects) Objects in
        let b = within (length (instances task)) Instances in
        let c = actions_within task 0 task.domain.actions in
        let d : ℕ → Result ℕ LimitCode = λ tested. instances_within task charges 0 tested (kept_instances task) in
        let e : ℕ → Result (Unit {0}) LimitCode = λ size. within (size + condition_size (world task) task.problem.goal) GroundSize in
        let f = within (length (numbering_of task).atoms) Atoms in
        let g = within (starts_den task.problem.init) Denominator in
        let h : Unit {0} → Result (Unit {0}) LimitCode = λ _. within (widest_start (numbering_of task) task.problem.init) Starts in
        after a (λ _. b >>= λ _. c >>= λ tested. d tested >>= λ size. e size >>= λ _. f >>= λ _. g >>= h) tt (Ok tt)
        (within_limit (length (world task).objects) Objects few.objects)
        (after b (λ _. c >>= λ tested. d tested >>= λ size. e size >>= λ _. f >>= λ _. g >>= h) tt (Ok tt)
        (within_limit (length (instances task)) Instances (omega (arith, few.instances)))
        (after c (λ tested. d tested >>= λ size. e size >>= λ _. f >>= λ _. g >>= h) one.0 (Ok tt) one.1
        (after (d one.0) (λ size. e size >>= λ _. f >>= λ _. g >>= h) two.0 (Ok tt) two.1
        (after (e two.0) (λ _. f >>= λ _. g >>= h) tt (Ok tt)
        (within_limit (two.0 + condition_size (world task) task.problem.goal) GroundSize
        (omega (arith, one.2, two.2, few.actions, few.kept, few.goal)))
        (after f (λ _. g >>= h) tt (Ok tt) (within_limit (length (numbering_of task).atoms) Atoms few.atoms)
        (after g h tt (Ok tt) (within_limit (starts_den task.problem.init) Denominator few.starts_den)
        (within_limit (widest_start (numbering_of task) task.problem.init) Starts few.starts)))))))
